use borrow.Author.Rules.{rules}
use Rattle.base.proofs.PickLaws.{cases}
use Rattle.rules_parser.specs.Fields.{NotLf, passes_of}
use Rattle.rules_parser.proofs.files.line_end.Goals as goal

pub returns : goal.returns
unfolding passes_of
returns c = c.span.ensures NotLf (λ b r l h. search (rules, cases))
