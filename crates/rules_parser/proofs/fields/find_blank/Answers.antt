use borrow.Author.Rules.{rules}
use Rattle.base.proofs.PickLaws.{cases}
use Rattle.rules_parser.specs.Fields.{NotBlank, passes_of}
use Rattle.rules_parser.proofs.fields.find_blank.Goals as goal

pub returns : goal.returns
unfolding passes_of
returns c = c.span.ensures NotBlank (λ b r l h. search (rules, cases))
