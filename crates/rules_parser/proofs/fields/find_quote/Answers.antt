use borrow.Author.Rules.{rules}
use Rattle.base.proofs.PickLaws.{cases}
use Rattle.rules_parser.specs.Fields.{NotQuote, passes_of}
use Rattle.rules_parser.proofs.fields.find_quote.Goals as goal

pub returns : goal.returns
unfolding passes_of
returns c = c.span.ensures NotQuote (λ b r l h. search (rules, cases))
