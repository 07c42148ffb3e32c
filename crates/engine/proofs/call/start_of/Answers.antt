use Rattle.engine.proofs.CallLaws.{start_guessed}
use Rattle.base.proofs.PickLaws.{cases}
use borrow.Author.Rules.{rules}
use Rattle.engine.proofs.call.start_of.Goals as goal

pub returns-then-call : goal.returns-then-call
returns-then-call c = search (start_guessed, cases, rules)
