use borrow.Author.Rules.{rules}
use Rattle.base.proofs.PickLaws.{cases}
use Rattle.engine.proofs.CallLaws.{set_given}
use Rattle.engine.proofs.call.set_of.Goals as goal

pub returns-in-0 : goal.returns-in-0
returns-in-0 c = set_given _ _ _ _ _ c.in-Given.is (search (cases, rules))

pub returns-in-1 : goal.returns-in-1
returns-in-1 c = set_given _ _ _ _ _ c.in-Given.is (search (cases, rules))

pub returns-in_default : goal.returns-in_default
returns-in_default c = set_given _ _ _ _ _ c.in-Given.is (search (cases, rules))
