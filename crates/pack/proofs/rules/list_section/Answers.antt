use Rattle.pack.proofs.RuleLaws.{list_many}
use Rattle.pack.proofs.rules.list_section.Goals as goal

pub returns-then-count-le4096 : goal.returns-then-count-le4096
returns-then-count-le4096 c = list_many _ _ _ _ _ c.count_at.ensures _ c.in_ok-count.was _ _ c.if-count-le4096.true c.rules_from.ensures
