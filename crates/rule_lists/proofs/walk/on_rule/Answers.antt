use Rattle.rule_lists.proofs.RuledLaws.{ruled_laws}
use Rattle.rule_lists.proofs.walk.on_rule.Goals as goal

pub returns-in-Survey : goal.returns-in-Survey
returns-in-Survey c = search ruled_laws

pub returns-then-stays : goal.returns-then-stays
returns-then-stays c = search ruled_laws

pub returns-else-stays : goal.returns-else-stays
returns-else-stays c = search ruled_laws
