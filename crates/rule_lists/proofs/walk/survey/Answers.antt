use Rattle.rule_lists.proofs.WalkLaws.{collect_laws}
use Rattle.rule_lists.proofs.walk.survey.Goals as goal

pub walk-requires-clause-ready : goal.walk-requires-clause-ready
walk-requires-clause-ready c = search collect_laws
