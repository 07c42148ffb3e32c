use Rattle.rule_lists.proofs.LineLaws.{row_laws}
use Rattle.rule_lists.proofs.lines.row_of.Goals as goal

pub returns-in-Some : goal.returns-in-Some
returns-in-Some c = search row_laws
