use Rattle.engine.proofs.LineLaws.{lines_laws}
use Rattle.engine.proofs.lines.refused_line.Goals as goal

pub returns-then-n-size : goal.returns-then-n-size
returns-then-n-size c = search lines_laws

pub returns-else-n-size : goal.returns-else-n-size
returns-else-n-size c = search lines_laws
