use Rattle.engine.proofs.LinesLaws.{going_laws}
use Rattle.engine.proofs.lines.put_lines.Goals as goal

pub returns-then-rest-n : goal.returns-then-rest-n
returns-then-rest-n c = search going_laws

pub returns-in-Err : goal.returns-in-Err
returns-in-Err c = search going_laws
