use Rattle.engine.proofs.NameLineLaws.{put_laws}
use Rattle.engine.proofs.lines.put_line.Goals as goal

pub returns-in-Done : goal.returns-in-Done
returns-in-Done c = search put_laws

pub returns-in-Refused : goal.returns-in-Refused
returns-in-Refused c = search put_laws
