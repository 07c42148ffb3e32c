use Rattle.engine.proofs.LineLaws.{head_is}
use Rattle.engine.proofs.lines.put_head.Goals as goal

pub returns : goal.returns
returns c = head_is _ (rw c.from.ensures at c.copy.ensures)
