use Rattle.writing.proofs.Laws.{writing_laws}
use Rattle.writing.proofs.copy.Goals as goal

pub loop-b-preserved : goal.loop-b-preserved
loop-b-preserved c = search writing_laws
