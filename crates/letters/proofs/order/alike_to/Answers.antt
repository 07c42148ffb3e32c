use Rattle.letters.proofs.EightLaws.{eight_laws}
use Rattle.letters.proofs.order.alike_to.Goals as goal

pub loop-i-preserved : goal.loop-i-preserved
loop-i-preserved c = search eight_laws
