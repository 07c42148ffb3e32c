use Rattle.bundles.proofs.Laws.{check_laws}
use Rattle.bundles.proofs.check_bundle.Goals as goal

pub loop-init : goal.loop-init
loop-init c = search check_laws

pub loop-preserved : goal.loop-preserved
loop-preserved c = search check_laws
