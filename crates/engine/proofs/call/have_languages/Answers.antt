use Rattle.engine.proofs.CallLaws.{start_laws}
use Rattle.engine.proofs.call.have_languages.Goals as goal

pub returns-then-kind-ne2 : goal.returns-then-kind-ne2
returns-then-kind-ne2 c = search start_laws

pub returns-else-kind-ne2 : goal.returns-else-kind-ne2
returns-else-kind-ne2 c = search start_laws
