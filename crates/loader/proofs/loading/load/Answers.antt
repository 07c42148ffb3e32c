use Rattle.loader.proofs.LoadingLaws.{loading}
use Rattle.loader.proofs.loading.load.Goals as goal

pub returns-then-check_bundle : goal.returns-then-check_bundle
returns-then-check_bundle c = search loading

pub returns-else-check_bundle : goal.returns-else-check_bundle
returns-else-check_bundle c = search loading

pub returns-in-None : goal.returns-in-None
returns-in-None c = search loading
