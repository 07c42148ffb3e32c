use Rattle.loader.proofs.LoadingLaws.{names_loaded}
use Rattle.loader.proofs.loading.load_names.Goals as goal

pub slice_bounds-read_names-end : goal.slice_bounds-read_names-end
slice_bounds-read_names-end c = search names_loaded
