use Rattle.loader.proofs.LoadingLaws.{guessed_laws}
use Rattle.loader.proofs.loading.load_guesses.Goals as goal

pub slice_bounds-write_guesses-end : goal.slice_bounds-write_guesses-end
slice_bounds-write_guesses-end c = search guessed_laws
