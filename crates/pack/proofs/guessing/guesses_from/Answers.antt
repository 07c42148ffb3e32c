use Rattle.pack.proofs.GuessLaws.{guessing_next}
use Rattle.pack.proofs.guessing.guesses_from.Goals as goal

pub loop-preserved : goal.loop-preserved
loop-preserved c = guessing_next c.loop.invariant _ c.next_guess.ensures c.loop-test.true _ c.in_ok-at.was
