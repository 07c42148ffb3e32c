use Rattle.loader.proofs.GuessLaws.{Writing}
use lib.ListN.{length}
use Prim.Native.Nat.{◌-◌}
use Rattle.loader.proofs.guesses.write_guesses.Given as goal

abbrev pub invariant-loop-p : goal.invariant-loop-p
invariant-loop-p l = Writing l.names l.s l.file l.initial.out l.at l.out l.place l.count l.p l.line

abbrev pub decreases-loop-p : goal.decreases-loop-p
decreases-loop-p l = length l.s - l.p
