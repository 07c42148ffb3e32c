use Rattle.lang.proofs.Fits.{Trying}
use lib.ListN.{length}
use Prim.Native.Nat.{◌-◌}
use Rattle.lang.proofs.matching.fits_anywhere.Given as goal

abbrev pub invariant-loop-end : goal.invariant-loop-end
invariant-loop-end l = Trying l.t l.end l.name l.at

abbrev pub decreases-loop-end : goal.decreases-loop-end
decreases-loop-end l = length l.name - l.at
