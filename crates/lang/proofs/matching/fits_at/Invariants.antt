use Rattle.lang.proofs.Fits.{Fitting}
use lib.ListN.{length}
use Prim.Native.Nat.{◌-◌}
use Rattle.lang.proofs.matching.fits_at.Given as goal

abbrev pub invariant-loop-code : goal.invariant-loop-code
invariant-loop-code l = Fitting l.t l.end l.name l.from l.rest l.at

abbrev pub decreases-loop-code : goal.decreases-loop-code
decreases-loop-code l = length l.name - l.at
