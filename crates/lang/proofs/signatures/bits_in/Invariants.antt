use Rattle.lang.proofs.Shortcuts.{Requiring}
use lib.ListN.{length}
use Rattle.lang.proofs.signatures.bits_in.Given as goal

abbrev pub invariant-loop-rest : goal.invariant-loop-rest
invariant-loop-rest l = Requiring l.t l.rest l.bits

abbrev pub decreases-loop-rest : goal.decreases-loop-rest
decreases-loop-rest l = length l.rest
