use Rattle.lang.proofs.PairLaws.{Pairing}
use lib.ListN.{length}
use Prim.Native.Nat.{◌-◌}
use Rattle.lang.proofs.pairs.find_pairs.Given as goal

abbrev pub invariant-loop-code : goal.invariant-loop-code
invariant-loop-code l = Pairing l.name l.prev l.bits l.at

abbrev pub decreases-loop-code : goal.decreases-loop-code
decreases-loop-code l = length l.name - l.at
