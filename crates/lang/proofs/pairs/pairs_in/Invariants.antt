use Rattle.lang.proofs.PairLaws.{Chaining}
use lib.ListN.{length}
use Rattle.lang.proofs.pairs.pairs_in.Given as goal

abbrev pub invariant-loop-rest : goal.invariant-loop-rest
invariant-loop-rest l = Chaining l.t l.start l.end l.prev l.bits l.rest

abbrev pub decreases-loop-rest : goal.decreases-loop-rest
decreases-loop-rest l = length l.rest
