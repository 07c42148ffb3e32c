use Rattle.name_parts.proofs.JoinLaws.{Adding}
use lib.ListN.{length}
use Prim.Native.Nat.{◌-◌}
use Rattle.name_parts.proofs.joining.add_words.Given as goal

abbrev pub invariant-loop-w : goal.invariant-loop-w
invariant-loop-w l = Adding l.kind l.s l.initial.to l.to l.from l.at l.p l.n

abbrev pub decreases-loop-w : goal.decreases-loop-w
decreases-loop-w l = length l.s - l.p
