use Rattle.name_parts.proofs.JoinLaws.{Joining}
use lib.ListN.{length}
use Prim.Native.Nat.{◌-◌}
use Rattle.name_parts.proofs.joining.join_words.Given as goal

abbrev pub invariant-loop-w : goal.invariant-loop-w
invariant-loop-w l = Joining l.kind l.s l.initial.to l.to l.p

abbrev pub decreases-loop-w : goal.decreases-loop-w
decreases-loop-w l = length l.s - l.p
