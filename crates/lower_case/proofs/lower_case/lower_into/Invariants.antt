use Rattle.lower_case.proofs.LowerLaws.{Lowering}
use lib.ListN.{length}
use Prim.Native.Nat.{◌-◌}
use Rattle.lower_case.proofs.lower_case.lower_into.Given as goal

abbrev pub invariant-loop-code : goal.invariant-loop-code
invariant-loop-code l = Lowering l.s l.initial.out l.out l.p

abbrev pub decreases-loop-code : goal.decreases-loop-code
decreases-loop-code l = length l.s - l.p
