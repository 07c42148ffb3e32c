use Rattle.engine.proofs.LinesLaws.{Going}
use Rattle.engine.specs.InnerContracts.{outcome_for}
use lib.ListN.{length}
use Prim.Native.Nat.{◌-◌}
use Rattle.engine.proofs.lines.put_lines.Given as goal

abbrev pub invariant-loop-rest : goal.invariant-loop-rest
invariant-loop-rest l = Going (outcome_for l.request l.pack) l.block l.initial.out l.out l.size l.read l.written

abbrev pub decreases-loop-rest : goal.decreases-loop-rest
decreases-loop-rest l = length l.block - l.read
