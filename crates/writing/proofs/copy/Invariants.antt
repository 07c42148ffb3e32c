use Rattle.writing.specs.InnerContracts.{Put}
use lib.ListN.{take}
use Rattle.writing.proofs.copy.Given as goal

abbrev pub invariant-loop-b : goal.invariant-loop-b
invariant-loop-b l = Put l.initial.out l.out l.at l.p (take l.b-index l.s)
