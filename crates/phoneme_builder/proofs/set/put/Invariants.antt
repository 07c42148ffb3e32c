use Rattle.phoneme_builder.proofs.PutLaws.{Put}
use Rattle.phoneme_builder.proofs.set.put.Given as goal

abbrev pub invariant-loop-j : goal.invariant-loop-j
invariant-loop-j l = Put l.initial.d l.at l.t l.d l.j
