use Rattle.phoneme_builder.proofs.AppendLaws.{Appending}
use Rattle.phoneme_builder.specs.BufferContracts.{arena}
use Rattle.phoneme_builder.proofs.append.append.Given as goal

abbrev pub invariant-loop-i : goal.invariant-loop-i
invariant-loop-i l = Appending l.c (arena l.initial.store l.initial.slots) l.sets (arena l.store l.slots) l.count l.i
