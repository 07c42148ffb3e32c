use Rattle.phoneme_builder.proofs.UniteLaws.{Uniting}
use Rattle.languages.specs.InnerContracts.{decoded}
use Rattle.phoneme_builder.specs.BufferContracts.{arena}
use Rattle.phoneme_builder.proofs.unite.unite.Given as goal

abbrev pub invariant-loop-i : goal.invariant-loop-i
invariant-loop-i l = Uniting (decoded l.worked) (arena l.initial.store l.initial.slots) l.sets l.n (arena l.store l.slots) l.count l.i
