use Rattle.phoneme_builder.proofs.ApplyLaws.{Offering}
use Rattle.phoneme_builder.specs.BufferContracts.{arena}
use Rattle.phoneme_builder.proofs.apply.apply_row.Given as goal

abbrev pub invariant-loop-candidate : goal.invariant-loop-candidate
invariant-loop-candidate l = Offering l.text l.langs l.expr l.alts l.limit (arena l.initial.store l.initial.slots) l.to (arena l.store l.slots) l.count l.candidate-index
