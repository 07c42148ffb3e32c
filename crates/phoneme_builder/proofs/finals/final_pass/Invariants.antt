use Rattle.phoneme_builder.proofs.FinalLaws.{Finishing}
use Rattle.phoneme_builder.specs.BufferContracts.{arena}
use Rattle.phoneme_builder.proofs.finals.final_pass.Given as goal

abbrev pub invariant-loop-text : goal.invariant-loop-text
invariant-loop-text l = Finishing l.book.pack.now l.book.table.now l.by (arena l.initial.store l.initial.slots) l.sets l.count (arena l.store l.slots) l.texts l.text l.flag
