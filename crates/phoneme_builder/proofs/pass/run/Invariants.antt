use Rattle.phoneme_builder.proofs.PassLaws.{Running}
use Rattle.phoneme_builder.specs.BufferContracts.{arena, entries_at}
use Rattle.phoneme_builder.specs.InnerContracts.{names_of, rules_of, run_of}
use lib.ListN.{length}
use Prim.Native.Nat.{◌-◌}
use Rattle.phoneme_builder.proofs.pass.run.Given as goal

abbrev pub invariant-loop-at : goal.invariant-loop-at
invariant-loop-at l = Running (arena l.initial.store l.initial.slots) l.initial.at.sets.from l.initial.at.sets.to l.by (names_of l.book.pack.now l.by) (rules_of l.book.pack.now l.book.table.now l.by) l.word
    (run_of l.book.pack.now l.book.table.now l.by l.word (entries_at (arena l.initial.store l.initial.slots) l.initial.at.sets.from l.initial.at.sets.count)) (arena l.store l.slots) l.at l.flag

abbrev pub decreases-loop-at : goal.decreases-loop-at
decreases-loop-at l = length l.word - l.at.place
