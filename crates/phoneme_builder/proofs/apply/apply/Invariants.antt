use lib.ListN.{length}
use Rattle.phoneme_builder.proofs.ApplyLaws.{Applying}
use Rattle.phoneme_builder.specs.BufferContracts.{alternatives, arena}
use Rattle.phoneme_builder.proofs.apply.apply.Given as goal

abbrev pub invariant-loop-i : goal.invariant-loop-i
invariant-loop-i l = Applying (alternatives l.expr l.alts (length l.alts)) l.limit (arena l.initial.store l.initial.slots) l.sets (arena l.store l.slots) l.count l.i
