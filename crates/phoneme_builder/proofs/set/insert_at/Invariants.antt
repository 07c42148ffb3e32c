use Rattle.base.proofs.Opening.{Shift}
use Rattle.phoneme_builder.proofs.set.insert_at.Given as goal

abbrev pub invariant-loop-i : goal.invariant-loop-i
invariant-loop-i l = Shift l.initial.slots l.p l.n l.v l.slots l.x l.i
