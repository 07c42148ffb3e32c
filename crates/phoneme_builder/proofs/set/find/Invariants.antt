use Rattle.phoneme_builder.proofs.FindLaws.{Seek}
use Rattle.phoneme_builder.specs.BufferContracts.{asks_left}
use Rattle.phoneme_builder.proofs.set.find.Given as goal

abbrev pub invariant-loop-low : goal.invariant-loop-low
invariant-loop-low l = Seek l.store l.slots l.count l.t l.low l.high

abbrev pub decreases-loop-low : goal.decreases-loop-low
decreases-loop-low l = asks_left l.low l.high l.count
