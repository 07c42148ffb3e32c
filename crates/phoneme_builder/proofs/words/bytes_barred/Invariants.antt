use Rattle.phoneme_builder.proofs.WordLaws.{Counted}
use Rattle.phoneme_builder.specs.InnerContracts.{texts_in}
use Rattle.phoneme_builder.proofs.words.bytes_barred.Given as goal

abbrev pub invariant-loop-i : goal.invariant-loop-i
invariant-loop-i l = Counted (texts_in l.store l.slots l.n) l.n l.i l.total
