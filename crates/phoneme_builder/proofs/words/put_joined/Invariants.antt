use Rattle.phoneme_builder.proofs.WordLaws.{Joining}
use Rattle.phoneme_builder.specs.InnerContracts.{texts_in}
use Rattle.phoneme_builder.proofs.words.put_joined.Given as goal

abbrev pub invariant-loop-i : goal.invariant-loop-i
invariant-loop-i l = Joining (texts_in l.store l.slots l.n) l.n l.initial.out l.initial.p l.out l.p l.i
