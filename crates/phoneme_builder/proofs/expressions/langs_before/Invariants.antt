use Rattle.phoneme_builder.proofs.TableLaws.{Looking}
use Rattle.phoneme_builder.proofs.expressions.langs_before.Given as goal

abbrev pub invariant-loop-y : goal.invariant-loop-y
invariant-loop-y l = Looking l.e l.alts l.n l.x l.y-index l.langs
