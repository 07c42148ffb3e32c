use Rattle.phoneme_builder.proofs.PhonemeLaws.{Filling}
use lib.ListN.{length}
use Rattle.phonemes.specs.InnerContracts.{pieces_from}
use Rattle.phoneme_builder.proofs.expressions.alternatives.Given as goal

abbrev pub invariant-loop-start : goal.invariant-loop-start
invariant-loop-start l = Filling l.names l.e l.alts l.from l.n

abbrev pub decreases-loop-start : goal.decreases-loop-start
decreases-loop-start l = length (pieces_from l.e l.from)
