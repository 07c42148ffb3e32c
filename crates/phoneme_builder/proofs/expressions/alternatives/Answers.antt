use Rattle.phoneme_builder.proofs.PhonemeLaws.{filling_laws}
use Rattle.phoneme_builder.proofs.expressions.alternatives.Goals as goal

pub loop-start-init : goal.loop-start-init
loop-start-init c = search filling_laws

pub packed-requires : goal.packed-requires
packed-requires c = search filling_laws

pub keep-n-requires : goal.keep-n-requires
keep-n-requires c = search filling_laws

pub loop-start-preserved : goal.loop-start-preserved
loop-start-preserved c = search filling_laws
