use Rattle.bm.proofs.FlatLaws.{flat_laws}
use Rattle.bm.proofs.flat.bm_spell.Goals as goal

pub returns-then-tail-lt2 : goal.returns-then-tail-lt2
returns-then-tail-lt2 c = search flat_laws

pub returns : goal.returns
returns c = search flat_laws
