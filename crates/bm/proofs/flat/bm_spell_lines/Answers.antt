use Rattle.bm.proofs.FlatLaws.{flat_laws}
use Rattle.bm.proofs.flat.bm_spell_lines.Goals as goal

pub returns-then-tail-lt2 : goal.returns-then-tail-lt2
returns-then-tail-lt2 c = search flat_laws

pub returns-in-Done : goal.returns-in-Done
returns-in-Done c = search flat_laws

pub returns-in-NoRoom : goal.returns-in-NoRoom
returns-in-NoRoom c = search flat_laws
