use Rattle.engine.proofs.LentLaws.{lent_laws}
use Rattle.engine.proofs.lines.spell_behind.Goals as goal

pub returns : goal.returns
returns c = search lent_laws
