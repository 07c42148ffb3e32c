use Rattle.engine.proofs.EncodeLaws.{part_laws}
use Rattle.engine.proofs.encode.spell_part.Goals as goal

pub spell_word-requires : goal.spell_word-requires
spell_word-requires c = search part_laws

pub spell_word-requires-else-call : goal.spell_word-requires-else-call
spell_word-requires-else-call c = search part_laws

pub returns-then-call : goal.returns-then-call
returns-then-call c = search part_laws

pub returns-else-call : goal.returns-else-call
returns-else-call c = search part_laws
