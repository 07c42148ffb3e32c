use Rattle.engine.proofs.AnswerLaws.{lowered_laws}
use Rattle.engine.proofs.spelling.spell_lowered.Goals as goal

pub returns-then-is_single : goal.returns-then-is_single
returns-then-is_single c = search lowered_laws

pub returns-then-copy_out : goal.returns-then-copy_out
returns-then-copy_out c = search lowered_laws

pub returns-else-copy_out : goal.returns-else-copy_out
returns-else-copy_out c = search lowered_laws
