use Rattle.engine.proofs.AnswerLaws.{low_laws}
use Rattle.engine.proofs.spelling.spell_fine.Goals as goal

pub spell_lowered-requires-clause-call_ready : goal.spell_lowered-requires-clause-call_ready
spell_lowered-requires-clause-call_ready c = search low_laws

pub returns : goal.returns
returns c = search low_laws
