use Rattle.engine.proofs.AnswerLaws.{at_opened, at_wrong}
use Rattle.engine.proofs.spelling.spell_at.Goals as goal

pub returns-in-Ok : goal.returns-in-Ok
returns-in-Ok c = at_opened c.args.request _ _ c.refusal_of.ensures _ _ _ _ c.in-Ok.is c.spell_opened.ensures

pub returns-in-Err : goal.returns-in-Err
returns-in-Err c = at_wrong c.args.request _ _ c.refusal_of.ensures _ _ _ _ c.in-Err.is
