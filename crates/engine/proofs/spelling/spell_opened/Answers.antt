use Rattle.engine.proofs.AnswerLaws.{opened_laws, opened_broken, opened_none, opened_told}
use Rattle.engine.proofs.spelling.spell_opened.Goals as goal

pub spell_fine-a-requires-clause-call_ready : goal.spell_fine-a-requires-clause-call_ready
spell_fine-a-requires-clause-call_ready c = search opened_laws

pub returns-in-Err : goal.returns-in-Err
returns-in-Err c = opened_broken c.requires _ c.in-Err.is

pub returns-then-not-have_languages : goal.returns-then-not-have_languages
returns-then-not-have_languages c = opened_none c.requires c.in-Ok.is c.have_languages.ensures _ c.if-not-have_languages.true

pub returns : goal.returns
returns c = opened_told c.requires c.in-Ok.is c.have_languages.ensures c.if-not-have_languages.false c.call_of-call.ensures c.spell_fine-a.ensures c.answer.ensures
