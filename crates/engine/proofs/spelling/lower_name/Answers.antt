use Rattle.engine.proofs.AnswerLaws.{lowered_told}
use borrow.Author.Rules.{rules}
use Rattle.engine.proofs.spelling.lower_name.Goals as goal

pub returns : goal.returns
returns c = search (lowered_told, rules)
