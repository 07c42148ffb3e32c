use Rattle.engine.proofs.LineLaws.{refusal_put}
use borrow.Author.Rules.{rules}
use Rattle.engine.proofs.lines.put_refusal.Goals as goal

pub returns : goal.returns
returns c = search (refusal_put, rules)
