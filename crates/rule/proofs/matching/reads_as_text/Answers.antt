use Rattle.rule.proofs.MatchLaws.{plain_laws}
use Rattle.rule.proofs.matching.reads_as_text.Goals as goal

pub returns-then-not-may_hold : goal.returns-then-not-may_hold
returns-then-not-may_hold c = search plain_laws

pub returns : goal.returns
returns c = search plain_laws
