use Rattle.std.proofs.lemmas.Result.{err_from_is_err_and}
use Rattle.rule_lists.proofs.WalkLaws.{staying_laws}
use Rattle.rule_lists.proofs.walk.collect_surveyed.Goals as goal

pub returns-then-followed-eq0 : goal.returns-then-followed-eq0
returns-then-followed-eq0 c = search staying_laws

pub returns-then-noted-gt-MOST_RULES : goal.returns-then-noted-gt-MOST_RULES
returns-then-noted-gt-MOST_RULES c = search staying_laws

pub walk-requires-clause-ready : goal.walk-requires-clause-ready
walk-requires-clause-ready c = search staying_laws

pub returns-in_err-state : goal.returns-in_err-state
returns-in_err-state c =
    let p = err_from_is_err_and c.from_residual.result c.from_residual.ensures.1 in
    rw (p.1, p.2) (search (staying_laws, c.in_err-state.was))

pub returns : goal.returns
returns c = search (staying_laws, c.in_ok-state.was)
