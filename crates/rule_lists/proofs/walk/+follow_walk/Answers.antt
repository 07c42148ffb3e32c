use Rattle.std.proofs.lemmas.Result.{err_from_is_err_and}
use Rattle.rule_lists.proofs.FollowLaws.{follow_laws}
use Rattle.rule_lists.proofs.GoingLaws.{going_laws}
use Rattle.rule_lists.proofs.walk.+follow_walk.Goals as goal

pub follow-walk-requires : goal.follow-walk-requires
follow-walk-requires t c = (search follow_laws, (search follow_laws, search follow_laws))

pub walk-loop-p-init : goal.walk-loop-p-init
walk-loop-p-init t c = search going_laws

pub walk-overflow_add-line : goal.walk-overflow_add-line
walk-overflow_add-line t c = search going_laws

pub walk-loop-p-smaller-in-Ok-Passed : goal.walk-loop-p-smaller-in-Ok-Passed
walk-loop-p-smaller-in-Ok-Passed t c = search going_laws

pub walk-loop-p-preserved-in-Ok-Passed : goal.walk-loop-p-preserved-in-Ok-Passed
walk-loop-p-preserved-in-Ok-Passed t c = search going_laws

pub walk-loop-p-smaller-in-Ok-Rule : goal.walk-loop-p-smaller-in-Ok-Rule
walk-loop-p-smaller-in-Ok-Rule t c = search going_laws

pub walk-loop-p-preserved-in-Ok-Rule : goal.walk-loop-p-preserved-in-Ok-Rule
walk-loop-p-preserved-in-Ok-Rule t c = search going_laws

pub walk-loop-p-smaller : goal.walk-loop-p-smaller
walk-loop-p-smaller t c = search (going_laws, c.in_ok-st-in-Ok-Include.was)

pub walk-loop-p-preserved : goal.walk-loop-p-preserved
walk-loop-p-preserved t c = search (going_laws, c.in_ok-st-in-Ok-Include.was)

pub walk-returns-in_err-st-in-Ok-Include : goal.walk-returns-in_err-st-in-Ok-Include
walk-returns-in_err-st-in-Ok-Include t c =
    let p = err_from_is_err_and c.from_residual.result c.from_residual.ensures.1 in
    rw (p.1, p.2) (search (going_laws, c.in_err-st-in-Ok-Include.was))

pub walk-returns-in-Err : goal.walk-returns-in-Err
walk-returns-in-Err t c = search going_laws

pub walk-returns : goal.walk-returns
walk-returns t c = search going_laws
