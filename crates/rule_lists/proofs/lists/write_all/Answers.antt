use Rattle.std.proofs.lemmas.Result.{err_from_is_err_and}
use Rattle.rule_lists.proofs.ListLaws.{cut_else, listing_done, listing_stop}
use Rattle.rule_lists.proofs.lists.write_all.Goals as goal

pub returns-in_err-place : goal.returns-in_err-place
returns-in_err-place c =
    let p = err_from_is_err_and c.from_residual.result c.from_residual.ensures.1 in
    rw (p.1, p.2) (listing_stop _ _ c.loop-start.invariant.3 _ c.string_at.ensures _ c.in-Some.is _ _ c.write_three.ensures _ c.in_err-place.was)

pub returns : goal.returns
returns c = listing_done _ _ c.loop-start.invariant.3 _ c.string_at.ensures (cut_else _ c.in_default.not-Some) _ _ c.write_common.ensures
