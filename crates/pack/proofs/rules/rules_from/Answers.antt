use Rattle.pack.proofs.RuleLaws.{listing_fits, listing_next}
use Rattle.pack.proofs.rules.rules_from.Goals as goal

pub note_place-requires : goal.note_place-requires
note_place-requires c = (c.loop.invariant.within, listing_fits c.loop.invariant _ c.next_rule.ensures c.loop-test.true _ _ c.in_ok-end.was)

pub loop-preserved : goal.loop-preserved
loop-preserved c = listing_next c.loop.invariant _ c.next_rule.ensures c.loop-test.true _ _ c.in_ok-end.was _ c.note_place.ensures
