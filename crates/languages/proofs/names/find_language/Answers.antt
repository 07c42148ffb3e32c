use Rattle.languages.proofs.NameLaws.{find_laws, seen_next}
use Rattle.languages.proofs.names.find_language.Goals as goal

pub loop-place-init : goal.loop-place-init
loop-place-init c = search find_laws

pub loop-place-preserved : goal.loop-place-preserved
loop-place-preserved c = seen_next _ _ _ _ c.string_at.ensures c.in_ok-start.was _ _ c.loop-place.invariant _ c.same.ensures c.if-same.false
