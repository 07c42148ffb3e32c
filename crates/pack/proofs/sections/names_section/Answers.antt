use mathlib.Core.Path.{◌∙◌}
use Prim.Native.Nat.{zero-le}
use Rattle.pack.proofs.SectionLaws.{names_much, met_already, met_now, naming_next}
use Rattle.pack.proofs.sections.names_section.Goals as goal
use Rattle.pack.proofs.sections.names_section.Goals.{then-met, else-met}

pub returns-then-count-gt32 : goal.returns-then-count-gt32
returns-then-count-gt32 c = let w = c.in_ok-count.ensures.item in names_much _ _ w.3.0 (w.4 zero-le 0) c.if-count-gt32.true

pub loop-preserved : goal.loop-preserved
loop-preserved c =
    naming_next c.loop.invariant _ c.string_at.ensures _ c.in_ok-start.was _ c.follows_name.ensures c.loop-test.true _ c.if-not-follows_name.false (
    elim c.if-met.branch [
      | then-met w ↦ w.met-is ∙ met_already _ _ w.if-met.true
      | else-met w ↦ w.met-is ∙ met_now _ _ _ w.if-met.false w.same-met.ensures
    ]
    )
