use Rattle.pack.proofs.SectionLaws.{found_next}
use Rattle.pack.proofs.sections.lists_section.Goals as goal

pub loop-k-preserved : goal.loop-k-preserved
loop-k-preserved c =
    found_next c.loop-k.invariant _ _ c.list_section.ensures c.loop-k-test.true _ _ _ (rw c.in_ok-end.was at c.ok_or.ensures.ok_part) c.put.ensures c.put-in-loop-k.ensures
