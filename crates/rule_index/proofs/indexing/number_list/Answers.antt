use native.Mathlib.Omega.{arith}
use Rattle.rule_index.proofs.RowLaws.{numbering_within, numbering_turn, numbering_done}
use Rattle.rule_index.proofs.indexing.number_list.Goals as goal

pub overflow_add-at : goal.overflow_add-at
overflow_add-at c = omega (arith, numbering_within c.requires.list_ready)

pub loop-preserved : goal.loop-preserved
loop-preserved c =
    numbering_turn c.loop.invariant (omega arith) _ c.rule_at.ensures _ c.in-Some.is _ c.byte_at-byte.ensures c.marks_of-marks.ensures _ c.number_rule.ensures _ c.note_rule.ensures _ (omega arith)

pub returns : goal.returns
returns c = numbering_done c.loop.invariant (omega arith)
