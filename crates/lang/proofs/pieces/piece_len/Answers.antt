use native.Mathlib.Omega.{arith}
use Rattle.lang.proofs.PieceLaws.{length_fits}
use Rattle.lang.proofs.pieces.piece_len.Goals as goal

pub overflow_add-result : goal.overflow_add-result
overflow_add-result c = omega (arith, length_fits _ _ c.first_is.ensures _ c.if-first_is.true c.box_len.ensures)
