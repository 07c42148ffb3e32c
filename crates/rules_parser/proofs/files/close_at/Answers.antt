use native.Mathlib.Omega.{arith}
use Rattle.rules_parser.proofs.FileLaws.{closes}
use Rattle.rules_parser.proofs.files.close_at.Goals as goal
use Rattle.rules_parser.proofs.files.close_at.Goals.{then-s-i-eq10, else-s-i-eq10}

pub loop-i-preserved : goal.loop-i-preserved
loop-i-preserved c = elim c.if-s-i-eq10.branch [
  | then-s-i-eq10 w ↦ (omega arith, search closes)
  | else-s-i-eq10 w ↦ (omega arith, search (closes, w.if-s-i-eq10.false))
]
