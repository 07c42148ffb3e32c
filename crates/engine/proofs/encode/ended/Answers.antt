use native.Mathlib.Omega.{arith}
use Rattle.engine.proofs.EncodeLaws.{ended_done}
use Rattle.engine.proofs.encode.ended.Goals as goal

pub returns-in-Done : goal.returns-in-Done
returns-in-Done c = ended_done _ _ _ _ _ c.in-Done.is (omega (arith, c.min.ensures, c.saturating_add.ensures))
