-- What was read and written of a block, by the answer for its lines.
use Rattle.std.proofs.Common.{◌≡◌, ℕ, List, length, arith}
use Rattle.engine.specs.Calls.{CallOutcome}
use Rattle.engine.specs.Lines.{LinesIs}
use Rattle.engine.specs.declared.lines.Lines.{Lines}
use Rattle.engine.specs.declared.lines.Lines.TheVariants.{Done, NoRoom}
use Rattle.engine.proofs.LinesLaws.{lines_read, lines_written}
use Rattle.keys.specs.InnerContracts.{Within}

pub lines_within : {call : List ℕ → CallOutcome} {block out o : List ℕ} (r : Lines) → LinesIs call block out r o → length o ≡ length out → Within r (length block) (length o)
lines_within (Done read written) x e = (lines_read x, omega (arith, lines_written x))
lines_within (NoRoom needed) x e = tt
