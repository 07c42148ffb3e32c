-- What was read and written of a block stands in it and in a buffer of so many bytes.
use Rattle.std.specs.Prelude.{ℕ, ◌≤◌}
use Rattle.engine.specs.declared.lines.Lines.{Lines}
use Rattle.engine.specs.declared.lines.Lines.TheVariants.{Done, NoRoom}

abbrev pub Within : Lines → ℕ → ℕ → Type 0
Within (Done read written) block size = (read ≤ block) × (written ≤ size)
Within (NoRoom needed) block size = Unit {0}
