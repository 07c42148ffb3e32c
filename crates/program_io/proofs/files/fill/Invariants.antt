use Rattle.std.proofs.Common.{length, ◌-◌, ◌≤◌}
use Rattle.program_io.proofs.files.fill.Given as goal

abbrev pub invariant-loop-have : goal.invariant-loop-have
invariant-loop-have g l = l.have ≤ length l.buf

abbrev pub decreases-loop-have : goal.decreases-loop-have
decreases-loop-have g l = length l.initial.buf - l.have
