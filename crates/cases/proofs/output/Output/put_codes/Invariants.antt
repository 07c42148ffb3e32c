use Rattle.std.proofs.Common.{length, ◌-◌, ◌≤◌}
use Rattle.cases.proofs.output.Output.put_codes.Given as goal

abbrev pub invariant-loop-code : goal.invariant-loop-code
invariant-loop-code l = l.p ≤ length l.s

abbrev pub decreases-loop-code : goal.decreases-loop-code
decreases-loop-code l = length l.s - l.p
