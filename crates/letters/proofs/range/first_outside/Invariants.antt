use Rattle.std.specs.Prelude.{Option, ℕ}
use Rattle.letters.proofs.ReadingLaws.{Walk}
use Rattle.letters.specs.Reading.{outside_in}
use lib.ListN.{length}
use Prim.Native.Nat.{◌-◌}
use Rattle.letters.proofs.range.first_outside.Given as goal

abbrev pub invariant-loop-code : goal.invariant-loop-code
invariant-loop-code l = Walk (Option ℕ) outside_in l.s l.p

abbrev pub decreases-loop-code : goal.decreases-loop-code
decreases-loop-code l = length l.s - l.p
