use Rattle.std.specs.Prelude.{Option, ℕ}
use Rattle.letters.proofs.ReadingLaws.{Walk}
use Rattle.letters.specs.Reading.{ill_in}
use lib.ListN.{length}
use Prim.Native.Nat.{◌-◌}
use Rattle.letters.proofs.utf8.first_ill.Given as goal

abbrev pub invariant-loop-len : goal.invariant-loop-len
invariant-loop-len l = Walk (Option ℕ) ill_in l.s l.p

abbrev pub decreases-loop-len : goal.decreases-loop-len
decreases-loop-len l = length l.s - l.p
