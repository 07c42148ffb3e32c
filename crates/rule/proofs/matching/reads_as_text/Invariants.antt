use Rattle.letters.proofs.ReadingLaws.{Walk}
use mathlib.Core.Bool.{Bool}
use Rattle.rule.specs.Matching.{plain_in}
use lib.ListN.{length}
use Prim.Native.Nat.{◌-◌}
use Rattle.rule.proofs.matching.reads_as_text.Given as goal

abbrev pub invariant-loop-code : goal.invariant-loop-code
invariant-loop-code l = Walk Bool plain_in l.s l.p

abbrev pub decreases-loop-code : goal.decreases-loop-code
decreases-loop-code l = length l.s - l.p
