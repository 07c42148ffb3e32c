use Rattle.letters.proofs.ReadingLaws.{Walk}
use mathlib.Core.Bool.{Bool}
use Rattle.lang.specs.Patterns.{all_box_plain}
use lib.ListN.{length}
use Prim.Native.Nat.{◌-◌}
use Rattle.lang.proofs.forms.is_listed.Given as goal

abbrev pub invariant-loop-code : goal.invariant-loop-code
invariant-loop-code l = Walk Bool all_box_plain l.l l.p

abbrev pub decreases-loop-code : goal.decreases-loop-code
decreases-loop-code l = length l.l - l.p
