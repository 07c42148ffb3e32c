use lib.ListN.{length}
use mathlib.Core.Path.{◌≡◌}
use Rattle.rule_lists.proofs.WritingLaws.{Putting}
use Prim.Native.Nat.{◌-◌}
use Rattle.rule_lists.proofs.list_writing.put_rows.Given as goal

abbrev pub invariant-loop-i : goal.invariant-loop-i
invariant-loop-i l = (length l.out ≡ length l.initial.out) × Putting l.bundle l.rows l.keys l.n l.i l.initial.out l.initial.place l.out l.place

abbrev pub decreases-loop-i : goal.decreases-loop-i
decreases-loop-i l = l.n - l.i
