use Prim.Native.Nat.{◌≤◌}
use Rattle.rules_parser.specs.Files.{close_at, close_in}
use mathlib.Core.Path.{◌≡◌}
use lib.ListN.{drop}
use Rattle.rules_parser.proofs.files.close_at.Given as goal

abbrev pub invariant-loop-i : goal.invariant-loop-i
invariant-loop-i l = (l.n ≤ l.i) × (close_at l.s l.p ≡ close_in l.s (drop l.i l.s) l.i l.n)
