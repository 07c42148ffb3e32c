use mathlib.Core.Path.{◌≡◌}
use Rattle.rules_parser.specs.Fields.{Kind, span_end}
use Rattle.rules_parser.specs.InnerContracts.{PassesKind}
use Rattle.rules_parser.proofs.fields.span.Given as goal

abbrev pub invariant-loop-i : goal.invariant-loop-i
invariant-loop-i g l = (k : Kind) → PassesKind (goal.F-post g l.passes) k → span_end k l.s l.p ≡ span_end k l.s l.i
