use lib.ListN.{length}
use mathlib.Core.Path.{◌≡◌}
use Rattle.rule_lists.proofs.ListLaws.{Listing}
use Rattle.bundles.specs.InnerContracts.{files_of}
use Rattle.rule_lists.specs.Lists.{type_prefix}
use Prim.Native.Nat.{◌-◌}
use Rattle.rule_lists.proofs.lists.write_all.Given as goal

abbrev pub invariant-loop-start : goal.invariant-loop-start
invariant-loop-start l = (length l.lasts ≡ length l.initial.lasts) × (length l.rows ≡ length l.initial.rows) × (length l.out ≡ length l.initial.out)
    × Listing l.names (files_of l.bundle) (type_prefix l.kind) l.initial.out l.at l.from l.out l.place

abbrev pub decreases-loop-start : goal.decreases-loop-start
decreases-loop-start l = length l.names - l.from
