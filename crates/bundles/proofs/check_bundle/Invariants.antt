use Rattle.bundles.proofs.Laws.{Checking}
use Rattle.std.specs.Option.{option_copied}
use Rattle.bundles.proofs.check_bundle.Given as goal

abbrev pub invariant-loop : goal.invariant-loop
invariant-loop l = Checking l.bundle (option_copied l.before) l.at l.value l.counter
