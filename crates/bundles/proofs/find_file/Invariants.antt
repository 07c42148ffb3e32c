use Rattle.bundles.proofs.Laws.{Seeking}
use Rattle.bundles.proofs.find_file.Given as goal

abbrev pub invariant-loop-number : goal.invariant-loop-number
invariant-loop-number l = Seeking l.bundle l.wanted l.at l.value l.number
