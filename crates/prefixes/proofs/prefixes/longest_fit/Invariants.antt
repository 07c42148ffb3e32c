use Rattle.prefixes.proofs.PrefixLaws.{Longest}
use Rattle.prefixes.proofs.prefixes.longest_fit.Given as goal

abbrev pub invariant-loop-p : goal.invariant-loop-p
invariant-loop-p l = Longest l.s l.table l.p-index l.best
