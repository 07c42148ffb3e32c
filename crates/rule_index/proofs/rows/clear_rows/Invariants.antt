use Rattle.rule_index.proofs.IndexLaws.{Clearing}
use Rattle.rule_index.proofs.rows.clear_rows.Given as goal

abbrev pub invariant-loop-k : goal.invariant-loop-k
invariant-loop-k l = Clearing l.from l.initial.table l.table l.k
