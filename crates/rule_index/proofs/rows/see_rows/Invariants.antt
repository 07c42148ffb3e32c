use Rattle.rule_index.proofs.IndexLaws.{Seen}
use Rattle.rule_index.proofs.rows.see_rows.Given as goal

abbrev pub invariant-loop-k : goal.invariant-loop-k
invariant-loop-k l = Seen l.table l.k
