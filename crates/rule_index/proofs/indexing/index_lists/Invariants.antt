use Rattle.rule_index.proofs.IndexLaws.{Listing}
use Rattle.rule_index.proofs.indexing.index_lists.Given as goal

abbrev pub invariant-loop-k : goal.invariant-loop-k
invariant-loop-k l = Listing l.pack l.places l.lists l.initial.table l.table l.k l.free
