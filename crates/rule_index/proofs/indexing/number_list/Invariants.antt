use Prim.Native.Nat.{◌-◌}
use Rattle.rule_index.proofs.RowLaws.{Numbering}
use Rattle.rule_index.proofs.indexing.number_list.Given as goal

abbrev pub invariant-loop : goal.invariant-loop
invariant-loop l = Numbering l.pack l.initial.table l.list l.place l.first l.table l.at (l.count - l.counter) l.number
