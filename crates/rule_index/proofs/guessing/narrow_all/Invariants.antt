use Rattle.rule_index.proofs.GuessLaws.{Narrowing}
use Rattle.rule_index.proofs.guessing.narrow_all.Given as goal

abbrev pub invariant-loop-i : goal.invariant-loop-i
invariant-loop-i l = Narrowing l.pack l.table l.name l.count l.all l.i l.left
