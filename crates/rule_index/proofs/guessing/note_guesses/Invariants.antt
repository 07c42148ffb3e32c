use Rattle.rule_index.proofs.GuessLaws.{Noting}
use Rattle.rule_index.proofs.guessing.note_guesses.Given as goal

abbrev pub invariant-loop-i : goal.invariant-loop-i
invariant-loop-i l = Noting l.pack l.guesses l.count l.initial.table l.table l.i l.at
