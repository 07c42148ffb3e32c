use Rattle.pack.proofs.GuessLaws.{Guessing}
use Rattle.pack.proofs.guessing.guesses_from.Given as goal

abbrev pub invariant-loop : goal.invariant-loop
invariant-loop l = Guessing l.pack l.languages l.start l.count l.at l.counter
