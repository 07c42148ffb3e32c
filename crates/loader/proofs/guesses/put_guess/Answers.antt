use Rattle.loader.proofs.GuessLaws.{guess_put_lem}
use borrow.Author.Rules.{rules}
use Rattle.loader.proofs.guesses.put_guess.Goals as goal

pub returns : goal.returns
returns c = search (guess_put_lem, rules)
