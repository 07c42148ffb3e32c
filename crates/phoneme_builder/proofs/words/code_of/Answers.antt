use Rattle.phoneme_builder.proofs.WordLaws.{code_by}
use borrow.Author.Rules.{rules}
use Rattle.phoneme_builder.proofs.words.code_of.Goals as goal

pub returns : goal.returns
returns c = search (code_by, rules)
