use Rattle.engine.proofs.EncodeLaws.{word_spelt}
use borrow.Author.Rules.{rules}
use Rattle.engine.proofs.encode.spell_word.Goals as goal

pub returns : goal.returns
returns c = search (word_spelt, rules)
