use Rattle.std.proofs.Common.{length, ◌+◌, ◌-◌, ◌*◌}
use Rattle.engine.specs.InnerContracts.{spelt_afresh}
use Rattle.engine.proofs.IntoLaws.{WordsHeld}
use Rattle.engine.proofs.encode.+spell_bracketed_spell_name_spell_words.Given as goal

-- what is spelled afresh is shorter than the name that it came from, and words are spelled as names
abbrev pub decreases-spell_bracketed : goal.decreases-spell_bracketed
decreases-spell_bracketed l = length l.name.now * 2 + 2

abbrev pub decreases-spell_name : goal.decreases-spell_name
decreases-spell_name l = length l.name.now * 2 + 1

abbrev pub decreases-spell_words : goal.decreases-spell_words
decreases-spell_words l = length l.name.now * 2

abbrev pub invariant-spell_words-loop-w : goal.invariant-spell_words-loop-w
invariant-spell_words-loop-w l = WordsHeld (spelt_afresh l.pack l.call) l.name l.initial.out l.out l.at l.p l.all

abbrev pub decreases-spell_words-loop-w : goal.decreases-spell_words-loop-w
decreases-spell_words-loop-w l = length l.name - l.p
