use Rattle.phoneme_builder.proofs.WordLaws.{word_laws}
use Rattle.phoneme_builder.proofs.words.word.Goals as goal

pub give-requires : goal.give-requires
give-requires c = search word_laws

pub returns-in-Ok : goal.returns-in-Ok
returns-in-Ok c = search word_laws

pub returns-in-Err-TooLong : goal.returns-in-Err-TooLong
returns-in-Err-TooLong c = search word_laws

pub returns-in-Err-TooMany : goal.returns-in-Err-TooMany
returns-in-Err-TooMany c = search word_laws
