use Rattle.std.proofs.Common.{refl}
use Rattle.name_parts.proofs.WordLaws.{word_got}
use Rattle.name_parts.proofs.words.next_word.Goals as goal

pub returns : goal.returns
returns c = word_got _ _ _ _ c.word_start-start.ensures c.word_end-end.ensures _ _ _ refl c.unwrap_or.ensures c.get.ensures.lookup
