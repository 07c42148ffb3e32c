use Rattle.phoneme_builder.proofs.EnterLaws.{slot_small}
use borrow.Author.Rules.{rules}
use Rattle.phoneme_builder.proofs.set.insert_text.Goals as goal

pub packed-requires : goal.packed-requires
packed-requires c = search (slot_small, rules)
