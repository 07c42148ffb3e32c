use Rattle.phoneme_builder.proofs.PartLaws.{grown}
use borrow.Author.Rules.{rules}
use Rattle.phoneme_builder.proofs.set.add_to.Goals as goal

pub returns : goal.returns
returns c = search (grown, rules)
