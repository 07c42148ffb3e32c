use Rattle.phoneme_builder.proofs.UniteLaws.{united_to}
use borrow.Author.Rules.{rules}
use Rattle.phoneme_builder.proofs.unite.unite_to.Goals as goal

pub returns : goal.returns
returns c = search (united_to, rules)
