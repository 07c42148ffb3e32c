use Rattle.phoneme_builder.proofs.FindLaws.{find_laws}
use Rattle.phoneme_builder.proofs.set.find.Goals as goal

pub row-requires : goal.row-requires
row-requires c = search find_laws

pub loop-low-preserved-in-Less : goal.loop-low-preserved-in-Less
loop-low-preserved-in-Less c = search find_laws

pub returns-in-Equal : goal.returns-in-Equal
returns-in-Equal c = search find_laws

pub returns : goal.returns
returns c = search find_laws
