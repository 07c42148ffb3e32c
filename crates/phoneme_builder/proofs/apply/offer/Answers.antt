use Rattle.phoneme_builder.proofs.ApplyLaws.{offer_laws}
use Rattle.phoneme_builder.proofs.apply.offer.Goals as goal

pub returns-then-text-more-gt-ROW : goal.returns-then-text-more-gt-ROW
returns-then-text-more-gt-ROW c = search offer_laws

pub add_to-requires : goal.add_to-requires
add_to-requires c = search offer_laws

pub returns-else-text-more-gt-ROW : goal.returns-else-text-more-gt-ROW
returns-else-text-more-gt-ROW c = search offer_laws

pub returns-in-None : goal.returns-in-None
returns-in-None c = search offer_laws
