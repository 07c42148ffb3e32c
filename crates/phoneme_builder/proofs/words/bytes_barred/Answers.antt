use Rattle.phoneme_builder.proofs.WordLaws.{counting_laws}
use Rattle.phoneme_builder.proofs.words.bytes_barred.Goals as goal

pub text_of-requires : goal.text_of-requires
text_of-requires c = search counting_laws

pub loop-i-preserved : goal.loop-i-preserved
loop-i-preserved c = search counting_laws

pub returns : goal.returns
returns c = search counting_laws
