use Rattle.phoneme_builder.proofs.WordLaws.{joining_laws}
use Rattle.phoneme_builder.proofs.words.put_joined.Goals as goal

pub text_of-t-requires : goal.text_of-t-requires
text_of-t-requires c = search joining_laws

pub put-requires : goal.put-requires
put-requires c = search joining_laws

pub loop-i-init : goal.loop-i-init
loop-i-init c = search joining_laws

pub text_of-requires : goal.text_of-requires
text_of-requires c = search joining_laws

pub put_barred-p-requires : goal.put_barred-p-requires
put_barred-p-requires c = search joining_laws

pub loop-i-preserved : goal.loop-i-preserved
loop-i-preserved c = search joining_laws
