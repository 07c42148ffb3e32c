use Rattle.phoneme_builder.proofs.AddLaws.{add_laws}
use Rattle.phoneme_builder.proofs.set.add.Goals as goal

pub enter-requires : goal.enter-requires
enter-requires c = search add_laws
