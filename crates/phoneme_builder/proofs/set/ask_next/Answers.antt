use Rattle.phoneme_builder.proofs.AskLaws.{ask_laws}
use Rattle.phoneme_builder.proofs.set.ask_next.Goals as goal

pub returns-else-high-count : goal.returns-else-high-count
returns-else-high-count c = search ask_laws
