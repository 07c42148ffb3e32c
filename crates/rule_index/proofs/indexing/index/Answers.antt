use Rattle.rule_index.proofs.IndexLaws.{survey_laws}
use Rattle.rule_index.proofs.indexing.index.Goals as goal

pub returns-in-Refused : goal.returns-in-Refused
returns-in-Refused c = search survey_laws
