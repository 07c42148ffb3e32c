use Rattle.rule_lists.proofs.WritingLaws.{writing_laws}
use Rattle.rule_lists.proofs.list_writing.put_row.Goals as goal

pub returns : goal.returns
returns c = search writing_laws
