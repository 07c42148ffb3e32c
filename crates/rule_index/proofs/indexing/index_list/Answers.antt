use Rattle.rule_index.proofs.IndexLaws.{indexing_laws}
use Rattle.rule_index.proofs.indexing.index_list.Goals as goal

pub number_list-requires-clause-list_ready : goal.number_list-requires-clause-list_ready
number_list-requires-clause-list_ready c = search indexing_laws
