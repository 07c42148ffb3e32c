use Rattle.rule_index.proofs.IndexLaws.{left_laws}
use Rattle.rule_index.proofs.indexing.index_accepted.Goals as goal

pub overflow_mul-lists : goal.overflow_mul-lists
overflow_mul-lists c = search left_laws

pub overflow_add-lists : goal.overflow_add-lists
overflow_add-lists c = search left_laws

pub note_guesses-requires : goal.note_guesses-requires
note_guesses-requires c = search left_laws

pub returns : goal.returns
returns c = search left_laws

pub index_lists-requires-clause-lists_ready : goal.index_lists-requires-clause-lists_ready
index_lists-requires-clause-lists_ready c = search left_laws
