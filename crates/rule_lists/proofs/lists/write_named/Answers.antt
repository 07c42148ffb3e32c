use Rattle.rule_lists.proofs.ListLaws.{name_laws}
use Rattle.rule_lists.proofs.lists.write_named.Goals as goal

pub slice_bounds-write_list-end : goal.slice_bounds-write_list-end
slice_bounds-write_list-end c = search name_laws

pub returns : goal.returns
returns c = search name_laws
