use Rattle.rule_lists.proofs.FileLaws.{file_laws}
use Rattle.rule_lists.proofs.lists.write_list.Goals as goal

pub collect-requires : goal.collect-requires
collect-requires c = search file_laws
