use Rattle.std.proofs.Common.{rules}
use Rattle.rule_lists.proofs.WritingLaws.{some_low}
use Rattle.rule_lists.proofs.list_writing.put_sorted.Goals as goal

pub sort-requires-clause-low : goal.sort-requires-clause-low
sort-requires-clause-low c = search (some_low, rules)
