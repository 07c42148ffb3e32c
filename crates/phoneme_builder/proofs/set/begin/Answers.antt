use Rattle.std.proofs.Common.{rules}
use Rattle.phoneme_builder.proofs.PartLaws.{none_at, begun}
use Rattle.phoneme_builder.proofs.set.begin.Goals as goal

pub add_to-requires : goal.add_to-requires
add_to-requires c = search (none_at, rules)

pub returns : goal.returns
returns c = search (begun, rules)
