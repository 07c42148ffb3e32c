use Rattle.std.proofs.Common.{rules}
use Rattle.loader.proofs.Accepted.{load_within}
use Rattle.load_pack.proofs.answer.Goals as goal

pub slice_bounds-pack-end : goal.slice_bounds-pack-end
slice_bounds-pack-end c = search (load_within, rules)

pub slice_bounds-pack-end-in-Done : goal.slice_bounds-pack-end-in-Done
slice_bounds-pack-end-in-Done c = search (load_within, rules)
