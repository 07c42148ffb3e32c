use Rattle.prefixes.proofs.PrefixLaws.{longest_start}
use Rattle.prefixes.proofs.prefixes.longest_fit.Goals as goal

pub loop-p-init : goal.loop-p-init
loop-p-init c = longest_start c.args.s.now c.args.table.now
