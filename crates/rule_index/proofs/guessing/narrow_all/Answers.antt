use Rattle.rule_index.proofs.GuessLaws.{narrowing_laws}
use Rattle.rule_index.proofs.guessing.narrow_all.Goals as goal

pub loop-i-init : goal.loop-i-init
loop-i-init c = search narrowing_laws
