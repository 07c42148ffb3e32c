use Rattle.rule_index.proofs.IndexLaws.{clearing_laws}
use Rattle.rule_index.proofs.rows.clear_rows.Goals as goal

pub loop-k-preserved : goal.loop-k-preserved
loop-k-preserved c = search clearing_laws
