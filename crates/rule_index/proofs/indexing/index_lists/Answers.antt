use Rattle.rule_index.proofs.IndexLaws.{listing_laws}
use Rattle.rule_index.proofs.indexing.index_lists.Goals as goal

pub loop-k-preserved : goal.loop-k-preserved
loop-k-preserved c = search listing_laws

pub returns : goal.returns
returns c = search listing_laws
