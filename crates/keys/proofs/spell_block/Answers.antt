use Rattle.keys.proofs.WithinLaws.{lines_within}
use Rattle.keys.proofs.spell_block.Goals as goal

pub returns : goal.returns
returns c = lines_within _ c.spell_lines.ensures c.spell_lines.auto.out
