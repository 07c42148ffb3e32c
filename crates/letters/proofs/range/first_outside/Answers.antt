use Rattle.letters.proofs.ReadingLaws.{outside_laws}
use Rattle.letters.proofs.range.first_outside.Goals as goal

pub returns-else-in_range : goal.returns-else-in_range
returns-else-in_range c = search outside_laws

pub returns-in-Ill : goal.returns-in-Ill
returns-in-Ill c = search outside_laws

pub returns-in-End : goal.returns-in-End
returns-in-End c = search outside_laws
