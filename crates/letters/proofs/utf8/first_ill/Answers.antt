use Rattle.letters.proofs.ReadingLaws.{ill_laws}
use Rattle.letters.proofs.utf8.first_ill.Goals as goal

pub returns-in-Ill : goal.returns-in-Ill
returns-in-Ill c = search ill_laws

pub returns-in-End : goal.returns-in-End
returns-in-End c = search ill_laws
