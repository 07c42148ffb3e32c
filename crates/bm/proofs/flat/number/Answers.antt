use Rattle.bm.proofs.FlatLaws.{flat_laws}
use Rattle.bm.proofs.flat.number.Goals as goal

pub returns-in-Done : goal.returns-in-Done
returns-in-Done c = search flat_laws

pub returns-in-Refused : goal.returns-in-Refused
returns-in-Refused c = search flat_laws
