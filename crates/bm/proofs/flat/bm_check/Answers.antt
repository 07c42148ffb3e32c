use Rattle.bm.proofs.FlatLaws.{flat_laws}
use Rattle.bm.proofs.flat.bm_check.Goals as goal

pub returns-then-tail-lt1 : goal.returns-then-tail-lt1
returns-then-tail-lt1 c = search flat_laws

pub returns-in-Accepted : goal.returns-in-Accepted
returns-in-Accepted c = search flat_laws

pub returns-in-Refused : goal.returns-in-Refused
returns-in-Refused c = search flat_laws
