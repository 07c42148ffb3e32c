use Rattle.lower_case.proofs.LowerLaws.{lowering_laws}
use Rattle.lower_case.proofs.lower_case.lower_into.Goals as goal

pub returns-then-out-s : goal.returns-then-out-s
returns-then-out-s c = search lowering_laws

pub put_char-requires : goal.put_char-requires
put_char-requires c = (search lowering_laws, search lowering_laws)

pub bounds-s-p : goal.bounds-s-p
bounds-s-p c = search lowering_laws

pub bounds-out-p : goal.bounds-out-p
bounds-out-p c = search lowering_laws

pub returns-in-End : goal.returns-in-End
returns-in-End c = search lowering_laws
