use Rattle.pack.proofs.NumberLaws.{checked_told}
use Rattle.pack.proofs.SectionLaws.{check_laws}
use Rattle.pack.proofs.sections.check_pack.Goals as goal

pub returns-in-Accepted : goal.returns-in-Accepted
returns-in-Accepted c = search (checked_told, check_laws)

pub returns-in-Refused : goal.returns-in-Refused
returns-in-Refused c = search (checked_told, check_laws)
