use Rattle.pack.proofs.SectionLaws.{Found}
use Rattle.pack.proofs.sections.lists_section.Given as goal

abbrev pub invariant-loop-k : goal.invariant-loop-k
invariant-loop-k l = Found l.pack l.names l.start l.count l.initial.places l.initial.rows l.at l.k l.places l.rows
