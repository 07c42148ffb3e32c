use Rattle.pack.proofs.SectionLaws.{Naming}
use Rattle.pack.proofs.sections.names_section.Given as goal

abbrev pub invariant-loop : goal.invariant-loop
invariant-loop l = Naming l.pack l.count l.before l.at l.counter l.met
