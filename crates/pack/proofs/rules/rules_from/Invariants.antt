use Rattle.pack.proofs.RuleLaws.{Listing}
use Rattle.pack.proofs.rules.rules_from.Given as goal

abbrev pub invariant-loop : goal.invariant-loop
invariant-loop l = Listing l.pack l.names l.start l.count l.initial.row l.at l.counter l.least l.row
