use Rattle.rule_lines.proofs.Laws.{fault_laws}
use Rattle.rule_lines.specs.Rules.{contexts_fault}
use Rattle.rule_lines.proofs.contexts_fault.Goals as goal

pub returns-in-Some : goal.returns-in-Some
unfolding contexts_fault
returns-in-Some c = search fault_laws

pub returns-in-Some-context_fault : goal.returns-in-Some-context_fault
unfolding contexts_fault
returns-in-Some-context_fault c = search fault_laws

pub returns-in-None-context_fault : goal.returns-in-None-context_fault
unfolding contexts_fault
returns-in-None-context_fault c = search fault_laws
