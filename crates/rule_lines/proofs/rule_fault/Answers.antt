use Rattle.rule_lines.proofs.Laws.{fault_laws}
use Rattle.rule_lines.specs.Rules.{rule_fault}
use Rattle.rule_lines.proofs.rule_fault.Goals as goal

pub returns-in-Some : goal.returns-in-Some
unfolding rule_fault
returns-in-Some c = search fault_laws

pub returns-in-Some-contexts_fault : goal.returns-in-Some-contexts_fault
unfolding rule_fault
returns-in-Some-contexts_fault c = search fault_laws

pub returns-in-None-contexts_fault : goal.returns-in-None-contexts_fault
unfolding rule_fault
returns-in-None-contexts_fault c = search fault_laws
