use Rattle.std.proofs.Common.{rules}
use Rattle.letters.proofs.ReadingLaws.{step_laws, step_end}
use Rattle.cases.proofs.output.Output.put_codes.Goals as goal

pub overflow_add-p : goal.overflow_add-p
overflow_add-p c = search (step_laws, rules)

pub loop-code-smaller : goal.loop-code-smaller
loop-code-smaller c = search (step_laws, rules)

pub loop-code-preserved : goal.loop-code-preserved
loop-code-preserved c = search (step_end, rules)
