use Rattle.loader.proofs.GuessLaws.{writes}
use Rattle.loader.proofs.guesses.write_guesses.Goals as goal

pub loop-p-init : goal.loop-p-init
loop-p-init c = search writes

pub overflow_add-line : goal.overflow_add-line
overflow_add-line c = search writes

pub loop-p-smaller-in-Passed : goal.loop-p-smaller-in-Passed
loop-p-smaller-in-Passed c = search writes

pub loop-p-preserved-in-Passed : goal.loop-p-preserved-in-Passed
loop-p-preserved-in-Passed c = search writes

pub loop-p-smaller : goal.loop-p-smaller
loop-p-smaller c = search writes

pub loop-p-preserved : goal.loop-p-preserved
loop-p-preserved c = search writes

pub returns-in-Err : goal.returns-in-Err
returns-in-Err c = search writes

pub returns-in_default : goal.returns-in_default
returns-in_default c = search writes

pub returns-in-Wrong : goal.returns-in-Wrong
returns-in-Wrong c = search writes

pub returns : goal.returns
returns c = search writes
