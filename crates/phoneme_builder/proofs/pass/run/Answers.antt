use Rattle.std.proofs.lemmas.Result.{err_from_is_err_and}
use Rattle.phoneme_builder.proofs.PassLaws.{running_laws}
use Rattle.phoneme_builder.proofs.pass.run.Goals as goal

pub loop-at-init : goal.loop-at-init
loop-at-init c = search running_laws

pub loop-at-smaller : goal.loop-at-smaller
loop-at-smaller c = search (running_laws, c.in_ok-turned.was)

pub loop-at-preserved : goal.loop-at-preserved
loop-at-preserved c = search (running_laws, c.in_ok-turned.was)

pub returns : goal.returns
returns c = search (running_laws, c.in_ok-sets.was)

pub returns-in_err-turned : goal.returns-in_err-turned
returns-in_err-turned c =
    let p = err_from_is_err_and c.from_residual.result c.from_residual.ensures.1 in
    rw (p.1, p.2) (search (running_laws, c.in_err-turned.was))

pub returns-in_err-sets : goal.returns-in_err-sets
returns-in_err-sets c =
    let p = err_from_is_err_and c.from_residual-in_err-sets.result c.from_residual-in_err-sets.ensures.1 in
    rw (p.1, p.2) (search (running_laws, c.in_err-sets.was))
