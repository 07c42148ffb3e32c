use Rattle.std.proofs.lemmas.Result.{err_from_is_err_and}
use Rattle.phoneme_builder.proofs.FinalLaws.{finishing_laws}
use Rattle.phoneme_builder.proofs.finals.final_pass.Goals as goal

pub loop-text-init : goal.loop-text-init
loop-text-init c = search finishing_laws

pub loop-text-preserved : goal.loop-text-preserved
loop-text-preserved c = search (finishing_laws, c.in_ok-one.was)

pub returns-in_err-one : goal.returns-in_err-one
returns-in_err-one c =
    let p = err_from_is_err_and c.from_residual.result c.from_residual.ensures.1 in
    rw (p.1, p.2) (search (finishing_laws, c.in_err-one.was))
