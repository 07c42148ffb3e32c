use Rattle.std.proofs.lemmas.Result.{err_from_is_err_and}
use Rattle.phoneme_builder.proofs.ApplyLaws.{applying_laws}
use Rattle.phoneme_builder.proofs.apply.apply.Goals as goal

pub loop-i-init : goal.loop-i-init
loop-i-init c = search applying_laws

pub loop-i-preserved : goal.loop-i-preserved
loop-i-preserved c = search (applying_laws, c.in_ok-count.was)

pub returns-in_err-count : goal.returns-in_err-count
returns-in_err-count c =
    let p = err_from_is_err_and c.from_residual.result c.from_residual.ensures.1 in
    rw (p.1, p.2) (search (applying_laws, c.in_err-count.was))
