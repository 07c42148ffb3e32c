use Rattle.std.proofs.lemmas.Result.{err_from_is_err_and}
use Rattle.phoneme_builder.proofs.ApplyLaws.{offering_laws}
use Rattle.phoneme_builder.proofs.apply.apply_row.Goals as goal

pub loop-candidate-init : goal.loop-candidate-init
loop-candidate-init c = search offering_laws

pub returns-then-limit-count : goal.returns-then-limit-count
returns-then-limit-count c = search offering_laws

pub offer-requires : goal.offer-requires
offer-requires c = search offering_laws

pub returns : goal.returns
returns c = search offering_laws

pub loop-candidate-preserved : goal.loop-candidate-preserved
loop-candidate-preserved c = search (offering_laws, c.in_ok-count.was)

pub returns-in_err-count : goal.returns-in_err-count
returns-in_err-count c =
    let p = err_from_is_err_and c.from_residual.result c.from_residual.ensures.1 in
    rw (p.1, p.2) (search (offering_laws, c.in_err-count.was))
