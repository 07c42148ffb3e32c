use Rattle.std.proofs.lemmas.Result.{err_from_is_err_and}
use Rattle.phoneme_builder.proofs.UniteLaws.{uniting_laws}
use Rattle.phoneme_builder.proofs.unite.unite.Goals as goal

pub loop-i-init : goal.loop-i-init
loop-i-init c = search uniting_laws

pub unite_text-requires : goal.unite_text-requires
unite_text-requires c = search uniting_laws

pub returns : goal.returns
returns c = search uniting_laws

pub loop-i-preserved : goal.loop-i-preserved
loop-i-preserved c = search (uniting_laws, c.in_ok-count.was)

pub returns-in_err-count : goal.returns-in_err-count
returns-in_err-count c =
    let p = err_from_is_err_and c.from_residual.result c.from_residual.ensures.1 in
    rw (p.1, p.2) (search (uniting_laws, c.in_err-count.was))
