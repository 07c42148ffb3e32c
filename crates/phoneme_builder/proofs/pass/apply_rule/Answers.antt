use Rattle.std.proofs.lemmas.Result.{err_from_is_err_and}
use Rattle.phoneme_builder.proofs.PassLaws.{rule_laws}
use Rattle.phoneme_builder.proofs.pass.apply_rule.Goals as goal

pub apply-requires : goal.apply-requires
apply-requires c = search (rule_laws, c.in_ok-sets.was)

pub returns : goal.returns
returns c = search (rule_laws, c.in_ok-sets.was, c.in_ok-texts.was)

pub returns-in_err-sets : goal.returns-in_err-sets
returns-in_err-sets c =
    let p = err_from_is_err_and c.from_residual.result c.from_residual.ensures.1 in
    rw (p.1, p.2) (search (rule_laws, c.in_err-sets.was))

pub returns-in_err-texts : goal.returns-in_err-texts
returns-in_err-texts c =
    let p = err_from_is_err_and c.from_residual-in_err-texts.result c.from_residual-in_err-texts.ensures.1 in
    rw (p.1, p.2) (search (rule_laws, c.in_ok-sets.was, c.in_err-texts.was))
