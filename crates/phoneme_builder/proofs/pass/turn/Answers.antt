use Rattle.std.proofs.lemmas.Result.{err_from_is_err_and}
use Rattle.phoneme_builder.proofs.PassLaws.{turn_laws}
use Rattle.phoneme_builder.specs.InnerContracts.{StepIn}
use native.Mathlib.Omega.{arith}
use Rattle.phoneme_builder.proofs.pass.turn.Goals as goal

pub slice_bounds-expr-count : goal.slice_bounds-expr-count
slice_bounds-expr-count c = search turn_laws

pub slice_bounds-expr-start : goal.slice_bounds-expr-start
slice_bounds-expr-start c = search turn_laws

pub slice_bounds-expr-end : goal.slice_bounds-expr-end
slice_bounds-expr-end c = search turn_laws

pub apply_rule-requires : goal.apply_rule-requires
apply_rule-requires c = search turn_laws

pub overflow_add-behind : goal.overflow_add-behind
overflow_add-behind c =
    let within : StepIn c.args.word.now c.args.at.place c.in-Some.found.step = search turn_laws in
    omega arith

pub returns-in-None : goal.returns-in-None
returns-in-None c = search turn_laws

pub returns-in_ok-sets-in-Some : goal.returns-in_ok-sets-in-Some
returns-in_ok-sets-in-Some c = search (turn_laws, c.in_ok-sets-in-Some.was)

pub returns-in_err-sets-in-Some : goal.returns-in_err-sets-in-Some
returns-in_err-sets-in-Some c =
    let p = err_from_is_err_and c.from_residual.result c.from_residual.ensures.1 in
    rw (p.1, p.2) (search (turn_laws, c.in_err-sets-in-Some.was))
