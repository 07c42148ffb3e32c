use Rattle.std.proofs.lemmas.Result.{err_from_is_err_and}
use Rattle.phoneme_builder.proofs.FinalLaws.{final_laws}
use Rattle.phoneme_builder.proofs.words.final_passes.Goals as goal

pub final_pass-requires-2 : goal.final_pass-requires-2
final_pass-requires-2 c = search (final_laws, c.in_ok-shared.was)

pub returns : goal.returns
returns c = search (final_laws, c.in_ok-shared.was, c.in_ok-language.was)

pub returns-in_err-shared : goal.returns-in_err-shared
returns-in_err-shared c =
    let p = err_from_is_err_and c.from_residual.result c.from_residual.ensures.1 in
    rw (p.1, p.2) (search (final_laws, c.in_err-shared.was))

pub returns-in_err-language : goal.returns-in_err-language
returns-in_err-language c =
    let p = err_from_is_err_and c.from_residual-in_err-language.result c.from_residual-in_err-language.ensures.1 in
    rw (p.1, p.2) (search (final_laws, c.in_ok-shared.was, c.in_err-language.was))
