use Rattle.std.proofs.lemmas.Result.{err_from_is_err_and}
use Rattle.phoneme_builder.proofs.FinalLaws.{final_text_laws}
use Rattle.phoneme_builder.proofs.finals.final_text.Goals as goal

pub langs_at-langs-requires : goal.langs_at-langs-requires
langs_at-langs-requires c = search final_text_laws

pub unite-requires : goal.unite-requires
unite-requires c = search (final_text_laws, c.in_ok-ran.was)

pub returns : goal.returns
returns c = search (final_text_laws, c.in_ok-ran.was, c.in_ok-texts.was)

pub returns-in_err-ran : goal.returns-in_err-ran
returns-in_err-ran c =
    let p = err_from_is_err_and c.from_residual.result c.from_residual.ensures.1 in
    rw (p.1, p.2) (search (final_text_laws, c.in_err-ran.was))

pub returns-in_err-texts : goal.returns-in_err-texts
returns-in_err-texts c =
    let p = err_from_is_err_and c.from_residual-in_err-texts.result c.from_residual-in_err-texts.ensures.1 in
    rw (p.1, p.2) (search (final_text_laws, c.in_ok-ran.was, c.in_err-texts.was))
