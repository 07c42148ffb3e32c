use Rattle.std.proofs.lemmas.Result.{err_from_is_err_and}
use Rattle.phoneme_builder.proofs.FinalLaws.{main_asks, main_laws}
use borrow.Author.Rules.{rules}
use Rattle.phoneme_builder.proofs.words.spell_word.Goals as goal

pub final_passes-requires : goal.final_passes-requires
final_passes-requires c = main_asks c.in_ok-ran.was c.run.ensures (search rules)

pub returns : goal.returns
returns c = search (main_laws, c.in_ok-ran.was, c.in_ok-finished.was)

pub returns-in_err-ran : goal.returns-in_err-ran
returns-in_err-ran c =
    let p = err_from_is_err_and c.from_residual.result c.from_residual.ensures.1 in
    rw (p.1, p.2) (search (main_laws, c.in_err-ran.was))

pub returns-in_err-finished : goal.returns-in_err-finished
returns-in_err-finished c =
    let p = err_from_is_err_and c.from_residual-in_err-finished.result c.from_residual-in_err-finished.ensures.1 in
    rw (p.1, p.2) (search (main_laws, c.in_ok-ran.was, c.in_err-finished.was))
