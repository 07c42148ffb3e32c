use Rattle.std.proofs.lemmas.Result.{err_from_is_err_and}
use borrow.Author.Rules.{rules}
use Rattle.phoneme_builder.proofs.StretchLaws.{settle_none, settle_skipped, settle_now, settle_long}
use Rattle.phoneme_builder.proofs.pass.settle.Goals as goal
use Rattle.phoneme_builder.proofs.pass.settle.Goals.{then-at-via-then-at, then-at-via-else-at+then-not-by}

pub returns-then-at : goal.returns-then-at
returns-then-at c =
    elim c.then-at.branch [
      | then-at-via-then-at w ↦ settle_none _ c.args.by _ _ c.requires (search rules)
      | then-at-via-else-at+then-not-by w ↦ settle_skipped _ c.args.by _ _ c.requires (search rules)
    ]

pub returns : goal.returns
returns c = settle_now _ c.args.by _ _ c.requires _ (search rules) (search rules) _ c.append.ensures _ c.in_ok-texts.was

pub returns-in_err-texts : goal.returns-in_err-texts
returns-in_err-texts c =
    let p = err_from_is_err_and c.from_residual.result c.from_residual.ensures.1 in
    rw (p.1, p.2) (settle_long _ c.args.by _ _ c.requires _ (search rules) (search rules) _ c.append.ensures c.in_err-texts.was)
