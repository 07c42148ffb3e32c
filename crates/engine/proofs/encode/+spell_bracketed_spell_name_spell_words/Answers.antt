use Rattle.std.proofs.lemmas.Result.{err_from_is_err_and}
use Rattle.writing.proofs.Laws.{put_place}
use Rattle.engine.proofs.NameLaws.{rest_falls, rest_asks, joined_in, joined_falls, joined_asks, between_told, between_bad, parted_told, parted_remainder, parted_joined, bracketed_laws, name_laws, words_laws, words_bad, words_turn}
use Rattle.engine.proofs.encode.+spell_bracketed_spell_name_spell_words.Goals as goal

pub spell_bracketed-spell_name-requires : goal.spell_bracketed-spell_name-requires
spell_bracketed-spell_name-requires t c = (search bracketed_laws, search bracketed_laws)

pub spell_bracketed-returns-in_err-a : goal.spell_bracketed-returns-in_err-a
spell_bracketed-returns-in_err-a t c =
    let q = err_from_is_err_and c.from_residual.result c.from_residual.ensures.1 in
    rw (q.1, q.2) (between_bad _ _ _ c.afresh.ensures _ _ _ _ _ _ _ c.spell_name.ensures _ c.in_err-a.was)

pub spell_bracketed-returns : goal.spell_bracketed-returns
spell_bracketed-returns t c = between_told _ _ _ c.afresh.ensures _ _ _ _ _ _ _ c.spell_name.ensures _ _ _ c.push-p.ensures c.in_ok-a.was c.push.ensures

pub spell_name-slice_bounds-spell_bracketed-count : goal.spell_name-slice_bounds-spell_bracketed-count
spell_name-slice_bounds-spell_bracketed-count t c = search name_laws

pub spell_name-slice_bounds-spell_bracketed-start : goal.spell_name-slice_bounds-spell_bracketed-start
spell_name-slice_bounds-spell_bracketed-start t c = search name_laws

pub spell_name-spell_bracketed-requires : goal.spell_name-spell_bracketed-requires
spell_name-spell_bracketed-requires t c = (rest_falls _ _ _ _ c.join_parts.ensures _ _ c.in-Some.is _ c.decreases, rest_asks _ _ _ _ c.join_parts.ensures _ _ c.in-Some.is _ _ _ _ c.requires)

pub spell_name-slice_bounds-spell_bracketed-end-in-Err : goal.spell_name-slice_bounds-spell_bracketed-end-in-Err
spell_name-slice_bounds-spell_bracketed-end-in-Err t c = joined_in _ _ _ _ c.join_parts.ensures _ _ c.in-Some.is

pub spell_name-spell_bracketed-b-requires : goal.spell_name-spell_bracketed-b-requires
spell_name-spell_bracketed-b-requires t c = (joined_falls _ _ _ _ c.join_parts.ensures _ _ c.in-Some.is _ c.decreases, joined_asks _ _ _ _ c.join_parts.ensures _ _ c.in-Some.is _ _ _ _ c.requires _ c.requires.place)

pub spell_name-returns-in-Err : goal.spell_name-returns-in-Err
spell_name-returns-in-Err t c =
    parted_remainder _ _ _ _ _ c.join_parts.ensures _ _ c.in-Some.is _ _ _ _ _ _ _ _ c.spell_bracketed.ensures c.spell_bracketed-b.ensures _ _ c.in-Err.is c.choose_refusal.ensures

pub spell_name-slice_bounds-spell_bracketed-end-2 : goal.spell_name-slice_bounds-spell_bracketed-end-2
spell_name-slice_bounds-spell_bracketed-end-2 t c = joined_in _ _ _ _ c.join_parts.ensures _ _ c.in-Some.is

pub spell_name-spell_bracketed-requires-2 : goal.spell_name-spell_bracketed-requires-2
spell_name-spell_bracketed-requires-2 t c = (joined_falls _ _ _ _ c.join_parts.ensures _ _ c.in-Some.is _ c.decreases, joined_asks _ _ _ _ c.join_parts.ensures _ _ c.in-Some.is _ _ _ _ c.requires _ (put_place _ _ _ _ _ c.push-p.ensures))

pub spell_name-returns-in_err-b : goal.spell_name-returns-in_err-b
spell_name-returns-in_err-b t c =
    let q = err_from_is_err_and c.from_residual.result c.from_residual.ensures.1 in
    rw (q.1, q.2) (parted_joined _ _ _ _ _ c.join_parts.ensures _ _ c.in-Some.is _ c.args.out.now _ _ _ _ _ c.spell_bracketed-2.ensures _ c.in_err-b.was)

pub spell_name-returns : goal.spell_name-returns
spell_name-returns t c =
    parted_told _ _ _ _ _ c.join_parts.ensures _ _ c.in-Some.is _ _ _ _ _ _ _ _ c.spell_bracketed.ensures c.spell_bracketed-2.ensures _ _ c.in-Ok.is c.push-p.ensures c.in_ok-b.was _ c.both.ensures

pub spell_name-returns-then-is_one_part : goal.spell_name-returns-then-is_one_part
spell_name-returns-then-is_one_part t c = search name_laws

pub spell_name-returns-else-is_one_part : goal.spell_name-returns-else-is_one_part
spell_name-returns-else-is_one_part t c = search name_laws

pub spell_words-returns-then-w-eq0 : goal.spell_words-returns-then-w-eq0
spell_words-returns-then-w-eq0 t c = search words_laws

pub spell_words-spell_name-requires : goal.spell_words-spell_name-requires
spell_words-spell_name-requires t c = (search words_laws, search words_laws)

pub spell_words-returns-in_err-b : goal.spell_words-returns-in_err-b
spell_words-returns-in_err-b t c =
    let q = err_from_is_err_and c.from_residual.result c.from_residual.ensures.1 in
    rw (q.1, q.2) (words_bad _ _ _ _ _ _ _ _ c.loop-w.invariant _ c.next_word-w.ensures c.if-w-eq0.false _ _ _ c.hyphen-q.ensures _ _ c.afresh.ensures c.spell_name.ensures _ c.in_err-b.was)

pub spell_words-loop-w-smaller : goal.spell_words-loop-w-smaller
spell_words-loop-w-smaller t c = search words_laws

pub spell_words-loop-w-preserved : goal.spell_words-loop-w-preserved
spell_words-loop-w-preserved t c =
    words_turn _ _ _ _ _ _ _ _ c.loop-w.invariant _ c.next_word-w.ensures c.if-w-eq0.false _ _ _ c.hyphen-q.ensures _ _ c.afresh.ensures c.spell_name.ensures _ _ c.in_ok-b.was c.both-all.ensures _ c.past_word-p.ensures (search words_laws)
