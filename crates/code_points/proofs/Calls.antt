-- Where a call is done, the texts of each word that it spells are well formed and increasing by code points. Assumes nothing.
use Rattle.std.specs.Prelude.{Option, Some, None}
use mathlib.Core.Path.{◌≡◌, refl, sym, ap, ◌∙◌}
use mathlib.Core.Bool.{Bool, false}
use mathlib.Core.List.{List}
use mathlib.Core.Logic.{⊎_elim}
use Prim.Native.Nat.{ℕ}
use lib.ListN.{length, take}
use lib.Seq.{take-length}
use Rattle.letters.specs.Reading.{first_ill, first_outside}
use Rattle.lower_case.specs.Lower.{lower_text}
use Rattle.languages.specs.declared.sets.LanguageSet.{LanguageSet}
use Rattle.name_parts.specs.Joining.{spaced}
use Rattle.pack.specs.Packs.{Pack, pack_of, accepted}
use Rattle.choices.specs.Texts.{Text}
use Rattle.choices.specs.Apply.{Entry, texts_of, start}
use Rattle.base.proofs.Arms.{clash}
use Rattle.phoneme_builder.specs.Sets.{Spelling, refusal}
use Rattle.phoneme_builder.specs.Sets as sets
use Rattle.phoneme_builder.specs.Passes.{ran, run, joined}
use Rattle.engine.specs.Spelling.{Spelt, unspelt, spelt_as, spelled_name}
use Rattle.engine.specs.Calls.{spelt_by, word_by_lists, steps_by, steps_of, start_set, spelled_by, CallOutcome, key, outcome_of, unless, on_pack, letters_then, checked_then, call_of}
use Rattle.engine.specs.declared.call.Settings.{Settings}
use Rattle.engine.specs.declared.call.Start.{Start}
use Rattle.answers.specs.Answers.{WordOfCall, main_turns}
use Rattle.answers.proofs.Names.{words_spelled}
use Rattle.answers.proofs.Calls.{demand_3_of_a_call}
use Rattle.code_points.specs.CodePoints.{InCodeOrder, spelling_of, WordInCodeOrder}
use Rattle.code_points.proofs.Bytes.{never_ill}
use Rattle.code_points.proofs.Names.{lower_text_formed, spaced_formed, word_formed}
use Rattle.code_points.proofs.Words.{pass_in_order, final_in_order, word_in_order}
use Rattle.base.proofs.PickLaws.{pick_inv}

-- ---- what a call that is done tells of its name

module _ (t : Text) (f : Bool) where
  nothing_found : (code : _) (a : Option ℕ) (x : CallOutcome) → unless code a x ≡ key t f → (a ≡ None) × (x ≡ key t f)
  unfolding unless
  nothing_found code (Some place) x e = clash (cc)
  nothing_found code None x e = (refl, e)

  outcome_key : (x : Spelt) → outcome_of x ≡ key t f → x ≡ spelt_as t f
  unfolding outcome_of
  outcome_key (unspelt k) e = clash (cc)
  outcome_key (spelt_as u g) e = cc

  module _ (c : Settings) (begin : Start) (s : List ℕ) (name : Text) (e : call_of c begin s name ≡ key t f) where
    letters_done : letters_then name (on_pack c begin s name (pack_of s)) ≡ key t f
    unfolding call_of checked_then
    letters_done = ⊎_elim (λ w. w.1) (λ w. clash (cc w.1)) (pick_inv _ _ _ _ e)

    name_done : (first_ill name ≡ None) × (on_pack c begin s name (pack_of s) ≡ key t f)
    unfolding letters_then
    name_done =
        ⊎_elim (λ w. clash (cc w.1)) (λ w. let v = nothing_found _ (first_ill name) _ w.1 in (v.0, (nothing_found _ (first_outside name) _ v.1).1))
        (pick_inv _ _ _ _ letters_done)

    name_spelled : (p : Pack) → pack_of s ≡ accepted p
        → spelled_name (steps_of s p c) (start_set begin ((steps_of s p c).guess (lower_text name))) (spaced (lower_text name)) ≡ spelt_as t f
    unfolding on_pack spelled_by
    name_spelled p q =
        ⊎_elim (λ w. outcome_key _ w.1) (λ w. clash (cc w.1)) (pick_inv _ _ _ _ (ap (on_pack c begin s name) (sym q) ∙ name_done.1))

    -- ---- its words

    word_ill : (p : Pack) (g : LanguageSet) (w : Text) → WordOfCall c begin s name p g w → first_ill w ≡ None
    word_ill p g w d = never_ill w (word_formed d.spelled (spaced_formed (lower_text name) (lower_text_formed name name_done.0)))

-- a word's answer joins its texts
joins : (x : Spelling) (t : Text) (f : Bool) → spelt_by x ≡ spelt_as t f → (l : List Entry) × (up : Bool) × (x ≡ sets.texts l up) × (spelt_by x ≡ spelt_as (joined (texts_of l)) up)
unfolding spelt_by
joins (refusal k) t f e = clash (cc)
joins (sets.texts l up) t f e = (l, up, refl, refl)

word_is : (s : List ℕ) (p : Pack) (c : Settings) (g : LanguageSet) (w : Text) → (steps_of s p c).word g w ≡ spelt_by (spelling_of s p c g w)
unfolding steps_of steps_by word_by_lists spelling_of
word_is s p c g w = refl

-- 01, Spelling a name: "Texts compare by code points, shorter first", of every word that a call spells
pub words_in_code_order : (c : Settings) (begin : Start) (s : List ℕ) (name t : Text) (f : Bool) → call_of c begin s name ≡ key t f
    → (p : Pack) (g : LanguageSet) (w : Text) → WordOfCall c begin s name p g w → WordInCodeOrder c s p g w
unfolding spelling_of
words_in_code_order c begin s name t f e p g w d =
    let ill = word_ill t f c begin s name e p g w d in
    let turns : (k : ℕ) (l : List Entry) (flag : Bool) → run false c.limit (take k (main_turns s p g w)) (start g) ≡ ran l flag → InCodeOrder (texts_of l) =
    λ k l flag r. pass_in_order s p d.good _ c.limit l flag _ k false g w ill r in
    let main = (demand_3_of_a_call c begin s name t f e).words p g w d in
    let in_order = turns (length (main_turns s p g w)) main.entries main.up (rw take-length main.came) in
    let part = words_spelled (steps_of s p c) d.spelled t f (name_spelled t f c begin s name e p d.good) in
    let own = joins (spelling_of s p c g w) part.text part.up (sym (word_is s p c g w) ∙ part.is) in
    record {
      each_turn = turns;
      main = main.entries;
      main_up = main.up;
      main_is = main.came;
      main_in_order = in_order;
      common_in_order = λ l flag r. final_in_order s p d.good _ c.limit l flag _ main.entries in_order.formed r;
      answer = own.0;
      up = own.1;
      answer_is = own.2;
      joined_is = word_is s p c g w ∙ own.3;
      answer_in_order = word_in_order s p d.good _ c.limit own.0 own.1 _ _ _ g w ill own.2;
    }
