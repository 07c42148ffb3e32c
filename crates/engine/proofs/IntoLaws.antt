-- Answers in a buffer, one after the other: what the functions of a name tell. Assumes nothing.
use mathlib.Core.Path.{◌≡◌, refl, sym, ap, ap₂, subst, ◌∙◌}
use mathlib.Core.Bool.{Bool, false}
use mathlib.Core.List.{List, [], ◌∷◌, ◌++◌, append_assoc}
use Prim.Native.Nat.{ℕ, min, ◌+◌, ◌-◌, ◌*◌, ◌≤◌, ◌<◌, zero-le}
use native.Mathlib.Omega.{arith}
use lib.ListN.{length, drop, length-append}
use lib.Seq.{sets}
use Rattle.base.proofs.Stores.{sets_then}
use Rattle.choices.specs.Texts.{Text}
use Rattle.writing.specs.InnerContracts.{cap, Put}
use Rattle.name_parts.specs.Words.{words_of, word_at, past_word, one_word}
use Rattle.name_parts.proofs.Laws.{words_none, words_next, word_later, past_within, word_shorter}
use Rattle.writing.proofs.Laws.{put_long, put_place, slice_room}
use Rattle.refusals.specs.declared.Refusal.{Refusal}
use Rattle.engine.specs.Spelling.{Spelt, unspelt, spelt_as, or, both, hyphened, and_words, each_word}
use Rattle.engine.specs.InnerContracts.{Wrote, end_of, WroteIs, SpeltInto, both_of, HyphenAt, bracketed}
use Rattle.engine.specs.declared.encode.AnswerEnd.{AnswerEnd}
use Rattle.base.proofs.Arms.{clash}
use Rattle.std.specs.Prelude.{Result, Ok, Err}

-- ---- texts one after the other

pub wrote_put : {t : Text} {o o' : List ℕ} {at r : ℕ} → Put o o' at r t → Wrote t o o' at r
wrote_put {t} {o} {o'} {at} {r} x = record { ends = x.ends; wrote = λ h. x.wrote; same = put_long o o' at r t x; room = x.room }

pub wrote_then : {t u : Text} {o o₁ o₂ : List ℕ} {at p q : ℕ} → Wrote t o o₁ at p → Wrote u o₁ o₂ p q → Wrote (t ++ u) o o₂ at q
wrote_then {t} {u} {o} {o₁} {o₂} {at} {p} {q} x y = record {
  ends = omega (arith, x.ends, y.ends, length-append t u);
  wrote = λ h.
      let e : p ≡ at + length t = omega (arith, x.ends, x.room, length-append t u) in
      let first : o₁ ≡ sets o at t = x.wrote (omega (arith, length-append t u)) in
      y.wrote (omega (arith, x.same, length-append t u)) ∙ rw (first, e) (sets_then o at t u);
  same = y.same ∙ x.same;
  room = x.room;
}

-- ---- what an answer tells

pub bad_told : {x : Spelt} {o o' : List ℕ} {at : ℕ} {why : Refusal} → x ≡ unspelt why → SpeltInto x o o' at (Err why)
unfolding end_of WroteIs
bad_told e = rw e (record { told = refl; is = tt })

good_told : {x : Spelt} {t : Text} {f : Bool} {o o' : List ℕ} {at : ℕ} {a : AnswerEnd} → x ≡ spelt_as t f → Wrote t o o' at a.at → a.flag ≡ f → SpeltInto x o o' at (Ok a)
unfolding end_of WroteIs
good_told {t = t} {o = o} {o' = o'} {at = at} e w h = rw e (record { told = λ i. Ok (record { at = w.ends i; flag = h i }); is = subst (Wrote t o o' at) w.ends w })

-- what is refused
refused_is : (x : Spelt) {o o' : List ℕ} {at : ℕ} {r : Result AnswerEnd Refusal} {why : Refusal} → SpeltInto x o o' at r → r ≡ Err why → x ≡ unspelt why
unfolding end_of
refused_is (unspelt k) {why = why} told e = let same = sym told.told ∙ e in let is : k ≡ why = cc in ap unspelt is
refused_is (spelt_as t f) told e = let same = sym told.told ∙ e in clash (cc)

-- what is written
record Written (x : Spelt) (o o' : List ℕ) (at : ℕ) (a : AnswerEnd) : Type 0 where
  text : Text
  is : x ≡ spelt_as text a.flag
  wrote : Wrote text o o' at a.at

written : (x : Spelt) {o o' : List ℕ} {at : ℕ} {r : Result AnswerEnd Refusal} {a : AnswerEnd} → SpeltInto x o o' at r → r ≡ Ok a → Written x o o' at a
unfolding end_of WroteIs
written (unspelt k) told e = let same = sym told.told ∙ e in clash (cc)
written (spelt_as t f) {o} {o'} {at} {r} {a} told e =
    let same = sym told.told ∙ e in
    let ends : min (at + length t) cap ≡ a.at = cc in
    let flag : f ≡ a.flag = cc in
    record { text = t; is = ap (spelt_as t) flag; wrote = subst (Wrote t o o' at) ends told.is }

-- ---- between brackets

module _ (x : Spelt) {o o₁ o₂ : List ℕ} {at p : ℕ} {r : Result AnswerEnd Refusal} (told : SpeltInto x o₁ o₂ p r) where
  pub bracketed_told : {o₃ : List ℕ} {end : ℕ} {a : AnswerEnd} → Put o o₁ at p (40 ∷ []) → r ≡ Ok a → Put o₂ o₃ a.at end (41 ∷ [])
      → SpeltInto (bracketed x) o o₃ at (Ok (record { at = end; flag = a.flag }))
  unfolding bracketed
  bracketed_told left q right =
      let w = written x told q in
      good_told (ap bracketed w.is) (wrote_then (wrote_put left) (wrote_then w.wrote (wrote_put right))) refl

  pub bracketed_bad : {why : Refusal} → r ≡ Err why → SpeltInto (bracketed x) o o₂ at (Err why)
  unfolding bracketed
  bracketed_bad q = bad_told (ap bracketed (refused_is x told q))

-- ---- words, a hyphen between them

module _ (x y : Spelt) {o o₁ o₂ o₃ : List ℕ} {at q : ℕ} {a : AnswerEnd} {r : Result AnswerEnd Refusal} (ta : SpeltInto x o o₁ at (Ok a)) (tb : SpeltInto y o₂ o₃ q r) where
  hyphened_told : {b : AnswerEnd} → Put o₁ o₂ a.at q (45 ∷ []) → r ≡ Ok b → SpeltInto (hyphened x y) o o₃ at (Ok (both_of a b b.at))
  unfolding hyphened
  hyphened_told middle e =
      let u = written x ta refl in
      let v = written y tb e in
      good_told (ap₂ hyphened u.is v.is) (wrote_then u.wrote (wrote_then (wrote_put middle) v.wrote)) refl

  hyphened_bad : {why : Refusal} → r ≡ Err why → hyphened x y ≡ unspelt why
  unfolding hyphened
  hyphened_bad e = ap₂ hyphened (written x ta refl).is (refused_is y tb e)

-- ---- a name with a prefix: the remainder and the joined name, each between brackets

bracketed_text : (x : Spelt) (t : Text) (f : Bool) → bracketed x ≡ spelt_as t f → (u : Text) × (x ≡ spelt_as u f) × (t ≡ (40 ∷ []) ++ (u ++ (41 ∷ [])))
unfolding bracketed
bracketed_text (unspelt k) t f e = clash (cc)
bracketed_text (spelt_as u g) t f e = let flag : g ≡ f = cc in (u, ap (spelt_as u) flag, cc)

bracketed_why : (x : Spelt) (why : Refusal) → bracketed x ≡ unspelt why → x ≡ unspelt why
unfolding bracketed
bracketed_why (unspelt k) why e = e
bracketed_why (spelt_as u g) why e = clash (cc)

both_why : (x : Spelt) (why : Refusal) → both x (unspelt why) ≡ unspelt why
unfolding both
both_why (unspelt k) why = refl
both_why (spelt_as t f) why = refl

module _ (x y : Spelt) {o o₁ o₂ o₃ : List ℕ} {at p : ℕ} {r k : Result AnswerEnd Refusal} (ta : SpeltInto (bracketed x) o o₁ at r) (tb : SpeltInto (bracketed y) o₂ o₃ p k) where
  pub both_told : {a b : AnswerEnd} → r ≡ Ok a → Put o₁ o₂ a.at p (45 ∷ []) → k ≡ Ok b → SpeltInto (both x y) o o₃ at (Ok (both_of b a b.at))
  unfolding both
  both_told {a} {b} e middle e' =
      let u = written (bracketed x) ta e in
      let v = written (bracketed y) tb e' in
      let m = bracketed_text x u.text a.flag u.is in
      let n = bracketed_text y v.text b.flag v.is in
      let same = append_assoc m.0 (41 ∷ []) (45 ∷ 40 ∷ (n.0 ++ (41 ∷ []))) in
      good_told (ap₂ both m.1 n.1) (rw (← same) (rw (m.2, n.2) at (wrote_then u.wrote (wrote_then (wrote_put middle) v.wrote)))) refl

  pub both_remainder : {why : Refusal} {b : AnswerEnd} → r ≡ Err why → k ≡ Ok b → SpeltInto (both x y) o o₃ at (Err why)
  unfolding both
  both_remainder {why} {b} e e' =
      let v = written (bracketed y) tb e' in
      let n = bracketed_text y v.text b.flag v.is in
      bad_told (ap₂ both (bracketed_why x why (refused_is (bracketed x) ta e)) n.1)

pub both_joined : (x y : Spelt) {o₀ o o' : List ℕ} {at p : ℕ} {k : Result AnswerEnd Refusal} {why : Refusal} → SpeltInto (bracketed y) o o' p k → k ≡ Err why → SpeltInto (both x y) o₀ o' at (Err why)
both_joined x y {why = why} tb e = bad_told (ap (both x) (bracketed_why y why (refused_is (bracketed y) tb e)) ∙ both_why x why)

-- ---- nothing is written yet, or the words read so far are told
pub data Begun (f : Text → Spelt) (name : Text) (o₀ o : List ℕ) (at p : ℕ) (all : AnswerEnd) : Type 0 where
  not_yet : p ≡ 0 → o ≡ o₀ → (all.at ≡ at) × (all.flag ≡ false) → Begun f name o₀ o at p all
  begun : (x : Spelt) → (p ≡ 0 → ⊥) → SpeltInto x o₀ o at (Ok all) → and_words f x (words_of (drop p name)) ≡ each_word f (words_of name)
      → Begun f name o₀ o at p all

-- the invariant of `spell_words`' loop
pub record WordsHeld (f : Text → Spelt) (name : Text) (o₀ o : List ℕ) (at p : ℕ) (all : AnswerEnd) : Type 0 where
  pub fits : at ≤ cap
  pub room : length o₀ < cap
  pub so_far : Begun f name o₀ o at p all
  pub within : p ≤ length name
  pub out_same : length o ≡ length o₀

pub held_start : (f : Text → Spelt) (name : Text) (o : List ℕ) (at : ℕ) → at ≤ cap → length o * 1 < cap
    → WordsHeld f name o o at 0 (record { at = at; flag = false })
held_start f name o at h r =
    record { fits = h; room = slice_room o r; so_far = not_yet refl refl (refl, refl); within = zero-le; out_same = refl }

-- words behind one that is refused
refused_words : (f : Text → Spelt) (why : Refusal) (ws : List Text) → and_words f (unspelt why) ws ≡ unspelt why
unfolding and_words hyphened
refused_words f why [] = refl
refused_words f why (w ∷ ws) = refused_words f why ws

module _ {f : Text → Spelt} {name : Text} {o₀ o : List ℕ} {at p : ℕ} {all : AnswerEnd} (k : WordsHeld f name o₀ o at p all) {w : Text}
    (ew : w ≡ word_at name p) where
  pub held_end : length w ≡ 0 → SpeltInto (each_word f (words_of name)) o₀ o at (Ok all)
  unfolding each_word and_words
  held_end h = end_by k.so_far where
    none : length (word_at name p) ≡ 0
    none = sym (ap length ew) ∙ h

    end_by : Begun f name o₀ o at p all → SpeltInto (each_word f (words_of name)) o₀ o at (Ok all)
    end_by (not_yet ep eo ea) =
        let empty : words_of name ≡ [] = sym (ap (λ (k : ℕ). words_of (drop k name)) ep) ∙ words_none name p none in
        rw (empty, eo) (good_told refl (record { ends = omega (arith, ea.0, k.fits); wrote = λ k. refl; same = refl; room = k.room }) ea.1)
    end_by (begun x some told rest) = rw (← rest, words_none name p none) told

  module _ (some : length w ≡ 0 → ⊥) where
    a_word : length (word_at name p) ≡ 0 → ⊥
    a_word h = some (ap length ew ∙ h)

    pub held_shorter : one_word name ≡ false → length w < length name
    held_shorter h = rw ew (word_shorter name p h a_word)

    pub held_less : (p' : ℕ) → p' ≡ past_word name p → length name - p' < length name - p
    held_less p' e = omega (arith, e, word_later name p a_word, past_within name p a_word)

    module _ {o₁ : List ℕ} {q : ℕ} (h : HyphenAt o o₁ all.at p q) where
      place_by : Begun f name o₀ o at p all → q ≤ cap
      place_by (not_yet ep eo ea) = omega (arith, (h.first ep).0, ea.0, k.fits)
      place_by (begun x later told rest) = put_place _ _ _ _ _ (h.later later)

      pub held_place : q ≤ cap
      held_place = place_by k.so_far

      module _ {o₂ : List ℕ} {r : Result AnswerEnd Refusal} (tb : SpeltInto (f w) o₁ o₂ q r) where
        later_on : past_word name p ≡ 0 → ⊥
        later_on z = omega (arith, word_later name p a_word)

        words_are : words_of (drop p name) ≡ w ∷ words_of (drop (past_word name p) name)
        words_are = rw ew (words_next name p a_word)

        first_words : p ≡ 0 → words_of name ≡ w ∷ words_of (drop (past_word name p) name)
        first_words ep = sym (ap (λ (k : ℕ). words_of (drop k name)) ep) ∙ words_are

        bad_by : {why : Refusal} → r ≡ Err why → Begun f name o₀ o at p all → each_word f (words_of name) ≡ unspelt why
        unfolding each_word and_words
        bad_by {why} e (not_yet ep eo ea) = rw (first_words ep, refused_is (f w) tb e) (refused_words f why (words_of (drop (past_word name p) name)))
        bad_by {why} e (begun x later told rest) =
            sym rest ∙ ap (and_words f x) words_are ∙ ap (λ (z : Spelt). and_words f z (words_of (drop (past_word name p) name))) (hyphened_bad x (f w) told tb e) ∙ refused_words f why (words_of (drop (past_word name p) name))

        -- a word that is refused
        pub held_bad : {why : Refusal} → r ≡ Err why → SpeltInto (each_word f (words_of name)) o₀ o₂ at (Err why)
        held_bad e = bad_told (bad_by e k.so_far)

        module _ {b : AnswerEnd} (e : r ≡ Ok b) where
          turn_by : Begun f name o₀ o at p all → Begun f name o₀ o₂ at (past_word name p) (both_of all b b.at)
          unfolding each_word and_words or
          turn_by (not_yet ep eo ea) =
              let v = written (f w) tb e in
              let wrote : Wrote v.text o₀ o₂ at b.at =
              subst (λ (l : List ℕ). Wrote v.text l o₂ at b.at) ((h.first ep).1 ∙ eo) (subst (λ (n : ℕ). Wrote v.text o₁ o₂ n b.at) ((h.first ep).0 ∙ ea.0) v.wrote) in
              begun (f w) later_on (good_told v.is wrote (ap (λ (t : Bool). or t b.flag) ea.1)) (rw (first_words ep) refl)
          turn_by (begun x later told rest) =
              begun (hyphened x (f w)) later_on (hyphened_told x (f w) told tb (h.later later) e) (rw words_are at rest)

          pub held_turn : {p' : ℕ} → p' ≡ past_word name p → length o₂ ≡ length o → WordsHeld f name o₀ o₂ at p' (both_of all b b.at)
          held_turn {p'} ep eo = rw ep (record {
            fits = k.fits;
            room = k.room;
            so_far = turn_by k.so_far;
            within = past_within name p a_word;
            out_same = eo ∙ k.out_same;
          })
