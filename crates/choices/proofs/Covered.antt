-- An alternative that can add nothing: under a text where something is left of its languages, something is left of those of one before it with
-- the same text, which has entered then. With it or without it the same comes of an apply. Assumes nothing.
use mathlib.Core.Path.{◌≡◌, refl, sym, ap, ◌∙◌}
use mathlib.Core.Bool.{Bool, true, false}
use mathlib.Core.List.{List, [], ◌∷◌, ◌++◌, append_assoc}
use Prim.Native.Nat.{ℕ, ◌≤◌, ◌<◌}
use native.Mathlib.Decide.{dec_lt}
use native.Mathlib.Omega.{arith}
use lib.ListN.{length}
use lib.Dec.{leb, ltb}
use borrow.Author.Tests.{lt-leb, le-ltb, leb-true}
use Rattle.base.specs.Pick.{pick}
use Rattle.languages.specs.Sets.{narrowed, is_empty}
use Rattle.languages.specs.declared.sets.LanguageSet.{LanguageSet}
use Rattle.letters.specs.Order.{order_of}
use Rattle.std.specs.declared.cmp.Ordering.TheVariants.{Less, Equal}
use Rattle.letters.proofs.StrictOrder.{compare_refl, compare_trans}
use Rattle.choices.specs.Texts.{Text, by_order}
use Rattle.choices.specs.Apply.{Alternative, Entry, texts_of, NextSet, overlong, next_set, join, insert, under, candidates, enter, apply}
use Rattle.choices.specs.Choices.{◌∈◌, Holds, first, later, First, Increasing}
use Rattle.choices.proofs.Loops.{turn_full}
use Rattle.choices.proofs.SetLaws.{Entering, stopped, entered, enter_run, enter_has, enter_increasing}
use Rattle.choices.proofs.ApplyLaws.{holds_eq, under_has}

-- ---- a text that is there already

-- what stands behind the first of an increasing list is greater
before_all : (s : Text) (l : List Entry) {t : Text} {g : LanguageSet} → First s (texts_of l) → Increasing (texts_of l) → Holds l t g → order_of s t ≡ Less
unfolding First Increasing
before_all s [] f i x3 = elim x3 [ ]
before_all s (x ∷ l) f i (first p q) = rw (← p) f
before_all s (x ∷ l) {t} f i (later h) = compare_trans s x.text t f (before_all x.text l i.0 i.1 h)

-- it stays as it was, and so do all the others
pub insert_there : (e : Entry) (l : List Entry) {g : LanguageSet} → Increasing (texts_of l) → Holds l e.text g → insert e l ≡ l
unfolding insert Increasing by_order
insert_there e [] i x'' = elim x'' [ ]
insert_there e (x ∷ l) i (first p q) =
    let same : order_of x.text e.text ≡ Equal = rw p (compare_refl e.text) in
    simp same
insert_there e (x ∷ l) i (later h) =
    let less = before_all x.text l i.0 i.1 h in
    simp less (ap (◌∷◌ x) (insert_there e l i.1 h))

-- ---- candidates in two parts

unfoldable and_then : NextSet → (List Entry → NextSet) → NextSet
and_then overlong rest = overlong
and_then (next_set l) rest = rest l

append_by : (limit : ℕ) (ds l : List Entry) (t u : Bool) (o p : NextSet) → leb limit (length l) ≡ t → o ≡ and_then p (enter limit ds)
    → pick t (next_set l) (pick u overlong o) ≡ and_then (pick t (next_set l) (pick u overlong p)) (enter limit ds)
unfolding pick and_then
append_by limit ds l true u o p e ih = sym (turn_full limit ds l (leb-true limit (length l) e))
append_by limit ds l false true o p e ih = refl
append_by limit ds l false false o p e ih = ih

enter_append : (limit : ℕ) (cs ds l : List Entry) → enter limit (cs ++ ds) l ≡ and_then (enter limit cs l) (enter limit ds)
unfolding enter and_then
enter_append limit [] ds l = refl
enter_append limit (c ∷ cs) ds l =
    append_by limit ds l (leb limit (length l)) (ltb 128 (length c.text)) _ _ refl (enter_append limit cs ds (insert c l))

under_by : (e : Entry) (xs ys : List Alternative) (a : Alternative) (t : Bool) → under e (xs ++ ys) ≡ under e xs ++ under e ys
    → pick t (under e (xs ++ ys)) (join e a ∷ under e (xs ++ ys)) ≡ pick t (under e xs) (join e a ∷ under e xs) ++ under e ys
unfolding pick
under_by e xs ys a true ih = ih
under_by e xs ys a false ih = ap (◌∷◌ (join e a)) ih

under_append : (e : Entry) (xs ys : List Alternative) → under e (xs ++ ys) ≡ under e xs ++ under e ys
unfolding under
under_append e [] ys = refl
under_append e (a ∷ xs) ys = under_by e xs ys a (is_empty (narrowed e.langs a.langs)) (under_append e xs ys)

-- ---- a candidate whose text is one of those before it

module _ (limit : ℕ) where
  -- below the limit each of them entered, so none is long
  enter_short : {cs l r : List Entry} {t : Text} {g : LanguageSet} → Entering limit cs l r → length r < limit → Holds cs t g → length t ≤ 128
  enter_short (Rattle.choices.proofs.SetLaws.ended) few k = elim k [ ]
  enter_short (stopped full) few k =
      let nothing : ⊥ = omega arith in
      absurd nothing
  enter_short (entered room short run) few (first p q) = rw p at short
  enter_short (entered room short run) few (later k) = enter_short run few k

  enter_same : (c : Entry) (cs l : List Entry) → length l < limit → length c.text ≤ 128 → insert c l ≡ l → enter limit (c ∷ cs) l ≡ enter limit cs l
  unfolding enter pick
  enter_same c cs l room short stays = simp (lt-leb limit (length l) room, le-ltb 128 (length c.text) short, stays)

  module _ (cs l : List Entry) (i : Increasing (texts_of l)) (c : Entry) {g : LanguageSet} (h : Holds cs c.text g) (rest : List Entry) where
    again_by : (o : NextSet) → enter limit cs l ≡ o → and_then o (enter limit (c ∷ rest)) ≡ and_then o (enter limit rest)
    unfolding and_then
    again_by overlong e = refl
    again_by (next_set r) e =
        let run = enter_run limit cs l r e in
        elim (dec_lt (length r) limit) [
          | yes few ↦ enter_same c rest r few (enter_short run few h) (insert_there c r (enter_increasing run i) (enter_has run few h).1)
          | no most ↦ let full : limit ≤ length r = omega arith in turn_full limit (c ∷ rest) r full ∙ sym (turn_full limit rest r full)
        ]

    enter_again : enter limit (cs ++ c ∷ rest) l ≡ enter limit (cs ++ rest) l
    enter_again = enter_append limit cs (c ∷ rest) l ∙ again_by _ refl ∙ sym (enter_append limit cs rest l)

-- ---- an alternative that can add nothing

-- one of those before it has the same text, and something is left of its languages under e
pub record Covered (e : Entry) (before : List Alternative) (a : Alternative) : Type 0 where
  pub by : Alternative
  pub among : by ∈ before
  pub text : by.text ≡ a.text
  pub some : is_empty (narrowed e.langs by.langs) ≡ false

module _ (limit : ℕ) (e : Entry) (before : List Alternative) (a : Alternative) (more : List Alternative) (rest l : List Entry) (i : Increasing (texts_of l)) where
  parted : (xs : List Alternative) → under e (before ++ xs) ++ rest ≡ under e before ++ (under e xs ++ rest)
  parted xs = ap (λ (cs : List Entry). cs ++ rest) (under_append e before xs) ∙ append_assoc (under e before) (under e xs) rest

  covered_by : (t : Bool) → is_empty (narrowed e.langs a.langs) ≡ t → (t ≡ false → Covered e before a)
      → enter limit (under e before ++ (under e (a ∷ more) ++ rest)) l ≡ enter limit (under e before ++ (under e more ++ rest)) l
  unfolding under pick
  covered_by true p h = simp p
  covered_by false p h =
      let c = h refl in
      let there = holds_eq (ap (λ (t : Text). e.text ++ t) c.text) refl (under_has e c.among c.some) in
      rw p (enter_again limit (under e before) l i (join e a) there (under e more ++ rest))

  -- with it or without it the same comes of the candidates
  pub drop_covered : (is_empty (narrowed e.langs a.langs) ≡ false → Covered e before a)
      → enter limit (under e (before ++ a ∷ more) ++ rest) l ≡ enter limit (under e (before ++ more) ++ rest) l
  drop_covered h =
      ap (λ (cs : List Entry). enter limit cs l) (parted (a ∷ more)) ∙ covered_by _ refl h ∙ ap (λ (cs : List Entry). enter limit cs l) (sym (parted more))

-- ---- lists of alternatives of which the same comes under each text

module _ (limit : ℕ) (xs ys : List Alternative)
    (alike : (e : Entry) (rest l : List Entry) → Increasing (texts_of l) → enter limit (under e xs ++ rest) l ≡ enter limit (under e ys ++ rest) l) where
  then_by : (cs l ds es : List Entry) (o : NextSet) → enter limit cs l ≡ o → Increasing (texts_of l)
      → ((r : List Entry) → Increasing (texts_of r) → enter limit ds r ≡ enter limit es r) → and_then o (enter limit ds) ≡ and_then o (enter limit es)
  unfolding and_then
  then_by cs l ds es overlong e i h = refl
  then_by cs l ds es (next_set r) e i h = h r (enter_increasing (enter_run limit cs l r e) i)

  candidates_alike : (old l : List Entry) → Increasing (texts_of l) → enter limit (candidates old xs) l ≡ enter limit (candidates old ys) l
  unfolding candidates
  candidates_alike [] l i = refl
  candidates_alike (e ∷ old) l i =
      alike e (candidates old xs) l i ∙ enter_append limit (under e ys) (candidates old xs) l
      ∙ then_by (under e ys) l (candidates old xs) (candidates old ys) _ refl i (candidates_alike old)
      ∙ sym (enter_append limit (under e ys) (candidates old ys) l)

  pub apply_alike : (old : List Entry) → apply limit xs old ≡ apply limit ys old
  unfolding apply Increasing
  apply_alike old = candidates_alike old [] tt
