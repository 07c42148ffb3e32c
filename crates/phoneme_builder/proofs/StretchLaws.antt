-- Characters appended one after the other, and as one stretch: the same comes of both. Laws for `settle`. Assumes nothing.
use borrow.Author.Rules.{rules}
use Rattle.std.proofs.Common.{Result, Ok, Err}
use mathlib.Core.Path.{◌≡◌, refl, sym, ap, ap₂, subst, ◌∙◌}
use mathlib.Core.Bool.{Bool, true, false, not}
use mathlib.Core.List.{List, [], ◌∷◌, ◌++◌, map, append_assoc}
use mathlib.Core.Logic.{◌⊎◌, inl, inr}
use Prim.Native.Nat.{ℕ, ◌-◌, ◌≤◌, ◌<◌}
use native.Mathlib.Omega.{arith}
use borrow.Author.Tests.{lt-ltb, ltb-true}
use lib.Dec.{ltb}
use lib.ListN.{length, take, drop, length-append, length-take, length-drop}
use Rattle.base.specs.Pick.{pick}
use Rattle.base.proofs.PickLaws.{pick_all}
use Rattle.letters.specs.Order.{order_of}
use Rattle.std.specs.declared.cmp.Ordering.{Ordering}
use Rattle.std.specs.declared.cmp.Ordering.TheVariants.{Less, Equal, Greater}
use Rattle.letters.proofs.StrictOrder.{compare_same}
use Rattle.choices.specs.Texts.{Text, by_order}
use Rattle.choices.specs.Apply.{Entry, texts_of, NextSet, next_set, insert}
use Rattle.choices.specs.Choices.{Holds, Increasing}
use Rattle.choices.proofs.SetLaws.{insert_has, insert_increasing, insert_either}
use Rattle.choices.proofs.Covered.{insert_there}
use Rattle.phoneme_builder.specs
use specs.Sets.{sorted, lengthened, all_short, appended}
use specs.BufferContracts.{entry, Arena, SetAt, Only, AppliedAt, BetweenIn, source_of}
use specs.Passes.{Ran, after_letter, unmatched}
use specs.InnerContracts.{Sides, straight, crossed, StageIn, stretched, SettledKept, settled_by, SettledBy}
use specs.declared
use declared.way.Pass.{Pass}
use declared.pass.Stage.{Stage}
use declared.set.Excess.{Excess}
use Rattle.phoneme_builder.proofs
use proofs.PartLaws.{only_refl}
use proofs.Answers.{now-at, now-held-at, only-long-at, long-at}
use proofs.AppendLaws.{lengthened_apart, appended_long, appended_short}

-- ---- sorted anew twice, and once

-- what is made of the texts, one by one, is made of them sorted too: those that differ may come in either order, and an equal one adds nothing
module _ {S : Type 0} (made : List Entry → S) (more : Entry → S → S) (each : (e : Entry) (l : List Entry) → made (e ∷ l) ≡ more e (made l))
    (either : (x e : Entry) (l : List Entry) → order_of x.text e.text ≡ Less → more x (more e (made l)) ≡ more e (more x (made l)))
    (once : (x e : Entry) (l : List Entry) → x.text ≡ e.text → more x (made l) ≡ more e (more x (made l))) where
  made_by : (e x : Entry) (l : List Entry) (o : Ordering) → order_of x.text e.text ≡ o → made (insert e l) ≡ more e (made l)
      → made (by_order o (x ∷ insert e l) (x ∷ l) (e ∷ x ∷ l)) ≡ more e (more x (made l))
  unfolding by_order
  made_by e x l Less q ih = each x _ ∙ ap (more x) ih ∙ either x e l q
  made_by e x l Equal q ih = each x l ∙ once x e l (compare_same _ _ q)
  made_by e x l Greater q ih = each e _ ∙ ap (more e) (each x l)

  made_insert : (e : Entry) (l : List Entry) → made (insert e l) ≡ more e (made l)
  unfolding insert
  made_insert e [] = each e []
  made_insert e (x ∷ l) = made_by e x l _ refl (made_insert e l) ∙ ap (more e) (sym (each x l))

  made_sorted : (l : List Entry) → made (sorted l) ≡ made l
  unfolding sorted
  made_sorted [] = refl
  made_sorted (e ∷ l) = made_insert e (sorted l) ∙ ap (more e) (made_sorted l) ∙ sym (each e l)

sorted_increasing : (l : List Entry) → Increasing (texts_of (sorted l))
unfolding sorted Increasing
sorted_increasing [] = tt
sorted_increasing (e ∷ l) = insert_increasing e (sorted l) (sorted_increasing l)

either_first : (p q r : Bool) → pick p false (pick q false r) ≡ pick q false (pick p false r)
unfolding pick
either_first true true r = refl
either_first true false r = refl
either_first false q r = refl

once_more : (p q r : Bool) → p ≡ q → pick p false r ≡ pick q false (pick p false r)
unfolding pick
once_more true true r e = refl
once_more true false r e = refl
once_more false q r e = rw (← e)

module _ (c : Text) where
  abbrev over : Entry → Bool
  over e = ltb 128 (length (e.text ++ c))

  sorted_once : (x e : Entry) (l : List Entry) → x.text ≡ e.text → insert (lengthened c x) (sorted l) ≡ insert (lengthened c e) (insert (lengthened c x) (sorted l))
  sorted_once x e l q =
      let set : List Entry = insert (lengthened c x) (sorted l) in
      let came = insert_has (lengthened c x) (sorted l) in
      let there : Holds set (e.text ++ c) came.0 = subst (λ (t : Text). Holds set (t ++ c) came.0) q came.1 in
      sym (insert_there (lengthened c e) set (insert_increasing (lengthened c x) (sorted l) (sorted_increasing l)) there)

  sorted_again : (l : List Entry) → sorted (map (lengthened c) (sorted l)) ≡ sorted (map (lengthened c) l)
  unfolding sorted
  sorted_again =
      made_sorted (λ (l : List Entry). sorted (map (lengthened c) l)) (λ (e : Entry). insert (lengthened c e)) (λ e l. refl)
      (λ x e l q. sym (insert_either (lengthened c x) (lengthened c e) (lengthened_apart c x e q) _)) (λ x e l. sorted_once x e (map (lengthened c) l))

  short_again : (l : List Entry) → all_short (map (lengthened c) (sorted l)) ≡ all_short (map (lengthened c) l)
  unfolding all_short
  short_again =
      made_sorted (λ (l : List Entry). all_short (map (lengthened c) l)) (λ (e : Entry). pick (over e) false) (λ e l. refl)
      (λ x e l q. either_first (over x) (over e) _) (λ x e l q. once_more (over x) (over e) _ (ap (λ (t : Text). ltb 128 (length (t ++ c))) q))

module _ (c d : Text) where
  long_twice : (l : List Entry) → map (lengthened d) (map (lengthened c) l) ≡ map (lengthened (c ++ d)) l
  long_twice [] = refl
  long_twice (e ∷ l) = ap₂ ◌∷◌ (ap (λ (t : Text). entry t e.langs) (append_assoc e.text c d)) (long_twice l)

  -- a text only grows, so the last step decides
  still_by : (e : Entry) (t r q : Bool) → ltb 128 (length (e.text ++ c)) ≡ t → pick t false r ≡ false → (r ≡ false → q ≡ false)
      → pick (ltb 128 (length (e.text ++ (c ++ d)))) false q ≡ false
  unfolding pick
  still_by e true r q long f ih =
      let more : 128 < length (e.text ++ (c ++ d)) = simp length-append (omega (arith, ltb-true 128 (length (e.text ++ c)) long, length-append e.text c)) in
      simp (lt-ltb 128 (length (e.text ++ (c ++ d))) more)
  still_by e false r q long f ih = simp (ih f) (pick_all (λ (b : Bool). b ≡ false) (ltb 128 (length (e.text ++ (c ++ d)))) false false refl refl)

  still_long : (l : List Entry) → all_short (map (lengthened c) l) ≡ false → all_short (map (lengthened (c ++ d)) l) ≡ false
  unfolding all_short
  still_long [] f = f
  still_long (e ∷ l) f = still_by e _ _ _ refl f (still_long l)

  appended_sorted : (l : List Entry) → appended d (sorted (map (lengthened c) l)) ≡ appended (c ++ d) l
  unfolding appended
  appended_sorted l = rw (short_again d (map (lengthened c) l), sorted_again d (map (lengthened c) l), long_twice l)

  appended_go : (l : List Entry) (rest : List Entry → Ran) (t : Bool) → all_short (map (lengthened c) l) ≡ t
      → after_letter (appended c l) (λ (m : List Entry). after_letter (appended d m) rest) ≡ after_letter (appended (c ++ d) l) rest
  unfolding after_letter
  appended_go l rest true e = rw (← appended_short c l e) (ap (λ (o : NextSet). after_letter o rest) (appended_sorted l))
  appended_go l rest false e = rw (← appended_long c l e, ← appended_long (c ++ d) l (still_long l e))

  -- c and then d behind every text is c and d behind it, sorted anew once
  appended_twice : (l : List Entry) (rest : List Entry → Ran)
      → after_letter (appended c l) (λ (m : List Entry). after_letter (appended d m) rest) ≡ after_letter (appended (c ++ d) l) rest
  appended_twice l rest = appended_go l rest _ refl

-- ---- a stretch and one character more

pub stretched_more : (final : Bool) (c d : Text) (l : List Entry) (rest : List Entry → Ran) → 0 < length d
    → after_letter (stretched final c l) (λ (m : List Entry). after_letter (unmatched final d m) rest) ≡ after_letter (stretched final (c ++ d) l) rest
unfolding stretched unmatched after_letter
stretched_more final [] [] l rest h = let none : ⊥ = omega arith in absurd none
stretched_more final [] (y ∷ d) l rest h = refl
stretched_more false (x ∷ c) d l rest h = refl
stretched_more true (x ∷ c) d l rest h = appended_twice (x ∷ c) d l rest

-- ---- the two sets

pub sides_flip : {x y from to : ℕ} → Sides x y from to → Sides x y to from
sides_flip straight = crossed
sides_flip crossed = straight

pub sides_then : {x y from to from' to' : ℕ} → Sides x y from to → Sides from to from' to' → Sides x y from' to'
sides_then s straight = s
sides_then s crossed = sides_flip s

pub sides_from : {x y from to : ℕ} → Sides x y from to → (from ≡ x) ⊎ (from ≡ y)
sides_from straight = inl refl
sides_from crossed = inr refl

pub sides_only : {x y from to : ℕ} (a b : Arena) → Sides x y from to → Only to to a b → Only x y a b
unfolding Only
sides_only a b straight o k h i j = o k h j j
sides_only a b crossed o k h i j = o k h i i

pub sides_both : {x y from to : ℕ} (a b : Arena) → Sides x y from to → Only from to a b → Only x y a b
unfolding Only
sides_both a b straight o k h i j = o k h i j
sides_both a b crossed o k h i j = o k h j i

pub sides_between : {a b : Arena} {from n to from' k to' : ℕ} → BetweenIn a (record { from = from; count = n; to = to }) → Sides from to from' to' → SetAt b from' k
    → BetweenIn b (record { from = from'; count = k; to = to' })
sides_between s straight set = record { source = set; known = s.known; apart = s.apart }
sides_between s crossed set = record { source = set; known = s.source.known; apart = λ e. s.apart (sym e) }

-- ---- the stretch before a stage

not_true : (b : Bool) → not b ≡ true → b ≡ false
not_true true e = cc
not_true false e = refl

not_false : (b : Bool) → not b ≡ false → b ≡ true
not_false true e = refl
not_false false e = cc

stretched_some : (final : Bool) (c : Text) (l : List Entry) → 0 < length c → stretched final c l ≡ unmatched final c l
unfolding stretched
stretched_some final [] l h = let none : ⊥ = omega arith in absurd none
stretched_some final (b ∷ c) l h = refl

pub stretched_none : (final : Bool) (word : Text) (since place : ℕ) (l : List Entry) → since ≡ place
    → stretched final (take (place - since) (drop since word)) l ≡ next_set l
unfolding stretched
stretched_none final word since place l e =
    let none : place - since ≡ 0 = omega arith in
    rw none

stretched_skipped : (c : Text) (l : List Entry) → stretched false c l ≡ next_set l
unfolding stretched unmatched
stretched_skipped [] l = refl
stretched_skipped (b ∷ c) l = refl

module _ (a : Arena) (by : Pass) (word : Text) (at : Stage) (s : StageIn a word at) where
  abbrev stretch : Text
  stretch = take (at.place - at.since) (drop at.since word)

  settle_same : stretched by.appends stretch (source_of a at.sets) ≡ next_set (source_of a at.sets) → SettledBy a a by word at (Ok at.sets)
  unfolding SettledKept settled_by after_letter
  settle_same e = record { kept = (s.sides, straight); is = λ rest. rw e; others = only_refl _ _ a }

  pub settle_none : at.since ≡ at.place → SettledBy a a by word at (Ok at.sets)
  settle_none e = settle_same (stretched_none by.appends word at.since at.place _ e)

  pub settle_skipped : not by.appends ≡ true → SettledBy a a by word at (Ok at.sets)
  settle_skipped f = settle_same (rw (not_true by.appends f) (stretched_skipped stretch _))

  pub settle_order : at.since ≤ at.place
  settle_order = s.behind

  pub settle_fits : at.place ≤ length word
  settle_fits = s.within

  module _ (b : Arena) (f : not by.appends ≡ false) (some : at.since ≡ at.place → ⊥) (r : Result ℕ Excess) (d : AppliedAt a b at.sets.to r (appended stretch (source_of a at.sets))) where
    stretch_is : (o : NextSet) → appended stretch (source_of a at.sets) ≡ o → stretched by.appends stretch (source_of a at.sets) ≡ o
    unfolding unmatched
    stretch_is o q =
        let long : 0 < length stretch = simp (length-take, length-drop) (omega (arith, s.behind, s.within, some)) in
        rw (not_false by.appends f) (stretched_some true stretch _ long ∙ q)

    pub settle_now : (k : ℕ) → r ≡ Ok k → SettledBy a b by word at (Ok (record { from = at.sets.to; count = k; to = at.sets.from }))
    unfolding SettledKept settled_by after_letter
    settle_now k e = record {
      kept = (sides_between s.sides crossed (now-at d k e), crossed);
      is = λ rest. rw (stretch_is _ (now-held-at d k e));
      others = sides_only a b straight d.others;
    }

    pub settle_long : {x : Excess} → r ≡ Err x → SettledBy a b by word at (Err x)
    unfolding SettledKept settled_by after_letter
    settle_long e = record { kept = only-long-at d e; is = λ rest. rw (stretch_is _ (long-at d e)); others = sides_only a b straight d.others }

pub ruleset settle_laws = (settle_none, settle_skipped, settle_order, settle_fits, settle_now, settle_long, rules)
