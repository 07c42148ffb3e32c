-- Laws on `insert` and `enter`: what comes in, what stays, and the order. Assumes nothing.
-- They speak of entries by `Holds l t g` alone, so that a further field of an entry touches few of them.
use mathlib.Core.Path.{◌≡◌, refl, sym, ap, subst}
use mathlib.Core.Bool.{Bool, true, false}
use mathlib.Core.Logic.{◌⊎◌, inl, inr}
use mathlib.Core.List.{List, [], ◌∷◌}
use Prim.Native.Nat.{ℕ, suc, ◌≤◌, ◌<◌}
use native.Mathlib.Omega.{arith}
use lib.ListN.{length}
use lib.Dec.{ltb, leb}
use borrow.Author.Tests.{ltb-false, leb-true, leb-false}
use Rattle.base.specs.Pick.{pick}
use Rattle.choices.specs.Texts.{Text, by_order}
use Rattle.letters.specs.Order.{order_of}
use Rattle.std.specs.declared.cmp.Ordering.{Ordering}
use Rattle.std.specs.declared.cmp.Ordering.TheVariants.{Less, Equal, Greater}
use Rattle.choices.specs.Apply.{Entry, texts_of, insert, enter, NextSet, overlong, next_set}
use Rattle.choices.specs.Choices.{Holds, first, later, First, Increasing, times}
use Rattle.languages.specs.declared.sets.LanguageSet.{LanguageSet}
use Rattle.letters.proofs.StrictOrder.{compare_same, compare_refl, compare_flip, compare_back, compare_trans}
use Rattle.base.proofs.Arms.{clash}

-- ---- insert, by the order of the text at the front and the new one

module _ (e x : Entry) (l : List Entry) where
  module _ {t : Text} {g : LanguageSet} where
    sound_by : (o : Ordering) → (Holds (insert e l) t g → ((e.text ≡ t) × (e.langs ≡ g)) ⊎ Holds l t g)
        → Holds (by_order o (x ∷ insert e l) (x ∷ l) (e ∷ x ∷ l)) t g → ((e.text ≡ t) × (e.langs ≡ g)) ⊎ Holds (x ∷ l) t g
    unfolding by_order
    sound_by Less ih (first p q) = inr (first p q)
    sound_by Less ih (later h) = go (ih h)
      where
        go : ((e.text ≡ t) × (e.langs ≡ g)) ⊎ Holds l t g → ((e.text ≡ t) × (e.langs ≡ g)) ⊎ Holds (x ∷ l) t g
        go (inl w) = inl w
        go (inr h) = inr (later h)
    sound_by Equal ih h = inr h
    sound_by Greater ih (first p q) = inl (p, q)
    sound_by Greater ih (later h) = inr h

    keeps_by : (o : Ordering) → (Holds l t g → Holds (insert e l) t g) → Holds (x ∷ l) t g → Holds (by_order o (x ∷ insert e l) (x ∷ l) (e ∷ x ∷ l)) t g
    unfolding by_order
    keeps_by Less ih (first p q) = first p q
    keeps_by Less ih (later h) = later (ih h)
    keeps_by Equal ih h = h
    keeps_by Greater ih h = later h

  has_by : (o : Ordering) → order_of x.text e.text ≡ o → (g : LanguageSet) × Holds (insert e l) e.text g
      → (g : LanguageSet) × Holds (by_order o (x ∷ insert e l) (x ∷ l) (e ∷ x ∷ l)) e.text g
  unfolding by_order
  has_by Less q ih = (ih.0, later ih.1)
  has_by Equal q ih = (x.langs, first (compare_same _ _ q) refl)
  has_by Greater q ih = (e.langs, first refl refl)

-- what it holds was there, or is the new one
pub insert_sound : (e : Entry) (l : List Entry) {t : Text} {g : LanguageSet} → Holds (insert e l) t g → ((e.text ≡ t) × (e.langs ≡ g)) ⊎ Holds l t g
unfolding insert
insert_sound e [] (first p q) = inl (p, q)
insert_sound e [] (later h) = inr h
insert_sound e (x ∷ l) h = sound_by e x l (order_of x.text e.text) (insert_sound e l) h

-- what was there stays
pub insert_keeps : (e : Entry) (l : List Entry) {t : Text} {g : LanguageSet} → Holds l t g → Holds (insert e l) t g
unfolding insert
insert_keeps e [] h = later h
insert_keeps e (x ∷ l) h = keeps_by e x l (order_of x.text e.text) (insert_keeps e l) h

-- the text is there, perhaps with other languages
pub insert_has : (e : Entry) (l : List Entry) → (g : LanguageSet) × Holds (insert e l) e.text g
unfolding insert
insert_has e [] = (e.langs, first refl refl)
insert_has e (x ∷ l) = has_by e x l (order_of x.text e.text) refl (insert_has e l)

-- ---- the order is kept

first_by : (s : Text) (e x : Entry) (l : List Entry) (o : Ordering) → order_of s e.text ≡ Less → order_of s x.text ≡ Less
    → First s (texts_of (by_order o (x ∷ insert e l) (x ∷ l) (e ∷ x ∷ l)))
unfolding First by_order
first_by s e x l Less d p = p
first_by s e x l Equal d p = p
first_by s e x l Greater d p = d

insert_first : (s : Text) (e : Entry) (l : List Entry) → order_of s e.text ≡ Less → First s (texts_of l) → First s (texts_of (insert e l))
unfolding First insert
insert_first s e [] d f = d
insert_first s e (x ∷ l) d f = first_by s e x l (order_of x.text e.text) d f

increasing_by : (e x : Entry) (l : List Entry) (o : Ordering) → order_of x.text e.text ≡ o → First x.text (texts_of l) → Increasing (texts_of l)
    → Increasing (texts_of (insert e l)) → Increasing (texts_of (by_order o (x ∷ insert e l) (x ∷ l) (e ∷ x ∷ l)))
unfolding Increasing First by_order
increasing_by e x l Less q f i ih = (insert_first x.text e l q f, ih)
increasing_by e x l Equal q f i ih = (f, i)
increasing_by e x l Greater q f i ih = (compare_flip _ _ q, (f, i))

pub insert_increasing : (e : Entry) (l : List Entry) → Increasing (texts_of l) → Increasing (texts_of (insert e l))
unfolding Increasing First insert
insert_increasing e [] i = (tt, tt)
insert_increasing e (x ∷ l) i = increasing_by e x l (order_of x.text e.text) refl i.0 i.1 (insert_increasing e l i.1)

-- ---- two texts come in

-- the one that stands before, then the other: by the order of the text at the front and each of them
module _ (e f : Entry) (before : order_of e.text f.text ≡ Less) where
  swap_by : (x : Entry) (l : List Entry) (o p : Ordering) → order_of x.text e.text ≡ o → order_of x.text f.text ≡ p
      → insert f (insert e l) ≡ insert e (insert f l) → insert f (insert e (x ∷ l)) ≡ insert e (insert f (x ∷ l))
  unfolding insert by_order
  swap_by x l Less p q r ih = simp (q, compare_trans x.text e.text f.text q before) (ap (◌∷◌ x) ih)
  swap_by x l Equal p q r ih =
      let less : order_of x.text f.text ≡ Less = rw (compare_same x.text e.text q) before in
      simp (q, less)
  swap_by x l Greater Less q r ih = simp (q, before, r)
  swap_by x l Greater Equal q r ih = simp (q, before, r)
  swap_by x l Greater Greater q r ih = simp (q, before, r, compare_back e.text f.text before)

  insert_swap : (l : List Entry) → insert f (insert e l) ≡ insert e (insert f l)
  unfolding insert by_order
  insert_swap [] = simp (before, compare_back e.text f.text before)
  insert_swap (x ∷ l) = swap_by x l (order_of x.text e.text) (order_of x.text f.text) refl refl (insert_swap l)

-- two that spell differently may come in either order
pub insert_either : (e f : Entry) → (e.text ≡ f.text → ⊥) → (l : List Entry) → insert f (insert e l) ≡ insert e (insert f l)
insert_either e f apart l = go (order_of e.text f.text) refl
  where
    go : (o : Ordering) → order_of e.text f.text ≡ o → insert f (insert e l) ≡ insert e (insert f l)
    go Less q = insert_swap e f q l
    go Equal q = absurd (apart (compare_same _ _ q))
    go Greater q = sym (insert_swap f e (compare_flip _ _ q) l)

-- ---- a text of an increasing list stands there once

-- t stands before all of l, so it is not among them
none_by : (t x : Text) (n : ℕ) (o : Ordering) → order_of x t ≡ o → order_of t x ≡ Less → n ≡ 0 → by_order o n (suc n) n ≡ 0
unfolding by_order
none_by t x n Less q d z = z
none_by t x n Equal q d z =
    let e : order_of t x ≡ Equal = rw (compare_same x t q) (compare_refl t) in
    clash (cc)
none_by t x n Greater q d z = z

times_none : (t : Text) (ts : List Text) → First t ts → Increasing ts → times t ts ≡ 0
unfolding Increasing First times
times_none t [] f i = refl
times_none t (x ∷ []) f i = none_by t x _ (order_of x t) refl f refl
times_none t (x ∷ y ∷ ts) f i = none_by t x _ (order_of x t) refl f (times_none t (y ∷ ts) (compare_trans t x y f i.0) i.1)

-- x stands before all of ts, and t is among them
once_by : (t x : Text) (n : ℕ) (o : Ordering) → order_of x t ≡ o → (x ≡ t → n ≡ 0) → (x ≡ t) ⊎ (n ≡ 1) → by_order o n (suc n) n ≡ 1
unfolding by_order
once_by t x n Less q z (inl p) =
    let e : order_of x t ≡ Equal = rw p (compare_refl t) in
    clash (cc)
once_by t x n Less q z (inr h) = h
once_by t x n Equal q z w = ap suc (z (compare_same x t q))
once_by t x n Greater q z (inl p) =
    let e : order_of x t ≡ Equal = rw p (compare_refl t) in
    clash (cc)
once_by t x n Greater q z (inr h) = h

pub times_one : (l : List Entry) {t : Text} {g : LanguageSet} → Increasing (texts_of l) → Holds l t g → times t (texts_of l) ≡ 1
unfolding Increasing times
times_one [] i x'' = elim x'' [ ]
times_one (x ∷ l) {t} i (first p q) =
    once_by t x.text _ (order_of x.text t) refl (λ e. times_none t (texts_of l) (rw e at i.0) i.1) (inl p)
times_one (x ∷ l) {t} i (later h) =
    once_by t x.text _ (order_of x.text t) refl (λ e. times_none t (texts_of l) (rw e at i.0) i.1) (inr (times_one l i.1 h))

-- ---- enter

-- how a run of `enter` went: the laws below go by its cases
pub data Entering (limit : ℕ) : List Entry → List Entry → List Entry → Type 0 where
  ended : {l : List Entry} → Entering limit [] l l
  stopped : {c : Entry} {cs l : List Entry} → limit ≤ length l → Entering limit (c ∷ cs) l l
  entered : {c : Entry} {cs l r : List Entry} → length l < limit → length c.text ≤ 128 → Entering limit cs (insert c l) r
      → Entering limit (c ∷ cs) l r

pub held_eq : (l r : List Entry) → next_set l ≡ next_set r → l ≡ r
held_eq l r e = cc

run_by : (limit : ℕ) (c : Entry) (cs l r : List Entry) (p q : Bool) (o : NextSet) → leb limit (length l) ≡ p → ltb 128 (length c.text) ≡ q
    → (o ≡ next_set r → Entering limit cs (insert c l) r) → pick p (next_set l) (pick q overlong o) ≡ next_set r → Entering limit (c ∷ cs) l r
unfolding pick
run_by limit c cs l r true q o ep eq ih e = rw (← held_eq l r e) (stopped (leb-true limit (length l) ep))
run_by limit c cs l r false true o ep eq ih e = clash (cc)
run_by limit c cs l r false false o ep eq ih e = entered (leb-false limit (length l) ep) (ltb-false 128 (length c.text) eq) (ih e)

pub enter_run : (limit : ℕ) (cs l r : List Entry) → enter limit cs l ≡ next_set r → Entering limit cs l r
unfolding enter
enter_run limit [] l r e = rw (← held_eq l r e) ended
enter_run limit (c ∷ cs) l r e =
    run_by limit c cs l r (leb limit (length l)) (ltb 128 (length c.text)) (enter limit cs (insert c l)) refl refl (enter_run limit cs (insert c l) r) e

module _ {limit : ℕ} where
  -- what is held at the end was there, or was to come in
  pub enter_sound : {cs l r : List Entry} {t : Text} {g : LanguageSet} → Entering limit cs l r → Holds r t g → Holds cs t g ⊎ Holds l t g
  enter_sound ended h = inr h
  enter_sound (stopped full) h = inr h
  enter_sound {t} {g} (entered {c = c} {cs = cs} {l = l} room short run) h = old (enter_sound run h)
    where
      new : ((c.text ≡ t) × (c.langs ≡ g)) ⊎ Holds l t g → Holds (c ∷ cs) t g ⊎ Holds l t g
      new (inl w) = inl (first w.0 w.1)
      new (inr k) = inr k

      old : Holds cs t g ⊎ Holds (insert c l) t g → Holds (c ∷ cs) t g ⊎ Holds l t g
      old (inl k) = inl (later k)
      old (inr k) = new (insert_sound c l k)

  -- what was there stays
  pub enter_keeps : {cs l r : List Entry} {t : Text} {g : LanguageSet} → Entering limit cs l r → Holds l t g → Holds r t g
  enter_keeps ended h = h
  enter_keeps (stopped full) h = h
  enter_keeps (entered room short run) h = enter_keeps run (insert_keeps _ _ h)

  pub enter_increasing : {cs l r : List Entry} → Entering limit cs l r → Increasing (texts_of l) → Increasing (texts_of r)
  enter_increasing ended i = i
  enter_increasing (stopped full) i = i
  enter_increasing (entered room short run) i = enter_increasing run (insert_increasing _ _ i)

  -- below the limit every text that was to come in is there, perhaps with other languages
  pub enter_has : {cs l r : List Entry} {t : Text} {g : LanguageSet} → Entering limit cs l r → length r < limit → Holds cs t g
      → (h : LanguageSet) × Holds r t h
  enter_has (ended) few k = elim k [ ]
  enter_has (stopped full) few k =
      let nothing : ⊥ = omega arith in
      absurd nothing
  enter_has {t} (entered {c = c} {l = l} {r = r} room short run) few (first p q) =
      let came = insert_has c l in
      (came.0, subst (λ (s : Text). Holds r s came.0) p (enter_keeps run came.1))
  enter_has (entered room short run) few (later k) = enter_has run few k
