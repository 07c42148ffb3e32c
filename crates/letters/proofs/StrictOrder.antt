-- The order of texts is a strict order. Assumes nothing.
use mathlib.Core.Path.{◌≡◌, refl, ap₂, ◌∙◌}
use mathlib.Core.Bool.{Bool, true, false}
use mathlib.Core.Logic.{◌⊎◌, inl, inr}
use mathlib.Core.List.{List, [], ◌∷◌}
use Prim.Native.Nat.{ℕ, ◌<◌}
use native.Mathlib.Omega.{arith}
use lib.Dec.{ltb}
use borrow.Author.Tests.{ltb-true, ltb-false, lt-ltb, le-ltb}
use Rattle.base.specs.Pick.{pick}
use Rattle.letters.specs.Order.{order_of}
use Rattle.std.specs.declared.cmp.Ordering.{Ordering}
use Rattle.std.specs.declared.cmp.Ordering.TheVariants.{Less, Equal, Greater}
use Rattle.base.proofs.Arms.{clash}

-- ---- one character

-- the tests of a character's turn, and what they decide
turn : Bool → Bool → Ordering → Ordering
turn p q o = pick p Less (pick q Greater o)

before_turn : (p q : Bool) (o : Ordering) → turn p q o ≡ Less → (p ≡ true) ⊎ ((p ≡ false) × (q ≡ false) × (o ≡ Less))
unfolding pick turn
before_turn true q o e = inl refl
before_turn false true o e = clash (cc)
before_turn false false o e = inr (refl, refl, e)

same_turn : (p q : Bool) (o : Ordering) → turn p q o ≡ Equal → (p ≡ false) × (q ≡ false) × (o ≡ Equal)
unfolding pick turn
same_turn true q o e = clash (cc)
same_turn false true o e = clash (cc)
same_turn false false o e = (refl, refl, e)

after_turn : (p q : Bool) (o : Ordering) → turn p q o ≡ Greater → (q ≡ true) ⊎ ((p ≡ false) × (q ≡ false) × (o ≡ Greater))
unfolding pick turn
after_turn true q o e = clash (cc)
after_turn false true o e = inl refl
after_turn false false o e = inr (refl, refl, e)

module _ (x y : ℕ) (s t : List ℕ) where
  lt_before : x < y → order_of (x ∷ s) (y ∷ t) ≡ Less
  unfolding order_of pick
  lt_before h = simp (lt-ltb _ _ h)

  eq_compare : x ≡ y → order_of (x ∷ s) (y ∷ t) ≡ order_of s t
  unfolding order_of pick
  eq_compare e = simp (le-ltb x y (omega arith), le-ltb y x (omega arith))

  before_cases : order_of (x ∷ s) (y ∷ t) ≡ Less → (x < y) ⊎ ((x ≡ y) × (order_of s t ≡ Less))
  unfolding order_of turn
  before_cases e = go (before_turn (ltb x y) (ltb y x) (order_of s t) e)
    where
      go : (ltb x y ≡ true) ⊎ ((ltb x y ≡ false) × (ltb y x ≡ false) × (order_of s t ≡ Less)) → (x < y) ⊎ ((x ≡ y) × (order_of s t ≡ Less))
      go (inl p) = inl (ltb-true x y p)
      go (inr w) = inr (omega (arith, ltb-false x y w.0, ltb-false y x w.1), w.2)

-- ---- texts

pub compare_same : (s t : List ℕ) → order_of s t ≡ Equal → s ≡ t
unfolding order_of turn
compare_same [] [] e = refl
compare_same [] (y ∷ t) e = cc
compare_same (x ∷ s) [] e = cc
compare_same (x ∷ s) (y ∷ t) e =
    let w = same_turn (ltb x y) (ltb y x) (order_of s t) e in
    let first : x ≡ y = omega (arith, ltb-false x y w.0, ltb-false y x w.1) in
    ap₂ (λ (n : ℕ) (l : List ℕ). n ∷ l) first (compare_same s t w.2)

pub compare_refl : (t : List ℕ) → order_of t t ≡ Equal
unfolding order_of
compare_refl [] = refl
compare_refl (x ∷ t) = eq_compare x x t t refl ∙ compare_refl t

pub compare_flip : (s t : List ℕ) → order_of s t ≡ Greater → order_of t s ≡ Less
unfolding order_of turn
compare_flip [] [] e = cc
compare_flip [] (y ∷ t) e = cc
compare_flip (x ∷ s) [] e = refl
compare_flip (x ∷ s) (y ∷ t) e = go (compare_flip s t) (after_turn (ltb x y) (ltb y x) (order_of s t) e)
  where
    go : (order_of s t ≡ Greater → order_of t s ≡ Less)
        → (ltb y x ≡ true) ⊎ ((ltb x y ≡ false) × (ltb y x ≡ false) × (order_of s t ≡ Greater)) → order_of (y ∷ t) (x ∷ s) ≡ Less
    go ih (inl p) = lt_before y x t s (ltb-true y x p)
    go ih (inr w) = eq_compare y x t s (omega (arith, ltb-false x y w.0, ltb-false y x w.1)) ∙ ih w.2

pub compare_trans : (s t u : List ℕ) → order_of s t ≡ Less → order_of t u ≡ Less → order_of s u ≡ Less
unfolding order_of
compare_trans [] [] u d e = cc
compare_trans [] (y ∷ t) [] d e = cc
compare_trans [] (y ∷ t) (z ∷ u) d e = refl
compare_trans (x ∷ s) [] u d e = cc
compare_trans (x ∷ s) (y ∷ t) [] d e = cc
compare_trans (x ∷ s) (y ∷ t) (z ∷ u) d e = go (compare_trans s t u) (before_cases x y s t d) (before_cases y z t u e)
  where
    go : (order_of s t ≡ Less → order_of t u ≡ Less → order_of s u ≡ Less)
        → (x < y) ⊎ ((x ≡ y) × (order_of s t ≡ Less)) → (y < z) ⊎ ((y ≡ z) × (order_of t u ≡ Less)) → order_of (x ∷ s) (z ∷ u) ≡ Less
    go ih (inl p) (inl q) = lt_before x z s u (omega arith)
    go ih (inl p) (inr w) = lt_before x z s u (omega arith)
    go ih (inr v) (inl q) = lt_before x z s u (omega arith)
    go ih (inr v) (inr w) = eq_compare x z s u (omega arith) ∙ ih v.1 w.1

back_by : (s t : List ℕ) (o : Ordering) → order_of t s ≡ o → order_of s t ≡ Less → o ≡ Greater
back_by s t Less e d = clash (let a = compare_refl s in let b = compare_trans s t s d e in cc)
back_by s t Equal e d = clash (let a = compare_refl t in let b : order_of t t ≡ Less = rw (← compare_same t s e) at d in cc)
back_by s t Greater e d = refl

pub compare_back : (s t : List ℕ) → order_of s t ≡ Less → order_of t s ≡ Greater
compare_back s t d = back_by s t _ refl d
