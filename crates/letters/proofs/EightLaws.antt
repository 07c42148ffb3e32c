-- Texts that are alike as far as index i, and on by as many bytes as one number tells: eight bytes that are the same number are the same. Assumes nothing.
use mathlib.Core.Path.{◌≡◌, refl, sym, ◌∙◌}
use mathlib.Core.List.{List, ◌∷◌}
use Prim.Native.Nat.{ℕ, zero, suc, ◌+◌, ◌*◌, ◌≤◌, ◌<◌, min, zero-le}
use native.Mathlib.Numerals.{add-one, add-one-le, unary_clauses}
use native.Mathlib.Decide.{dec_lt}
use native.Mathlib.Omega.{arith}
use mir.Syntax.{w8}
use mir.Val.{Fits}
use lib.ListN.{length, drop, get_or, drop_of_length-le}
use lib.Seq.{drop-cons}
use borrow.Author.Rules.{rules}
use borrow.Author.Tests.{le-ltb}
use Rattle.base.specs.Pick.{pick}
use Rattle.letters.specs.Order.{order_of}
use Rattle.letters.specs.OrderContracts.{Left, EightIs, low_first}
use Rattle.std.specs.declared.cmp.Ordering.{Ordering}
use Rattle.std.specs.declared.cmp.Ordering.TheVariants.{Less, Equal, Greater}
use Rattle.std.specs.Ordering.{nat_cmp}
use Rattle.std.proofs.lemmas.Bool.Decides.{nat_tests}

module _ {A : Type 0} {f : List ℕ → List ℕ → A} {a b : List ℕ} where
  pub left_start : Left A f a b 0
  left_start = record { in_a = zero-le; in_b = zero-le; rest = refl }

  pub left_next : {i : ℕ} → Left A f a b i → i < length a → i < length b
      → f (get_or a i 0 ∷ drop (suc i) a) (get_or b i 0 ∷ drop (suc i) b) ≡ f (drop (suc i) a) (drop (suc i) b) → Left A f a b (i + 1)
  left_next {i} l ha hb e = record {
    in_a = add-one-le ha;
    in_b = add-one-le hb;
    rest = rw add-one (sym e ∙ rw (drop-cons a i 0, drop-cons b i 0) at l.rest);
  }

module _ (a b : List ℕ) (n : ℕ) (e : n ≡ min (length a) (length b)) (i : ℕ) (h : i < n) where
  pub order_a : i < length a
  order_a = omega arith

  pub order_b : i < length b
  order_b = omega arith

module _ {a b : List ℕ} {i : ℕ} (c : Left Ordering order_of a b i) (n : ℕ) (e : n ≡ min (length a) (length b)) where
  module _ (h : i < n) where
    pub order_next : get_or a i 0 ≡ get_or b i 0 → Left Ordering order_of a b (i + 1)
    unfolding order_of pick
    order_next s = left_next c (order_a a b n e i h) (order_b a b n e i h)
        (simp (le-ltb (get_or a i 0) (get_or b i 0) (omega arith), le-ltb (get_or b i 0) (get_or a i 0) (omega arith)))

-- as many bytes as are told by one number
pub alike_over : {a b : List ℕ} (n i j : ℕ) → j ≡ i + n → ((k : ℕ) → Fits w8 (get_or a k 0)) → ((k : ℕ) → Fits w8 (get_or b k 0))
    → low_first n a i ≡ low_first n b i → j ≤ min (length a) (length b) → Left Ordering order_of a b i → Left Ordering order_of a b j
unfolding low_first
alike_over zero i j p sa sb e h c = let same : i ≡ j = omega arith in rw same at c
alike_over {a} {b} (suc n) i j p sa sb e h c =
    let first : get_or a i 0 ≡ get_or b i 0 = omega (arith, sa i, sb i) in
    let others : low_first n a (suc i) ≡ low_first n b (suc i) = omega (arith, sa i, sb i) in
    let one : Left Ordering order_of a b (suc i) = rw add-one at (order_next c (min (length a) (length b)) refl (omega arith) first) in
    alike_over n (suc i) j (omega arith) sa sb others h one

pub order_eight : {a b : List ℕ} {n i x y : ℕ} → Left Ordering order_of a b i → EightIs a i x → EightIs b i y → x ≡ y → i + 8 ≤ n
    → n ≤ length a → n ≤ length b → Left Ordering order_of a b (i + 8)
order_eight {a} {b} {n} {i} c p q e h ha hb = alike_over 8 i (i + 8) refl p.small q.small (sym p.is ∙ e ∙ q.is) (omega arith) c

-- eight bytes, the numbers of which are at hand
pub eight_is : {s : List ℕ} {i x₀ x₁ x₂ x₃ x₄ x₅ x₆ x₇ : ℕ} → ((k : ℕ) → Fits w8 (get_or s k 0))
    → x₀ ≡ get_or s i 0 → x₁ ≡ get_or s (i + 1) 0 → x₂ ≡ get_or s (i + 2) 0 → x₃ ≡ get_or s (i + 3) 0
    → x₄ ≡ get_or s (i + 4) 0 → x₅ ≡ get_or s (i + 5) 0 → x₆ ≡ get_or s (i + 6) 0 → x₇ ≡ get_or s (i + 7) 0
    → EightIs s i (x₀ + 256 * (x₁ + 256 * (x₂ + 256 * (x₃ + 256 * (x₄ + 256 * (x₅ + 256 * (x₆ + 256 * x₇)))))))
unfolding low_first
eight_is {s} {i} small e₀ e₁ e₂ e₃ e₄ e₅ e₆ e₇ = record { is = simp (unary_clauses, e₀, e₁, e₂, e₃, e₄, e₅, e₆, e₇); small = small }

-- two bytes that differ decide, whatever follows
unlike_by : (x y : ℕ) (xs ys : List ℕ) → (x ≡ y → ⊥) → nat_cmp x y ≡ order_of (x ∷ xs) (y ∷ ys)
unfolding order_of pick
unlike_by x y xs ys u = grind (arith, nat_tests, u)

module _ {a b : List ℕ} {i : ℕ} (c : Left Ordering order_of a b i) (n : ℕ) (e : n ≡ min (length a) (length b)) where
  pub order_unlike : i < n → (get_or a i 0 ≡ get_or b i 0 → ⊥) → (r : Ordering) → r ≡ nat_cmp (get_or a i 0) (get_or b i 0) → r ≡ order_of a b
  order_unlike h u r q =
      let ha = order_a a b n e i h in
      let hb = order_b a b n e i h in
      q ∙ unlike_by (get_or a i 0) (get_or b i 0) (drop (suc i) a) (drop (suc i) b) u ∙ rw (drop-cons a i 0, drop-cons b i 0) at c.rest

  module _ (h : n ≤ i) where
    pub order_long : length b < length a → Greater ≡ order_of a b
    unfolding order_of
    order_long l =
        let ha : i < length a = omega (arith, c.in_b) in
        let hb : length b ≤ i = omega arith in
        rw (drop-cons a i 0, drop_of_length-le b hb) at c.rest

    pub order_short : length a < length b → Less ≡ order_of a b
    unfolding order_of
    order_short l =
        let ha : length a ≤ i = omega arith in
        let hb : i < length b = omega (arith, c.in_a) in
        rw (drop_of_length-le a ha, drop-cons b i 0) at c.rest

    pub order_end : length a ≤ length b → length b ≤ length a → Equal ≡ order_of a b
    unfolding order_of
    order_end l m =
        let ha : length a ≤ i = omega arith in
        let hb : length b ≤ i = omega arith in
        rw (drop_of_length-le a ha, drop_of_length-le b hb) at c.rest

    -- where one text ends the lengths decide
    pub order_over : (r : Ordering) → r ≡ nat_cmp (length a) (length b) → r ≡ order_of a b
    order_over r q = q ∙ elim (dec_lt (length a) (length b)) [
      | yes l ↦ let s = order_short l in grind (arith, nat_tests, s)
      | no l ↦ elim (dec_lt (length b) (length a)) [
        | yes m ↦ let s = order_long m in grind (arith, nat_tests, s)
        | no m ↦ let s = order_end (omega arith) (omega arith) in grind (arith, nat_tests, s)
      ]
    ]

pub ruleset eight_laws = (left_start, eight_is, order_eight, order_next, order_unlike, order_over, rules)
