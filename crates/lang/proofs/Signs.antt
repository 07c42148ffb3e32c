-- The signs that no piece holds, by the code's ranges: what each range says is computed, number by number. Assumes nothing.
use mathlib.Core.Path.{◌≡◌, refl, sym, ◌∙◌}
use mathlib.Core.Bool.{Bool, true, false, not}
use mathlib.Core.List.{List, [], ◌∷◌}
use mathlib.Core.Logic.{inl, inr}
use Prim.Native.Nat.{ℕ, ◌+◌, ◌-◌, ◌≤◌, ◌<◌}
use native.Mathlib.Omega.{arith}
use lib.Dec.{T, eqb, ltb, ltb→lt}
use lib.ListN.{replicate, length-replicate}
use types.Run.{OneOf}
use borrow.Author.Rules.{rules}
use borrow.Author.Tests.{ne_eqb}
use Rattle.base.specs.Pick.{pick, and}
use Rattle.base.proofs.Table.{every, at}
use Rattle.texts.specs.Parts.{place_of, has}
use Rattle.lang.specs.Patterns.{signs, plain, box_signs, box_plain}
use Rattle.base.proofs.PickLaws.{and_no, pick_false}

-- what holds from lo on, n numbers long, by one computed test
computed : (f : ℕ → Bool) (lo n k : ℕ) → T (every (λ i x. f (lo + i)) 0 (replicate n 0)) → lo ≤ k → k < lo + n → T (f k)
computed f lo n k t h g =
    let e : lo + (k - lo) ≡ k = omega arith in
    rw e at (at (λ i x. f (lo + i)) (replicate n 0) t (k - lo) (rw length-replicate (omega arith)))

-- the signs that stand in no range
abbrev keys : List ℕ
keys = 36 ∷ 46 ∷ 63 ∷ []

abbrev sign : ℕ → Bool
sign k = has k signs

abbrev plain_or_key : ℕ → Bool
plain_or_key k = pick (has k keys) true (plain k)

sign_no : (k : ℕ) → T (sign k) → false ≡ plain k
unfolding plain
sign_no k t = by (sign k) t
  where
    by : (b : Bool) → T b → false ≡ not b
    by true t = refl
    by false t = absurd t

key_no : (k : ℕ) → (OneOf keys k → ⊥) → has k keys ≡ false
unfolding has place_of pick
key_no k n = simp (ne_eqb 36 k (λ e. n (inl (sym e))), ne_eqb 46 k (λ e. n (inr (inl (sym e)))), ne_eqb 63 k (λ e. n (inr (inr (sym e))))) refl

plain_yes : (k : ℕ) → (OneOf keys k → ⊥) → T (plain_or_key k) → true ≡ plain k
plain_yes k n t = by (plain k) (rw (pick_false (has k keys) true (plain k) (key_no k n)) at t)
  where
    by : (b : Bool) → T b → true ≡ b
    by true t = refl
    by false t = absurd t

pub sign_key : (k : ℕ) → OneOf keys k → false ≡ plain k
unfolding plain has place_of pick signs
sign_key k (inl e) = rw e refl
sign_key k (inr (inl e)) = rw e refl
sign_key k (inr (inr e)) = rw e refl

module _ (k : ℕ) where
  pub sign_40 : 40 ≤ k → k < 44 → false ≡ plain k
  unfolding has place_of pick signs
  sign_40 h g = sign_no k (computed sign 40 4 k tt h g)

  pub sign_91 : 91 ≤ k → k < 95 → false ≡ plain k
  unfolding has place_of pick signs
  sign_91 h g = sign_no k (computed sign 91 4 k tt h g)

  pub sign_123 : 123 ≤ k → k < 126 → false ≡ plain k
  unfolding has place_of pick signs
  sign_123 h g = sign_no k (computed sign 123 3 k tt h g)

  module _ (n : OneOf keys k → ⊥) where
    pub plain_0 : k < 40 → true ≡ plain k
    unfolding plain has place_of pick signs
    plain_0 g = plain_yes k n (computed plain_or_key 0 40 k tt (omega arith) g)

    pub plain_44 : 44 ≤ k → k < 91 → true ≡ plain k
    unfolding plain has place_of pick signs
    plain_44 h g = plain_yes k n (computed plain_or_key 44 47 k tt h g)

    pub plain_95 : 95 ≤ k → k < 123 → true ≡ plain k
    unfolding plain has place_of pick signs
    plain_95 h g = plain_yes k n (computed plain_or_key 95 28 k tt h g)

    pub plain_126 : 126 ≤ k → true ≡ plain k
    unfolding plain has place_of pick signs
    plain_126 h =
        let past : (x : ℕ) → T (ltb x 126) → eqb x k ≡ false = λ x t. ne_eqb x k (λ e. let b = ltb→lt x 126 t in absurd (omega arith)) in
        simp
        (past 92 tt, past 46 tt, past 43 tt, past 42 tt, past 63 tt, past 40 tt, past 41 tt, past 124 tt, past 91 tt, past 93 tt, past 123 tt, past 125 tt, past 94 tt, past 36 tt)

-- ---- a box

abbrev box_keys : List ℕ
box_keys = 38 ∷ 45 ∷ 126 ∷ []

pub box_key : (k : ℕ) → OneOf box_keys k → false ≡ box_plain k
unfolding box_plain has place_of pick box_signs
box_key k (inl e) = and_no _ _ (rw e refl)
box_key k (inr (inl e)) = and_no _ _ (rw e refl)
box_key k (inr (inr e)) = and_no _ _ (rw e refl)

pub box_by : (k : ℕ) (r : Bool) → (OneOf box_keys k → ⊥) → r ≡ plain k → r ≡ box_plain k
unfolding box_plain and has place_of pick box_signs
box_by k r n e =
    let none : not (has k box_signs) ≡ true = simp (ne_eqb 45 k (λ q. n (inr (inl (sym q)))), ne_eqb 38 k (λ q. n (inl (sym q))), ne_eqb 126 k (λ q. n (inr (inr (sym q))))) in
    e ∙ by (plain k) (not (has k box_signs)) none
  where
    by : (a b : Bool) → b ≡ true → a ≡ and a b
    by true b p = sym p
    by false b p = refl

pub ruleset sign_laws = (sign_key, sign_40, sign_91, sign_123, plain_0, plain_44, plain_95, plain_126, box_key, box_by, rules)
