-- Of more numbers than a list has, one is missing in it. So a box that is negated takes some character. Assumes nothing.
use mathlib.Core.Path.{◌≡◌, refl, sym, ap, ◌∙◌}
use mathlib.Core.Bool.{Bool, true, false}
use mathlib.Core.List.{List, [], ◌∷◌}
use Prim.Native.Nat.{ℕ, zero, suc, ◌+◌, ◌-◌, ◌≤◌, ◌<◌}
use native.Mathlib.Omega.{arith}
use lib.Dec.{eqb}
use lib.ListN.{length}
use borrow.Author.Tests.{eqb-true, ne_eqb}
use Rattle.base.specs.Pick.{pick}
use Rattle.base.proofs.Arms.{clash}
use Rattle.base.proofs.PickLaws.{pick_false}
use Rattle.letters.specs.Reading.{Symbol, codes_in, codes_of}
use Rattle.letters.proofs.Utf8Laws.{char_at, ill_in_lem}
use Rattle.letters.proofs.ReadingLaws.{Pieces, end, one, bad, pieces_of}
use Rattle.texts.specs.Parts.{has}
use Rattle.texts.proofs.Chars.{has_cons, has_nil}

-- ---- the list without its first x

unfoldable minus_first : ℕ → List ℕ → List ℕ
minus_first x [] = []
minus_first x (y ∷ l) = pick (eqb y x) l (y ∷ minus_first x l)

module _ (x y : ℕ) (l : List ℕ) where
  shorter_by : (t : Bool) → pick t true (has x l) ≡ true → (has x l ≡ true → suc (length (minus_first x l)) ≡ length l) → suc (length (pick t l (y ∷ minus_first x l))) ≡ suc (length l)
  unfolding pick
  shorter_by true h ih = refl
  shorter_by false h ih = ap suc (ih h)

  others_by : (k : ℕ) (t : Bool) → eqb y x ≡ t → (k ≡ x → ⊥) → has k (minus_first x l) ≡ has k l → has k (pick t l (y ∷ minus_first x l)) ≡ has k (y ∷ l)
  unfolding pick
  others_by k true e n ih = sym (has_cons k y l ∙ pick_false _ _ _ (ne_eqb y k (λ q. n (sym q ∙ eqb-true y x e))))
  others_by k false e n ih = has_cons k y (minus_first x l) ∙ ap (pick (eqb y k) true) ih ∙ sym (has_cons k y l)

shorter : (x : ℕ) (l : List ℕ) → has x l ≡ true → suc (length (minus_first x l)) ≡ length l
unfolding minus_first
shorter x [] h = let none = has_nil x in clash (cc)
shorter x (y ∷ l) h = shorter_by x y l (eqb y x) (sym (has_cons x y l) ∙ h) (shorter x l)

others : (x k : ℕ) (l : List ℕ) → (k ≡ x → ⊥) → has k (minus_first x l) ≡ has k l
unfolding minus_first
others x k [] n = refl
others x k (y ∷ l) n = others_by x y l k (eqb y x) refl n (others x k l n)

-- ---- of the n numbers from m on

pub record Missing (m n : ℕ) (l : List ℕ) : Type 0 where
  pub number : ℕ
  pub from : m ≤ number
  pub below : number < m + n
  pub not_there : has number l ≡ false

look : (m n : ℕ) (l : List ℕ) → ((k : List ℕ) → length k < n → Missing m n k) → length l < suc n → (t : Bool) → has (m + n) l ≡ t → Missing m (suc n) l
look m n l ih h false e = record { number = m + n; from = omega arith; below = omega arith; not_there = e }
look m n l ih h true e =
    let w = ih (minus_first (m + n) l) (omega (arith, shorter (m + n) l e)) in
    record {
      number = w.number;
      from = w.from;
      below = omega (arith, w.below);
      not_there = sym (others (m + n) w.number l (λ q. omega (arith, w.below))) ∙ w.not_there;
    }

pub missing : (m n : ℕ) (l : List ℕ) → length l < n → Missing m n l
missing m zero l h = absurd (omega arith)
missing m (suc n) l h = look m n l (missing m n) h (has (m + n) l) refl

-- ---- a text has no more code points than bytes

few_by : {s : List ℕ} {p : ℕ} {l : List Symbol} → Pieces s p l → length (codes_in l) ≤ length s - p
unfolding codes_in
few_by (end e) = omega arith
few_by {s} {p} (one {k = k} {n = n} e r) = let c = char_at s p k n e in omega (arith, few_by r)
few_by {s} {p} (bad e r) = omega (arith, few_by r, ill_in_lem s p e)

pub few_codes : (s : List ℕ) → length (codes_of s) ≤ length s
unfolding codes_of
few_codes s = omega (arith, few_by (pieces_of s))
