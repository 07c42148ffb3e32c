-- Two texts as far as they are alike, and eight bytes of a text as one number.
use Rattle.std.specs.Prelude.{◌≡◌, List, ℕ, zero, suc, ◌+◌, ◌*◌, ◌≤◌, length, drop, get_or}
use Rattle.std.specs.Int.{w8}
use Rattle.std.proofs.Common.{Fits}

-- f of what is left from index i on is f of the whole
pub record Left (A : Type 0) (f : List ℕ → List ℕ → A) (a b : List ℕ) (i : ℕ) : Type 0 where
  pub in_a : i ≤ length a
  pub in_b : i ≤ length b
  pub rest : f (drop i a) (drop i b) ≡ f a b

-- the n bytes from a place on as a number, the first one the lowest
unfoldable pub low_first : ℕ → List ℕ → ℕ → ℕ
low_first zero s i = 0
low_first (suc n) s i = get_or s i 0 + 256 * low_first n s (suc i)

-- r is the eight bytes at i
pub record EightIs (s : List ℕ) (i r : ℕ) : Type 0 where
  pub is : r ≡ low_first 8 s i
  pub small : (k : ℕ) → Fits w8 (get_or s k 0)
