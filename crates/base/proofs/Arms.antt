-- A function of an enum at an arm of a `match`: the arm knows which case it is, and some cannot be. Assumes nothing.
use mathlib.Core.Path.{◌≡◌}
use Prim.Native.Nat.{ℕ}
use native.Mathlib.Omega.{arith}

pub told : {A B : Type 0} (f : A → B) (a a' : A) (x : B) → a ≡ a' → x ≡ f a' → x ≡ f a
told f a a' x p e = rw p e

pub told_both : {A B C : Type 0} (f : A → B → C) (a a' : A) (b b' : B) (x : C) → b ≡ b' → a ≡ a' → x ≡ f a' b' → x ≡ f a b
told_both f a a' b b' x q p e = rw (p, q) e

-- a case that cannot be: `clash (cc)`
pub clash : {A : Type 0} → ◌≡◌ {A = ℕ} 0 1 → A
clash e = absurd (omega arith)
