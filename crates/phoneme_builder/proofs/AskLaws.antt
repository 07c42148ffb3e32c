-- Laws for `ask_next`: each question leaves fewer, so that a look asks at most nine texts. Assumes nothing.
use borrow.Author.Rules.{rules}
use borrow.Author.Tests.{eq-eqb, ne_eqb}
use mathlib.Core.Path.{◌≡◌, refl}
use Prim.Native.Nat.{ℕ, zero, suc, ◌+◌, ◌*◌, ◌-◌, ◌/◌, ◌^◌, ◌≤◌, ◌<◌, zero-le}
use native.Mathlib.Nat.{pow-suc, sub-zero}
use native.Mathlib.Omega.{arith}
use lib.Ieee.{size}
use lib.Ieee.Digits.{size-lt, size-le}
use Rattle.base.specs.Pick.{pick}
use Rattle.phoneme_builder.specs.BufferContracts.{asks_last_first, asks_left, AsksNext}

-- half as many have a binary digit fewer
half_fewer : (m d : ℕ) → m * 2 ≤ d → 0 < d → size m < size d
half_fewer m d h some = go (size d) (size-lt d)
  where
    go : (k : ℕ) → d < 2 ^ k → size m < k
    go zero l = absurd (omega arith)
    go (suc k) l = let few = size-le m k (omega (arith, pow-suc 2 k)) in omega arith

module _ {low high n : ℕ} (some : low < high) where
  pub asked_last : high ≡ n → AsksNext low high n (high - 1)
  unfolding asks_left asks_last_first pick
  asked_last e =
      let all = eq-eqb high n e in
      let less = ne_eqb (high - 1) n (λ q. omega arith) in
      let more : high - low ≡ suc (high - 1 - low) = omega arith in
      let none : high - (high - 1 + 1) ≡ 0 = omega arith in
      record { from = omega arith; to = omega arith; fewer_behind = simp (all, none, more) (omega arith); fewer_before = simp (all, less, more) (omega arith) }

  pub asked_middle : high ≤ n → (high ≡ n → ⊥) → AsksNext low high n (low + (high - low) / 2)
  unfolding asks_left pick
  asked_middle in_n e =
      let known = ne_eqb high n e in
      let less = ne_eqb (low + (high - low) / 2) n (λ q. omega arith) in
      record {
        from = omega arith;
        to = omega arith;
        fewer_behind = simp known (half_fewer _ _ (omega arith) (omega arith));
        fewer_before = simp (known, less) (half_fewer _ _ (omega arith) (omega arith));
      }

pub nine_at_most : (n : ℕ) → n ≤ 256 → asks_left 0 n n ≤ 9
unfolding asks_left asks_last_first pick
nine_at_most zero few = zero-le
nine_at_most (suc n) few = let behind = size-le n 8 (omega arith) in simp (eq-eqb (suc n) (suc n) refl, sub-zero) (omega arith)

pub ruleset ask_laws = (asked_last, asked_middle, rules)
