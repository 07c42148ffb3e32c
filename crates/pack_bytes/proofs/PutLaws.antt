-- What is written one after the other. Assumes nothing.
use mathlib.Core.Path.{◌≡◌, ◌∙◌}
use mathlib.Core.List.{List, [], ◌∷◌}
use Prim.Native.Nat.{ℕ, ◌/◌, ◌%◌, ◌^◌, ◌<◌}
use lib.ListN.{length}
use native.Mathlib.Omega.{arith}
use Rattle.std.specs.Int.{w16, w32, to_be_bytes}
use Rattle.writing.specs.InnerContracts.{Put}
use Rattle.writing.proofs.Laws.{put_then}
use Rattle.pack_bytes.specs.Bytes.{count_bytes, mask_bytes}
use Rattle.pack_bytes.specs.InnerContracts.{text_put}
use borrow.Author.Rules.{rules}

module _ (o o₁ o₂ : List ℕ) (at p q : ℕ) where
  pub text_put_lem : (s : List ℕ) → Put o o₁ at p ((length s % 256) ∷ []) → Put o₁ o₂ p q s → Put o o₂ at q (text_put s)
  unfolding text_put
  text_put_lem s x y = put_then x y

-- the bytes of a number, as the code takes them
count_is : (n : ℕ) → n < 2 ^ 16 → to_be_bytes w16 n ≡ count_bytes n
unfolding count_bytes
count_is n h = let high : n / 256 % 256 ≡ n / 256 = omega arith in cc

mask_is : (n : ℕ) → n < 2 ^ 32 → to_be_bytes w32 n ≡ mask_bytes n
unfolding count_bytes mask_bytes
mask_is n h =
    let first : n / 16777216 % 256 ≡ n / 65536 / 256 = omega arith in
    let third : n / 256 % 256 ≡ n % 65536 / 256 = omega arith in
    let fourth : n % 256 ≡ n % 65536 % 256 = omega arith in
    cc

module _ (o o₁ : List ℕ) (at p : ℕ) where
  pub count_put : (n : ℕ) (s : List ℕ) → n < 2 ^ 16 → s ≡ to_be_bytes w16 n → Put o o₁ at p s → Put o o₁ at p (count_bytes n)
  count_put n s h e x = rw (e ∙ count_is n h) at x

  pub mask_put : (n : ℕ) (s : List ℕ) → n < 2 ^ 32 → s ≡ to_be_bytes w32 n → Put o o₁ at p s → Put o o₁ at p (mask_bytes n)
  mask_put n s h e x = rw (e ∙ mask_is n h) at x

pub ruleset put_laws = (text_put_lem, count_put, mask_put, rules)
