-- Laws of sets as numbers: narrowing is `&` and the test, merging is `|`, and a set is empty where nothing stands below bit 32. Assumes nothing.
use Rattle.std.specs.Prelude.{Option, Some, None}
use mathlib.Core.Path.{◌≡◌, refl, sym, ap, ap₂, ◌∙◌}
use mathlib.Core.Bool.{Bool, true, false}
use mathlib.Core.Logic.{◌⊎◌}
use Prim.Native.Nat.{ℕ, ◌+◌, ◌-◌, ◌*◌, ◌^◌, ◌%◌, ◌<◌}
use native.Mathlib.Omega.{arith}
use lib.Bits.{bit_and, bit_or, and_block, or_block, and_mask, and_comm, or_comm, and_zero_l, and_zero_r, or_zero_l, or_zero_r, or_add_and}
use lib.Dec.{eqb}
use borrow.Author.Tests.{lt-ltb, le-ltb, eqb-true}
use Rattle.base.specs.Pick.{pick}
use Rattle.languages.specs.Sets.{narrowed, merged, is_empty}
use Rattle.languages.specs.InnerContracts.{coded, decoded, left_of, codes_narrowed, codes_merged, IsCode, BitsBelow}
use Rattle.languages.specs.declared.sets.LanguageSet.{LanguageSet}
use Rattle.languages.specs.declared.sets.LanguageSet.TheVariants.{Any, NoLanguages, SomeLanguages}
use Rattle.base.proofs.Arms.{clash}
use Rattle.languages.proofs.Laws.{narrow_below, merge_below, narrow_merged, narrow_second}

-- ---- the parts below bit 32 and from there on

all_ones : (x : ℕ) → x < 2 ^ 32 → bit_and x (2 ^ 32 - 1) ≡ x
all_ones x h = and_mask x 32 ∙ omega arith

module _ (a b x y : ℕ) (hx : x < 2 ^ 32) (hy : y < 2 ^ 32) where
  and_parts : bit_and (a * 2 ^ 32 + x) (b * 2 ^ 32 + y) ≡ bit_and a b * 2 ^ 32 + bit_and x y
  and_parts = and_block 32 a b x y hx hy

  or_parts : bit_or (a * 2 ^ 32 + x) (b * 2 ^ 32 + y) ≡ bit_or a b * 2 ^ 32 + bit_or x y
  or_parts = or_block 32 a b x y hx hy

or_ones : (x : ℕ) → x < 2 ^ 32 → bit_or x (2 ^ 32 - 1) ≡ 2 ^ 32 - 1
or_ones x h = omega (arith, or_add_and x (2 ^ 32 - 1), all_ones x h)

-- ---- the laws

and_coded : (a b : LanguageSet) → BitsBelow 32 a → BitsBelow 32 b → coded (narrowed a b) ≡ bit_and (coded a) (coded b)
unfolding BitsBelow narrowed coded
and_coded Any Any p q = refl
and_coded NoLanguages Any p q = sym (and_zero_l (2 ^ 34 - 1))
and_coded (SomeLanguages x) Any p q = sym (and_parts 1 3 x (2 ^ 32 - 1) p (omega arith) ∙ ap (λ (n : ℕ). 2 ^ 32 + n) (all_ones x p))
and_coded a NoLanguages p q = sym (and_zero_r (coded a))
and_coded Any (SomeLanguages y) p q =
    sym (and_comm (2 ^ 34 - 1) (2 ^ 32 + y) ∙ and_parts 1 3 y (2 ^ 32 - 1) q (omega arith) ∙ ap (λ (n : ℕ). 2 ^ 32 + n) (all_ones y q))
and_coded NoLanguages (SomeLanguages y) p q = sym (and_zero_l (2 ^ 32 + y))
and_coded (SomeLanguages x) (SomeLanguages y) p q = sym (and_parts 1 1 x y p q)

or_coded : (a b : LanguageSet) → BitsBelow 32 a → BitsBelow 32 b → coded (merged a b) ≡ bit_or (coded a) (coded b)
unfolding BitsBelow merged coded
or_coded Any Any p q = refl
or_coded NoLanguages Any p q = refl
or_coded (SomeLanguages x) Any p q = sym (or_parts 1 3 x (2 ^ 32 - 1) p (omega arith) ∙ ap (λ (n : ℕ). 3 * 2 ^ 32 + n) (or_ones x p))
or_coded a NoLanguages p q = sym (or_zero_r (coded a))
or_coded Any (SomeLanguages y) p q =
    sym (or_comm (2 ^ 34 - 1) (2 ^ 32 + y) ∙ or_parts 1 3 y (2 ^ 32 - 1) q (omega arith) ∙ ap (λ (n : ℕ). 3 * 2 ^ 32 + n) (or_ones y q))
or_coded NoLanguages (SomeLanguages y) p q = sym (or_zero_l (2 ^ 32 + y))
or_coded (SomeLanguages x) (SomeLanguages y) p q = sym (or_parts 1 1 x y p q)

mod_coded : (x : ℕ) → x < 2 ^ 32 → (2 ^ 32 + x) % 2 ^ 32 ≡ x
mod_coded x h = omega arith

empty_coded : (a : LanguageSet) → BitsBelow 32 a → is_empty a ≡ eqb (coded a % 2 ^ 32) 0
unfolding BitsBelow is_empty coded
empty_coded Any p = refl
empty_coded NoLanguages p = refl
empty_coded (SomeLanguages x) p = ap (λ (n : ℕ). eqb n 0) (sym (mod_coded x p))

-- of two sets as they are held in use, the operation is document 01's narrowing and its test together
pub narrow_and_test : (a b : LanguageSet) → BitsBelow 32 a → BitsBelow 32 b → codes_narrowed (coded a) (coded b) ≡ left_of (narrowed a b)
unfolding codes_narrowed left_of
narrow_and_test a b p q = rw (← and_coded a b p q, empty_coded (narrowed a b) (narrow_below 32 a b _ refl p q))

-- whatever two numbers are narrowed, no empty set is left
empty_low : (s : LanguageSet) → is_empty s ≡ true → eqb (coded s % 2 ^ 32) 0 ≡ true
unfolding is_empty coded
empty_low Any e = e
empty_low NoLanguages e = refl
empty_low (SomeLanguages x) e = ap (λ (n : ℕ). eqb ((2 ^ 32 + n) % 2 ^ 32) 0) (eqb-true x 0 e)

not_empty_by : (n : ℕ) (s : LanguageSet) (t u : Bool) → eqb (n % 2 ^ 32) 0 ≡ t → is_empty s ≡ u → pick t None (Some n) ≡ Some (coded s) → u ≡ false
unfolding pick
not_empty_by n s true u p q e = clash (cc)
not_empty_by n s false false p q e = refl
not_empty_by n s false true p q e =
    let is : n ≡ coded s = cc in
    let low = empty_low s q in
    clash (cc)

pub left_not_empty : (a b : ℕ) (s : LanguageSet) → codes_narrowed a b ≡ Some (coded s) → is_empty s ≡ false
unfolding codes_narrowed
left_not_empty a b s e = not_empty_by (bit_and a b) s _ _ refl refl e

pub decoded_coded : (a : LanguageSet) → BitsBelow 32 a → decoded (coded a) ≡ a
unfolding BitsBelow coded decoded pick
decoded_coded Any p = refl
decoded_coded NoLanguages p = refl
decoded_coded (SomeLanguages x) p =
    let high : 2 ^ 32 + x < 2 ^ 33 = omega arith in
    let rest : 2 ^ 32 + x - 2 ^ 32 ≡ x = omega arith in
    simp (le-ltb (2 ^ 32 + x) (2 ^ 32) (omega arith), lt-ltb (2 ^ 32 + x) (2 ^ 33) high, rest)

-- ---- the same of numbers that stand for sets

pub is_code : (a : LanguageSet) → BitsBelow 32 a → IsCode (coded a)
is_code a p = record { set = a; below = p; is = refl }

decoded_is : {x : ℕ} (c : IsCode x) → decoded x ≡ c.set
decoded_is c = ap decoded c.is ∙ decoded_coded c.set c.below

-- the number x is that of the set s, which is not empty
pub record IsLeft (s : LanguageSet) (x : ℕ) : Type 0 where
  pub code : IsCode x
  pub is : decoded x ≡ s
  pub some : is_empty s ≡ false

-- what an answer tells of the set s
unfoldable pub TellsOf : LanguageSet → Option ℕ → Type 0
TellsOf s None = is_empty s ≡ true
TellsOf s (Some x) = IsLeft s x

left_tells : (s : LanguageSet) (t : Bool) → BitsBelow 32 s → is_empty s ≡ t → TellsOf s (pick t None (Some (coded s)))
unfolding pick TellsOf
left_tells s true h p = p
left_tells s false h p = record { code = is_code s h; is = decoded_coded s h; some = p }

module _ {x y : ℕ} (c : IsCode x) (d : IsCode y) where
  -- of numbers that stand for sets, the operation tells of the narrowed set
  pub narrowed_tells : {r : (Option ℕ)} → r ≡ codes_narrowed x y → TellsOf (narrowed (decoded x) (decoded y)) r
  unfolding left_of
  narrowed_tells e =
      rw (e, c.is, d.is, narrow_and_test c.set d.set c.below d.below, decoded_coded c.set c.below, decoded_coded d.set d.below)
      (left_tells _ _ (narrow_below 32 c.set d.set _ refl c.below d.below) refl)

  pub merge_code : IsCode (codes_merged x y)
  unfolding codes_merged
  merge_code = record {
    set = merged c.set d.set;
    below = merge_below 32 c.set d.set _ refl c.below d.below;
    is = ap₂ bit_or c.is d.is ∙ sym (or_coded c.set d.set c.below d.below);
  }

  pub merge_decoded : decoded (codes_merged x y) ≡ merged (decoded x) (decoded y)
  unfolding merge_code
  merge_decoded = decoded_is merge_code ∙ sym (ap₂ merged (decoded_is c) (decoded_is d))

  -- where they leave something of a set merged, one of them does
  pub merged_either : (g : LanguageSet) → is_empty (narrowed g (decoded (codes_merged x y))) ≡ false
      → (is_empty (narrowed g (decoded x)) ≡ false) ⊎ (is_empty (narrowed g (decoded y)) ≡ false)
  merged_either g h = narrow_merged g (decoded x) (decoded y) (rw merge_decoded at h)

  -- where merging y adds nothing to x, what y leaves of a set x leaves too
  pub merged_covers : codes_merged x y ≡ x → (g : LanguageSet) → is_empty (narrowed g (decoded y)) ≡ false → is_empty (narrowed g (decoded x)) ≡ false
  merged_covers e g h = rw (← merge_decoded, e) at (narrow_second g (decoded x) (decoded y) h)

-- no languages leave nothing of a set
pub none_left : (g : LanguageSet) → is_empty (narrowed g (decoded 0)) ≡ true
unfolding decoded pick narrowed is_empty
none_left g = refl

-- merged with no languages, a set stays as it was
pub merge_none : (x : ℕ) → codes_merged x 0 ≡ x
unfolding codes_merged
merge_none x = or_zero_r x
