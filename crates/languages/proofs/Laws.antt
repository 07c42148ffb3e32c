-- What the crates above use of language sets and of listed names. Assumes nothing.
use Rattle.std.specs.Prelude.{Option, Some, None}
use mathlib.Core.Path.{◌≡◌, refl, sym, ap, ◌∙◌}
use mathlib.Core.Bool.{Bool, true, false}
use mathlib.Core.Logic.{◌⊎◌, inl, inr}
use mathlib.Core.List.{List, [], ◌∷◌}
use Prim.Native.Nat.{ℕ, suc, ◌^◌, ◌≤◌, ◌<◌, min}
use native.Mathlib.Omega.{arith}
use native.Mathlib.Nat.{lt_of_lt_of_le, lt_of_le_of_lt, lt_of_not-le, not-le_of_lt, le_of_suc-le-suc, not-suc-le-zero}
use lib.Count.{ones, count_trailing_zeros}
use lib.Bits.{bit_and, bit_or, and_lt, or_lt, and_le_l, and_zero_l, or_zero_l, or_add_and}
use lib.Dec.{eqb, ltb}
use lib.ListN.{length, get_or}
use lib.Pow.{pow-lt, pow_mono}
use borrow.Author.Tests.{eqb-true, eqb-false, ne_eqb, ltb-true, leb-true}
use Rattle.base.specs.Pick.{pick}
use Rattle.base.proofs.Bits.{and_over_or, single_is}
use Rattle.letters.specs.Order.{same_text}
use Rattle.languages.specs.Sets.{narrowed, merged, is_empty, single_of, without}
use Rattle.languages.specs.Names.{language_name, name_place, bit_at, language_bit}
use Rattle.strings.specs.Reading.{strings_of}
use Rattle.languages.specs.declared.sets.LanguageSet.{LanguageSet}
use Rattle.languages.specs.declared.sets.LanguageSet.TheVariants.{Any, NoLanguages, SomeLanguages}
use Rattle.base.proofs.PickLaws.{and_inv}
use Rattle.languages.specs.InnerContracts.{BitsBelow}
use Rattle.base.proofs.Arms.{clash}
use Rattle.letters.proofs.OrderLaws.{same_is}

-- ---- sets with bits of the first n languages only

narrow_in : (n : ℕ) (a b : LanguageSet) → BitsBelow n a → BitsBelow n b → BitsBelow n (narrowed a b)
unfolding BitsBelow narrowed
narrow_in n a Any p q = p
narrow_in n a NoLanguages p q = tt
narrow_in n Any (SomeLanguages y) p q = q
narrow_in n NoLanguages (SomeLanguages y) p q = tt
narrow_in n (SomeLanguages x) (SomeLanguages y) p q = and_lt n x y p q

merge_in : (n : ℕ) (a b : LanguageSet) → BitsBelow n a → BitsBelow n b → BitsBelow n (merged a b)
unfolding BitsBelow merged
merge_in n a Any p q = tt
merge_in n a NoLanguages p q = p
merge_in n Any (SomeLanguages y) p q = tt
merge_in n NoLanguages (SomeLanguages y) p q = q
merge_in n (SomeLanguages x) (SomeLanguages y) p q = or_lt n x y p q

-- narrowing keeps to them
pub narrow_below : (n : ℕ) (a b r : LanguageSet) → r ≡ narrowed a b → BitsBelow n a → BitsBelow n b → BitsBelow n r
narrow_below n a b r e p q = rw e (narrow_in n a b p q)

-- merging keeps to them
pub merge_below : (n : ℕ) (a b r : LanguageSet) → r ≡ merged a b → BitsBelow n a → BitsBelow n b → BitsBelow n r
merge_below n a b r e p q = rw e (merge_in n a b p q)

-- subtracting keeps to them
pub without_below : (n x y r : ℕ) → r ≡ without x y → x < 2 ^ n → r < 2 ^ n
unfolding without
without_below n x y r e p = rw e (lt_of_le_of_lt (and_le_l x _) p)

-- Any and None have no bits
pub any_below : (n : ℕ) → BitsBelow n Any
unfolding BitsBelow
any_below n = tt

pub none_below : (n : ℕ) → BitsBelow n NoLanguages
unfolding BitsBelow
none_below n = tt

-- a mask's set keeps to them where the mask is below 2 ^ n
pub mask_below : (n x : ℕ) → x < 2 ^ n → BitsBelow n (SomeLanguages x)
unfolding BitsBelow
mask_below n x p = p

-- ---- narrowing by a merged set

or_either : (x y : ℕ) (t : Bool) → eqb x 0 ≡ t → eqb (bit_or x y) 0 ≡ false → (eqb x 0 ≡ false) ⊎ (eqb y 0 ≡ false)
or_either x y true p h = inr (rw (eqb-true x 0 p, or_zero_l y) at h)
or_either x y false p h = inl p

or_second : (x y : ℕ) → eqb y 0 ≡ false → eqb (bit_or x y) 0 ≡ false
or_second x y h = ne_eqb (bit_or x y) 0 (λ z. eqb-false y 0 h (omega (arith, or_add_and x y, and_le_l x y)))

-- where something is left of g, something is left by one of both
pub narrow_merged : (g a b : LanguageSet) → is_empty (narrowed g (merged a b)) ≡ false → (is_empty (narrowed g a) ≡ false) ⊎ (is_empty (narrowed g b) ≡ false)
unfolding narrowed merged is_empty
narrow_merged g a Any h = inr h
narrow_merged g a NoLanguages h = inl h
narrow_merged g Any (SomeLanguages y) h = inl h
narrow_merged g NoLanguages (SomeLanguages y) h = inr h
narrow_merged Any (SomeLanguages x) (SomeLanguages y) h = or_either x y _ refl h
narrow_merged NoLanguages (SomeLanguages x) (SomeLanguages y) h = inl h
narrow_merged (SomeLanguages m) (SomeLanguages x) (SomeLanguages y) h = or_either (bit_and m x) (bit_and m y) _ refl (rw (and_over_or m x y) at h)

-- what the second leaves of g, both leave
pub narrow_second : (g a b : LanguageSet) → is_empty (narrowed g b) ≡ false → is_empty (narrowed g (merged a b)) ≡ false
unfolding narrowed merged is_empty
narrow_second g a Any h = h
narrow_second g a NoLanguages h = clash (cc)
narrow_second Any Any (SomeLanguages y) h = refl
narrow_second NoLanguages Any (SomeLanguages y) h = h
narrow_second (SomeLanguages m) Any (SomeLanguages y) h = ne_eqb m 0 (λ z. eqb-false (bit_and m y) 0 h (ap (λ (n : ℕ). bit_and n y) z ∙ and_zero_l y))
narrow_second g NoLanguages (SomeLanguages y) h = h
narrow_second Any (SomeLanguages x) (SomeLanguages y) h = or_second x y h
narrow_second NoLanguages (SomeLanguages x) (SomeLanguages y) h = h
narrow_second (SomeLanguages m) (SomeLanguages x) (SomeLanguages y) h = rw (and_over_or m x y) (or_second (bit_and m x) (bit_and m y) h)

-- ---- the single language of a set

pow_back : (k n : ℕ) → 2 ^ k < 2 ^ n → k < n
pow_back k n h = lt_of_not-le (λ l. not-le_of_lt h (pow_mono l))

-- the set is the bit of its language, which is one of the n
record IsOne (n : ℕ) (a : LanguageSet) (l : ℕ) : Type 0 where
  set : a ≡ SomeLanguages (2 ^ l)
  within : l < n

one_by : (n m l : ℕ) (t : Bool) → n ≤ 32 → m < 2 ^ n → eqb (ones m) 1 ≡ t → pick t (Some (count_trailing_zeros 32 m)) None ≡ Some l
    → IsOne n (SomeLanguages m) l
unfolding pick
one_by n m l false h k p e = clash (cc)
one_by n m l true h k p e =
    let is = single_is 32 m (lt_of_lt_of_le k (pow_mono h)) (eqb-true _ _ p) in
    let place : count_trailing_zeros 32 m ≡ l = cc in
    let power : m ≡ 2 ^ l = is.0 ∙ ap (λ (i : ℕ). 2 ^ i) place in
    record { set = ap SomeLanguages power; within = pow_back l n (rw power at k) }

is_one : (n : ℕ) (a : LanguageSet) (l : ℕ) → n ≤ 32 → BitsBelow n a → single_of a ≡ Some l → IsOne n a l
unfolding BitsBelow single_of
is_one n Any l h k e = clash (cc)
is_one n NoLanguages l h k e = clash (cc)
is_one n (SomeLanguages m) l h k e = one_by n m l _ h k refl e

module _ (n : ℕ) (a : LanguageSet) (l : ℕ) (r : Option ℕ) (h : n ≤ 32) (k : BitsBelow n a) (p : r ≡ single_of a) (e : r ≡ Some l) where
  -- a single set is the bit of its language
  pub single_set : a ≡ SomeLanguages (2 ^ l)
  single_set = (is_one n a l h k (sym p ∙ e)).set

  -- and that is one of the n languages
  pub single_below : l < n
  single_below = (is_one n a l h k (sym p ∙ e)).within

-- ---- a name that is listed

found_cons : (name t : List ℕ) (ts : List (List ℕ)) (p : ℕ) (b : Bool) → same_text t name ≡ b → (p < length ts → get_or ts p [] ≡ name)
    → pick b 0 (suc p) < length (t ∷ ts) → get_or (t ∷ ts) (pick b 0 (suc p)) [] ≡ name
unfolding pick
found_cons name t ts p true e ih h = same_is t name e
found_cons name t ts p false e ih h = ih (le_of_suc-le-suc h)

found : (name : List ℕ) (ts : List (List ℕ)) → name_place name ts < length ts → get_or ts (name_place name ts) [] ≡ name
unfolding name_place
found name [] h = absurd (not-suc-le-zero h)
found name (t ∷ ts) h = found_cons name t ts (name_place name ts) _ refl (found name ts) h

-- a listed name is the string at its place, one of the first 32, and its bit is 2 to the place
pub record IsListed (s name : List ℕ) (b : ℕ) : Type 0 where
  pub place : ℕ
  pub bit : b ≡ 2 ^ place
  pub below : place < 32
  pub there : place < length (strings_of s)
  pub string : get_or (strings_of s) place [] ≡ name

listed_by : (s name : List ℕ) (b : ℕ) (t : Bool) → ltb (name_place name (strings_of s)) (min 32 (length (strings_of s))) ≡ t
    → pick t (Some (2 ^ name_place name (strings_of s))) None ≡ Some b → IsListed s name b
unfolding pick
listed_by s name b false p e = clash (cc)
listed_by s name b true p e =
    let there : name_place name (strings_of s) < length (strings_of s) = omega (arith, ltb-true) in
    record { place = name_place name (strings_of s); bit = cc; below = omega (arith, ltb-true); there = there; string = found name (strings_of s) there }

module _ (s name : List ℕ) (b : ℕ) (r : Option ℕ) (p : r ≡ language_bit s name) (e : r ≡ Some b) where
  -- which string a name is whose bit was found
  pub is_listed_lem : IsListed s name b
  unfolding language_bit bit_at
  is_listed_lem = listed_by s name b _ refl (sym p ∙ e)

  -- its bit fits a mask
  pub bit_below : b < 2 ^ 32
  bit_below = let l = is_listed_lem in rw l.bit (pow-lt l.below)

  -- and is one of the list's
  pub bit_held : b < 2 ^ length (strings_of s)
  bit_held = let l = is_listed_lem in rw l.bit (pow-lt l.there)

-- ---- a language name has a letter

pub name_some : (t : List ℕ) → language_name t ≡ true → 1 ≤ length t
unfolding language_name
name_some t e = leb-true _ _ (and_inv _ _ e).0
