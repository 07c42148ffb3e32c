-- The laws of request 12, of narrowing and merging as document 01 defines them. Assumes nothing.
use mathlib.Core.Path.{◌≡◌, refl, sym, ap}
use Prim.Native.Nat.{ℕ, zero, suc, ◌≤◌, min, max}
use native.Mathlib.Omega.{arith}
use Rattle.base.proofs.Arms.{clash}
use Rattle.base.proofs.Bits.{bit, bits_ext, and_bit, or_bit}
use Rattle.languages.specs.Sets.{narrowed, merged}
use Rattle.languages.specs.declared.sets.LanguageSet.{LanguageSet}
use Rattle.languages.specs.declared.sets.LanguageSet.TheVariants.{Any, NoLanguages, SomeLanguages}
use Rattle.narrowing.specs.Laws.{Commutative, Associative, Idempotent, Neutral, Absorbs, SpreadsOver}
use Rattle.narrowing.specs.Laws.{Semilattice, DistributiveLattice, Orderless}
use Rattle.narrowing.proofs.Sequences.{orderless_by_laws, spreads_back}

-- ---- a set as zeros and ones: whether it is another than None, whether it is Any, and behind these language by language.
-- Narrowing is the lesser and merging the greater of two such at each place, so a law of sets is one of `min` and `max`

unfoldable profile : LanguageSet → ℕ → ℕ
profile Any k = 1
profile NoLanguages k = 0
profile (SomeLanguages x) zero = 1
profile (SomeLanguages x) (suc zero) = 0
profile (SomeLanguages x) (suc (suc k)) = bit x k

profile_below : (x : LanguageSet) (k : ℕ) → profile x k ≤ 1
unfolding profile
profile_below Any k = omega arith
profile_below NoLanguages k = omega arith
profile_below (SomeLanguages x) zero = omega arith
profile_below (SomeLanguages x) (suc zero) = omega arith
profile_below (SomeLanguages x) (suc (suc k)) = omega arith

narrowed_profile : (x y : LanguageSet) (k : ℕ) → profile (narrowed x y) k ≡ min (profile x k) (profile y k)
unfolding narrowed profile
narrowed_profile x Any k = omega (arith, profile_below x k)
narrowed_profile x NoLanguages k = omega arith
narrowed_profile Any (SomeLanguages y) k = omega (arith, profile_below (SomeLanguages y) k)
narrowed_profile NoLanguages (SomeLanguages y) k = omega arith
narrowed_profile (SomeLanguages x) (SomeLanguages y) zero = refl
narrowed_profile (SomeLanguages x) (SomeLanguages y) (suc zero) = refl
narrowed_profile (SomeLanguages x) (SomeLanguages y) (suc (suc k)) = and_bit x y k

merged_profile : (x y : LanguageSet) (k : ℕ) → profile (merged x y) k ≡ max (profile x k) (profile y k)
unfolding merged profile
merged_profile x Any k = omega (arith, profile_below x k)
merged_profile x NoLanguages k = omega arith
merged_profile Any (SomeLanguages y) k = omega (arith, profile_below (SomeLanguages y) k)
merged_profile NoLanguages (SomeLanguages y) k = omega arith
merged_profile (SomeLanguages x) (SomeLanguages y) zero = refl
merged_profile (SomeLanguages x) (SomeLanguages y) (suc zero) = refl
merged_profile (SomeLanguages x) (SomeLanguages y) (suc (suc k)) = or_bit x y k

same_profile : (x y : LanguageSet) → ((k : ℕ) → profile x k ≡ profile y k) → x ≡ y
unfolding profile
same_profile Any Any h = refl
same_profile Any NoLanguages h = clash (sym (h 0))
same_profile Any (SomeLanguages y) h = clash (sym (h 1))
same_profile NoLanguages Any h = clash (h 0)
same_profile NoLanguages NoLanguages h = refl
same_profile NoLanguages (SomeLanguages y) h = clash (h 0)
same_profile (SomeLanguages x) Any h = clash (h 1)
same_profile (SomeLanguages x) NoLanguages h = clash (sym (h 0))
same_profile (SomeLanguages x) (SomeLanguages y) h = ap SomeLanguages (bits_ext x y (λ k. h (suc (suc k))))

-- ---- the laws

pub narrowing_commutes : Commutative narrowed
narrowing_commutes x y = same_profile _ _ (λ k. simp narrowed_profile (omega arith))

pub merging_commutes : Commutative merged
merging_commutes x y = same_profile _ _ (λ k. simp merged_profile (omega arith))

pub narrowing_associates : Associative narrowed
narrowing_associates x y z = same_profile _ _ (λ k. simp narrowed_profile (omega arith))

pub merging_associates : Associative merged
merging_associates x y z = same_profile _ _ (λ k. simp merged_profile (omega arith))

pub narrowing_gives_back : Idempotent narrowed
narrowing_gives_back x = same_profile _ _ (λ k. simp narrowed_profile (omega arith))

pub merging_gives_back : Idempotent merged
merging_gives_back x = same_profile _ _ (λ k. simp merged_profile (omega arith))

pub any_neutral_for_narrowing : Neutral Any narrowed
unfolding narrowed
any_neutral_for_narrowing x = (refl, narrowing_commutes Any x)

pub none_neutral_for_merging : Neutral NoLanguages merged
unfolding merged
none_neutral_for_merging x = (refl, merging_commutes NoLanguages x)

pub narrowing_absorbs_merging : Absorbs narrowed merged
narrowing_absorbs_merging x y = same_profile _ _ (λ k. simp (narrowed_profile, merged_profile) (omega arith))

pub merging_absorbs_narrowing : Absorbs merged narrowed
merging_absorbs_narrowing x y = same_profile _ _ (λ k. simp (narrowed_profile, merged_profile) (omega arith))

pub narrowing_spreads_over_merging : SpreadsOver narrowed merged
narrowing_spreads_over_merging x y z = same_profile _ _ (λ k. simp (narrowed_profile, merged_profile) (omega arith))

-- ---- together

pub narrowing_semilattice : Semilattice narrowed
narrowing_semilattice = record { commutative = narrowing_commutes; associative = narrowing_associates; idempotent = narrowing_gives_back }

pub merging_semilattice : Semilattice merged
merging_semilattice = record { commutative = merging_commutes; associative = merging_associates; idempotent = merging_gives_back }

-- a distributive lattice, None at the bottom and Any at the top
pub language_lattice : DistributiveLattice narrowed merged NoLanguages Any
language_lattice = record {
  meets = narrowing_semilattice;
  joins = merging_semilattice;
  top_neutral = any_neutral_for_narrowing;
  bottom_neutral = none_neutral_for_merging;
  meet_absorbs = narrowing_absorbs_merging;
  join_absorbs = merging_absorbs_narrowing;
  spreads = narrowing_spreads_over_merging;
}

-- merging spreads over narrowing as well
pub merging_spreads_over_narrowing : SpreadsOver merged narrowed
merging_spreads_over_narrowing = spreads_back language_lattice

-- None and the Some without bits are two sets
pub none_is_not_empty_some : NoLanguages ≡ SomeLanguages 0 → ⊥
none_is_not_empty_some e = clash (cc)

-- ---- so neither order nor repetition matters

pub narrowing_orderless : Orderless narrowed
narrowing_orderless = orderless_by_laws narrowed narrowing_semilattice

pub merging_orderless : Orderless merged
merging_orderless = orderless_by_laws merged merging_semilattice
