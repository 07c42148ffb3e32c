-- The order of sets of languages, from None to Any, and what an order is.
use Rattle.std.specs.Prelude.{◌≡◌, ℕ, ◌/◌, ◌%◌, ◌^◌}
use Prim.{Unit}
use Rattle.languages.specs.declared.sets.LanguageSet.{LanguageSet}
use Rattle.languages.specs.declared.sets.LanguageSet.TheVariants.{Any, NoLanguages, SomeLanguages}

-- language k is one of the set's: "kept as a bit each" (01, Language sets)
unfoldable pub HasLanguage : LanguageSet → ℕ → Type 0
HasLanguage Any k = Unit {0}
HasLanguage NoLanguages k = ⊥
HasLanguage (SomeLanguages x) k = x / 2 ^ k % 2 ≡ 1

-- None is below every set and every set below Any; of two Some the one is below whose languages the other has too
pub data SetBelow : LanguageSet → LanguageSet → Type 0 where
  none_least : {y : LanguageSet} → SetBelow NoLanguages y
  any_greatest : {x : LanguageSet} → SetBelow x Any
  some_among : {x y : ℕ} → ((k : ℕ) → HasLanguage (SomeLanguages x) k → HasLanguage (SomeLanguages y) k)
      → SetBelow (SomeLanguages x) (SomeLanguages y)

abbrev pub SetAbove : LanguageSet → LanguageSet → Type 0
SetAbove x y = SetBelow y x

pub record PartialOrder (R : LanguageSet → LanguageSet → Type 0) : Type 0 where
  pub reflexive : (x : LanguageSet) → R x x
  pub transitive : (x y z : LanguageSet) → R x y → R y z → R x z
  pub antisymmetric : (x y : LanguageSet) → R x y → R y x → x ≡ y

-- m stands before x and before y, and whatever stands before both stands before m
pub record LastBeforeBoth (R : LanguageSet → LanguageSet → Type 0) (x y m : LanguageSet) : Type 0 where
  pub first : R m x
  pub second : R m y
  pub last : (z : LanguageSet) → R z x → R z y → R z m
