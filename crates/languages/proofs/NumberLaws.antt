-- No two sets and no two answers of a list have the same numbers: `-one` reads a promise, `-told` makes one. Assumes nothing.
use Rattle.std.specs.Prelude.{Option, ℕ, Some, None}
use mathlib.Core.Path.{◌≡◌, refl, ap}
use Rattle.refusals.specs.Numbers.{number_of}
use Rattle.languages.specs.Numbers.{set_numbers, listed_numbers}
use Rattle.languages.specs.declared.sets.LanguageSet.{LanguageSet}
use Rattle.languages.specs.declared.sets.LanguageSet.TheVariants.{Any, NoLanguages, SomeLanguages}
use Rattle.base.proofs.Arms.{clash}

pub set_one : (r d : LanguageSet) → set_numbers r ≡ set_numbers d → r ≡ d
unfolding set_numbers
set_one Any Any e = refl
set_one NoLanguages NoLanguages e = refl
set_one (SomeLanguages x) (SomeLanguages y) e = cc
set_one Any NoLanguages e = clash (cc)
set_one Any (SomeLanguages y) e = clash (cc)
set_one NoLanguages Any e = clash (cc)
set_one NoLanguages (SomeLanguages y) e = clash (cc)
set_one (SomeLanguages x) Any e = clash (cc)
set_one (SomeLanguages x) NoLanguages e = clash (cc)

pub set_told : (r d : LanguageSet) → r ≡ d → set_numbers r ≡ set_numbers d
set_told r d = ap set_numbers

pub listed_one : (r d : Option ℕ) → listed_numbers r ≡ listed_numbers d → r ≡ d
unfolding listed_numbers number_of
listed_one (Some x) (Some y) e = cc
listed_one None None e = refl
listed_one (Some x) None e = clash (cc)
listed_one None (Some y) e = clash (cc)

pub listed_told : (r d : Option ℕ) → r ≡ d → listed_numbers r ≡ listed_numbers d
listed_told r d = ap listed_numbers
