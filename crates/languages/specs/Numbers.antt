-- The paper's numbers of a set and of a listed name, one list of numbers for each case.
use Rattle.std.specs.Prelude.{ℕ, List, [], ◌∷◌, Option, Some, None}
use Rattle.refusals.specs.Numbers.{number_of}
use Rattle.refusals.specs.declared.Refusal.TheVariants.{NameUnlisted}
use Rattle.languages.specs.declared.sets.LanguageSet.{LanguageSet}
use Rattle.languages.specs.declared.sets.LanguageSet.TheVariants.{Any, NoLanguages, SomeLanguages}

-- "a given set's kind 0 Any, 1 None, 2 Some (only here bits count)" (01, What the desk gets)
unfoldable pub set_numbers : LanguageSet → List ℕ
set_numbers Any = 0 ∷ []
set_numbers NoLanguages = 1 ∷ []
set_numbers (SomeLanguages bits) = 2 ∷ bits ∷ []

-- 0 and the bit; 16, "language name not in the list"
unfoldable pub listed_numbers : Option ℕ → List ℕ
listed_numbers (Some bit) = 0 ∷ bit ∷ []
listed_numbers None = number_of NameUnlisted ∷ []
