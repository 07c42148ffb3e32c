-- The paper's numbers of a context's form.
use Rattle.std.specs.Prelude.{ℕ, List, [], ◌∷◌, Option, Some, None}
use Rattle.refusals.specs.Numbers.{number_of}
use Rattle.refusals.specs.declared.Refusal.TheVariants.{OutsideForms}
use Rattle.regex_optim.specs.declared.OptimizedRegex.{OptimizedRegex}
use Rattle.regex_optim.specs.declared.OptimizedRegex.TheVariants.{AllStringsMatcher, IsEmpty, Equals, StartsWith, EndsWith, EqualsChar, StartsWithChar, EndsWithChar}

-- 0 and which of the eight forms, which are counted here as regex_optim.rs names them; 15, "context .. outside the forms"
unfoldable pub form_numbers : Option OptimizedRegex → List ℕ
form_numbers (Some AllStringsMatcher) = 0 ∷ 0 ∷ []
form_numbers (Some IsEmpty) = 0 ∷ 1 ∷ []
form_numbers (Some Equals) = 0 ∷ 2 ∷ []
form_numbers (Some StartsWith) = 0 ∷ 3 ∷ []
form_numbers (Some EndsWith) = 0 ∷ 4 ∷ []
form_numbers (Some EqualsChar) = 0 ∷ 5 ∷ []
form_numbers (Some StartsWithChar) = 0 ∷ 6 ∷ []
form_numbers (Some EndsWithChar) = 0 ∷ 7 ∷ []
form_numbers None = number_of OutsideForms ∷ []
