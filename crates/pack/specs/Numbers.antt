-- The paper's numbers of a verdict on a pack.
use Rattle.std.specs.Prelude.{ℕ, List, [], ◌∷◌}
use Rattle.refusals.specs.Numbers.{number_of}
use Rattle.refusals.specs.declared.Refusal.TheVariants.{PackBroken}
use Rattle.pack.specs.declared.sections.Checked.{Checked}
use Rattle.pack.specs.declared.sections.Checked.TheVariants as checked
use Rattle.pack.specs.declared.sections.Surveyed.{Surveyed}
use Rattle.pack.specs.declared.sections.Surveyed.TheVariants as surveyed

-- 0; 5, "pack breaks a pack rule", and the "first byte of the section at fault"
unfoldable pub checked_numbers : Checked → List ℕ
checked_numbers checked.Accepted = 0 ∷ []
checked_numbers (checked.Refused place) = number_of PackBroken ∷ place ∷ []

-- the same; behind 0 how many languages the pack has, and the place of its guessing section
unfoldable pub surveyed_numbers : Surveyed → List ℕ
surveyed_numbers (surveyed.Accepted languages guesses) = 0 ∷ languages ∷ guesses ∷ []
surveyed_numbers (surveyed.Refused place) = number_of PackBroken ∷ place ∷ []
