-- No two forms have the same numbers: `form_one` reads a promise, `form_told` makes one. Assumes nothing.
use Rattle.std.specs.Prelude.{Option, Some, None}
use mathlib.Core.Path.{◌≡◌, refl, sym, ap, ◌∙◌}
use mathlib.Core.List.{List, [], ◌∷◌}
use Prim.Native.Nat.{ℕ}
use lib.ListN.{get_or}
use Rattle.regex_optim.specs.Numbers.{form_numbers}
use Rattle.regex_optim.specs.declared.OptimizedRegex.{OptimizedRegex}
use Rattle.regex_optim.specs.declared.OptimizedRegex.TheVariants.{AllStringsMatcher, IsEmpty, Equals, StartsWith, EndsWith, EqualsChar, StartsWithChar, EndsWithChar}

-- the form of its numbers
unfoldable form_by : List ℕ → Option OptimizedRegex
form_by l = get_or ((Some AllStringsMatcher) ∷ (Some IsEmpty) ∷ (Some Equals) ∷ (Some StartsWith) ∷ (Some EndsWith) ∷ (Some EqualsChar) ∷ (Some StartsWithChar) ∷ (Some EndsWithChar) ∷ []) (get_or l 1 8) None

back : (r : Option OptimizedRegex) → form_by (form_numbers r) ≡ r
unfolding form_by form_numbers
back (Some AllStringsMatcher) = refl
back (Some IsEmpty) = refl
back (Some Equals) = refl
back (Some StartsWith) = refl
back (Some EndsWith) = refl
back (Some EqualsChar) = refl
back (Some StartsWithChar) = refl
back (Some EndsWithChar) = refl
back None = refl

pub form_one : (r d : Option OptimizedRegex) → form_numbers r ≡ form_numbers d → r ≡ d
form_one r d e = sym (back r) ∙ (ap form_by e ∙ back d)

pub form_told : (r d : Option OptimizedRegex) → r ≡ d → form_numbers r ≡ form_numbers d
form_told r d = ap form_numbers
