-- No two refusals have one number, and none has 0. Assumes nothing.
use mathlib.Core.Path.{◌≡◌, refl, sym, ap, ◌∙◌}
use Prim.Native.Nat.{ℕ, ◌<◌}
use mathlib.Core.List.{List, [], ◌∷◌}
use native.Mathlib.Omega.{arith}
use lib.ListN.{get_or}
use Rattle.refusals.specs.Numbers.{number_of}
use Rattle.refusals.specs.declared.Refusal.{Refusal}
use Rattle.refusals.specs.declared.Refusal.TheVariants.{NotUtf8, OutsideRange, NameTooLong, SettingUnknown, PackBroken, NoSuchLanguage, TextTooLong, TooManyTexts, NoRoom, BundleBroken, FileMissing, LineUnreadable, PatternEmpty, ExpressionWrong, OutsideForms, NameUnlisted, IncludeTooDeep, TooMuch, AnyMissing, BoxEmpty}

-- the table's rows in order
unfoldable table : List Refusal
table = AnyMissing ∷ NotUtf8 ∷ OutsideRange ∷ NameTooLong ∷ SettingUnknown ∷ PackBroken ∷ NoSuchLanguage ∷ TextTooLong ∷ TooManyTexts ∷ NoRoom ∷ BundleBroken ∷ FileMissing ∷ LineUnreadable ∷ PatternEmpty ∷ ExpressionWrong ∷ OutsideForms ∷ NameUnlisted ∷ IncludeTooDeep ∷ TooMuch ∷ AnyMissing ∷ BoxEmpty ∷ []

back : (r : Refusal) → get_or table (number_of r) AnyMissing ≡ r
unfolding number_of table
back NotUtf8 = refl
back OutsideRange = refl
back NameTooLong = refl
back SettingUnknown = refl
back PackBroken = refl
back NoSuchLanguage = refl
back TextTooLong = refl
back TooManyTexts = refl
back NoRoom = refl
back BundleBroken = refl
back FileMissing = refl
back LineUnreadable = refl
back PatternEmpty = refl
back ExpressionWrong = refl
back OutsideForms = refl
back NameUnlisted = refl
back IncludeTooDeep = refl
back TooMuch = refl
back AnyMissing = refl
back BoxEmpty = refl

pub number_one : (a b : Refusal) → number_of a ≡ number_of b → a ≡ b
number_one a b e = sym (back a) ∙ (ap (λ (n : ℕ). get_or table n AnyMissing) e ∙ back b)

pub number_some : (r : Refusal) → 0 < number_of r
unfolding number_of
number_some NotUtf8 = omega arith
number_some OutsideRange = omega arith
number_some NameTooLong = omega arith
number_some SettingUnknown = omega arith
number_some PackBroken = omega arith
number_some NoSuchLanguage = omega arith
number_some TextTooLong = omega arith
number_some TooManyTexts = omega arith
number_some NoRoom = omega arith
number_some BundleBroken = omega arith
number_some FileMissing = omega arith
number_some LineUnreadable = omega arith
number_some PatternEmpty = omega arith
number_some ExpressionWrong = omega arith
number_some OutsideForms = omega arith
number_some NameUnlisted = omega arith
number_some IncludeTooDeep = omega arith
number_some TooMuch = omega arith
number_some AnyMissing = omega arith
number_some BoxEmpty = omega arith
