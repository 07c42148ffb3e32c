-- Language sets (01, Language sets): a set is Any, None, or Some of at most 32 listed languages, kept as a bit each.
-- `NoLanguages` is the paper's None, and `SomeLanguages m` its Some with the bits of m.
use Rattle.std.specs.Prelude.{ℕ, ◌-◌, ◌^◌, Bool, true, false, eqb, Option, Some, None}
use Rattle.std.specs.Int.Bits.{bit_and, bit_or}
use Rattle.std.specs.Int.Count.{ones, count_trailing_zeros}
use Rattle.base.specs.Pick.{pick}
use Rattle.languages.specs.declared.sets.LanguageSet.{LanguageSet}
use Rattle.languages.specs.declared.sets.LanguageSet.TheVariants.{Any, NoLanguages, SomeLanguages}

-- narrowing: by Any changes nothing; by None gives None; Any by Some gives that Some; None stays None; Some by Some intersects (01, Language sets)
unfoldable pub narrowed : LanguageSet → LanguageSet → LanguageSet
narrowed a Any = a
narrowed a NoLanguages = NoLanguages
narrowed Any (SomeLanguages y) = SomeLanguages y
narrowed NoLanguages (SomeLanguages y) = NoLanguages
narrowed (SomeLanguages x) (SomeLanguages y) = SomeLanguages (bit_and x y)

-- merging: anything with Any is Any; None adds nothing; Some with Some unites (01, Language sets)
unfoldable pub merged : LanguageSet → LanguageSet → LanguageSet
merged a Any = Any
merged a NoLanguages = a
merged Any (SomeLanguages y) = Any
merged NoLanguages (SomeLanguages y) = SomeLanguages y
merged (SomeLanguages x) (SomeLanguages y) = SomeLanguages (bit_or x y)

-- Some with no bits isn't the same as None; both are empty (01, Language sets)
unfoldable pub is_empty : LanguageSet → Bool
is_empty Any = false
is_empty NoLanguages = true
is_empty (SomeLanguages x) = eqb x 0

-- a set is single when it is Some and exactly one bit is one (01, Language sets)
unfoldable pub is_single : LanguageSet → Bool
is_single Any = false
is_single NoLanguages = false
is_single (SomeLanguages x) = eqb (ones x) 1

-- the single language is found by trailing zeros (01, Forms we want to see)
unfoldable pub single_of : LanguageSet → Option ℕ
single_of Any = None
single_of NoLanguages = None
single_of (SomeLanguages x) = pick (eqb (ones x) 1) (Some (count_trailing_zeros 32 x)) None

-- subtracting is and with complement (01, Forms we want to see)
unfoldable pub without : ℕ → ℕ → ℕ
without x y = bit_and x ((2 ^ 32 - 1) - y)
