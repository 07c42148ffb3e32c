-- A language set as one number, the form in which sets are held in use: None is 0, Some has bit 32, Any has every bit below 34.
-- Narrowing is then `&` and merging `|`, with no case split (proofs/CodedLaws).
use Rattle.std.specs.Prelude.{ℕ, ◌+◌, ◌-◌, ◌^◌, ◌%◌, ◌<◌, ◌≡◌, ltb, eqb, Option, Some, None}
use Rattle.std.specs.Int.Bits.{bit_and, bit_or}
use Rattle.base.specs.Pick.{pick}
use Rattle.languages.specs.declared.sets.LanguageSet.{LanguageSet}
use Rattle.languages.specs.declared.sets.LanguageSet.TheVariants.{Any, NoLanguages, SomeLanguages}
use Rattle.languages.specs.Sets.{is_empty}
use Prim.{Unit}

-- only bits of the first n languages: "listed bits only" (01, Bundle and pack)
unfoldable pub BitsBelow : ℕ → LanguageSet → Type 0
BitsBelow n Any = Unit {0}
BitsBelow n NoLanguages = Unit {0}
BitsBelow n (SomeLanguages x) = x < 2 ^ n

unfoldable pub coded : LanguageSet → ℕ
coded Any = 2 ^ 34 - 1
coded NoLanguages = 0
coded (SomeLanguages x) = 2 ^ 32 + x

-- the set of a number
unfoldable pub decoded : ℕ → LanguageSet
decoded x = pick (ltb x (2 ^ 32)) NoLanguages (pick (ltb x (2 ^ 33)) (SomeLanguages (x - 2 ^ 32)) Any)

-- a number that stands for a set of at most 32 languages
pub record IsCode (x : ℕ) : Type 0 where
  pub set : LanguageSet
  pub below : BitsBelow 32 set
  pub is : x ≡ coded set

-- narrowing and the test together, of a set as it is held in use: "gives the narrowed set or says that nothing is left" (02, 6),
-- "Some with no bits .. isn't the same as None; both are empty" (01, Language sets)
unfoldable pub left_of : LanguageSet → Option ℕ
left_of s = pick (is_empty s) None (Some (coded s))

-- what narrowing and merging are on any two numbers; that they are document 01's on numbers of sets: proofs/CodedLaws
unfoldable pub codes_narrowed : ℕ → ℕ → Option ℕ
codes_narrowed a b = pick (eqb (bit_and a b % 2 ^ 32) 0) None (Some (bit_and a b))

unfoldable pub codes_merged : ℕ → ℕ → ℕ
codes_merged a b = bit_or a b
