-- Language names, and the bit of a listed one (01, Language sets; Bundle and pack).
use Rattle.std.specs.Prelude.{ℕ, suc, ◌^◌, min, Bool, true, false, List, [], ◌∷◌, ltb, leb, length, Option, Some, None}
use Rattle.base.specs.Pick.{pick, and}
use Rattle.letters.specs.Order.{same_text}
use Rattle.strings.specs.Reading.{strings_of}

-- a letter `a` to `z`
unfoldable pub is_letter : ℕ → Bool
is_letter b = and (leb 97 b) (leb b 122)

unfoldable pub all_letters : List ℕ → Bool
all_letters [] = true
all_letters (b ∷ t) = and (is_letter b) (all_letters t)

-- the bytes of `common`
abbrev pub common : List ℕ
common = 99 ∷ 111 ∷ 109 ∷ 109 ∷ 111 ∷ 110 ∷ []

-- names are 1 to 24 letters `a` to `z`, but not `common` (01, Language sets)
unfoldable pub language_name : List ℕ → Bool
language_name t = and (leb 1 (length t)) (and (leb (length t) 24) (pick (same_text t common) false (all_letters t)))

-- how many strings stand before the first that is the name: all of them, where none is
unfoldable pub name_place : List ℕ → List (List ℕ) → ℕ
name_place name [] = 0
name_place name (t ∷ ts) = pick (same_text t name) 0 (suc (name_place name ts))

-- the bit of a place, where there are so many
unfoldable pub bit_at : ℕ → ℕ → Option ℕ
bit_at place places = pick (ltb place places) (Some (2 ^ place)) None

-- at most 32 listed languages, kept as a bit each, lowest bit for the first name (01, Language sets)
unfoldable pub language_bit : List ℕ → List ℕ → Option ℕ
language_bit s name = bit_at (name_place name (strings_of s)) (min 32 (length (strings_of s)))
