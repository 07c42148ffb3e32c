-- A slice read as characters, one after the other, and what the paper asks of it.
use Rattle.std.specs.Prelude.{ℕ, zero, suc, ◌+◌, Bool, false, List, [], ◌∷◌, leb, eqb, length, get_or, Option, Some, None}
use Rattle.base.specs.Pick.{pick}
use Rattle.letters.specs.Utf8.{within, decode_at}
use Rattle.letters.specs.declared.utf8.Step.{Step}
use Rattle.letters.specs.declared.utf8.Step.TheVariants.{Char, Ill, End}

-- what stands at a place: a code point, or a byte b that begins no character
pub data Symbol : Type 0 where
  symbol : (place code : ℕ) → Symbol
  stray_byte : (place byte : ℕ) → Symbol

-- the pieces of s from p on; each passes at least one byte, so a fuel of what is left is enough
unfoldable pub symbols_on : Step → List ℕ → ℕ → (ℕ → List Symbol) → List Symbol
symbols_on (Char c n) s p rest = symbol p c ∷ rest (p + n)
symbols_on Ill s p rest = stray_byte p (get_or s p 0) ∷ rest (p + 1)
symbols_on End s p rest = []

unfoldable pub symbols_from : ℕ → List ℕ → ℕ → List Symbol
symbols_from zero s p = []
symbols_from (suc f) s p = symbols_on (decode_at s p) s p (symbols_from f s)

unfoldable pub symbols_of : List ℕ → List Symbol
symbols_of s = symbols_from (length s) s 0

-- the code points of a text
unfoldable pub codes_in : List Symbol → List ℕ
codes_in [] = []
codes_in (symbol p c ∷ l) = c ∷ codes_in l
codes_in (stray_byte p b ∷ l) = codes_in l

unfoldable pub codes_of : List ℕ → List ℕ
codes_of s = codes_in (symbols_of s)

-- the start of the first ill-formed sequence (01, the table, 1)
unfoldable pub ill_in : List Symbol → Option ℕ
ill_in [] = None
ill_in (symbol p c ∷ l) = ill_in l
ill_in (stray_byte p b ∷ l) = Some p

unfoldable pub first_ill : List ℕ → Option ℕ
first_ill s = ill_in (symbols_of s)

-- U+0020 to U+007E and U+00A1 to U+017F without U+0130 (01, Letters)
unfoldable pub in_range : ℕ → Bool
in_range c = pick (leb c 0x7E) (leb 0x20 c) (pick (eqb c 0x130) false (within 0xA1 0x17F c))

-- the byte of the first character outside the range (01, the table, 2); an ill-formed sequence holds no character of it
unfoldable pub outside_in : List Symbol → Option ℕ
outside_in [] = None
outside_in (symbol p c ∷ l) = pick (in_range c) (outside_in l) (Some p)
outside_in (stray_byte p b ∷ l) = Some p

unfoldable pub first_outside : List ℕ → Option ℕ
first_outside s = outside_in (symbols_of s)
