-- UTF-8 by RFC 3629, section 4: its table of well-formed sequences, and how a code point is written in bytes.
use Rattle.std.specs.Prelude.{ℕ, ◌+◌, ◌*◌, ◌/◌, ◌%◌, Bool, List, [], ◌∷◌, ltb, leb, eqb, length, get_or}
use Rattle.base.specs.Pick.{pick, and}
use Rattle.letters.specs.declared.utf8.Step.{Step}
use Rattle.letters.specs.declared.utf8.Step.TheVariants.{Char, Ill, End}

unfoldable pub within : ℕ → ℕ → ℕ → Bool
within lo hi b = and (leb lo b) (leb b hi)

-- the second byte's range, by the first: what keeps out overlong forms, surrogates and what lies past U+10FFFF
unfoldable pub low_second : ℕ → ℕ
low_second a = pick (eqb a 0xE0) 0xA0 (pick (eqb a 0xF0) 0x90 0x80)

unfoldable pub high_second : ℕ → ℕ
high_second a = pick (eqb a 0xED) 0x9F (pick (eqb a 0xF4) 0x8F 0xBF)

unfoldable pub code2 : ℕ → ℕ → ℕ
code2 a b = a % 32 * 64 + b % 64

unfoldable pub code3 : ℕ → ℕ → ℕ → ℕ
code3 a b c = a % 16 * 4096 + b % 64 * 64 + c % 64

unfoldable pub code4 : ℕ → ℕ → ℕ → ℕ → ℕ
code4 a b c d = a % 8 * 262144 + b % 64 * 4096 + c % 64 * 64 + d % 64

unfoldable pub decode2 : ℕ → ℕ → Step
decode2 a b = pick (within 0x80 0xBF b) (Char (code2 a b) 2) Ill

unfoldable pub decode3 : ℕ → ℕ → ℕ → Step
decode3 a b c = pick (within (low_second a) (high_second a) b) (pick (within 0x80 0xBF c) (Char (code3 a b c) 3) Ill) Ill

unfoldable pub decode4 : ℕ → ℕ → ℕ → ℕ → Step
decode4 a b c d =
    pick (within (low_second a) (high_second a) b)
    (pick (within 0x80 0xBF c) (pick (within 0x80 0xBF d) (Char (code4 a b c d) 4) Ill) Ill) Ill

-- the character that starts with a, before b, c and d
unfoldable pub decode_bytes : ℕ → ℕ → ℕ → ℕ → Step
decode_bytes a b c d =
    pick (leb a 0x7F) (Char a 1)
    (pick (within 0xC2 0xDF a) (decode2 a b)
    (pick (within 0xE0 0xEF a) (decode3 a b c)
    (pick (within 0xF0 0xF4 a) (decode4 a b c d) Ill)))

-- what stands at p; past the end a byte reads as 0, which continues no character
unfoldable pub decode_at : List ℕ → ℕ → Step
decode_at s p =
    pick (ltb p (length s)) (decode_bytes (get_or s p 0) (get_or s (p + 1) 0) (get_or s (p + 2) 0) (get_or s (p + 3) 0)) End

-- the bytes of a code point (section 3 of the RFC)
unfoldable pub encode : ℕ → List ℕ
encode c =
    pick (ltb c 0x80) (c ∷ [])
    (pick (ltb c 0x800) ((0xC0 + c / 64) ∷ (0x80 + c % 64) ∷ [])
    (pick (ltb c 0x10000) ((0xE0 + c / 4096) ∷ (0x80 + c / 64 % 64) ∷ (0x80 + c % 64) ∷ [])
    ((0xF0 + c / 262144) ∷ (0x80 + c / 4096 % 64) ∷ (0x80 + c / 64 % 64) ∷ (0x80 + c % 64) ∷ [])))
