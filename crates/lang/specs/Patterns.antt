-- Guessing patterns (01, Guessing lines): how one is read, which are within the forms, and what they match.
use Rattle.std.specs.Prelude.{ℕ, zero, suc, ◌+◌, Bool, true, false, not, List, [], ◌∷◌, eqb, leb, ltb, length, take, drop}
use Rattle.base.specs.Pick.{pick, and}
use Rattle.letters.specs.Utf8.{decode_at}
use Rattle.letters.specs.Reading.{codes_of}
use Rattle.letters.specs.Reading as letters
use Rattle.letters.specs.declared.utf8.Step.{Step}
use Rattle.letters.specs.declared.utf8.Step.TheVariants.{Char, Ill, End}
use Rattle.texts.specs.Parts.{first_is, last_is, place_of, has, caret, dollar, opening, closing, without_caret, without_dollar}

-- "a character other than `\ . + * ? ( ) | [ ] { } ^ $`"
unfoldable pub signs : List ℕ
signs = 92 ∷ 46 ∷ 43 ∷ 42 ∷ 63 ∷ 40 ∷ 41 ∷ 124 ∷ 91 ∷ 93 ∷ 123 ∷ 125 ∷ 94 ∷ 36 ∷ []

unfoldable pub plain : ℕ → Bool
plain k = not (has k signs)

-- in a box "without `- & ~`"
unfoldable pub box_signs : List ℕ
box_signs = 45 ∷ 38 ∷ 126 ∷ []

unfoldable pub box_plain : ℕ → Bool
box_plain k = and (plain k) (not (has k box_signs))

-- ---- reading: any bytes are pieces; the forms below say which are good

-- one character; a box of the characters of a list of bytes, negated or not; a byte that begins no character
pub data Piece : Type 0 where
  exactly : (code : ℕ) → Piece
  box : (negated : Bool) (list : List ℕ) → Piece
  stray : Piece

-- "an optional `^`, pieces, an optional `$`"
unfoldable pub middle : List ℕ → List ℕ
middle p = without_dollar (without_caret p)

-- behind a `[`: the bytes up to the first `]`, and how many it takes with it; one that is not closed is empty and takes what is left
unfoldable pub inside_of : List ℕ → List ℕ
inside_of l = pick (has closing l) (take (place_of closing l) l) []

unfoldable pub box_length : List ℕ → ℕ
box_length l = pick (has closing l) (place_of closing l + 1) (length l)

-- "perhaps negated by a first `^`"
unfoldable pub box_piece : List ℕ → Piece
box_piece inside = box (first_is caret inside) (without_caret inside)

unfoldable pub char_piece : Step → Piece
char_piece (Char k n) = exactly k
char_piece Ill = stray
char_piece End = stray

unfoldable pub char_length : Step → ℕ
char_length (Char k n) = n
char_length Ill = 1
char_length End = 0

-- the piece at the front, and its bytes
unfoldable pub piece_at : List ℕ → Piece
piece_at l = pick (first_is opening l) (box_piece (inside_of (drop 1 l))) (char_piece (decode_at l 0))

unfoldable pub length_at : List ℕ → ℕ
length_at l = pick (first_is opening l) (1 + box_length (drop 1 l)) (char_length (decode_at l 0))

-- each piece has at least one byte, so a fuel of the length is enough
unfoldable pub pattern_pieces_in : ℕ → List ℕ → List Piece
pattern_pieces_in zero l = []
pattern_pieces_in (suc f) [] = []
pattern_pieces_in (suc f) (x ∷ l) = piece_at (x ∷ l) ∷ pattern_pieces_in f (drop (length_at (x ∷ l)) (x ∷ l))

unfoldable pub pattern_pieces : List ℕ → List Piece
pattern_pieces l = pattern_pieces_in (length l) l

-- ---- the forms

-- each is a character that a box may hold
unfoldable pub all_box_plain : List letters.Symbol → Bool
all_box_plain [] = true
all_box_plain (letters.symbol p k ∷ l) = and (box_plain k) (all_box_plain l)
all_box_plain (letters.stray_byte p b ∷ l) = false

-- "one or more such characters"
unfoldable pub listed_box : List ℕ → Bool
listed_box l = and (ltb 0 (length l)) (all_box_plain (letters.symbols_of l))

unfoldable pub good_piece : Piece → Bool
good_piece (exactly k) = plain k
good_piece (box negated l) = listed_box l
good_piece stray = false

unfoldable pub all_good : List Piece → Bool
all_good [] = true
all_good (x ∷ xs) = and (good_piece x) (all_good xs)

-- "holds no blank"; "blanks are space, tab": a CR before LF ends a line, so it stands in no pattern
unfoldable pub blankless : List ℕ → Bool
blankless p = and (not (has 32 p)) (not (has 9 p))

-- "1 to 255 bytes, begins with neither `/` nor `#`, holds no blank" (47, 35)
unfoldable pub framed : List ℕ → Bool
framed p = and (leb 1 (length p)) (and (leb (length p) 255) (and (not (first_is 47 p)) (and (not (first_is 35 p)) (blankless p))))

unfoldable pub in_forms : List ℕ → Bool
in_forms p = and (framed p) (all_good (pattern_pieces (middle p)))

-- ---- matching

-- a piece takes one character: its own, or for a box one that is in its list, or is not where it is negated
unfoldable pub takes : Piece → ℕ → Bool
takes (exactly k) c = eqb k c
takes (box negated l) c = pick negated (not (has c (codes_of l))) (has c (codes_of l))
takes stray c = false

-- the pieces take the first characters, one after the other, and where `$` stands nothing is left
unfoldable pub fits_at : List Piece → Bool → List ℕ → Bool
fits_at [] end [] = true
fits_at [] end (c ∷ cs) = not end
fits_at (x ∷ xs) end [] = false
fits_at (x ∷ xs) end (c ∷ cs) = and (takes x c) (fits_at xs end cs)

-- they do from some character on, or at the end
unfoldable pub fits_anywhere : List Piece → Bool → List ℕ → Bool
fits_anywhere xs end [] = fits_at xs end []
fits_anywhere xs end (c ∷ cs) = pick (fits_at xs end (c ∷ cs)) true (fits_anywhere xs end cs)

-- "It matches anywhere that its anchors permit": where `^` stands, at the start alone
unfoldable pub matches_in : Bool → List Piece → Bool → List ℕ → Bool
matches_in start xs end cs = pick start (fits_at xs end cs) (fits_anywhere xs end cs)

-- whatever its pieces are: whether it is within the forms is `in_forms`
unfoldable pub matches_of : List ℕ → List ℕ → Bool
matches_of p name = matches_in (first_is caret p) (pattern_pieces (middle p)) (last_is dollar p) (codes_of name)
