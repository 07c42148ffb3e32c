-- Tests by which a place of a name, or a whole pattern, is passed over without trying its pieces. `proofs/Shortcuts` shows that
-- nothing is lost: what they pass over does not match.
use Rattle.std.specs.Prelude.{Option, Some, None, ℕ, ◌+◌, ◌*◌, Bool, true, false, not, List, [], ◌∷◌, eqb, leb, ltb, length, get_or}
use Rattle.std.specs.Int.Bits.{bit_or}
use Rattle.base.specs.Pick.{pick}
use Rattle.letters.specs.Reading.{codes_of}
use Rattle.letters.specs.Utf8.{decode_at}
use Rattle.letters.specs.declared.utf8.Step.{Step}
use Rattle.letters.specs.declared.utf8.Step.TheVariants.{Char, Ill, End}
use Rattle.lang.specs.Patterns.{Piece, exactly, box, stray, middle, pattern_pieces}
use Rattle.texts.specs.Parts.{first_is, last_is, caret, dollar, opening, closing}
use Rattle.texts.specs.Signatures.{bit_of}

-- t begins with a character that is not b, and b is a character by itself (below U+0080)
unfoldable pub begins_with_other : List ℕ → ℕ → Bool
begins_with_other t b = pick (ltb (length t) 1) false (pick (eqb (get_or t 0 0) opening) false (pick (eqb (get_or t 0 0) b) false (leb b 0x7F)))

-- the bits of the bytes outside the boxes; within a box none is looked at, up to its `]`
unfoldable pub bits_in : Bool → List ℕ → ℕ
bits_in inside [] = 0
bits_in inside (x ∷ l) =
    pick inside (bits_in (not (eqb x closing)) l) (pick (eqb x opening) (bits_in true l) (bit_or (bit_of x) (bits_in false l)))

-- what a pattern requires of the signature of a name that it matches
unfoldable pub required_of : List ℕ → ℕ
required_of p = bits_in false (middle p)

-- ---- pairs of characters that stand side by side, 0 being what stands before the first of a name and behind its last

-- of each pair one of 64 bits
abbrev pub pair_bit : ℕ → ℕ → ℕ
pair_bit x y = bit_of (x * 5 + y)

-- none where the first of them is not known
unfoldable pub pair_where : Bool → ℕ → ℕ → ℕ
pair_where known x y = pick known (pair_bit x y) 0

-- the pairs of a name
unfoldable pub pairs_from : ℕ → List ℕ → ℕ
pairs_from prev [] = pair_bit prev 0
pairs_from prev (k ∷ ks) = bit_or (pair_bit prev k) (pairs_from k ks)

unfoldable pub pairs_of : List ℕ → ℕ
pairs_of name = pairs_from 0 (codes_of name)

-- those that pieces require, up to a name's end where `end`: what a box takes is not known
unfoldable pub pairs_needed : Bool → ℕ → Bool → List Piece → ℕ
pairs_needed known prev end [] = pick end (pair_where known prev 0) 0
pairs_needed known prev end (exactly k ∷ xs) = bit_or (pair_where known prev k) (pairs_needed true k end xs)
pairs_needed known prev end (box negated l ∷ xs) = pairs_needed false prev end xs
pairs_needed known prev end (stray ∷ xs) = pairs_needed false prev end xs

-- what a pattern requires of the pairs of a name that it matches
unfoldable pub pairs_required : List ℕ → ℕ
pairs_required p = pairs_needed (first_is caret p) 0 (last_is dollar p) (pattern_pieces (middle p))

-- the character at the front that is a piece; where a box stands there it is none
unfoldable pub code_in : Step → Option ℕ
code_in (Char k n) = Some k
code_in Ill = None
code_in End = None

unfoldable pub front_char : List ℕ → Option ℕ
front_char l = pick (first_is opening l) None (code_in (decode_at l 0))

-- the bit of a pair, where both are known
unfoldable pub pair_of : Option ℕ → Option ℕ → ℕ
pair_of (Some x) (Some y) = pair_bit x y
pair_of (Some x) None = 0
pair_of None y = 0
