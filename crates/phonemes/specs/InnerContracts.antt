-- What the private functions of the code give, step by step; `proofs/` shows how the expressions' definitions are made of these.
use Rattle.phonemes.specs.declared.answers.ExpressionFault.TheVariants.{Malformed, UnlistedName}
use Rattle.phonemes.specs.declared.answers.ExpressionFault.{ExpressionFault}
use Rattle.std.specs.Prelude.{ℕ, ◌+◌, Bool, true, List, [], ◌∷◌, ◌++◌, leb, eqb, length, drop, Result, Ok, Err}
use Rattle.base.specs.Pick.{pick, and}
use Rattle.texts.specs.Parts.{first_is, last_is, place_of}
use Rattle.phonemes.specs.Expressions.{bar, cut_at, inside, extra, formed_piece, piece_mask, is_listed, text_of, set_of, round}
use Rattle.phonemes.specs.declared.answers.Alternative.{Alternative}
use Rattle.phonemes.specs.declared.answers.Alternative.TheVariants.{At, Nothing}

-- the parts of what stands between round brackets from a place on; the one that is added at the end stands behind it
unfoldable pub parts_from : List ℕ → ℕ → List (List ℕ)
parts_from t from = pick (leb from (length t)) (cut_at bar (drop from t) ++ extra t) (pick (eqb from (length t + 1)) (extra t) [])

-- the pieces of an expression from a place on: from place 0 all of them (proofs/Laws)
unfoldable pub pieces_from : List ℕ → ℕ → List (List ℕ)
pieces_from e from = pick (first_is round e) (parts_from (inside e) from) (pick (eqb from 0) (e ∷ []) [])

-- a piece as an alternative: where its text starts and ends in the expression, its set, and where the next one is asked for
unfoldable pub piece_from : List ℕ → List ℕ → ℕ → ℕ → Alternative
piece_from names a start next = At start (start + length (text_of a)) (set_of names a) next

-- the first of some pieces, which stands from a place on
unfoldable pub first_from : ℕ → ℕ → List ℕ → List (List ℕ) → Alternative
first_from start from names [] = Nothing
first_from start from names (a ∷ ps) = piece_from names a start (from + length a + 1)

unfoldable pub alternative_from : List ℕ → List ℕ → ℕ → Alternative
alternative_from names e from = first_from (pick (first_is round e) (from + 1) from) from names (pieces_from e from)

-- where the part that starts at a place ends
unfoldable pub cut_end : ℕ → List ℕ → ℕ → ℕ
cut_end b t from = from + place_of b (drop from t)

unfoldable pub has_extra : List ℕ → Bool
has_extra t = pick (first_is bar t) true (last_is bar t)

unfoldable pub listed_piece : List ℕ → List ℕ → Bool
listed_piece names a = is_listed (piece_mask names a)

unfoldable pub expression_told : ℕ → Bool → Result ℕ ExpressionFault
expression_told n known = pick known (Ok n) (Err UnlistedName)

-- the pieces one after the other, n counted before them and all names so far known
unfoldable pub judged_pieces : List ℕ → ℕ → Bool → List (List ℕ) → Result ℕ ExpressionFault
judged_pieces names n known [] = expression_told n known
judged_pieces names n known (a ∷ ps) = pick (formed_piece a) (judged_pieces names (n + 1) (and known (listed_piece names a)) ps) (Err Malformed)
