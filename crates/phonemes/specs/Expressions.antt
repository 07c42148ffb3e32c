-- Phoneme expressions (01, Phoneme expressions): which are well formed, and their alternatives.
use Rattle.phonemes.specs.declared.answers.ExpressionFault.TheVariants.{Malformed, UnlistedName}
use Rattle.phonemes.specs.declared.answers.ExpressionFault.{ExpressionFault}
use Rattle.std.specs.Prelude.{ℕ, suc, Bool, true, false, List, [], ◌∷◌, ◌++◌, eqb, length, take, drop, Option, Some, None, Result, Ok, Err}
use Rattle.std.specs.Int.Bits.{bit_or}
use Rattle.base.specs.Pick.{pick, and}
use Rattle.languages.specs.Names.{language_bit}
use Rattle.languages.specs.declared.sets.LanguageSet.{LanguageSet}
use Rattle.languages.specs.declared.sets.LanguageSet.TheVariants.{Any, SomeLanguages}
use Rattle.texts.specs.Parts.{tail, front, first_is, last_is, place_of, has}

-- the signs ( ) | [ ] +
abbrev pub round : ℕ
round = 40

abbrev pub unround : ℕ
unround = 41

abbrev pub bar : ℕ
bar = 124

abbrev pub opening : ℕ
opening = 91

abbrev pub closing : ℕ
closing = 93

abbrev pub plus : ℕ
plus = 43

-- what stands between the bytes b, from the front: always one part more than there are such bytes
unfoldable pub on_first : ℕ → List (List ℕ) → List (List ℕ)
on_first x [] = (x ∷ []) ∷ []
on_first x (p ∷ ps) = (x ∷ p) ∷ ps

unfoldable pub cut_at : ℕ → List ℕ → List (List ℕ)
cut_at b [] = [] ∷ []
cut_at b (x ∷ xs) = pick (eqb x b) ([] ∷ cut_at b xs) (on_first x (cut_at b xs))

-- what is between the round brackets
unfoldable pub inside : List ℕ → List ℕ
inside e = front (tail e)

-- "If it begins or ends with `|`, one more empty alternative for Any is added at the end."
unfoldable pub extra : List ℕ → List (List ℕ)
extra t = pick (first_is bar t) ([] ∷ []) (pick (last_is bar t) ([] ∷ []) [])

-- "what is between is cut at each `|`"; "Without `(`, a bar is part of the text."
unfoldable pub pieces_in : List ℕ → List (List ℕ)
pieces_in e = pick (first_is round e) (cut_at bar (inside e) ++ extra (inside e)) (e ∷ [])

unfoldable pub all_of : (List ℕ → Bool) → List (List ℕ) → Bool
all_of f [] = true
all_of f (p ∷ ps) = pick (f p) (all_of f ps) false

-- "In an alternative the first `[` must be closed by a `]` at the very end"
unfoldable pub formed_piece : List ℕ → Bool
formed_piece a = pick (has opening a) (last_is closing a) true

-- "An expression that starts with `(` must end with `)`"
unfoldable pub formed : List ℕ → Bool
formed e = and (pick (first_is round e) (last_is unround e) true) (all_of formed_piece (pieces_in e))

-- "between them stand names joined by `+`"
unfoldable pub box_of : List ℕ → List ℕ
box_of a = front (drop (suc (place_of opening a)) a)

-- the bits of the names, or that one is not listed
unfoldable pub with_bits : Option ℕ → Option ℕ → Option ℕ
with_bits (Some a) (Some b) = Some (bit_or a b)
with_bits (Some a) None = None
with_bits None b = None

unfoldable pub names_mask : List ℕ → List (List ℕ) → Option ℕ
names_mask names [] = Some 0
names_mask names (n ∷ ns) = with_bits (language_bit names n) (names_mask names ns)

unfoldable pub piece_mask : List ℕ → List ℕ → Option ℕ
piece_mask names a = pick (has opening a) (names_mask names (cut_at plus (box_of a))) (Some 0)

unfoldable pub is_listed : Option ℕ → Bool
is_listed (Some m) = true
is_listed None = false

-- the text of an alternative is what stands before the `[`; "No `[` means Any."
unfoldable pub text_of : List ℕ → List ℕ
text_of a = take (place_of opening a) a

unfoldable pub mask_set : Option ℕ → LanguageSet
mask_set (Some m) = SomeLanguages m
mask_set None = SomeLanguages 0

unfoldable pub set_of : List ℕ → List ℕ → LanguageSet
set_of names a = pick (has opening a) (mask_set (piece_mask names a)) Any

-- 14 where it is not well formed, else 16 where a name is not listed, else how many alternatives it has
unfoldable pub checked_of : List ℕ → List ℕ → Result ℕ ExpressionFault
checked_of names e =
    pick (formed e) (pick (all_of (λ (a : List ℕ). is_listed (piece_mask names a)) (pieces_in e)) (Ok (length (pieces_in e))) (Err UnlistedName)) (Err Malformed)
