-- Texts that are spelled in a name's place (01, Spelling a name, steps 2, 3 and 5).
use Rattle.std.specs.Prelude.{ℕ, Bool, false, List, [], ◌∷◌, ◌++◌, map, eqb, take, drop}
use Rattle.base.specs.Pick.{pick}
use Rattle.texts.specs.Parts.{has}
use Rattle.name_parts.specs.Words.{words_of}
use Rattle.prefixes.specs.Prefixes.{is_prefix}
use Rattle.prefixes.specs.declared.prefixes.NameType.{NameType}
use Rattle.prefixes.specs.declared.prefixes.NameType.TheVariants.{Ashkenazi, Generic, Sephardic}

-- "Hyphens become spaces."
unfoldable pub spaced : List ℕ → List ℕ
spaced s = map (λ (b : ℕ). pick (eqb b 45) 32 b) s

-- "prefix joined to remainder"
unfoldable pub joined_name : ℕ → ℕ → List ℕ → List ℕ
joined_name size rest s = take size s ++ drop rest s

-- what follows the last apostrophe, or the whole word
unfoldable pub after_apostrophe : List ℕ → List ℕ
after_apostrophe [] = []
after_apostrophe (b ∷ w) = pick (has 39 w) (after_apostrophe w) (pick (eqb b 39) w (b ∷ w))

-- "Sephardic words keep what follows their last apostrophe"
unfoldable pub kept_of : NameType → List ℕ → List ℕ
kept_of Ashkenazi w = w
kept_of Generic w = w
kept_of Sephardic w = after_apostrophe w

-- "Sephardic and Ashkenazi words that equal a prefix drop out"
unfoldable pub drops_out : NameType → List ℕ → Bool
drops_out Ashkenazi w = is_prefix Ashkenazi w
drops_out Generic w = false
drops_out Sephardic w = is_prefix Sephardic w

unfoldable pub remaining : NameType → List (List ℕ) → List (List ℕ)
remaining kind [] = []
remaining kind (w ∷ ws) = pick (drops_out kind (kept_of kind w)) (remaining kind ws) (kept_of kind w ∷ remaining kind ws)

-- "join by a space"
unfoldable pub joined_by_space : List (List ℕ) → List ℕ
joined_by_space [] = []
joined_by_space (t ∷ []) = t
joined_by_space (t ∷ u ∷ l) = t ++ 32 ∷ joined_by_space (u ∷ l)

-- the one word that a name is with concat
unfoldable pub joined_words : NameType → List ℕ → List ℕ
joined_words kind s = joined_by_space (remaining kind (words_of s))
