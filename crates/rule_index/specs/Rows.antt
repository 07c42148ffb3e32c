-- The rows of the table: one for each of 98 lists, and behind those the numbers that are noted of rules and of guessing rules.
use Rattle.std.specs.Prelude.{ℕ, ◌+◌, ◌/◌, ◌%◌, ◌<◌, ◌≡◌, List, [], ◌∷◌, length, get_or, set}

-- the first row of the rules' places, of the first two bytes of their patterns, of the bytes that may stand before a place and behind its first byte,
-- of what guessing rules require of a signature and of pairs, and of their places
abbrev pub places_row : ℕ
places_row = 98

abbrev pub leads_row : ℕ
leads_row = places_row + 32

abbrev pub before_row : ℕ
before_row = leads_row + 32

abbrev pub behind_row : ℕ
behind_row = before_row + 32

abbrev pub required_row : ℕ
required_row = behind_row + 32

abbrev pub pairs_row : ℕ
pairs_row = required_row + 32

abbrev pub guess_row : ℕ
guess_row = pairs_row + 32

-- the rows of the whole table
abbrev pub rows : ℕ
rows = guess_row + 32

-- each row has 128 numbers
pub record Roomy (table : List (List ℕ)) : Type 0 where
  pub wide : (k : ℕ) → k < rows → length (get_or table k []) ≡ 128

-- the i-th number from a row on, read and stored
unfoldable pub noted_at : List (List ℕ) → ℕ → ℕ → ℕ
noted_at table row i = get_or (get_or table (row + i / 128) []) (i % 128) 0

unfoldable pub put_at : List (List ℕ) → ℕ → ℕ → ℕ → List (List ℕ)
put_at table row i x = set table (row + i / 128) (set (get_or table (row + i / 128) []) (i % 128) x)

-- numbers stored as the i-th of a row each, which stand one behind the other
unfoldable pub put_all : List (List ℕ) → ℕ → ℕ → List ℕ → List (List ℕ)
put_all table row i [] = table
put_all table row i (x ∷ l) = put_all (put_at table row i x) (row + 32) i l
