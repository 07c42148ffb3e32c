-- What the table has of the guessing rules, of each what it requires of a name's signature and of its pairs, and its place in the pack; and guessing by it.
use Rattle.std.specs.Prelude.{ℕ, zero, suc, ◌+◌, ◌<◌, min, ◌≡◌, Bool, false, List, [], get_or, drop}
use Rattle.base.specs.Pick.{pick, and}
use Rattle.lang.specs.InnerContracts.{pairs_of}
use Rattle.lang.specs.Patterns.{matches_of}
use Rattle.texts.specs.Signatures.{signature_of, has_bits}
use Rattle.languages.specs.declared.sets.LanguageSet.{LanguageSet}
use Rattle.languages.specs.declared.sets.LanguageSet.TheVariants.{Any}
use Rattle.strings.specs.Reading.{Read, cut, got}
use Rattle.pack.specs.Packs.{Guess, Pack, accepted, pack_of, read_guess, strings_length}
use Rattle.pack.specs.PlaceContracts.{rule_count}
use Rattle.pack.specs.Guessing.{narrowed_by, left_over, all_listed}
use Rattle.pack.specs.InnerContracts.{guessed_at}
use Rattle.pack.specs.declared.sections.Surveyed.{Surveyed}
use Rattle.pack.specs.declared.sections.Surveyed.TheVariants.{Accepted, Refused}
use Rattle.rule_index.specs.Rows.{required_row, pairs_row, guess_row, Roomy, noted_at}

-- ---- guessing

-- by a guessing rule that is read; nothing is lost where bytes run out
unfoldable pub narrowed_in : List ℕ → Read Guess → ℕ → ℕ
narrowed_in name cut m = m
narrowed_in name (got g r) m = narrowed_by name g m

-- a signature and pairs have what the i-th rule requires
unfoldable pub has_required : List (List ℕ) → ℕ → ℕ → ℕ → Bool
has_required table i signature pairs = and (has_bits signature (noted_at table required_row i)) (has_bits pairs (noted_at table pairs_row i))

-- by the i-th rule: it is not read where the name has not what it requires
unfoldable pub narrowed_noted : List ℕ → List (List ℕ) → List ℕ → ℕ → ℕ → ℕ
narrowed_noted s table name i m =
    pick (has_required table i (signature_of name) (pairs_of name)) (narrowed_in name (read_guess (drop (noted_at table guess_row i) s)) m) m

-- by the first n rules, in order
unfoldable pub narrowed_by_first : List ℕ → List (List ℕ) → List ℕ → ℕ → ℕ → ℕ
narrowed_by_first s table name zero m = m
narrowed_by_first s table name (suc n) m = narrowed_noted s table name n (narrowed_by_first s table name n m)

-- the languages that a table guesses for a name, by as many rules as the section at a place counts
unfoldable pub guesser : List ℕ → List (List ℕ) → ℕ → ℕ → List ℕ → LanguageSet
guesser s table place n name = left_over (narrowed_by_first s table name (min 4096 (rule_count s place)) (all_listed (min 32 n)))

-- the same by the numbers of a survey, of which a refused pack has none
unfoldable pub guesser_by : (ℕ → ℕ → List ℕ → LanguageSet) → Surveyed → List ℕ → LanguageSet
guesser_by f (Accepted languages guesses) = f guesses languages
guesser_by f (Refused place) = λ name. Any

-- ---- noting

-- pairs that a name lacks only where a pattern does not match it
pub record PairsAsked (p : List ℕ) (pairs : ℕ) : Type 0 where
  pub lacking : (name : List ℕ) → has_bits (pairs_of name) pairs ≡ false → matches_of p name ≡ false

-- the guessing section of an accepted pack, and a table with room
pub record GuessesReady (s : List ℕ) (place : ℕ) (table : List (List ℕ)) : Type 0 where
  pub pack : Pack
  pub is : pack_of s ≡ accepted pack
  pub held : place ≡ 1 + strings_length pack.names
  pub room : Roomy table

-- the table guesses as the section does, and the rows before are as they were
pub record GuessesNoted (s : List ℕ) (place : ℕ) (table table' : List (List ℕ)) : Type 0 where
  pub guessed : guesser s table' place ≡ guessed_at s place
  pub kept : (k : ℕ) → k < required_row → get_or table' k [] ≡ get_or table k []
  pub room : Roomy table'
