-- Where the file of a name stands in a bundle (01, Bundle and pack).
use Rattle.bundles.specs.declared.FileAt.{FileAt}
use Rattle.std.specs.Prelude.{ℕ, suc, ◌+◌, List, [], ◌∷◌, length, Option, Some, None}
use Rattle.base.specs.Pick.{pick}
use Rattle.letters.specs.Order.{same_text}
use Rattle.refusals.specs.Numbers.{number_of}
use Rattle.refusals.specs.declared.Refusal.TheVariants.{FileMissing}
use Rattle.bundles.specs.Bundles.{File}
use Rattle.bundles.specs.InnerContracts.{files_of}

-- an answer's numbers: 0 with the file's number and where its content begins and ends, or 11
pub record FileNumbers : Type 0 where
  pub code : ℕ
  pub number : ℕ
  pub start : ℕ
  pub end : ℕ

abbrev pub stands : ℕ → ℕ → ℕ → FileNumbers
stands k a b = record { code = 0; number = k; start = a; end = b }

-- "a named file isn't in the bundle"
abbrev pub nowhere : FileNumbers
nowhere = record { code = number_of FileMissing; number = 0; start = 0; end = 0 }

abbrev pub file_span : ℕ → ℕ → ℕ → FileAt
file_span number start end = record { number = number; start = start; end = end }

unfoldable pub file_numbers : Option FileAt → FileNumbers
file_numbers (Some whole) = stands whole.number whole.start whole.end
file_numbers None = nowhere

-- "each file a name (length byte, bytes) and content (length in 4 bytes)": where the content of a file begins that begins at a place
unfoldable pub content_from : ℕ → File → ℕ
content_from at f = at + 1 + length f.name + 4

-- and where it ends, and the next file begins
unfoldable pub content_to : ℕ → File → ℕ
content_to at f = content_from at f + length f.content

-- the first file of a name among those that begin at a place and are numbered from k on
unfoldable pub place_among : List ℕ → ℕ → ℕ → List File → FileNumbers
place_among name k at [] = nowhere
place_among name k at (f ∷ fs) =
    pick (same_text f.name name) (stands k (content_from at f) (content_to at f)) (place_among name (suc k) (content_to at f) fs)

-- the files begin behind the count, which has 2 bytes
unfoldable pub file_at : List ℕ → List ℕ → FileNumbers
file_at s name = place_among name 0 2 (files_of s)
