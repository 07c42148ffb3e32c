-- What only contracts and proofs of this crate's functions use.
use Rattle.std.specs.Prelude.{List, ℕ, leb, length, ◌≡◌, Option, Some, None}
use Rattle.base.specs.Pick.{pick}
use Rattle.lower_case.specs.Lower.{lower_text}
use Rattle.std.proofs.lemmas.List.Edits.{sets}

-- lower-casing into a buffer: all of it is stored at the front, or it has no room and nothing is
unfoldable pub lowered_answer : List ℕ → List ℕ → Option ℕ
lowered_answer s out = pick (leb (length (lower_text s)) (length out)) (Some (length (lower_text s))) None

unfoldable pub lowered_buffer : List ℕ → List ℕ → List ℕ
lowered_buffer s out = pick (leb (length (lower_text s)) (length out)) (sets out 0 (lower_text s)) out

pub record LoweredInto (s out : List ℕ) (r : Option ℕ) (out' : List ℕ) : Type 0 where
  pub result : r ≡ lowered_answer s out
  pub buffer : out' ≡ lowered_buffer s out
