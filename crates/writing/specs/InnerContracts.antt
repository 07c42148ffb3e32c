-- What it is to write what fits of a text from a place on.
use Rattle.std.specs.Prelude.{◌≡◌, ℕ, ◌+◌, ◌^◌, ◌<◌, min, List, length}
use Rattle.std.proofs.lemmas.List.Edits.{sets}

-- no slice has more bytes
abbrev pub cap : ℕ
cap = 2 ^ 63

-- t stands over out from at on, as far as there is room, and next is the place behind it, at most cap
pub record Put (out out' : List ℕ) (at next : ℕ) (t : List ℕ) : Type 0 where
  pub wrote : out' ≡ sets out at t
  pub ends : next ≡ min (at + length t) cap
  pub room : length out < cap
