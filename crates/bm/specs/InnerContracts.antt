-- What only contracts and proofs of this crate's functions use.
use Rattle.engine.specs.declared.spelling.Spelled.{Spelled}
use Rattle.std.specs.Prelude.{List, ℕ, ◌≡◌}
use Rattle.engine.specs.Calls.{spelled_numbers}
use Rattle.bm.specs.Flat.{numbered}

pub record TailIs (s : Spelled) (tail tail' : List ℕ) (r : ℕ) : Type 0 where
  pub code : r ≡ (spelled_numbers s).code
  pub numbers : tail' ≡ numbered (spelled_numbers s) tail
