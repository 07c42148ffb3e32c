-- What only the contracts within `prefixes` use.
use Rattle.std.specs.Prelude.{ℕ, Bool, true, List, map, ltb}
use Rattle.std.specs.Borrow.{Bor}
use Rattle.prefixes.specs.declared.prefixes.Prefix.{Prefix}
use Rattle.prefixes.specs.declared.prefixes.Prefix.TheVariants.{Leads, Whole}

-- a prefix of so many bytes is longer than one found before, or is the first to be found
unfoldable pub longer_than : Prefix → ℕ → Bool
longer_than (Leads most rest) size = ltb most size
longer_than Whole size = true

-- the prefixes that a table lends
abbrev pub texts_of : List (Bor (List ℕ)) → List (List ℕ)
texts_of table = map (λ p. p.now) table
