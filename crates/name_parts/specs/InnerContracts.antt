-- What the functions that join words write one after the other.
use Rattle.std.specs.Prelude.{ℕ, List, [], ◌∷◌}
use Rattle.prefixes.specs.declared.prefixes.NameType.{NameType}
use Rattle.name_parts.specs.Joining.{remaining, joined_by_space}

-- what remains of words, behind those already joined: an empty text stands for these
abbrev pub joined_behind : NameType → List (List ℕ) → List ℕ
joined_behind kind ws = joined_by_space ([] ∷ remaining kind ws)
