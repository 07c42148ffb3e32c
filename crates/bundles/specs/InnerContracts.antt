-- What the functions answer, by places.
use Rattle.std.specs.Prelude.{Option, Some, None, ◌≡◌, ℕ, ◌+◌, ◌-◌, ◌≤◌, Bool, true, List, length, take, drop}
use Rattle.letters.specs.Order.{order_of, is_less}
use Rattle.strings.specs.Reading.{cut, got, read_number}
use Rattle.bundles.specs.Bundles.{file, read_file, File}
use Rattle.bundles.specs.declared.Entry.{Entry}
use Rattle.strings.specs.InnerContracts.{behind, read_some}

-- the files of any bytes, up to where they run out
unfoldable pub files_of : List ℕ → List File
files_of s = behind (read_number 2 s) (λ n r. read_some read_file n r)

-- a name stands behind the one before it, where there is one
unfoldable pub follows_in : Option (List ℕ) → List ℕ → Bool
follows_in None name = true
follows_in (Some before) name = is_less (order_of before name)

-- the part of s from a to b is t
pub record Stands (s : List ℕ) (a b : ℕ) (t : List ℕ) : Type 0 where
  pub is : take (b - a) (drop a s) ≡ t
  pub order : a ≤ b
  pub within : b ≤ length s

-- the file read at a place of s: its name stands from a to b and its content, behind 4 bytes, from c to d, where the rest begins
pub record Placed (s : List ℕ) (at a b c d : ℕ) : Type 0 where
  pub reads : read_file (drop at s) ≡ got (file (take (b - a) (drop a s)) (take (d - c) (drop c s))) (drop d s)
  pub begins : a ≡ at + 1
  pub named : a ≤ b
  pub apart : c ≡ b + 4
  pub order : c ≤ d
  pub within : d ≤ length s

unfoldable pub EntryIs : List ℕ → ℕ → Option Entry → Type 0
EntryIs s at (Some e) = Placed s at e.name e.name_end e.start e.end
EntryIs s at None = read_file (drop at s) ≡ cut
