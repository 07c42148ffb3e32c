-- Bundles (01, Bundle and pack): "file count (2 bytes); each file a name (length byte, bytes) and content (length in 4 bytes); names
-- strictly increasing, nothing after".
use Rattle.std.specs.Prelude.{ℕ, suc, Bool, false, List, [], ◌∷◌, map, leb, length, take, drop}
use Rattle.base.specs.Pick.{pick, and}
use Rattle.letters.specs.Order.{same_text, increasing}
use Rattle.strings.specs.Reading.{Read, cut, got, and_read, read_number, read_text, read_many, is_nil}

pub record File : Type 0 where
  pub name : List ℕ
  pub content : List ℕ

abbrev pub file : List ℕ → List ℕ → File
file n c = record { name = n; content = c }

-- "content (length in 4 bytes)"
unfoldable pub read_content : List ℕ → Read (List ℕ)
read_content l = and_read (read_number 4 l) (λ n r. pick (leb n (length r)) (got (take n r) (drop n r)) cut)

unfoldable pub read_file : List ℕ → Read File
read_file l = and_read (read_text l) (λ n r. and_read (read_content r) (λ c q. got (file n c) q))

unfoldable pub read_bundle : List ℕ → Read (List File)
read_bundle s = and_read (read_number 2 s) (λ n r. read_many read_file n r)

abbrev pub file_name : File → List ℕ
file_name f = f.name

-- "names strictly increasing, nothing after"
unfoldable pub well_formed : Read (List File) → Bool
well_formed cut = false
well_formed (got files r) = and (increasing (map file_name files)) (is_nil r)

-- the number and the content of the file of a name, or that it isn't in the bundle (11)
pub data Found : Type 0 where
  missing : Found
  found : ℕ → List ℕ → Found

-- among files that are numbered from k on
unfoldable pub file_named : List ℕ → ℕ → List File → Found
file_named name k [] = missing
file_named name k (f ∷ fs) = pick (same_text f.name name) (found k f.content) (file_named name (suc k) fs)
