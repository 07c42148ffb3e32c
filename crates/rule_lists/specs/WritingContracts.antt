-- What is written of a list.
use Rattle.std.specs.Prelude.{◌≡◌, ℕ, ◌≤◌, List, [], ◌++◌, length}
use Rattle.writing.specs.InnerContracts.{Put}
use Rattle.rule_lines.specs.Rules.{Rule}
use Rattle.pack_bytes.specs.Bytes.{count_bytes}
use Rattle.held.specs.InnerContracts.{key_bytes}
use Rattle.rules_parser.specs.InnerContracts.{strings_from}
use Rattle.rules_parser.specs.declared.known.Strings.{Strings}
use Rattle.rule_lists.specs.Lines.{rule_in}
use Rattle.rule_lists.specs.TableContracts.{file_around, spot_at, KeptIs, keys_of}
use Rattle.pack_bytes.specs.InnerContracts.{text_put}
use Rattle.rule_lists.specs.Lists.{type_prefix, rules_part, approx_part, exact_part}
use Rattle.rule_lists.specs.declared.tables.Spot.{Spot}
use Rattle.rule_lists.specs.declared.lists.ListKind.{ListKind}
use Rattle.rule_lists.specs.declared.lists.ListKind.TheVariants as list
use Rattle.rule_lists.specs.declared.lists.ListName.{ListName}

unfoldable pub rule_put : Rule → List ℕ
rule_put r = text_put r.pattern ++ (text_put r.left ++ (text_put r.right ++ text_put r.expression))

-- the rule of a line that is one
unfoldable pub row_put : List ℕ → ℕ → List ℕ
row_put s place = of (strings_from s place)
  where
    of : Strings → List ℕ
    of t = rule_put (rule_in s t.pattern t.left t.right t.expression)

-- the rows are those of some rules
pub record SomeKept (bundle : List ℕ) (rows : List Spot) (n : ℕ) : Type 0 where
  pub some : (rs : List Rule) × KeptIs bundle rows n rs

-- row j lies within the rows, and its file within the bundle
pub record RowFits (bundle : List ℕ) (rows : List Spot) (j : ℕ) : Type 0 where
  pub size : length rows ≡ 4096
  pub order : (spot_at rows j).start ≤ (spot_at rows j).end
  pub within : (spot_at rows j).end ≤ length bundle

-- the rule of row j
abbrev pub row_at_put : List ℕ → List Spot → ℕ → List ℕ
row_at_put bundle rows j = row_put (file_around bundle (spot_at rows j)) (spot_at rows j).place

-- the rules of n rows in order, behind their count
pub record RowsPut (bundle : List ℕ) (rows : List Spot) (n : ℕ) (out : List ℕ) (at r : ℕ) (out' : List ℕ) : Type 0 where
  pub is : (rs : List Rule) → KeptIs bundle rows n rs → Put out out' at r (count_bytes n ++ key_bytes rule_put rs (keys_of rows n 0 []))

-- ---- the name of a list's file

unfoldable pub list_part : ListKind → List ℕ
list_part list.Rules = rules_part
list_part list.Approx = approx_part
list_part list.Exact = exact_part

unfoldable pub list_name : ListName → List ℕ → List ℕ
list_name n lang = type_prefix n.kind ++ (list_part n.list ++ lang)
