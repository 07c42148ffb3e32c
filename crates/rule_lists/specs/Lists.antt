-- The lists of a pack in order, from the files of a bundle (01, Bundle and pack; What the desk gets).
use Rattle.std.specs.Prelude.{ℕ, List, [], ◌∷◌, ◌++◌, leb, length}
use Rattle.refusals.specs.declared.Refusal.TheVariants.{FileMissing, TooMuch}
use Rattle.prefixes.specs.declared.prefixes.NameType.{NameType}
use Rattle.prefixes.specs.declared.prefixes.NameType.TheVariants.{Ashkenazi, Generic, Sephardic}
use Rattle.rule_lines.specs.Rules.{Rule}
use Rattle.bundles.specs.Bundles.{File, Found, missing, found, file_named}
use Rattle.held.specs.Met.{finished}
use Rattle.held.specs.Files.{read_listed}
use Rattle.rule_lists.specs.Outcomes.{Loading, fine, not_loaded, and_load}
use Rattle.rule_lists.specs.Lines.{lines_of}
use Rattle.held.specs.Files as files
use Rattle.held.specs.Met as met
use Rattle.rule.specs.Matching.{first_code}
use Rattle.base.specs.Pick.{pick}

-- "Rules stand by first character of the pattern"
unfoldable pub first_code_of : Rule → ℕ
first_code_of r = first_code r.pattern

-- the lines of the file of a name
unfoldable pub content_in : List ℕ → Found → files.Content Rule
content_in names missing = files.no_content
content_in names (found k c) = files.lines k (lines_of names c)

unfoldable pub files_for : List ℕ → List File → List ℕ → files.Content Rule
files_for names fs name = content_in names (file_named name 0 fs)

-- "list over 4,096 rules": "Lists are counted when finished"
unfoldable pub counted_rules : files.FileRead Rule → Loading (met.Met Rule)
counted_rules (files.was_read t) = pick (leb (length (met.finished first_code_of t)) 4096) (fine t) (not_loaded TooMuch 0 0)
counted_rules (files.not_read c l f) = not_loaded c l f

-- a listed file that isn't in the bundle is 11 without a line
unfoldable pub list_in : List ℕ → List File → Found → Loading (List Rule)
list_in names fs missing = not_loaded FileMissing 0 0
list_in names fs (found k s) = and_load (counted_rules (read_listed (files_for names fs) k (lines_of names s))) (λ t. fine (finished first_code_of t))

-- the list of the file of a name; `names` is the bytes of the languages, each behind its length byte
unfoldable pub list_named : List ℕ → List File → List ℕ → Loading (List Rule)
list_named names fs name = list_in names fs (file_named name 0 fs)

unfoldable pub lists_of : List ℕ → List File → List (List ℕ) → Loading (List (List Rule))
lists_of names fs [] = fine []
lists_of names fs (w ∷ ws) = and_load (list_named names fs w) (λ rs. and_load (lists_of names fs ws) (λ rest. fine (rs ∷ rest)))

-- ---- "Names are as in the crate without `.txt`: `gen_rules_any`, `gen_approx_common` ..; likewise `ash`, `sep`"

unfoldable pub type_prefix : NameType → List ℕ
type_prefix Ashkenazi = 97 ∷ 115 ∷ 104 ∷ []
type_prefix Generic = 103 ∷ 101 ∷ 110 ∷ []
type_prefix Sephardic = 115 ∷ 101 ∷ 112 ∷ []

-- the bytes of `_rules_`, `_approx_`, `_exact_` and `common`
abbrev pub rules_part : List ℕ
rules_part = 95 ∷ 114 ∷ 117 ∷ 108 ∷ 101 ∷ 115 ∷ 95 ∷ []

abbrev pub approx_part : List ℕ
approx_part = 95 ∷ 97 ∷ 112 ∷ 112 ∷ 114 ∷ 111 ∷ 120 ∷ 95 ∷ []

abbrev pub exact_part : List ℕ
exact_part = 95 ∷ 101 ∷ 120 ∷ 97 ∷ 99 ∷ 116 ∷ 95 ∷ []

abbrev pub common_part : List ℕ
common_part = 99 ∷ 111 ∷ 109 ∷ 109 ∷ 111 ∷ 110 ∷ []

-- two lists of a language, or of `common`
unfoldable pub two_of : List ℕ → List ℕ → List (List ℕ)
two_of pre lang = (pre ++ (approx_part ++ lang)) ∷ (pre ++ (exact_part ++ lang)) ∷ []

-- "for each language rules, approx, exact"
unfoldable pub three_of : List ℕ → List ℕ → List (List ℕ)
three_of pre lang = (pre ++ (rules_part ++ lang)) ∷ two_of pre lang

-- "then common approx, common exact"
unfoldable pub list_files : List ℕ → List (List ℕ) → List (List ℕ)
list_files pre [] = two_of pre common_part
list_files pre (l ∷ ls) = three_of pre l ++ list_files pre ls
