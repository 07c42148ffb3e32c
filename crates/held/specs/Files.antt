-- Reading a rule file with its includes, and what is refused on the way (01, What the desk gets; Rule files and includes).
use Rattle.std.specs.Prelude.{ℕ, zero, suc, ◌+◌, List, [], ◌∷◌, leb}
use Rattle.base.specs.Pick.{pick}
use Rattle.refusals.specs.declared.Refusal.{Refusal}
use Rattle.refusals.specs.declared.Refusal.TheVariants.{FileMissing, IncludeTooDeep}
use Rattle.held.specs.Met.{Met, end, rule, file, entries}

-- what stands in a file: so many lines with nothing to keep, a rule, an include of a file by its name, or a line that is refused
pub data Line (R : Type 0) : Type 0 where
  passed : ℕ → Line R
  is_rule : R → Line R
  include : List ℕ → Line R
  bad_line : Refusal → Line R

-- the number and the lines of the file of a name, or that it isn't in the bundle
pub data Content (R : Type 0) : Type 0 where
  no_content : Content R
  lines : ℕ → List (Line R) → Content R

-- what was met, or the refusal with its line and file
pub data FileRead (R : Type 0) : Type 0 where
  was_read : Met R → FileRead R
  not_read : Refusal → ℕ → ℕ → FileRead R

-- what is met before goes in front of what is met later
unfoldable pub before : {R : Type 0} → (Met R → Met R) → FileRead R → FileRead R
before g (was_read t) = was_read (g t)
before g (not_read k l f) = not_read k l f

-- what goes on where a file was read
unfoldable pub on_read : {R : Type 0} → FileRead R → (Met R → FileRead R) → FileRead R
on_read (was_read t) k = k t
on_read (not_read c l f) k = not_read c l f

unfoldable pub on_content : {R : Type 0} → Content R → FileRead R → (ℕ → List (Line R) → FileRead R) → FileRead R
on_content no_content x k = x
on_content (lines f ls) x k = k f ls

-- the lines from line l of file f on, n includes having been followed; `follow name f l n` reads the file of the include there
unfoldable pub read_lines : {R : Type 0} → (List ℕ → ℕ → ℕ → ℕ → FileRead R) → ℕ → ℕ → ℕ → List (Line R) → FileRead R
read_lines follow f l n [] = was_read end
read_lines follow f l n (passed k ∷ ls) = read_lines follow f (l + k) n ls
read_lines follow f l n (is_rule r ∷ ls) = before (rule r) (read_lines follow f (l + 1) n ls)
read_lines follow f l n (include g ∷ ls) = on_read (follow g f l n) (λ t. before (file t) (read_lines follow f (l + 1) (n + 1 + entries t) ls))
read_lines follow f l n (bad_line k ∷ ls) = not_read k l f

-- the file of a name, included at line l of file f, n includes having been followed, where `left` more files may be nested. It is
-- refused where it is too deep or one too many (17), and where it is missing (11)
unfoldable pub follow : {R : Type 0} → (List ℕ → Content R) → ℕ → List ℕ → ℕ → ℕ → ℕ → FileRead R
follow files zero g f l n = not_read IncludeTooDeep l f
follow files (suc left) g f l n =
    pick (leb 256 n) (not_read IncludeTooDeep l f) (on_content (files g) (not_read FileMissing l f) (λ h ls. read_lines (follow files left) h 1 (n + 1) ls))

-- "A listed file has include depth 0": eight more may be nested below it
unfoldable pub read_listed : {R : Type 0} → (List ℕ → Content R) → ℕ → List (Line R) → FileRead R
read_listed files f ls = read_lines (follow files 8) f 1 0 ls
