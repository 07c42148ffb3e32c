-- A rule, and its faults (01, Rule files and includes; What the desk gets: "in a line 12, 13, 18, 15 (left, then right), 14, 16"; 02, ticket 11: 20
-- comes "after 15 for both contexts and before 14").
use Rattle.phonemes.specs.declared.answers.ExpressionFault.TheVariants.{Malformed, UnlistedName}
use Rattle.phonemes.specs.declared.answers.ExpressionFault.{ExpressionFault}
use Rattle.refusals.specs.declared.Refusal.{Refusal}
use Rattle.std.specs.Prelude.{ℕ, Bool, true, false, List, eqb, ltb, length, Option, Some, None, Result, Ok, Err}
use Rattle.base.specs.Pick.{pick, and}
use Rattle.refusals.specs.declared.Refusal.TheVariants.{PatternEmpty, ExpressionWrong, OutsideForms, NameUnlisted, TooMuch, BoxEmpty}
use Rattle.regex_optim.specs.Contexts.{Form, left_form, right_form, kind_of, empty_box}
use Rattle.regex_optim.specs.declared.OptimizedRegex.{OptimizedRegex}
use Rattle.rule.specs.Matching.{rule_text}
use Rattle.phonemes.specs.Expressions.{checked_of}

-- "rules of four strings"
pub record Rule : Type 0 where
  pub pattern : List ℕ
  pub left : List ℕ
  pub right : List ℕ
  pub expression : List ℕ

abbrev pub rule : List ℕ → List ℕ → List ℕ → List ℕ → Rule
rule p l r e = record { pattern = p; left = l; right = r; expression = e }

-- ---- the faults of a rule, each its refusal, or none

-- "pattern empty"; "string over 255 bytes"
unfoldable pub length_fault : ℕ → ℕ → ℕ → ℕ → Option Refusal
length_fault p l r e =
    pick (eqb p 0) (Some PatternEmpty) (pick (ltb 255 p) (Some TooMuch) (pick (ltb 255 l) (Some TooMuch) (pick (ltb 255 r) (Some TooMuch) (pick (ltb 255 e) (Some TooMuch) None))))

-- "context .. outside the forms"
unfoldable pub context_fault : Option OptimizedRegex → Option Refusal
context_fault (Some form) = None
context_fault None = Some OutsideForms

-- "a rule with an empty box that isn't negated, as left or right context"
unfoldable pub box_fault : Form → Form → Option Refusal
box_fault left right = pick (empty_box left) (Some BoxEmpty) (pick (empty_box right) (Some BoxEmpty) None)

-- "phoneme expression wrong"; "language name not in the list"
unfoldable pub expression_fault : Result ℕ ExpressionFault → Option Refusal
expression_fault (Ok n) = None
expression_fault (Err Malformed) = Some ExpressionWrong
expression_fault (Err UnlistedName) = Some NameUnlisted

-- the first fault, else the second
unfoldable pub fault_else : Option Refusal → Option Refusal → Option Refusal
fault_else None b = b
fault_else (Some w) b = Some w

-- "15 (left, then right)", and 20 "after 15 for both contexts"
unfoldable pub contexts_fault : Form → Form → Option Refusal
contexts_fault left right = fault_else (context_fault (kind_of left)) (fault_else (context_fault (kind_of right)) (box_fault left right))

-- `names` is the bytes of the languages, each behind its length byte
unfoldable pub rule_fault : List ℕ → Rule → Option Refusal
rule_fault names r =
    fault_else (length_fault (length r.pattern) (length r.left) (length r.right) (length r.expression))
    (fault_else (contexts_fault (left_form r.left) (right_form r.right)) (expression_fault (checked_of names r.expression)))

-- ---- a rule of a pack: "Every rule above applies", that is, its strings are texts and it has no fault

unfoldable pub rule_texts : Rule → Bool
rule_texts r = and (rule_text r.pattern) (and (rule_text r.left) (and (rule_text r.right) (rule_text r.expression)))

unfoldable pub faultless : Option Refusal → Bool
faultless None = true
faultless (Some w) = false

unfoldable pub rule_good : List ℕ → Rule → Bool
rule_good names r = and (rule_texts r) (faultless (rule_fault names r))
