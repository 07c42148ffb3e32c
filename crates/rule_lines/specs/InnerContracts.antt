-- A rule of a pack string by string, as the code judges it.
use Rattle.std.specs.Prelude.{ℕ, Bool, not, List}
use Rattle.base.specs.Pick.{and}
use Rattle.regex_optim.specs.Contexts.{Form, left_form, right_form, kind_of, empty_box}
use Rattle.rule.specs.Matching.{rule_text}
use Rattle.phonemes.specs.Expressions.{checked_of}
use Rattle.rule_lines.specs.Rules.{Rule, context_fault, expression_fault, faultless}

unfoldable pub form_good : Form → Bool
form_good f = and (not (empty_box f)) (faultless (context_fault (kind_of f)))

unfoldable pub left_good : List ℕ → Bool
left_good l = and (rule_text l) (form_good (left_form l))

unfoldable pub right_good : List ℕ → Bool
right_good r = and (rule_text r) (form_good (right_form r))

unfoldable pub expression_good : List ℕ → List ℕ → Bool
expression_good names e = and (rule_text e) (faultless (expression_fault (checked_of names e)))

-- all but the lengths
unfoldable pub strings_good : List ℕ → Rule → Bool
strings_good names r = and (rule_text r.pattern) (and (left_good r.left) (and (right_good r.right) (expression_good names r.expression)))
