-- Contexts that fit some text, and rules that match nowhere (02, ticket 11: "Boxes that can never fit").
use Rattle.std.specs.Prelude.{ℕ, ◌≡◌, true, false, None}
use mathlib.Core.List.{List, Memᴰ}
use Rattle.letters.specs.Reading.{first_ill}
use Rattle.regex_optim.specs.Contexts.{Form, left_form, right_form, fits}
use Rattle.rule.specs.Matching.{rule_matches}
use Rattle.rule_lines.specs.Rules.{Rule}
use Rattle.pack.specs.Packs.{Pack}

-- some well-formed text fits
pub record FitsSome (form : Form) : Type 0 where
  pub text : List ℕ
  pub formed : first_ill text ≡ None
  pub does : fits form text ≡ true

pub record ContextsFit (r : Rule) : Type 0 where
  pub left : FitsSome (left_form r.left)
  pub right : FitsSome (right_form r.right)

-- of every rule of every list
unfoldable pub AllContextsFit : Pack → Type 0
AllContextsFit p = (rs : List Rule) → Memᴰ rs p.lists → (r : Rule) → Memᴰ r rs → ContextsFit r

-- "the rule silently did nothing"
unfoldable pub MatchesNowhere : Rule → Type 0
MatchesNowhere r = (text : List ℕ) (place : ℕ) → rule_matches r.pattern r.left r.right text place ≡ false
