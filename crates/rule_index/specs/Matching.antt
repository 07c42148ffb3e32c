-- Which rule of a list matches at a place of a word (01, Spelling a name, step 6).
use Rattle.std.specs.Prelude.{ℕ, List, [], ◌∷◌}
use Rattle.base.specs.Pick.{pick}
use Rattle.rule.specs.Matching.{rule_matches}
use Rattle.rule_lines.specs.Rules.{Rule}

pub data Match : Type 0 where
  none : Match
  by : Rule → Match

-- which rule a list has for a place of a word
abbrev pub Matcher : Type 0
Matcher = List ℕ → ℕ → Match

-- "the first rule in its character's list that matches": a rule whose pattern stands there begins with that character
unfoldable pub first_match : List Rule → Matcher
first_match [] word place = none
first_match (r ∷ rs) word place = pick (rule_matches r.pattern r.left r.right word place) (by r) (first_match rs word place)
