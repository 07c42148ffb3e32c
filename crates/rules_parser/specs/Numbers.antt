-- The paper's numbers of what stands at the beginning of a line.
use Rattle.std.specs.Prelude.{ℕ, Bool, true, false, List, [], ◌∷◌}
use Rattle.refusals.specs.Numbers.{number_of}
use Rattle.refusals.specs.declared.Refusal.TheVariants.{LineUnreadable}
use Rattle.rules_parser.specs.declared.lines.Clause.{Clause}
use Rattle.rules_parser.specs.declared.lines.Clause.TheVariants.{Rule, Include, Guess, Name}
use Rattle.rules_parser.specs.declared.files.Item.{Item}
use Rattle.rules_parser.specs.declared.files.Item.TheVariants.{Passed, Tells, Wrong}

-- the word `false` or `true`
unfoldable pub accept_number : Bool → ℕ
accept_number false = 0
accept_number true = 1

-- what a line says: a number for its kind, which is ours, and the place and length of each of its texts
unfoldable pub told_numbers : Clause → List ℕ
told_numbers (Rule p l r e) = 1 ∷ p.start ∷ p.len ∷ l.start ∷ l.len ∷ r.start ∷ r.len ∷ e.start ∷ e.len ∷ []
told_numbers (Include n) = 2 ∷ n.start ∷ n.len ∷ []
told_numbers (Guess p n accept) = 3 ∷ p.start ∷ p.len ∷ n.start ∷ n.len ∷ accept_number accept ∷ []
told_numbers (Name n) = 4 ∷ n.start ∷ n.len ∷ []

-- 0 and where the next line begins, with the lines that were passed or with what the line says; 12, "line not readable"
unfoldable pub item_numbers : Item → List ℕ
item_numbers (Passed lines next) = 0 ∷ next ∷ 0 ∷ lines ∷ []
item_numbers (Tells told next) = 0 ∷ next ∷ told_numbers told
item_numbers Wrong = number_of LineUnreadable ∷ []
