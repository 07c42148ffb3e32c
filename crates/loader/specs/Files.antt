-- The lines of a language list or a guessing file (01, Rule files and includes).
use Rattle.std.specs.Prelude.{ℕ, ◌+◌, List, [], ◌∷◌}
use Rattle.refusals.specs.declared.Refusal.{Refusal}
use Rattle.refusals.specs.declared.Refusal.TheVariants.{LineUnreadable}
use Rattle.rules_parser.specs.declared.lines.Clause.{Clause}
use Rattle.rules_parser.specs.declared.files.Item.{Item}
use Rattle.rules_parser.specs.declared.files.Item.TheVariants.{Passed, Tells, Wrong}
use Rattle.rule_lists.specs.Outcomes.{Loading, fine, not_loaded, and_load}

-- what a line is kept as, or its fault
pub data Kept (A : Type 0) : Type 0 where
  keeps : A → Kept A
  fault : Refusal → Kept A

unfoldable pub on_kept : {A B : Type 0} → Kept A → (Refusal → Loading B) → (A → Loading B) → Loading B
on_kept (keeps a) bad k = k a
on_kept (fault c) bad k = bad c

-- what the lines of file f say, the items beginning in line l; "12 line not readable"
unfoldable pub told_in : {A : Type 0} → (Clause → Kept A) → ℕ → ℕ → List Item → Loading (List A)
told_in meaning f l [] = fine []
told_in meaning f l (Passed k n ∷ is) = told_in meaning f (l + k) is
told_in meaning f l (Tells t n ∷ is) =
    on_kept (meaning t) (λ c. not_loaded c l f) (λ a. and_load (told_in meaning f (l + 1) is) (λ rest. fine (a ∷ rest)))
told_in meaning f l (Wrong ∷ is) = not_loaded LineUnreadable l f
