-- No two items have the same numbers: `item_one` reads a promise, `item_told` makes one. Assumes nothing.
use mathlib.Core.Path.{◌≡◌, refl, sym, ap, ◌∙◌}
use mathlib.Core.Bool.{true, false}
use mathlib.Core.List.{List, [], ◌∷◌}
use Prim.Native.Nat.{ℕ, suc}
use lib.Dec.{eqb}
use lib.ListN.{get_or}
use Rattle.rules_parser.specs as specs
use specs.Numbers.{accept_number, told_numbers, item_numbers}
use specs.declared.fields.Text.{Text}
use specs.declared.lines.Clause.TheVariants.{Rule, Include, Guess, Name}
use specs.declared.files.Item.{Item}
use specs.declared.files.Item.TheVariants.{Passed, Tells, Wrong}

-- the text at a place of the numbers, and the item that they are of
unfoldable text_by : List ℕ → ℕ → Text
text_by l i = record { start = get_or l i 0; len = get_or l (suc i) 0 }

unfoldable item_by : List ℕ → Item
item_by l =
    get_or (Passed (get_or l 3 0) (get_or l 1 0)
    ∷ Tells (Rule (text_by l 3) (text_by l 5) (text_by l 7) (text_by l 9)) (get_or l 1 0)
    ∷ Tells (Include (text_by l 3)) (get_or l 1 0)
    ∷ Tells (Guess (text_by l 3) (text_by l 5) (eqb (get_or l 7 0) 1)) (get_or l 1 0)
    ∷ Tells (Name (text_by l 3)) (get_or l 1 0)
    ∷ []) (get_or l 2 5) Wrong

back : (r : Item) → item_by (item_numbers r) ≡ r
unfolding text_by item_by accept_number told_numbers item_numbers
back (Passed k n) = refl
back (Tells (Rule p l r e) n) = refl
back (Tells (Include t) n) = refl
back (Tells (Guess p t true) n) = refl
back (Tells (Guess p t false) n) = refl
back (Tells (Name t) n) = refl
back Wrong = refl

pub item_one : (r d : Item) → item_numbers r ≡ item_numbers d → r ≡ d
item_one r d e = sym (back r) ∙ (ap item_by e ∙ back d)

pub item_told : (r d : Item) → r ≡ d → item_numbers r ≡ item_numbers d
item_told r d = ap item_numbers
