-- The languages that a choice leaves, by the sets that it narrows by: in whatever order. Assumes nothing.
use mathlib.Core.Path.{◌≡◌, refl, sym, ap, ◌∙◌}
use mathlib.Core.Bool.{Bool, true, false}
use mathlib.Core.Logic.{◌↔◌}
use mathlib.Core.List.Memᴰ
use mathlib.Core.List.Permᴰ
use mathlib.Core.List.{List, [], ◌∷◌, foldl, Memᴰ, Permᴰ}
use Prim.Native.Nat.{ℕ}
use lib.Dec.{eqb}
use borrow.Author.Tests.{eqb-true, eq-eqb}
use lib.Bits.{bit_and, and_zero_l}
use Rattle.base.proofs.Arms.{clash}
use Rattle.languages.specs.Sets.{narrowed, is_empty}
use Rattle.languages.specs.declared.sets.LanguageSet.{LanguageSet}
use Rattle.languages.specs.declared.sets.LanguageSet.TheVariants.{Any, NoLanguages, SomeLanguages}
use Rattle.choices.specs.Apply.{Places}
use Rattle.choices.specs.Choices.{Choice, end, choose, leaves}
use Rattle.narrowing.specs.Order.{HasLanguage}
use Rattle.narrowing.specs.Moves.{chosen_sets, NeverEmpty}
use Rattle.narrowing.proofs.Sets.{narrowing_orderless}
use Rattle.narrowing.proofs.Sequences.{rearranged_has}
use Rattle.narrowing.proofs.Orders.{left_exactly_when_all_have_it}

-- what a choice leaves is its start narrowed in turn
pub leaves_in_turn : {g : LanguageSet} {places : Places} (c : Choice g places) → leaves c ≡ foldl narrowed g (chosen_sets c)
unfolding leaves chosen_sets
leaves_in_turn end = refl
leaves_in_turn (choose a m ne c) = leaves_in_turn c

-- so it leaves the languages that its start and everything that it took have, and no others
pub choice_leaves_what_all_have : {g : LanguageSet} {places : Places} (c : Choice g places) (k : ℕ)
    → HasLanguage (leaves c) k ↔ (HasLanguage g k × ((x : LanguageSet) → Memᴰ x (chosen_sets c) → HasLanguage x k))
choice_leaves_what_all_have {g} c k = rw leaves_in_turn (left_exactly_when_all_have_it g (chosen_sets c) k)

-- and two choices that took the same sets leave the same languages, in whatever order they took them
pub same_sets_same_left : {g : LanguageSet} {places others : Places} (c : Choice g places) (d : Choice g others)
    → ((x : LanguageSet) → Memᴰ x (chosen_sets c) ↔ Memᴰ x (chosen_sets d)) → leaves c ≡ leaves d
same_sets_same_left {g} c d same =
    leaves_in_turn c ∙ narrowing_orderless.same_sets g (chosen_sets c) (chosen_sets d) same ∙ sym (leaves_in_turn d)

-- ---- a set on the way that is empty

empty_none : (x : ℕ) → eqb x 0 ≡ true → (y : ℕ) → eqb (bit_and x y) 0 ≡ true
empty_none x e y = eq-eqb _ _ (ap (λ (n : ℕ). bit_and n y) (eqb-true x 0 e) ∙ and_zero_l y)

-- what is empty stays empty
pub empty_stays_empty : (x y : LanguageSet) → is_empty x ≡ true → is_empty (narrowed x y) ≡ true
unfolding narrowed is_empty
empty_stays_empty x Any e = e
empty_stays_empty x NoLanguages e = refl
empty_stays_empty Any (SomeLanguages y) e = clash (cc)
empty_stays_empty NoLanguages (SomeLanguages y) e = refl
empty_stays_empty (SomeLanguages x) (SomeLanguages y) e = empty_none x e y

empty_to_the_end : (s : LanguageSet) (xs : List LanguageSet) → is_empty s ≡ true → is_empty (foldl narrowed s xs) ≡ true
empty_to_the_end s [] e = e
empty_to_the_end s (x ∷ xs) e = empty_to_the_end (narrowed s x) xs (empty_stays_empty s x e)

not_empty_before : (s : LanguageSet) (xs : List LanguageSet) (t : Bool) → is_empty s ≡ t → is_empty (foldl narrowed s xs) ≡ false → t ≡ false
not_empty_before s xs false p e = refl
not_empty_before s xs true p e = let q = empty_to_the_end s xs p in clash (cc)

by_the_end : (s : LanguageSet) (xs : List LanguageSet) → is_empty (foldl narrowed s xs) ≡ false → NeverEmpty s xs
unfolding NeverEmpty
by_the_end s [] e = tt
by_the_end s (x ∷ xs) e = (not_empty_before (narrowed s x) xs _ refl e, by_the_end (narrowed s x) xs e)

at_the_end : (s : LanguageSet) (xs : List LanguageSet) → is_empty s ≡ false → NeverEmpty s xs → is_empty (foldl narrowed s xs) ≡ false
unfolding NeverEmpty
at_the_end s [] e n = e
at_the_end s (x ∷ xs) e n = at_the_end (narrowed s x) xs n.0 n.1

-- so a sequence that meets no empty set meets none in any other order
pub never_empty_in_any_order : (s : LanguageSet) (xs ys : List LanguageSet) → Permᴰ xs ys → NeverEmpty s xs → NeverEmpty s ys
unfolding NeverEmpty
never_empty_in_any_order s xs [] d n = tt
never_empty_in_any_order s [] (y ∷ ys) d n = absurd (Memᴰ.not-nil (rearranged_has (Permᴰ.symm d) y (Memᴰ.head refl)))
never_empty_in_any_order s (x ∷ xs) (y ∷ ys) d n =
    by_the_end s (y ∷ ys) (ap is_empty (sym (narrowing_orderless.any_order s d)) ∙ at_the_end (narrowed s x) xs n.0 n.1)
