-- The order of texts and their sameness are those of std's slices. Assumes nothing.
use mathlib.Core.Path.{◌≡◌, refl, ap₂}
use mathlib.Core.Bool.{true}
use mathlib.Core.List.{List, [], ◌∷◌}
use Prim.Native.Nat.{ℕ}
use lib.Dec.{eqb}
use borrow.Author.Rules.{rules}
use borrow.Author.Tests.{eqb-true, eq-eqb}
use Rattle.std.specs.Prelude.{nat_eq}
use Rattle.std.specs.Ordering.{nat_cmp}
use Rattle.std.specs.Cmp.Lexicographic.{slice_cmp, pointwise}
use Rattle.base.specs.Pick.{pick, and}
use Rattle.letters.specs.Order.{order_of, same_text}
use Rattle.std.proofs.Common.{arith}
use Rattle.std.proofs.lemmas.Bool.Decides.{nat_tests}
use Rattle.base.proofs.PickLaws.{and_inv}
use Rattle.base.proofs.Arms.{clash}

pub order_by_slices : (a b : List ℕ) → slice_cmp nat_cmp a b ≡ order_of a b
unfolding order_of pick
order_by_slices [] [] = refl
order_by_slices [] (y ∷ ys) = refl
order_by_slices (x ∷ xs) [] = refl
order_by_slices (x ∷ xs) (y ∷ ys) = let rest = order_by_slices xs ys in grind (arith, nat_tests, rest)

pub same_by_slices : (a b : List ℕ) → pointwise nat_eq a b ≡ same_text a b
unfolding same_text and pick
same_by_slices [] [] = refl
same_by_slices [] (y ∷ ys) = refl
same_by_slices (x ∷ xs) [] = refl
same_by_slices (x ∷ xs) (y ∷ ys) = let rest = same_by_slices xs ys in grind (arith, nat_tests, rest)

pub same_refl : (a : List ℕ) → same_text a a ≡ true
unfolding same_text and
same_refl [] = refl
same_refl (x ∷ xs) = rw (eq-eqb x x refl) (same_refl xs)

pub same_is : (a b : List ℕ) → same_text a b ≡ true → a ≡ b
unfolding same_text
same_is [] [] e = refl
same_is [] (y ∷ ys) e = clash (cc)
same_is (x ∷ xs) [] e = clash (cc)
same_is (x ∷ xs) (y ∷ ys) e = let both = and_inv _ _ e in ap₂ ◌∷◌ (eqb-true x y both.0) (same_is xs ys both.1)

pub ruleset order_laws = (order_by_slices, same_by_slices, rules)
