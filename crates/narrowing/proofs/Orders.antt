-- The order of sets of languages is the one that narrowing makes, and the other way round the one that merging makes. Assumes nothing.
use mathlib.Core.Path.{◌≡◌, refl, ap, ◌∙◌}
use mathlib.Core.Logic.{◌↔◌}
use mathlib.Core.List.Memᴰ
use mathlib.Core.List.{List, [], ◌∷◌, foldl, Memᴰ}
use Prim.Native.Nat.{ℕ, zero, suc, ◌≤◌, min}
use native.Mathlib.Omega.{arith}
use lib.Bits.{bit_and}
use Rattle.base.proofs.Arms.{clash}
use Rattle.base.proofs.Bits.{bit, bits_ext, and_bit}
use Rattle.languages.specs.Sets.{narrowed, merged}
use Rattle.languages.specs.declared.sets.LanguageSet.{LanguageSet}
use Rattle.languages.specs.declared.sets.LanguageSet.TheVariants.{Any, NoLanguages, SomeLanguages}
use Rattle.narrowing.specs.Order.{HasLanguage, SetBelow, none_least, any_greatest, some_among, SetAbove}
use Rattle.narrowing.specs.Order.{PartialOrder, LastBeforeBoth}
use Rattle.narrowing.proofs.Sets.{narrowing_semilattice, merging_semilattice, language_lattice, narrowing_commutes}
use Rattle.narrowing.proofs.Sequences.{GivesBack, makes_order, gives_last, opposite_orders}

-- ---- x is below y exactly when narrowing x by y gives x

lesser : (a b : ℕ) → a ≤ 1 → (a ≡ 1 → b ≡ 1) → min a b ≡ a
lesser zero b h p = omega arith
lesser (suc a) b h p =
    let one : suc a ≡ 1 = omega arith in
    omega (arith, p one)

narrows : (x y : LanguageSet) → SetBelow x y → GivesBack narrowed x y
unfolding narrowed HasLanguage
narrows x y none_least = narrowing_commutes NoLanguages y
narrows x y any_greatest = refl
narrows (SomeLanguages x) (SomeLanguages y) (some_among h) =
    ap SomeLanguages (bits_ext _ _ (λ k. and_bit x y k ∙ lesser (bit x k) (bit y k) (omega arith) (h k)))

bit_kept : (x y k : ℕ) → bit_and x y ≡ x → bit x k ≡ 1 → bit y k ≡ 1
bit_kept x y k e p = omega (arith, and_bit x y k, ap (λ (n : ℕ). bit n k) e)

below : (x y : LanguageSet) → GivesBack narrowed x y → SetBelow x y
unfolding narrowed HasLanguage
below x Any e = any_greatest
below NoLanguages NoLanguages e = none_least
below NoLanguages (SomeLanguages y) e = none_least
below Any NoLanguages e = clash (cc)
below (SomeLanguages x) NoLanguages e = clash (cc)
below Any (SomeLanguages y) e = clash (cc)
below (SomeLanguages x) (SomeLanguages y) e = let same : bit_and x y ≡ x = cc in some_among (λ k p. bit_kept x y k same p)

pub below_exactly_when_narrowing_gives_it : (x y : LanguageSet) → SetBelow x y ↔ (narrowed x y ≡ x)
below_exactly_when_narrowing_gives_it x y = (narrows x y, below x y)

-- and exactly when merging gives y
pub below_exactly_when_merging_adds_nothing : (x y : LanguageSet) → SetBelow x y ↔ (merged y x ≡ y)
below_exactly_when_merging_adds_nothing x y =
    let other = opposite_orders language_lattice x y in
    (λ p. other.0 (narrows x y p), λ e. below x y (other.1 e))

-- ---- so what an operation makes is the order's

module _ {R Q : LanguageSet → LanguageSet → Type 0} (same : (x y : LanguageSet) → R x y ↔ Q x y) where
  carry_order : PartialOrder Q → PartialOrder R
  carry_order o = record {
    reflexive = λ x. (same x x).1 (o.reflexive x);
    transitive = λ x y z p q. (same x z).1 (o.transitive x y z ((same x y).0 p) ((same y z).0 q));
    antisymmetric = λ x y p q. o.antisymmetric x y ((same x y).0 p) ((same y x).0 q);
  }

  carry_last : (x y m : LanguageSet) → LastBeforeBoth Q x y m → LastBeforeBoth R x y m
  carry_last x y m l = record {
    first = (same m x).1 l.first;
    second = (same m y).1 l.second;
    last = λ z p q. (same z m).1 (l.last z ((same z x).0 p) ((same z y).0 q));
  }

pub below_is_an_order : PartialOrder SetBelow
below_is_an_order = carry_order below_exactly_when_narrowing_gives_it (makes_order narrowed narrowing_semilattice)

-- narrowing gives the greatest set below both
pub narrowing_gives_greatest_below : (x y : LanguageSet) → LastBeforeBoth SetBelow x y (narrowed x y)
narrowing_gives_greatest_below x y = carry_last below_exactly_when_narrowing_gives_it x y _ (gives_last narrowed narrowing_semilattice x y)

-- merging gives the least set above both
pub merging_gives_least_above : (x y : LanguageSet) → LastBeforeBoth SetAbove x y (merged x y)
merging_gives_least_above x y =
    carry_last (λ a b. below_exactly_when_merging_adds_nothing b a) x y _ (gives_last merged merging_semilattice x y)

-- ---- language by language

-- narrowing leaves the languages that both sets have
pub narrowing_leaves_what_both_have : (x y : LanguageSet) (k : ℕ) → HasLanguage (narrowed x y) k ↔ (HasLanguage x k × HasLanguage y k)
unfolding narrowed HasLanguage
narrowing_leaves_what_both_have x Any k = (λ p. (p, tt), λ q. q.0)
narrowing_leaves_what_both_have x NoLanguages k = (λ p. absurd p, λ q. q.1)
narrowing_leaves_what_both_have Any (SomeLanguages y) k = (λ p. (tt, p), λ q. q.1)
narrowing_leaves_what_both_have NoLanguages (SomeLanguages y) k = (λ p. absurd p, λ q. q.0)
narrowing_leaves_what_both_have (SomeLanguages x) (SomeLanguages y) k =
    (λ p. (omega (arith, and_bit x y k), omega (arith, and_bit x y k)), λ q. omega (arith, and_bit x y k, q.0, q.1))

all_have : (k : ℕ) (x : LanguageSet) (xs : List LanguageSet) → HasLanguage x k → ((y : LanguageSet) → Memᴰ y xs → HasLanguage y k)
    → (y : LanguageSet) → Memᴰ y (x ∷ xs) → HasLanguage y k
all_have k x xs p each y (Memᴰ.head e) = rw e p
all_have k x xs p each y (Memᴰ.tail m) = each y m

-- a language is left exactly when the start and every set of the sequence have it, wherever they stand in it
pub left_exactly_when_all_have_it : (s : LanguageSet) (xs : List LanguageSet) (k : ℕ)
    → HasLanguage (foldl narrowed s xs) k ↔ (HasLanguage s k × ((x : LanguageSet) → Memᴰ x xs → HasLanguage x k))
left_exactly_when_all_have_it s [] k = (λ p. (p, λ x m. absurd (Memᴰ.not-nil m)), λ q. q.0)
left_exactly_when_all_have_it s (x ∷ xs) k =
    let rest = left_exactly_when_all_have_it (narrowed s x) xs k in
    let here = narrowing_leaves_what_both_have s x k in (
      λ p. ((here.0 (rest.0 p).0).0, all_have k x xs (here.0 (rest.0 p).0).1 (rest.0 p).1),
      λ q. rest.1 (here.1 (q.0, q.1 x (Memᴰ.head refl)), λ y m. q.1 y (Memᴰ.tail m)),
    )
