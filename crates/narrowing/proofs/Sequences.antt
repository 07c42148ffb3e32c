-- From the laws of an operation and from nothing else of it: the order that it makes, and that a sequence of it comes to one set, in whatever
-- order and however often each set stands in it, since that set is the last before the start and all of them. Assumes nothing.
use mathlib.Core.Path.{◌≡◌, refl, sym, ap, ap₂, ◌∙◌}
use mathlib.Core.Logic.{◌⊎◌, inl, inr, ◌↔◌}
use mathlib.Core.List.Memᴰ
use mathlib.Core.List.{List, [], ◌∷◌, foldl, Memᴰ}
use mathlib.Core.List.Permᴰ
use mathlib.Core.List.{Permᴰ}
use Rattle.languages.specs.declared.sets.LanguageSet.{LanguageSet}
use Rattle.narrowing.specs.Laws.{Operation, SpreadsOver, Semilattice, DistributiveLattice, Orderless}
use Rattle.narrowing.specs.Order.{PartialOrder, LastBeforeBoth}

-- the order that an operation makes
abbrev pub GivesBack : Operation → LanguageSet → LanguageSet → Type 0
GivesBack op x y = op x y ≡ x

-- a rearrangement holds the same
pub rearranged_has : {A : Type 0} {xs ys : List A} → Permᴰ xs ys → (x : A) → Memᴰ x xs → Memᴰ x ys
rearranged_has Permᴰ.nil x m = m
rearranged_has (Permᴰ.cons e d) x (Memᴰ.head p) = Memᴰ.head (p ∙ e)
rearranged_has (Permᴰ.cons e d) x (Memᴰ.tail m) = Memᴰ.tail (rearranged_has d x m)
rearranged_has (Permᴰ.swap e f) x (Memᴰ.head p) = Memᴰ.tail (Memᴰ.head (p ∙ e))
rearranged_has (Permᴰ.swap e f) x (Memᴰ.tail (Memᴰ.head p)) = Memᴰ.head (p ∙ f)
rearranged_has (Permᴰ.swap e f) x (Memᴰ.tail (Memᴰ.tail m)) = Memᴰ.tail (Memᴰ.tail m)
rearranged_has (Permᴰ.trans d f) x m = rearranged_has f x (rearranged_has d x m)

again : {A : Type 0} {x y : A} {xs : List A} → Memᴰ x xs → (y ≡ x) ⊎ Memᴰ y xs → Memᴰ y xs
again m (inl e) = Memᴰ.cast e m
again m (inr n) = n

module _ (op : Operation) (law : Semilattice op) where
  by_turns : (x y z : LanguageSet) → GivesBack op x y → GivesBack op y z → GivesBack op x z
  by_turns x y z p q = ap (λ (t : LanguageSet). op t z) (sym p) ∙ law.associative x y z ∙ ap (op x) q ∙ p

  pub makes_order : PartialOrder (GivesBack op)
  makes_order = record {
    reflexive = law.idempotent;
    transitive = by_turns;
    antisymmetric = λ x y p q. sym p ∙ law.commutative x y ∙ q;
  }

  before_second : (x y : LanguageSet) → GivesBack op (op x y) y
  before_second x y = law.associative x y y ∙ ap (op x) (law.idempotent y)

  before_first : (x y : LanguageSet) → GivesBack op (op x y) x
  before_first x y = ap (λ (t : LanguageSet). op t x) (law.commutative x y) ∙ before_second y x ∙ law.commutative y x

  before_both : (x y z : LanguageSet) → GivesBack op z x → GivesBack op z y → GivesBack op z (op x y)
  before_both x y z p q = sym (law.associative z x y) ∙ ap (λ (t : LanguageSet). op t y) p ∙ q

  pub gives_last : (x y : LanguageSet) → LastBeforeBoth (GivesBack op) x y (op x y)
  gives_last x y = record { first = before_first x y; second = before_second x y; last = before_both x y }

  -- ---- a sequence

  before_start : (s : LanguageSet) (xs : List LanguageSet) → GivesBack op (foldl op s xs) s
  before_start s [] = law.idempotent s
  before_start s (x ∷ xs) = by_turns _ _ _ (before_start (op s x) xs) (before_first s x)

  before_each : (s : LanguageSet) (xs : List LanguageSet) (x : LanguageSet) → Memᴰ x xs → GivesBack op (foldl op s xs) x
  before_each s [] x x3 = elim x3 [ ]
  before_each s (y ∷ xs) x (Memᴰ.head e) = rw e (by_turns _ _ _ (before_start (op s y) xs) (before_second s y))
  before_each s (y ∷ xs) x (Memᴰ.tail m) = before_each (op s y) xs x m

  last_before_all : (z s : LanguageSet) (xs : List LanguageSet) → GivesBack op z s → ((x : LanguageSet) → Memᴰ x xs → GivesBack op z x)
      → GivesBack op z (foldl op s xs)
  last_before_all z s [] p each = p
  last_before_all z s (x ∷ xs) p each =
      last_before_all z (op s x) xs (before_both s x z p (each x (Memᴰ.head refl))) (λ y m. each y (Memᴰ.tail m))

  more_sets : (s : LanguageSet) (xs ys : List LanguageSet) → ((x : LanguageSet) → Memᴰ x ys → Memᴰ x xs)
      → GivesBack op (foldl op s xs) (foldl op s ys)
  more_sets s xs ys has = last_before_all _ s ys (before_start s xs) (λ x m. before_each s xs x (has x m))

  one_result : (s : LanguageSet) (xs ys : List LanguageSet) → ((x : LanguageSet) → Memᴰ x xs ↔ Memᴰ x ys) → foldl op s xs ≡ foldl op s ys
  one_result s xs ys same = makes_order.antisymmetric _ _ (more_sets s xs ys (λ x. (same x).1)) (more_sets s ys xs (λ x. (same x).0))

  pub orderless_by_laws : Orderless op
  orderless_by_laws = record {
    any_order = λ s {xs} {ys} d. one_result s xs ys (λ x. (rearranged_has d x, rearranged_has (Permᴰ.symm d) x));
    twice_is_once = λ s x xs m. one_result s (x ∷ xs) xs (λ y. (λ n. again m (Memᴰ.cases_cons n), λ n. Memᴰ.tail n));
    same_sets = one_result;
  }

-- ---- both operations of a lattice

module _ {meet join : Operation} {bottom top : LanguageSet} (law : DistributiveLattice meet join bottom top) where
  -- the one makes the other's order, the other way round
  pub opposite_orders : (x y : LanguageSet) → GivesBack meet x y ↔ GivesBack join y x
  opposite_orders x y = (
    λ p. ap (join y) (sym p ∙ law.meets.commutative x y) ∙ law.join_absorbs y x,
    λ p. ap (meet x) (sym p ∙ law.joins.commutative y x) ∙ law.meet_absorbs x y,
  )

  -- and the other spreads over the one too
  pub spreads_back : SpreadsOver join meet
  spreads_back x y z =
      let m = law.meets in
      let j = law.joins in
      ap (λ (t : LanguageSet). join t (meet y z)) (sym (law.join_absorbs x z)) ∙ j.associative x (meet x z) (meet y z)
      ∙ ap (join x) (ap₂ join (m.commutative x z) (m.commutative y z) ∙ sym (law.spreads z x y) ∙ m.commutative z (join x y))
      ∙ ap (λ (t : LanguageSet). join t (meet (join x y) z)) (sym (law.meet_absorbs x y) ∙ m.commutative x (join x y))
      ∙ sym (law.spreads (join x y) x z)
