-- Laws of the finished list: under each first character it has what is held there, its first characters do not fall, and it has as many
-- rules as stay. Assumes nothing.
use mathlib.Core.Path.{◌≡◌, refl, sym, ap, ap₂, ◌∙◌}
use mathlib.Core.Bool.{true, false, false≢true}
use mathlib.Core.List.{List, [], ◌∷◌, ◌++◌, append-nil}
use Prim.Native.Nat.{ℕ, zero, suc, ◌+◌, ◌*◌, ◌/◌, ◌≤◌, ◌<◌}
use native.Mathlib.Decide.{ℕ_discrete}
use native.Mathlib.Omega.{arith}
use lib.ListN.{length, length-append}
use borrow.Author.Tests.{eqb-true, ne_eqb, eq-eqb}
use Rattle.held.specs.Met.{Met, end, rule, file, Map, no_rules, brings_none, add, extend, held_after, spread, codes, finished, entries}
use Rattle.held.specs.InnerContracts.{noted, kept, met_on, kept_rules, stays_in, All, KeysApart, Each, Within, brings}
use Rattle.held.proofs.Laws.{or_left, or_right, pick_by, held_brings}
use Rattle.held.proofs.Places.{noted_apart, noted_all}
use Rattle.held.proofs.Kept.{under, under_append, kept_held, stays_all}
use Rattle.base.proofs.PickLaws.{pick_true, pick_false, pick_all}

nil_some : {R : Type 0} (l : List R) → brings_none l ≡ false → 0 < length l
unfolding brings_none
nil_some [] e = absurd (false≢true (sym e))
nil_some (r ∷ l) e = omega arith

module _ {R : Type 0} (first : R → ℕ) where
  -- every rule's first character is c
  abbrev Only : ℕ → List R → Type 0
  Only c l = All (λ r. first r ≡ c) l

  -- first characters do not fall, and none is below c
  abbrev pub From : ℕ → List R → Type 0
  From c [] = Unit {0}
  From c (r ∷ rs) = (c ≤ first r) × From (first r) rs

  -- ---- the rules of one first character

  under_here : (c : ℕ) (r : R) (l : List R) → first r ≡ c → under first c (r ∷ l) ≡ r ∷ under first c l
  unfolding under
  under_here c r l e = pick_true _ _ _ (eq-eqb (first r) c e)

  pub under_there : (c : ℕ) (r : R) (l : List R) → (first r ≡ c → ⊥) → under first c (r ∷ l) ≡ under first c l
  unfolding under
  under_there c r l n = pick_false _ _ _ (ne_eqb (first r) c n)

  under_same : (c : ℕ) (l : List R) → Only c l → under first c l ≡ l
  unfolding under All
  under_same c [] o = refl
  under_same c (r ∷ l) o = under_here c r l o.0 ∙ ap (λ (l : List R). r ∷ l) (under_same c l o.1)

  under_other : (c e : ℕ) (l : List R) → (c ≡ e → ⊥) → Only c l → under first e l ≡ []
  unfolding under All
  under_other c e [] n o = refl
  under_other c e (r ∷ l) n o = under_there e r l (λ p. n (sym o.0 ∙ p)) ∙ under_other c e l n o.1

  under_low : (c b : ℕ) (l : List R) → c < b → From b l → under first c l ≡ []
  unfolding under
  under_low c b [] h f = refl
  under_low c b (r ∷ l) h f = let w = f.0 in under_there c r l (λ p. omega arith) ∙ under_low c (first r) l (omega arith) f.1

  -- what every rule is that is met, every rule is that is held, under its first character
  all_append : (P : R → Type 0) (a b : List R) → All P a → All P b → All P (a ++ b)
  unfolding All
  all_append P [] b x y = y
  all_append P (r ∷ a) b x y = (x.0, all_append P a b x.1 y)

  held_all : (P : ℕ → R → Type 0) (t : Met R) (m : Map R) → Each (λ r. P (first r) r) t → ((c : ℕ) → All (P c) (m c)) → (c : ℕ) → All (P c) (held_after first m t c)
  unfolding held_after add extend no_rules Each All
  held_all P end m e o c = o c
  held_all P (rule r t) m e o c = held_all P t (add first m r) e.1 (λ d. pick_by (All (P d)) _ _ _ (λ p. all_append (P d) (m d) (r ∷ []) (o d) (rw (eqb-true (first r) d p) at e.0, tt)) (λ p. o d)) c
  held_all P (file i t) m e o c =
      let w = held_all P i no_rules e.0 (λ d. tt) in
      held_all P t (extend m (held_after first no_rules i)) e.1 (λ d. pick_all (All (P d)) _ _ _ (o d) (w d)) c

  pub each_of : (P : R → Type 0) → ((r : R) → P r) → (t : Met R) → Each P t
  unfolding Each
  each_of P h end = tt
  each_of P h (rule r t) = (h r, each_of P h t)
  each_of P h (file i t) = (each_of P h i, each_of P h t)

  held_only : (t : Met R) (c : ℕ) → Only c (held_after first no_rules t c)
  unfolding no_rules All
  held_only t c = held_all (λ c r. first r ≡ c) t no_rules (each_of _ (λ r. refl) t) (λ d. tt) c

  from_below : (a b : ℕ) (l : List R) → a ≤ b → From b l → From a l
  from_below a b [] h f = tt
  from_below a b (r ∷ l) h f = let w = f.0 in (omega arith, f.1)

  from_append : (a : ℕ) (l rest : List R) → Only a l → From a rest → From a (l ++ rest)
  unfolding All
  from_append a [] rest o f = f
  from_append a (r ∷ l) rest o f = let e = o.0 in (omega arith, rw e (from_append a l rest o.1 f))

  module _ (m : Map R) (o : (c : ℕ) → Only c (m c)) where
    spread_none : (k a e : ℕ) → e < a → under first e (spread m k a) ≡ []
    unfolding spread under
    spread_none zero a e h = refl
    spread_none (suc k) a e h =
        under_append first e (m a) (spread m k (suc a)) ∙ ap₂ ◌++◌ (under_other a e (m a) (λ p. omega arith) (o a)) (spread_none k (suc a) e (omega arith))

    spread_under : (k a e : ℕ) → a ≤ e → e < a + k → under first e (spread m k a) ≡ m e
    unfolding spread
    spread_under zero a e h l = absurd (omega arith)
    spread_under (suc k) a e h l = under_append first e (m a) (spread m k (suc a)) ∙ elim (ℕ_discrete a e) [
      | yes p ↦ rw (← p) (ap₂ ◌++◌ (under_same a (m a) (o a)) (spread_none k (suc a) a (omega arith)) ∙ append-nil (m a))
      | no n ↦ ap₂ ◌++◌ (under_other a e (m a) n (o a)) (spread_under k (suc a) e (omega arith) (omega arith))
    ]

    spread_from : (k a : ℕ) → From a (spread m k a)
    unfolding spread
    spread_from zero a = tt
    spread_from (suc k) a = from_append a (m a) (spread m k (suc a)) (o a) (from_below a (suc a) (spread m k (suc a)) (omega arith) (spread_from k (suc a)))

  -- "by first character and then file order"
  pub finished_under : (t : Met R) (c : ℕ) → c < codes → under first c (finished first t) ≡ held_after first no_rules t c
  unfolding finished
  finished_under t c h = spread_under (held_after first no_rules t) (held_only t) codes 0 c (omega arith) (omega arith)

  pub finished_from : (t : Met R) → From 0 (finished first t)
  unfolding finished
  finished_from t = spread_from (held_after first no_rules t) (held_only t) codes 0

  spread_all : (P : R → Type 0) (m : Map R) → ((c : ℕ) → All P (m c)) → (k a : ℕ) → All P (spread m k a)
  unfolding spread All
  spread_all P m h zero a = tt
  spread_all P m h (suc k) a = all_append P (m a) _ (h a) (spread_all P m h k (suc a))

  pub finished_all : (P : R → Type 0) (t : Met R) → Each P t → All P (finished first t)
  unfolding finished no_rules All
  finished_all P t e = spread_all P (held_after first no_rules t) (held_all (λ c. P) t no_rules e (λ d. tt)) codes 0

  -- ---- a list by its first characters

  spread_same : (m w : Map R) (k a : ℕ) → ((c : ℕ) → a ≤ c → c < a + k → m c ≡ w c) → spread m k a ≡ spread w k a
  unfolding spread
  spread_same m w zero a h = refl
  spread_same m w (suc k) a h = ap₂ ◌++◌ (h a (omega arith) (omega arith)) (spread_same m w k (suc a) (λ c x y. h c (omega arith) (omega arith)))

  abbrev Sorted : List R → ℕ → ℕ → List R
  Sorted l k a = spread (λ c. under first c l) k a

  sorted_nil : (k a : ℕ) → Sorted [] k a ≡ []
  unfolding spread under
  sorted_nil zero a = refl
  sorted_nil (suc k) a = sorted_nil k (suc a)

  sorted_past : (r : R) (l : List R) (k a : ℕ) → first r < a → Sorted (r ∷ l) k a ≡ Sorted l k a
  sorted_past r l k a h = spread_same (λ c. under first c (r ∷ l)) (λ c. under first c l) k a (λ c x y. under_there c r l (λ p. omega arith))

  sorted_more : (r : R) (l : List R) (k a : ℕ) → a ≤ first r → first r < a + k → length (Sorted (r ∷ l) k a) ≡ suc (length (Sorted l k a))
  unfolding spread
  sorted_more r l zero a h g = absurd (omega arith)
  sorted_more r l (suc k) a h g =
      length-append (under first a (r ∷ l)) (Sorted (r ∷ l) k (suc a)) ∙ elim (ℕ_discrete (first r) a) [
        | yes p ↦ rw (under_here a r l p, sorted_past r l k (suc a) (omega arith)) (omega (arith, length-append (under first a l) (Sorted l k (suc a))))
        | no p ↦ rw (under_there a r l p) (omega (arith, sorted_more r l k (suc a) (omega arith) (omega arith), length-append (under first a l) (Sorted l k (suc a))))
      ]

  sorted_length : (l : List R) (k : ℕ) → All (λ r. first r < k) l → length (Sorted l k 0) ≡ length l
  unfolding All
  sorted_length [] k a = ap length (sorted_nil k 0)
  sorted_length (r ∷ l) k a = sorted_more r l k 0 (omega arith) (omega (arith, a.0)) ∙ ap suc (sorted_length l k a.1)

  -- a list in that order is itself
  sorted_first : (r : R) (l : List R) (k a : ℕ) → From (first r) l → a ≤ first r → first r < a + k → Sorted (r ∷ l) k a ≡ r ∷ Sorted l k a
  unfolding spread
  sorted_first r l zero a f h g = absurd (omega arith)
  sorted_first r l (suc k) a f h g = elim (ℕ_discrete (first r) a) [
    | yes p ↦ rw (under_here a r l p, sorted_past r l k (suc a) (omega arith)) refl
    | no p ↦ rw (under_there a r l p, under_low a (first r) l (omega arith) f) (sorted_first r l k (suc a) f (omega arith) (omega arith))
  ]

  pub sorted_is : (l : List R) (k a : ℕ) → From a l → All (λ r. first r < a + k) l → Sorted l k a ≡ l
  unfolding All
  sorted_is [] k a f b = sorted_nil k a
  sorted_is (r ∷ l) k a f b =
      sorted_first r l k a f.1 f.0 b.0 ∙ ap (λ (x : List R). r ∷ x) (sorted_is l k a (from_below a (first r) l f.0 f.1) b.1)

  -- ---- how many rules stay, and how many numbers are noted

  kept_all : (P : R → Type 0) (vs : List ℕ) (t : Met R) (n : ℕ) (l : List R) → Each P t → All P l → All P (kept first vs n l t)
  unfolding kept Each All
  kept_all P vs end n l e a = a
  kept_all P vs (rule r t) n l e a = kept_all P vs t n _ e.1 (pick_all (All P) (stays_in (first r) n vs) _ _ (all_append P l (r ∷ []) a (e.0, tt)) a)
  kept_all P vs (file i t) n l e a = kept_all P vs t _ _ e.1 (kept_all P vs i (n + 1) l e.0 a)

  each_brings : (Q : ℕ → Type 0) (t : Met R) → ((c : ℕ) → brings first c t ≡ true → Q c) → Each (λ r. Q (first r)) t
  unfolding Each brings
  each_brings Q end h = tt
  each_brings Q (rule r t) h = (h (first r) (or_left _ (brings first (first r) t) (eq-eqb (first r) (first r) refl)), each_brings Q t (λ c p. h c (or_right _ _ p)))
  each_brings Q (file i t) h = (each_brings Q i (λ c p. h c (or_left _ _ p)), each_brings Q t (λ c p. h c (or_right _ _ p)))

  each_both : (P Q S : R → Type 0) (t : Met R) → ((r : R) → P r → Q r → S r) → Each P t → Each Q t → Each S t
  unfolding Each
  each_both P Q S end h p q = tt
  each_both P Q S (rule r t) h p q = (h r p.0 q.0, each_both P Q S t h p.1 q.1)
  each_both P Q S (file i t) h p q = (each_both P Q S i h p.0 q.0, each_both P Q S t h p.1 q.1)

  -- numbers of characters that grow, something being held of each
  record Noted (m : Map R) (b v : ℕ) : Type 0 where
    low : v / 512 < b
    some : brings_none (m (v / 512)) ≡ false

  apart_spread : (m : Map R) (k a b : ℕ) (vs : List ℕ) → b ≤ a + k → KeysApart a vs → All (Noted m b) vs → length vs ≤ length (spread m k a)
  unfolding spread KeysApart All
  apart_spread m zero a b [] h p q = omega arith
  apart_spread m zero a b (v ∷ vs) h p q = let x = q.0 in absurd (omega (arith, p.0, x.low))
  apart_spread m (suc k) a b [] h p q = omega arith
  apart_spread m (suc k) a b (v ∷ vs) h p q = elim (ℕ_discrete (v / 512) a) [
    | yes e ↦
        let w = apart_spread m k (suc a) b vs (omega arith) (rw e at p.1) q.1 in
        let x = q.0 in
        let s : brings_none (m a) ≡ false = rw e at x.some in
        omega (arith, nil_some (m a) s, length-append (m a) (spread m k (suc a)))
    | no e ↦
        let w = apart_spread m k (suc a) b (v ∷ vs) (omega arith) (omega (arith, p.0), p.1) q in
        omega (arith, length-append (m a) (spread m k (suc a)))
  ]

  -- where no include is followed every rule stays
  kept_on : (vs : List ℕ) (t : Met R) (rs : List R) → entries t ≡ 0 → Each (λ r. stays_in (first r) 0 vs ≡ true) t → kept first vs 0 rs t ≡ met_on rs t
  unfolding kept met_on entries Each
  kept_on vs end rs z e = refl
  kept_on vs (rule r t) rs z e = rw (pick_true _ (rs ++ (r ∷ [])) rs e.0) (kept_on vs t _ z e.1)
  kept_on vs (file i t) rs z e = absurd (omega arith)

  pub kept_plain : (t : Met R) → entries t ≡ 0 → kept_rules first t ≡ met_on [] t
  kept_plain t z = kept_on _ t [] z (each_brings (λ c. stays_in c 0 (noted first 0 0 [] t) ≡ true) t (λ c p. stays_all first c t z p))

  module _ (t : Met R) (short : entries t ≤ 256) where
    -- the finished list, by the rules that stay
    pub finished_kept : finished first t ≡ Sorted (kept_rules first t) codes 0
    unfolding finished
    finished_kept = spread_same (held_after first no_rules t) (λ c. under first c (kept_rules first t)) codes 0 (λ c x y. sym (kept_held first c t short))

    module _ (within : Within first t) where
      pub kept_within : All (λ r. first r < codes) (kept_rules first t)
      unfolding All
      kept_within = kept_all (λ r. first r < codes) _ t 0 [] within tt

      -- as many rules stay as the finished list has
      pub length_kept : length (kept_rules first t) ≡ length (finished first t)
      length_kept = sym (ap length finished_kept ∙ sorted_length _ codes kept_within)

      -- no more numbers are noted
      pub length_noted : length (noted first 0 0 [] t) ≤ length (finished first t)
      unfolding All KeysApart finished
      length_noted =
          apart_spread (held_after first no_rules t) codes 0 codes (noted first 0 0 [] t) (omega arith) (noted_apart first t 0 0 [] (omega arith) (omega arith) tt)
          (noted_all first _ t 0 0 [] (omega arith) (omega arith)
          (each_both (λ r. first r < codes) (λ r. brings_none (held_after first no_rules t (first r)) ≡ false) _ t
          (λ r x y k l. let e : (512 * first r + k) / 512 ≡ first r = omega arith in record { low = rw e x; some = rw e y }) within
          (each_brings (λ c. brings_none (held_after first no_rules t c) ≡ false) t (λ c b. held_brings first c t no_rules b))) tt)
