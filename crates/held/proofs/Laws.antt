-- Laws of `held` and `since`. Assumes nothing.
use mathlib.Core.Path.{◌≡◌, refl, sym, ap, ◌∙◌}
use mathlib.Core.Bool.{Bool, true, false, false≢true}
use mathlib.Core.List.{List, [], ◌∷◌, ◌++◌}
use mathlib.Core.Logic.{◌⊎◌, inl, inr, ⊎_elim}
use Prim.Native.Nat.{ℕ}
use Rattle.base.specs.Pick.{pick}
use Rattle.held.specs.Met.{Met, end, rule, file, Map, no_rules, brings_none, add, extend, held_after}
use Rattle.base.proofs.PickLaws.{pick_true, pick_false}
use Rattle.held.specs.InnerContracts.{either_of, brings, since}

pub or_false : (a b : Bool) → either_of a b ≡ false → (a ≡ false) × (b ≡ false)
unfolding either_of
or_false true b e = absurd (false≢true (sym e))
or_false false b e = (refl, e)

behind_some : {R : Type 0} (l : List R) (r : R) → brings_none (l ++ (r ∷ [])) ≡ false
unfolding brings_none
behind_some [] r = refl
behind_some (x ∷ l) r = refl

pub or_true : (a b : Bool) → either_of a b ≡ true → (a ≡ true) ⊎ (b ≡ true)
unfolding either_of
or_true true b e = inl refl
or_true false b e = inr e

pub either : (b : Bool) → (b ≡ true) ⊎ (b ≡ false)
either true = inl refl
either false = inr refl

pub or_left : (a b : Bool) → a ≡ true → either_of a b ≡ true
unfolding either_of
or_left a b p = rw p refl

pub or_right : (a b : Bool) → b ≡ true → either_of a b ≡ true
unfolding either_of
or_right true b p = refl
or_right false b p = p

pub pick_by : {A : Type 0} (P : A → Type 0) (t : Bool) (a b : A) → (t ≡ true → P a) → (t ≡ false → P b) → P (pick t a b)
unfolding pick
pick_by P true a b p q = p refl
pick_by P false a b p q = q refl

module _ {R : Type 0} (first : R → ℕ) (c : ℕ) where
  -- where c is not met nothing of c changes
  held_same : (t : Met R) (m : Map R) → brings first c t ≡ false → held_after first m t c ≡ m c
  unfolding held_after brings add extend no_rules brings_none pick
  held_same end m e = refl
  held_same (rule r t) m e = let w = or_false _ _ e in held_same t (add first m r) w.1 ∙ rw w.0 refl
  held_same (file i t) m e =
      let w = or_false _ _ e in
      let q : held_after first no_rules i c ≡ [] = held_same i no_rules w.0 in
      held_same t (extend m (held_after first no_rules i)) w.1 ∙ rw q refl

  pub since_same : (t : Met R) (now : List R) → brings first c t ≡ false → since first c now t ≡ now
  unfolding since brings pick
  since_same end now e = refl
  since_same (rule r t) now e = let w = or_false _ _ e in rw w.0 (since_same t now w.1)
  since_same (file i t) now e =
      let w = or_false _ _ e in
      rw w.0 (ap (λ (l : List R). since first c l t) (since_same i now w.0) ∙ since_same t now w.1)

  abbrev Some : List R → Type 0
  Some l = brings_none l ≡ false

  -- what is there is not taken away
  held_some : (t : Met R) (m : Map R) → brings_none (m c) ≡ false → brings_none (held_after first m t c) ≡ false
  unfolding held_after add extend
  held_some end m e = e
  held_some (rule r t) m e = held_some t (add first m r) (pick_by Some _ _ _ (λ p. behind_some (m c) r) (λ p. e))
  held_some (file i t) m e = held_some t (extend m (held_after first no_rules i)) (pick_by Some _ _ _ (λ p. e) (λ p. p))

  -- a file that brings c holds some of it
  pub held_brings : (t : Met R) (m : Map R) → brings first c t ≡ true → brings_none (held_after first m t c) ≡ false
  unfolding held_after brings add extend
  held_brings end m e = absurd (false≢true e)
  held_brings (rule r t) m e =
      ⊎_elim (λ p. held_some t (add first m r) (rw (pick_true _ _ _ p) (behind_some (m c) r))) (λ p. held_brings t (add first m r) p) (or_true _ _ e)
  held_brings (file i t) m e =
      ⊎_elim (λ p. let q = held_brings i no_rules p in held_some t (extend m (held_after first no_rules i)) (rw (pick_false _ _ _ q) q)) (λ p. held_brings t (extend m (held_after first no_rules i)) p) (or_true _ _ e)

  -- THE LAW: what is held under c are the rules of c met since the last entry into a file that brings c
  pub held_since : (t : Met R) (m : Map R) → held_after first m t c ≡ since first c (m c) t
  unfolding held_after since add extend no_rules brings_none
  held_since end m = refl
  held_since (rule r t) m = held_since t (add first m r)
  held_since (file i t) m =
      let q : extend m (held_after first no_rules i) c ≡ since first c (pick (brings first c i) [] (m c)) i =
      ⊎_elim (λ p. pick_false _ _ _ (held_brings i no_rules p) ∙ held_since i no_rules ∙ rw (pick_true _ [] (m c) p) refl)
      (λ p. pick_true _ _ _ (ap brings_none (held_same i no_rules p)) ∙ sym (since_same i (m c) p) ∙ rw (pick_false _ [] (m c) p) refl) (either (brings first c i)) in
      held_since t (extend m (held_after first no_rules i)) ∙ ap (λ (l : List R). since first c l t) q
