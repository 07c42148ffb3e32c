-- Laws on `apply`, over any set to begin with. Assumes nothing.
use mathlib.Core.Path.{◌≡◌, refl, ap, ◌∙◌}
use mathlib.Core.Bool.{Bool, true, false}
use mathlib.Core.Logic.{◌⊎◌, inl, inr}
use mathlib.Core.List.{List, [], ◌∷◌, ◌++◌}
use Prim.Native.Nat.{ℕ, ◌<◌}
use lib.ListN.{length}
use Rattle.choices.specs.Texts.{Text}
use Rattle.base.specs.Pick.{pick}
use Rattle.languages.specs.Sets.{narrowed, is_empty}
use Rattle.choices.specs.Apply.{Alternative, Entry, texts_of, join, under, candidates, apply, next_set}
use Rattle.choices.specs.Choices.{◌∈◌, here, there, Holds, first, later, Increasing}
use Rattle.languages.specs.declared.sets.LanguageSet.{LanguageSet}
use Rattle.choices.proofs.SetLaws.{Entering, enter_run, enter_sound, enter_has, enter_increasing}

-- ---- the candidates

-- a text of l joined to an alternative, where the narrowed set is not empty
pub data From (l : List Entry) (alts : List Alternative) : Text → LanguageSet → Type 0 where
  from : {t : Text} {g : LanguageSet} (a : Alternative) → Holds l t g → a ∈ alts → is_empty (narrowed g a.langs) ≡ false
      → From l alts (t ++ a.text) (narrowed g a.langs)

more_alts : {l : List Entry} {a : Alternative} {alts : List Alternative} {t : Text} {g : LanguageSet} → From l alts t g → From l (a ∷ alts) t g
more_alts (from b h m ne) = from b h (there m) ne

more_old : {e : Entry} {l : List Entry} {alts : List Alternative} {t : Text} {g : LanguageSet} → From l alts t g → From (e ∷ l) alts t g
more_old (from b h m ne) = from b (later h) m ne

from_eq : {l : List Entry} {alts : List Alternative} {t u : Text} {g h : LanguageSet} → t ≡ u → g ≡ h → From l alts t g → From l alts u h
from_eq p q f = rw (← p, ← q) f

pub holds_eq : {l : List Entry} {t u : Text} {g h : LanguageSet} → t ≡ u → g ≡ h → Holds l t g → Holds l u h
holds_eq p q k = rw (← p, ← q) k

append_cases : (l m : List Entry) {t : Text} {g : LanguageSet} → Holds (l ++ m) t g → Holds l t g ⊎ Holds m t g
append_cases [] m h = inr h
append_cases (x ∷ l) m (first p q) = inl (first p q)
append_cases (x ∷ l) m {t} {g} (later h) = go (append_cases l m h)
  where
    go : Holds l t g ⊎ Holds m t g → Holds (x ∷ l) t g ⊎ Holds m t g
    go (inl k) = inl (later k)
    go (inr k) = inr k

append_left : (l m : List Entry) {t : Text} {g : LanguageSet} → Holds l t g → Holds (l ++ m) t g
append_left [] m x' = elim x' [ ]
append_left (x ∷ l) m (first p q) = first p q
append_left (x ∷ l) m (later h) = later (append_left l m h)

append_right : (l m : List Entry) {t : Text} {g : LanguageSet} → Holds m t g → Holds (l ++ m) t g
append_right [] m h = h
append_right (x ∷ l) m h = later (append_right l m h)

under_by : (e : Entry) (old : List Entry) (a : Alternative) (alts : List Alternative) {t : Text} {g : LanguageSet} (p : Bool)
    → is_empty (narrowed e.langs a.langs) ≡ p → (Holds (under e alts) t g → From (e ∷ old) alts t g)
    → Holds (pick p (under e alts) (join e a ∷ under e alts)) t g → From (e ∷ old) (a ∷ alts) t g
unfolding pick
under_by e old a alts true q ih h = more_alts (ih h)
under_by e old a alts false q ih (first u v) = from_eq u v (from a (first refl refl) here q)
under_by e old a alts false q ih (later h) = more_alts (ih h)

under_from : (e : Entry) (old : List Entry) (alts : List Alternative) {t : Text} {g : LanguageSet} → Holds (under e alts) t g → From (e ∷ old) alts t g
unfolding under
under_from e old [] h = elim h [ ]
under_from e old (a ∷ alts) h = under_by e old a alts (is_empty (narrowed e.langs a.langs)) refl (under_from e old alts) h

pub candidates_from : (old : List Entry) (alts : List Alternative) {t : Text} {g : LanguageSet} → Holds (candidates old alts) t g → From old alts t g
unfolding candidates
candidates_from [] alts h = elim h [ ]
candidates_from (e ∷ old) alts {t} {g} h = go (candidates_from old alts) (append_cases (under e alts) (candidates old alts) h)
  where
    go : (Holds (candidates old alts) t g → From old alts t g) → Holds (under e alts) t g ⊎ Holds (candidates old alts) t g → From (e ∷ old) alts t g
    go ih (inl k) = under_from e old alts k
    go ih (inr k) = more_old (ih k)

under_skips : (e : Entry) (a : Alternative) (alts : List Alternative) {t : Text} {g : LanguageSet} (p : Bool)
    → Holds (under e alts) t g → Holds (pick p (under e alts) (join e a ∷ under e alts)) t g
unfolding pick
under_skips e a alts true h = h
under_skips e a alts false h = later h

pub under_has : (e : Entry) {alts : List Alternative} {a : Alternative} → a ∈ alts → is_empty (narrowed e.langs a.langs) ≡ false
    → Holds (under e alts) (e.text ++ a.text) (narrowed e.langs a.langs)
unfolding under pick
under_has e here ne = rw ne (first refl refl)
under_has e (there {b = b} {alts = alts} m) ne = under_skips e b alts (is_empty (narrowed e.langs b.langs)) (under_has e m ne)

pub candidates_has : (old : List Entry) (alts : List Alternative) {t : Text} {g : LanguageSet} (a : Alternative)
    → Holds old t g → a ∈ alts → is_empty (narrowed g a.langs) ≡ false → Holds (candidates old alts) (t ++ a.text) (narrowed g a.langs)
unfolding candidates
candidates_has [] alts a x3 m ne = elim x3 [ ]
candidates_has (e ∷ old) alts a (first p q) m ne =
    holds_eq (ap (λ (s : Text). s ++ a.text) p) (ap (λ (k : LanguageSet). narrowed k a.langs) q)
    (append_left (under e alts) _ (under_has e m (ap (λ (k : LanguageSet). is_empty (narrowed k a.langs)) q ∙ ne)))
candidates_has (e ∷ old) alts a (later h) m ne = append_right (under e alts) _ (candidates_has old alts a h m ne)

-- ---- apply

-- the alternatives applied to l give r; a record, so that the four stay implicit in the laws
pub record Applied (limit : ℕ) (alts : List Alternative) (l r : List Entry) : Type 0 where
  pub is : apply limit alts l ≡ next_set r

module _ {limit : ℕ} {alts : List Alternative} {l r : List Entry} (e : Applied limit alts l r) where
  run : Entering limit (candidates l alts) [] r
  unfolding apply
  run = enter_run limit (candidates l alts) [] r e.is

  -- what is held comes from an old text and an alternative
  pub apply_from : {t : Text} {g : LanguageSet} → Holds r t g → From l alts t g
  apply_from {t} {g} h = go (enter_sound run h)
    where
      go : Holds (candidates l alts) t g ⊎ Holds [] t g → From l alts t g
      go (inl k) = candidates_from l alts k
      go (inr x') = elim x' [ ]

  pub apply_increasing : Increasing (texts_of r)
  unfolding Increasing
  apply_increasing = enter_increasing run tt

  -- below the limit each old text joined to each alternative is there, perhaps with other languages
  pub apply_has : length r < limit → {t : Text} {g : LanguageSet} (a : Alternative) → Holds l t g → a ∈ alts → is_empty (narrowed g a.langs) ≡ false
      → (h : LanguageSet) × Holds r (t ++ a.text) h
  apply_has few a h m ne = enter_has run few (candidates_has l alts a h m ne)
