-- The part of the buffer that is lent for an answer. Assumes nothing.
use mathlib.Core.Path.{◌≡◌, refl, sym, ap, ◌∙◌}
use mathlib.Core.Bool.{Bool, true, false}
use mathlib.Core.List.{List, [], ◌∷◌, ◌++◌}
use Prim.Native.Nat.{ℕ, zero, suc, ◌+◌, ◌-◌, ◌≤◌, min, max}
use native.Mathlib.Omega.{arith}
use lib.Dec.{leb}
use lib.ListN.{length, set, take, drop, length-append, length-take, length-drop, take-append-drop, length-set}
use lib.Seq.{sets, set-append_left, length-sets}
use borrow.Author.Tests.{leb-true}
use Rattle.base.specs.Pick.{pick}
use Rattle.engine.specs.Calls.{CallOutcome, refused_by, key, filled_by, SpellIs}
use Rattle.engine.proofs.NumberLaws.{told_is}
use Rattle.engine.specs.declared.spelling.Spelled.{Spelled}
use Rattle.base.proofs.PickLaws.{pick_all}
use Rattle.engine.specs.InnerContracts.{spelled_in}
use Rattle.engine.specs.LineContracts.{SpaceOf, answer_room, behind_filled, BehindIs}
use Rattle.engine.specs.declared.lines.Space.{Space}
use Rattle.choices.specs.Texts.{Text}
use borrow.Author.Rules.{rules}

-- ---- the part of the buffer that is lent

sets_front : (vs xs ys : List ℕ) (i : ℕ) → i + length vs ≤ length xs → sets xs i vs ++ ys ≡ sets (xs ++ ys) i vs
sets_front [] xs ys i h = refl
sets_front (v ∷ vs) xs ys i h =
    sets_front vs (set xs i v) ys (suc i) (omega (arith, length-set xs i v))
    ∙ ap (λ (l : List ℕ). sets l (suc i) vs) (sym (set-append_left xs ys i v (omega arith)))

sets_behind : (vs : List ℕ) (x : ℕ) (xs : List ℕ) (i : ℕ) → x ∷ sets xs i vs ≡ sets (x ∷ xs) (suc i) vs
sets_behind [] x xs i = refl
sets_behind (v ∷ vs) x xs i = sets_behind vs x (set xs i v) (suc i)

-- what is stored in a part is stored in the whole
sets_part : (a k : ℕ) (o t : List ℕ) → length t ≤ k → a + k ≤ length o → take a o ++ (sets (take k (drop a o)) 0 t ++ drop k (drop a o)) ≡ sets o a t
sets_part zero k o t h l =
    sets_front t (take k o) (drop k o) 0 (omega (arith, length-take k o)) ∙ ap (λ (m : List ℕ). sets m 0 t) (take-append-drop k o)
sets_part (suc a) k [] t h l = absurd (omega arith)
sets_part (suc a) k (x ∷ o) t h l = ap (λ (m : List ℕ). x ∷ m) (sets_part a k o t h (omega arith)) ∙ sets_behind t x o a

back_same : (a k : ℕ) (o : List ℕ) → take a o ++ (take k (drop a o) ++ drop k (drop a o)) ≡ o
back_same a k o = ap (λ (l : List ℕ). take a o ++ l) (take-append-drop k (drop a o)) ∙ take-append-drop a o

alike_long : (x y z u : List ℕ) → length y ≡ length z → length (x ++ (y ++ u)) ≡ length (x ++ (z ++ u))
alike_long x y z u e = omega (arith, e, length-append x (y ++ u), length-append y u, length-append x (z ++ u), length-append z u)

filled_long : (x : CallOutcome) (o : List ℕ) → length (filled_by x o) ≡ length o
unfolding filled_by
filled_long (refused_by code place) o = refl
filled_long (key t f) o = pick_all (λ (l : List ℕ). length l ≡ length o) _ _ _ (length-sets o 0 t) refl

long_part : (a e : ℕ) (o : List ℕ) → a ≤ e → e ≤ length o → length (take (e - a) (drop a o)) ≡ e - a
long_part a e o h k = omega (arith, length-take (e - a) (drop a o), length-drop a o)

-- the part from a to e is lent for an answer in its place in a line
module _ {o : List ℕ} {space : Space} (w : SpaceOf o space) {a e : ℕ} (f : a ≡ min (space.at + 4) space.size)
    (g : e ≡ max a (space.size - 1)) where
  pub lent_order : a ≤ e
  lent_order = omega (arith, g)

  pub lent_within : e ≤ length o
  lent_within = omega (arith, w.within, w.size_is, f, g)

  lent_room : e - a ≡ answer_room space
  lent_room = omega (arith, w.within, f, g)

  abbrev part : List ℕ
  part = take (e - a) (drop a o)

  part_long : length part ≡ answer_room space
  part_long = long_part a e o lent_order lent_within ∙ lent_room

  place_same : (t : Text) → length t ≤ answer_room space → sets o a t ≡ sets o (space.at + 4) t
  place_same [] h = refl
  place_same (v ∷ t) h = let here : a ≡ space.at + 4 = omega (arith, f) in ap (λ (n : ℕ). sets o n (v ∷ t)) here

  filled_by_lem : (t : Text) (b : Bool) → leb (length t) (answer_room space) ≡ b
      → take a o ++ (pick b (sets part 0 t) part ++ drop (e - a) (drop a o)) ≡ pick b (sets o (space.at + 4) t) o
  unfolding pick
  filled_by_lem t true h =
      sets_part a (e - a) o t (omega (arith, leb-true (length t) (answer_room space) h, lent_room)) (omega (arith, lent_order, lent_within))
      ∙ place_same t (leb-true _ _ h)
  filled_by_lem t false h = back_same a (e - a) o

  part_filled : (x : CallOutcome) → take a o ++ (filled_by x part ++ drop (e - a) (drop a o)) ≡ behind_filled x space o
  unfolding filled_by behind_filled
  part_filled (refused_by code place) = back_same a (e - a) o
  part_filled (key t f) =
      ap (λ (n : ℕ). take a o ++ (pick (leb (length t) n) (sets part 0 t) part ++ drop (e - a) (drop a o))) part_long ∙ filled_by_lem t _ refl

  module _ {x : CallOutcome} {r : Spelled} {m : List ℕ} (p : SpellIs x part r m) where
    pub lent_long : length (take a o ++ (m ++ drop (e - a) (drop a o))) ≡ length o
    lent_long =
        alike_long (take a o) m part (drop (e - a) (drop a o)) (ap length p.buffer ∙ filled_long x part) ∙ ap length (back_same a (e - a) o)

    pub behind_is : BehindIs x space o r (take a o ++ (m ++ drop (e - a) (drop a o)))
    behind_is = record {
      result = told_is p ∙ ap (spelled_in x) part_long;
      buffer = ap (λ (l : List ℕ). take a o ++ (l ++ drop (e - a) (drop a o))) p.buffer ∙ part_filled x;
    }

pub ruleset lent_laws = (lent_order, lent_within, lent_long, behind_is, rules)
