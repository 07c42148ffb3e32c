-- Writing what fits: what the crates above use of it, and a law for each way that `copy` can go. Assumes nothing.
use mathlib.Core.Path.{◌≡◌, refl, sym, ap, ◌∙◌}
use mathlib.Core.List.{List, [], ◌∷◌, ◌++◌}
use Prim.Native.Nat.{ℕ, suc, ◌+◌, ◌*◌, ◌≤◌, ◌<◌, min}
use native.Mathlib.Decide.{dec_le}
use native.Mathlib.Numerals.{add-one}
use native.Mathlib.Omega.{arith}
use borrow.Author.Rules.{rules}
use lib.ListN.{length, get_or, take, set, length-set, length-append}
use lib.Seq.{sets, set_out, take-suc, take_all, take_at, sets-eq, length-sets}
use Rattle.base.proofs.Stores.{sets_then}
use Rattle.writing.specs.InnerContracts.{Put, cap}

sets_out : (vs l : List ℕ) (i : ℕ) → length l ≤ i → sets l i vs ≡ l
sets_out [] l i h = refl
sets_out (v ∷ vs) l i h = sets_out vs (set l i v) (suc i) (omega (arith, length-set l i v)) ∙ set_out l i v h

sets_cap : (l : List ℕ) (i : ℕ) (vs : List ℕ) → length l ≤ cap → sets l (min i cap) vs ≡ sets l i vs
sets_cap l i vs h = elim (dec_le i cap) [
  | yes k ↦ let e : min i cap ≡ i = omega arith in rw e refl
  | no k ↦ sets_out vs l (min i cap) (omega arith) ∙ sym (sets_out vs l i (omega arith))
]

-- what is known of a slice of bytes, as the logic states it
pub slice_room : (o : List ℕ) → length o * 1 < cap → length o < cap
slice_room o h = omega arith

pub put_none : (o : List ℕ) (at : ℕ) → length o < cap → at ≤ cap → Put o o at at []
put_none o at r h = record { wrote = refl; ends = omega arith; room = r }

-- one text, and then another
pub put_then : {o o₁ o₂ : List ℕ} {at p q : ℕ} {t u : List ℕ} → Put o o₁ at p t → Put o₁ o₂ p q u → Put o o₂ at q (t ++ u)
put_then {o} {o₁} {o₂} {at} {p} {q} {t} {u} x y = record {
  wrote = y.wrote ∙ rw (x.wrote, x.ends) (sets_cap (sets o at t) (at + length t) u (omega (arith, x.room, length-sets o at t)) ∙ sets_then o at t u);
  ends = omega (arith, x.ends, y.ends, length-append t u);
  room = x.room;
}

pub put_long : (o o₁ : List ℕ) (at p : ℕ) (t : List ℕ) → Put o o₁ at p t → length o₁ ≡ length o
put_long o o₁ at p t x = ap length x.wrote ∙ length-sets o at t

pub put_place : (o o₁ : List ℕ) (at p : ℕ) (t : List ℕ) → Put o o₁ at p t → p ≤ cap
put_place o o₁ at p t x = omega (arith, x.ends)

-- a text that fits stands at the front, whole
pub put_fits : {o o' : List ℕ} {r : ℕ} {t : List ℕ} → Put o o' 0 r t → length t ≤ length o → (r ≡ length t) × (take r o' ≡ t)
put_fits {o} {o'} {r} {t} x h =
    let e : r ≡ length t = omega (arith, x.ends, x.room) in
    (e, rw (x.wrote, sets-eq t o 0 (omega arith)) (take_at t _ r (sym e)))

-- ---- `copy`

-- the bytes of s before i are written
pub put_start : (o : List ℕ) (at p : ℕ) → length o < cap → p ≡ min at cap → Put o o at p []
put_start o at p r e = record { wrote = refl; ends = omega arith; room = r }

module _ (o o₁ : List ℕ) (at p i : ℕ) (s : List ℕ) (x : Put o o₁ at p (take i s)) where
  pub put_more : (o₂ : List ℕ) (q : ℕ) → i < length s → Put o₁ o₂ p q (get_or s i 0 ∷ []) → Put o o₂ at q (take (i + 1) s)
  put_more o₂ q l y = rw (add-one, take-suc s i 0 l) (put_then x y)

  pub put_all : length s ≤ i → Put o o₁ at p s
  put_all h = rw (take_all i s h) at x

pub ruleset writing_laws = (slice_room, put_start, put_more, put_all, rules)
