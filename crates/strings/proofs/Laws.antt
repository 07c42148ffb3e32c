-- Strings one after the other, and the string at a place. Assumes nothing.
use Rattle.strings.specs.Places.{span}
use Rattle.strings.specs.declared.Span.{Span}
use Rattle.std.specs.Prelude.{Option, Some, None}
use mathlib.Core.Path.{◌≡◌, refl, sym, ap, ap₂, ◌∙◌}
use mathlib.Core.Bool.{Bool, true, false}
use mathlib.Core.List.{List, [], ◌∷◌, ◌++◌}
use Prim.Native.Nat.{ℕ, zero, suc, ◌+◌, ◌-◌, ◌≤◌, ◌<◌}
use native.Mathlib.Decide.{dec_le}
use native.Mathlib.Omega.{arith}
use lib.Dec.{leb, ltb}
use lib.ListN.{length, get_or, take, drop, take-append-drop, drop_of_length-le, length-append, length-drop, length-take}
use lib.Seq.{take-append_seam, drop-append_seam, drop-cons, drop-drop}
use borrow.Author.Tests.{ltb-true, ltb-false, leb-true, leb-false, le-leb, lt-leb}
use Rattle.base.specs.Pick.{pick}
use Rattle.base.proofs.PickLaws.{pick_true, pick_false}
use Rattle.base.proofs.Arms.{clash}
use Rattle.strings.specs.Reading.{strings, strings_of}
use Rattle.strings.specs.InnerContracts.{string_at}

pub strings_none : (f : ℕ) → strings f [] ≡ []
unfolding strings
strings_none zero = refl
strings_none (suc f) = refl

pub strings_all : (l : List ℕ) → strings_of l ≡ strings (length l) l
unfolding strings_of
strings_all l = refl

-- a string behind its length byte, and what follows
pub strings_one : (f : ℕ) (t l : List ℕ) → strings (suc f) (length t ∷ (t ++ l)) ≡ t ∷ strings f l
unfolding strings
strings_one f t l =
    let fits : length t ≤ length (t ++ l) = simp length-append (omega arith) in
    pick_true _ _ _ (le-leb _ _ fits) ∙ ap₂ (λ (x y : List ℕ). x ∷ strings f y) (take-append_seam t l) (drop-append_seam t l)

-- ---- the string at a place

-- it stands behind its length byte, and ends within
pub record StringIs (s : List ℕ) (at start end : ℕ) : Type 0 where
  pub begins : start ≡ at + 1
  pub ends : end ≡ at + 1 + get_or s at 0
  pub fits : end ≤ length s

whole_by_lem : (s : List ℕ) (at : ℕ) (part : Span) (t u : Bool) → ltb at (length s) ≡ t → leb (get_or s at 0) (length s - (at + 1)) ≡ u
    → pick t (pick u (Some (span (at + 1) (at + 1 + get_or s at 0))) None) None ≡ Some part → StringIs s at part.start part.end
unfolding pick
whole_by_lem s at part false u p q w = clash (cc)
whole_by_lem s at part true false p q w = clash (cc)
whole_by_lem s at part true true p q w =
    let ends : at + 1 + get_or s at 0 ≡ part.end = cc in
    record { begins = cc; ends = sym ends; fits = omega (arith, ltb-true, leb-true) }

cut_by : (s : List ℕ) (at : ℕ) (t u : Bool) → ltb at (length s) ≡ t → leb (get_or s at 0) (length s - (at + 1)) ≡ u
    → pick t (pick u (Some (span (at + 1) (at + 1 + get_or s at 0))) None) None ≡ None → length s < at + 1 + get_or s at 0
unfolding pick
cut_by s at false u p q w = omega (arith, ltb-false)
cut_by s at true false p q w = omega (arith, leb-false)
cut_by s at true true p q w = clash (cc)

pub string_whole : (s : List ℕ) (at : ℕ) (part : Span) (r : Option Span) → r ≡ string_at s at → r ≡ Some part → StringIs s at part.start part.end
unfolding string_at
string_whole s at part r p q = whole_by_lem s at part _ _ refl refl (sym p ∙ q)

-- or bytes run out
pub string_cut : (s : List ℕ) (at : ℕ) (r : Option Span) → r ≡ string_at s at → r ≡ None → length s < at + 1 + get_or s at 0
unfolding string_at
string_cut s at r p q = cut_by s at _ _ refl refl (sym p ∙ q)

-- ---- the strings from a place on

cut_short : (s : List ℕ) (at f : ℕ) → at < length s → length s < at + 1 + get_or s at 0 → strings f (drop at s) ≡ []
unfolding strings
cut_short s at zero l h = refl
cut_short s at (suc f) l h =
    let short : length (drop (suc at) s) < get_or s at 0 = omega (arith, length-drop (suc at) s) in
    rw (drop-cons s at 0) (pick_false _ _ _ (lt-leb _ _ short))

none_by : (s : List ℕ) (at f : ℕ) → length s < at + 1 + get_or s at 0 → strings f (drop at s) ≡ []
none_by s at f h = elim (dec_le (length s) at) [
  | yes k ↦ ap (strings f) (drop_of_length-le s k) ∙ strings_none f
  | no k ↦ cut_short s at f (omega arith) h
]

pub none_left : (s : List ℕ) (at : ℕ) (r : Option Span) → r ≡ string_at s at → r ≡ None → (f : ℕ) → strings f (drop at s) ≡ []
none_left s at r p q f = none_by s at f (string_cut s at r p q)

module _ (s : List ℕ) (at : ℕ) (part : Span) (r : Option Span) (p : r ≡ string_at s at) (q : r ≡ Some part) where
  string : StringIs s at part.start part.end
  string = string_whole s at part r p q

  pub part_order : part.start ≤ part.end
  part_order = omega (arith, string)

  pub part_fits : part.end ≤ length s
  part_fits = string.fits

  pub skip_order : at ≤ part.end
  skip_order = omega (arith, string)

  pub walk_less : length s - part.end < length s - at
  walk_less = omega (arith, string)

  pub one_left : (f : ℕ) → strings (suc f) (drop at s) ≡ take (part.end - part.start) (drop part.start s) ∷ strings f (drop part.end s)
  one_left f =
      let w = string in
      let next_is : part.start + (part.end - part.start) ≡ part.end = omega arith in
      let long : get_or s at 0 ≡ length (take (part.end - part.start) (drop part.start s)) = omega (arith, length-take (part.end - part.start) (drop part.start s), length-drop part.start s) in
      let begins : suc at ≡ part.start = omega arith in
      ap (strings (suc f)) (drop-cons s at 0 (omega arith) ∙ ap₂ ◌∷◌ long (ap (λ (k : ℕ). drop k s) begins ∙ sym (take-append-drop (part.end - part.start) (drop part.start s))))
      ∙ strings_one f (take (part.end - part.start) (drop part.start s)) (drop (part.end - part.start) (drop part.start s))
      ∙ ap (λ (l : List ℕ). take (part.end - part.start) (drop part.start s) ∷ strings f l) (drop-drop (part.end - part.start) part.start s ∙ ap (λ (k : ℕ). drop k s) next_is)
