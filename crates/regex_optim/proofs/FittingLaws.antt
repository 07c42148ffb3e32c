-- What fits: a literal fits itself, a box sees the character that a text is, and an empty one takes none. Assumes nothing.
use mathlib.Core.Path.{◌≡◌, refl, sym, ap, ◌∙◌}
use mathlib.Core.Bool.{Bool, true, false, not}
use mathlib.Core.List.{List, [], ◌∷◌}
use Prim.Native.Nat.{ℕ, ◌-◌, ◌≤◌, ◌<◌}
use native.Mathlib.Nat.{sub_self}
use native.Mathlib.Omega.{arith}
use lib.ListN.{length, get_or}
use borrow.Author.Tests.{eq-eqb, eqb-true, le-ltb}
use Rattle.base.specs.Pick.{pick}
use Rattle.base.proofs.Arms.{clash}
use Rattle.base.proofs.PickLaws.{pick_false, and_yes, and_inv}
use Rattle.letters.specs.Utf8.{decode_at}
use Rattle.letters.specs.Reading.{symbols_from, symbols_of, codes_in, codes_of}
use Rattle.letters.specs.declared.utf8.Step.TheVariants.{Char}
use Rattle.letters.proofs.Utf8Laws.{Within, Shape, of_one, of_two, of_three, of_four, shape_at, tail_ill}
use Rattle.letters.proofs.OrderLaws.{same_refl}
use Rattle.texts.specs.Parts.{has, prefix_of, suffix_of}
use Rattle.texts.proofs.Chars.{has_nil}
use Rattle.regex_optim.specs.Contexts.{Form, always, empty, equals, starts, ends, only, first, last, outside, literal_form, box_form, takes_none, empty_box, back_char, whole_char, or_else, last_char, char_fits, fits}
use Rattle.regex_optim.specs.InnerContracts.{box_char}
use Rattle.std.specs.Prelude.{Option, Some, None}
use Rattle.regex_optim.proofs.Laws.{Anchored, fits_box, first_code_lem, back_code, back_ill}

-- ---- a literal

prefix_self : (t : List ℕ) → prefix_of t t ≡ true
unfolding prefix_of
prefix_self [] = refl
prefix_self (x ∷ t) = and_yes _ _ (eq-eqb x x refl) (prefix_self t)

suffix_self : (t : List ℕ) → suffix_of t t ≡ true
unfolding suffix_of
suffix_self t = pick_false _ _ _ (le-ltb (length t) (length t) (omega arith)) ∙ rw (sub_self (length t)) (prefix_self t)

pub fits_itself : (s e : Bool) (t : List ℕ) → Anchored s e → fits (literal_form s e t) t ≡ true
unfolding fits literal_form pick
fits_itself true true [] a = eq-eqb 0 0 refl
fits_itself true true (x ∷ t) a = same_refl (x ∷ t)
fits_itself true false [] a = refl
fits_itself true false (x ∷ t) a = prefix_self (x ∷ t)
fits_itself false true [] a = refl
fits_itself false true (x ∷ t) a = suffix_self (x ∷ t)
fits_itself false false t a = clash (cc)

-- ---- a text that is one character

-- the last n bytes begin within a character
back_within : (x : List ℕ) (n i : ℕ) → length x - n ≡ i → n ≤ length x → i < length x → Within 0x80 0xBF (get_or x i 0) → back_char x n ≡ None
back_within x n i e h l w = sym (back_ill x n h _ refl (ap (decode_at x) e ∙ tail_ill x i l w))

last_by : (x : List ℕ) (k n : ℕ) → length x ≡ n → back_char x n ≡ Some k → Shape (get_or x 0 0) (get_or x 1 0) (get_or x 2 0) (get_or x 3 0) k n → last_char x ≡ Some k
unfolding last_char or_else
last_by x k n size whole (of_one h e) = rw whole refl
last_by x k n size whole (of_two g h e) = rw (back_within x 1 1 (omega arith) (omega arith) (omega arith) h, whole) refl
last_by x k n size whole (of_three g h i l e) =
    rw (back_within x 1 2 (omega arith) (omega arith) (omega arith) i, back_within x 2 1 (omega arith) (omega arith) (omega arith) h, whole) refl
last_by x k n size whole (of_four g h i j l e) =
    rw (
      back_within x 1 3 (omega arith) (omega arith) (omega arith) j,
      back_within x 2 2 (omega arith) (omega arith) (omega arith) i,
      back_within x 3 1 (omega arith) (omega arith) (omega arith) h,
      whole,
    ) refl

module _ (x : List ℕ) (k : ℕ) (e : decode_at x 0 ≡ Char k (length x)) where
  whole : back_char x (length x) ≡ Some k
  whole = sym (back_code x (length x) (omega arith) _ refl k (length x) (ap (decode_at x) (sub_self (length x)) ∙ e) refl)

  -- a box sees it, whatever its anchors
  box_sees : (s e : Bool) → Anchored s e → box_char s e x ≡ Some k
  unfolding box_char whole_char pick
  box_sees true true a = whole
  box_sees true false a = sym (first_code_lem x _ refl k (length x) e)
  box_sees false true a = last_by x k (length x) refl whole (shape_at x 0 k (length x) e).1
  box_sees false false a = clash (cc)

  pub box_takes : (s e hit : Bool) (l : List ℕ) → Anchored s e → fits (box_form s e hit l) x ≡ pick (has k (codes_of l)) hit (not hit)
  unfolding char_fits
  box_takes s e hit l a = fits_box s e hit l x ∙ ap (char_fits hit l) (box_sees s e a)

-- ---- an empty box

takes_none_lem : (hit : Bool) (l : List ℕ) (a : Option ℕ) → takes_none hit l ≡ true → char_fits hit l a ≡ false
unfolding takes_none char_fits codes_of symbols_of symbols_from codes_in pick
takes_none_lem hit l None e = refl
takes_none_lem hit [] (Some k) e = ap (λ (b : Bool). pick b hit (not hit)) (has_nil k) ∙ ap not (and_inv hit _ e).0
takes_none_lem hit (x ∷ l) (Some k) e = let w = eqb-true (length (x ∷ l)) 0 (and_inv hit _ e).1 in absurd (omega arith)

pub empty_fits_nothing : (f : Form) (x : List ℕ) → empty_box f ≡ true → fits f x ≡ false
unfolding empty_box fits
empty_fits_nothing always x e = clash (cc)
empty_fits_nothing empty x e = clash (cc)
empty_fits_nothing (equals t) x e = clash (cc)
empty_fits_nothing (starts t) x e = clash (cc)
empty_fits_nothing (ends t) x e = clash (cc)
empty_fits_nothing (only hit l) x e = takes_none_lem hit l _ e
empty_fits_nothing (first hit l) x e = takes_none_lem hit l _ e
empty_fits_nothing (last hit l) x e = takes_none_lem hit l _ e
empty_fits_nothing outside x e = clash (cc)
