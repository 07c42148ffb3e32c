-- A context fits no text whose byte beside the place lacks its bit, and how the code finds the bits. Assumes nothing.
use mathlib.Core.Path.{◌≡◌, refl, sym, ap, subst, ◌∙◌}
use mathlib.Core.Bool.{Bool, true, false, false≢true}
use mathlib.Core.List.{List, [], ◌∷◌}
use mathlib.Core.Logic.{⊎_elim}
use Prim.Native.Nat.{ℕ, ◌+◌, ◌-◌, ◌≤◌, ◌<◌}
use native.Mathlib.Omega.{arith}
use lib.Bits.{and_self}
use lib.Dec.{eqb, ltb}
use lib.ListN.{length, get_or}
use lib.Seq.{get_or-drop}
use borrow.Author.Rules.{rules}
use borrow.Author.Tests.{ltb-false, ne_eqb, eqb-true, eqb-false}
use Rattle.base.specs.Pick.{pick}
use Rattle.base.proofs.Arms.{clash}
use Rattle.base.proofs.PickLaws.{pick_true, pick_false, pick_past, pick_inv, cases}
use Rattle.letters.specs.Utf8.{decode_at, encode}
use Rattle.letters.specs.Reading.{codes_of}
use Rattle.letters.specs.declared.utf8.Step.{Step}
use Rattle.letters.specs.declared.utf8.Step.TheVariants.{Char, Ill, End}
use Rattle.letters.proofs.Utf8Laws.{char_at, char_length_lem}
use Rattle.letters.proofs.OrderLaws.{same_is}
use Rattle.texts.specs.Parts.{first_byte, last_byte, first_is, last_is, has, suffix_of, caret, dollar, opening, closing, without_caret, without_dollar}
use Rattle.texts.specs.Signatures.{bit_of, signature_of}
use Rattle.texts.proofs.Laws.{prefix_byte}
use Rattle.texts.proofs.SignatureLaws.{Has, In, all_has, char_byte, signature_covers, covered}
use Rattle.regex_optim.specs.Contexts.{box_inner, form_in, left_form, right_form, code_at, first_char, code_of, back_char, whole_char, or_else, last_char, char_fits, fits}
use Rattle.regex_optim.specs.InnerContracts.{box_char, box_fits, literal_fits, all_bits, box_bits, rest_bits, left_bits, right_bits}
use Rattle.std.specs.Prelude.{Option, Some, None}
use Rattle.regex_optim.proofs.Laws.{left_is, right_is, fits_by_box, fits_by_none, fits_by_other}

-- ---- the character beside the place

-- k stands in x, and b is one of its bytes there
record ByteOf (x : List ℕ) (k b : ℕ) : Type 0 where
  place : ℕ
  size : ℕ
  i : ℕ
  stands : decode_at x place ≡ Char k size
  within : i < size
  is : b ≡ get_or x (place + i) 0

byte_has : {x : List ℕ} {k b : ℕ} (bits : ℕ) → ByteOf x k b → In bits (encode k) → Has bits (bit_of b)
unfolding In
byte_has {x} {k} bits w a =
    subst (λ (c : ℕ). Has bits (bit_of c)) (char_byte x w.place k w.size w.i w.stands w.within ∙ sym w.is)
    (a w.i (omega (arith, char_length_lem x w.place k w.size w.stands, w.within)))

first_by : (x : List ℕ) (k : ℕ) (r : Step) → decode_at x 0 ≡ r → code_at r ≡ Some k → ByteOf x k (first_byte x)
unfolding code_at
first_by x k (Char c n) e q =
    let same : c ≡ k = cc in
    let here : decode_at x 0 ≡ Char k n = cc in
    record { place = 0; size = n; i = 0; stands = here; within = (char_at x 0 k n here).some; is = refl }
first_by x k Ill e q = clash (cc)
first_by x k End e q = clash (cc)

-- the last n bytes are the character
record Back (x : List ℕ) (k n : ℕ) : Type 0 where
  fits : n ≤ length x
  stands : decode_at x (length x - n) ≡ Char k n

back_by : (x : List ℕ) (k n : ℕ) → n ≤ length x → (r : Step) → decode_at x (length x - n) ≡ r → code_of n r ≡ Some k → Back x k n
unfolding code_of
back_by x k n h (Char c m) e q = ⊎_elim
    (λ v. let size = eqb-true m n v.0 in record { fits = h; stands = cc })
    (λ v. clash (cc)) (pick_inv (eqb m n) (Some c) None (Some k) q)
back_by x k n h Ill e q = clash (cc)
back_by x k n h End e q = clash (cc)

back_in : (x : List ℕ) (k n : ℕ) → back_char x n ≡ Some k → Back x k n
unfolding back_char
back_in x k n q = ⊎_elim (λ v. clash (cc)) (λ v. back_by x k n (ltb-false (length x) n v.0) _ refl v.1) (pick_inv (ltb (length x) n) None _ (Some k) q)

back_last : {x : List ℕ} {k n : ℕ} → Back x k n → ByteOf x k (last_byte x)
back_last {x} {k} {n} w =
    let c = char_at x (length x - n) k n w.stands in
    let end : length x - 1 ≡ length x - n + (n - 1) = omega (arith, w.fits) in
    record { place = length x - n; size = n; i = n - 1; stands = w.stands; within = omega arith; is = ap (λ (i : ℕ). get_or x i 0) end }

whole_first : {x : List ℕ} {k : ℕ} → Back x k (length x) → ByteOf x k (first_byte x)
whole_first {x} {k} w =
    let start : length x - length x ≡ 0 = omega arith in
    let here : decode_at x 0 ≡ Char k (length x) = ap (decode_at x) (sym start) ∙ w.stands in
    record { place = 0; size = length x; i = 0; stands = here; within = (char_at x 0 k (length x) here).some; is = refl }

else_by : (x : List ℕ) (k : ℕ) (a b : Option ℕ) → or_else a b ≡ Some k → (a ≡ Some k → ByteOf x k (last_byte x)) → (b ≡ Some k → ByteOf x k (last_byte x)) → ByteOf x k (last_byte x)
unfolding or_else
else_by x k (Some c) b e f g = f e
else_by x k None b e f g = g e

back_of : (x : List ℕ) (k n : ℕ) → back_char x n ≡ Some k → ByteOf x k (last_byte x)
back_of x k n e = back_last (back_in x k n e)

last_by : (x : List ℕ) (k : ℕ) → last_char x ≡ Some k → ByteOf x k (last_byte x)
unfolding last_char
last_by x k e =
    else_by x k _ _ e (back_of x k 1) (λ e. else_by x k _ _ e (back_of x k 2) (λ e. else_by x k _ _ e (back_of x k 3) (back_of x k 4)))

-- ---- the rest of a context

-- with these anchors it is compared with the text from one side: `byte` is the byte there
record Side (s e : Bool) (byte : List ℕ → ℕ) : Type 0 where
  box : (x : List ℕ) (k : ℕ) → box_char s e x ≡ Some k → ByteOf x k (byte x)
  literal : (t x : List ℕ) → (length t ≡ 0 → s ≡ e) → literal_fits t s e x ≡ true → byte x ≡ byte t

-- what fits without one of the anchors is not empty
some_by : (t : List ℕ) (s e : Bool) → (length t ≡ 0 → s ≡ e) → (s ≡ e → ⊥) → 0 < length t
some_by [] s e h n = absurd (n (h refl))
some_by (y ∷ t) s e h n = omega arith

before : (s : Bool) → Side s true last_byte
unfolding box_char literal_fits pick whole_char suffix_of
before true = record { box = λ x k e. back_of x k (length x) e; literal = λ t x h e. ap (λ (l : List ℕ). last_byte l) (sym (same_is t x e)) }
before false = record {
  box = λ x k e. last_by x k e;
  literal = λ t x h e.
      let w = pick_past (ltb (length x) (length t)) _ e in
      let some = some_by t false true h false≢true in
      let end : length x - 1 ≡ length x - length t + (length t - 1) = omega (arith, ltb-false (length x) (length t) w.0) in
      ap (λ (i : ℕ). get_or x i 0) end ∙ sym (get_or-drop (length x - length t) x (length t - 1) 0) ∙ prefix_byte t _ w.1 (length t - 1) (omega arith);
}

behind : (e : Bool) → Side true e first_byte
unfolding box_char literal_fits pick whole_char first_char
behind true = record { box = λ x k e. whole_first (back_in x k (length x) e); literal = λ t x h e. ap (λ (l : List ℕ). first_byte l) (sym (same_is t x e)) }
behind false = record {
  box = λ x k e. first_by x k (decode_at x 0) refl e;
  literal = λ t x h e. prefix_byte t x e 0 (some_by t true false h (λ q. false≢true (sym q)));
}

module _ {s e : Bool} {byte : List ℕ → ℕ} (side : Side s e byte) (x : List ℕ) where
  char_has : (inner : List ℕ) (a : Option ℕ) → box_char s e x ≡ a → char_fits true inner a ≡ true → Has (signature_of inner) (bit_of (byte x))
  unfolding char_fits
  char_has inner (Some k) q f = ⊎_elim
      (λ v. byte_has (signature_of inner) (side.box x k q) (covered _ k v.0 (signature_covers inner)))
      (λ v. absurd (false≢true v.1)) (pick_inv (has k (codes_of inner)) true false true f)
  char_has inner None q f = absurd (false≢true f)

  box_has : (inner : List ℕ) (n : Bool) → first_is caret inner ≡ n → box_fits inner s e x ≡ true → Has (box_bits inner) (bit_of (byte x))
  unfolding box_bits box_fits without_caret
  box_has inner true q f = rw (pick_true _ all_bits (signature_of inner) q) (all_has (byte x))
  box_has inner false q f = rw (pick_false _ all_bits (signature_of inner) q) (char_has inner (box_char s e x) refl (rw (pick_false _ _ inner q, q) at f))

  module _ (t : List ℕ) (f : fits (form_in s e t) x ≡ true) where
    closed_has : (l : Bool) → last_is closing t ≡ l → first_is opening t ≡ true → Has (box_bits (box_inner t)) (bit_of (byte x))
    closed_has true k o = box_has (box_inner t) _ refl (pick_past (has opening (box_inner t)) _ (fits_by_box s e t _ refl o _ refl (box_inner t) x _ k refl refl ∙ f)).1
    closed_has false k o = absurd (false≢true (fits_by_none s e t _ refl o _ refl x k ∙ f))

    literal_has : (w : Bool) → literal_fits t s e x ≡ w → (length t ≡ 0 → s ≡ e) → first_is opening t ≡ false → Has (bit_of (byte t)) (bit_of (byte x))
    literal_has true l h o = rw (side.literal t x h l) (and_self (bit_of (byte t)))
    literal_has false l h o = absurd (false≢true (fits_by_other s e t _ refl o x _ refl l ∙ f))

    rest_by : (o : Bool) → first_is opening t ≡ o → (length t ≡ 0 → s ≡ e) → Has (rest_bits t (byte t)) (bit_of (byte x))
    unfolding rest_bits
    rest_by true o h = rw (pick_true _ (box_bits (box_inner t)) (bit_of (byte t)) o) (closed_has _ refl o)
    rest_by false o h = rw (pick_false _ (box_bits (box_inner t)) (bit_of (byte t)) o) (literal_has _ refl h o)

  -- the whole of a context, of which t is left without its anchor
  whole_has : (c t : List ℕ) (z : Bool) → eqb (length c) 0 ≡ z → ((length c ≡ 0 → ⊥) → length t ≡ 0 → s ≡ e) → fits (form_in s e t) x ≡ true
      → Has (pick (eqb (length c) 0) all_bits (rest_bits t (byte t))) (bit_of (byte x))
  whole_has c t true q h f = rw (pick_true _ all_bits (rest_bits t (byte t)) q) (all_has (byte x))
  whole_has c t false q h f = rw (pick_false _ all_bits (rest_bits t (byte t)) q) (rest_by t f _ refl (h (eqb-false _ _ q)))

-- nothing is left of an anchor alone
bare : (q : Bool) (y c : List ℕ) → (length c ≡ 0 → ⊥) → length (pick q y c) ≡ 0 → q ≡ true
unfolding pick
bare true y c n h = refl
bare false y c n h = absurd (n h)

module _ (c x : List ℕ) where
  pub left_has : fits (left_form c) x ≡ true → Has (left_bits c) (bit_of (last_byte x))
  unfolding left_bits without_caret
  left_has f = whole_has (before (first_is caret c)) x c (without_caret c) _ refl (bare _ _ c) (rw (left_is c) at f)

  pub right_has : fits (right_form c) x ≡ true → Has (right_bits c) (bit_of (first_byte x))
  unfolding right_bits without_dollar
  right_has f = whole_has (behind (last_is dollar c)) x c (without_dollar c) _ refl (λ n h. sym (bare _ _ c n h)) (rw (right_is c) at f)

-- ---- the code

pub rest_box : (t i : List ℕ) (b r : ℕ) (f : Bool) → f ≡ first_is opening t → f ≡ true → i ≡ box_inner t → r ≡ box_bits i → r ≡ rest_bits t b
unfolding rest_bits
rest_box t i b r f g q j e = e ∙ ap box_bits j ∙ sym (pick_true _ _ _ (sym g ∙ q))

module _ (c t : List ℕ) (b r : ℕ) (n : length c ≡ 0 → ⊥) (e : r ≡ rest_bits t b) where
  pub left_whole : t ≡ without_caret c → b ≡ last_byte t → r ≡ left_bits c
  unfolding left_bits
  left_whole q d = e ∙ ap (rest_bits t) d ∙ ap (λ (l : List ℕ). rest_bits l (last_byte l)) q ∙ sym (pick_false _ _ _ (ne_eqb _ _ n))

  pub right_whole : t ≡ without_dollar c → b ≡ first_byte t → r ≡ right_bits c
  unfolding right_bits
  right_whole q d = e ∙ ap (rest_bits t) d ∙ ap (λ (l : List ℕ). rest_bits l (first_byte l)) q ∙ sym (pick_false _ _ _ (ne_eqb _ _ n))

pub ruleset beside_laws = (rest_box, left_whole, right_whole, cases, rules)
