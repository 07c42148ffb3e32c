-- What the shortcuts pass over does not match: a place whose first byte is another, and a pattern with a byte that is not in the name's
-- signature. Assumes nothing.
use mathlib.Core.Path.{◌≡◌, refl, sym, ap, subst, ◌∙◌}
use mathlib.Core.Bool.{Bool, true, false, false≢true}
use mathlib.Core.List.{List, [], ◌∷◌, ◌++◌}
use mathlib.Core.Logic.{⊎_elim}
use Prim.Native.Nat.{ℕ, zero, suc, ◌+◌, ◌-◌, ◌≤◌, ◌<◌}
use native.Mathlib.Nat.{zero-add}
use native.Mathlib.Decide.{dec_lt}
use native.Mathlib.Numerals.{one-add}
use native.Mathlib.Omega.{arith}
use lib.Bits.{bit_or, and_zero_r, or_zero_l, or_zero_r}
use lib.Dec.{eqb, ltb}
use lib.ListN.{length, get_or, take, drop, length-drop}
use lib.Seq.{drop-nil, drop-cons}
use borrow.Author.Rules.{rules}
use borrow.Author.Tests.{eq-eqb, ne_eqb, leb-true, ltb-false, eqb-true, eqb-false}
use Rattle.base.proofs.Bits.{or_assoc}
use Rattle.base.specs.Pick.{pick}
use Rattle.letters.specs.Utf8.{decode_at, encode}
use Rattle.letters.specs.Reading.{codes_of}
use Rattle.letters.specs.declared.utf8.Step.{Step}
use Rattle.letters.specs.declared.utf8.Step.TheVariants.{Char, Ill, End}
use Rattle.letters.proofs.Utf8Laws.{decode_one, char_at, char_drop, encode_one, encode_two, encode_three, encode_four}
use Rattle.letters.proofs.CodesLaws.{codes_char}
use Rattle.texts.specs.Signatures.{bit_of, signature_of, has_bits}
use Rattle.texts.proofs.SignatureLaws.{Has, In, Covers, more, has_yes, both, char_byte, signature_covers}
use Rattle.texts.specs.Parts.{first_is, place_of, has, opening, closing}
use Rattle.lang.specs
use specs.Patterns.{Piece, box_length, char_piece, piece_at, length_at, char_length, pattern_pieces, middle, takes, fits_at, fits_anywhere, matches_in, matches_of}
use specs.InnerContracts.{begins_with_other, bits_in, required_of}
use Rattle.lang.proofs.PieceLaws.{pieces_cons, piece_char, piece_bytes, next_laws}
use Rattle.base.proofs.Stores.{rest_is}
use Rattle.texts.proofs.Chars.{has_cons}
use Rattle.base.proofs.PickLaws.{pick_true, pick_false, pick_inv, and_inv, and_first, pick_past}

-- ---- a place

first_not : (t : List ℕ) (b : ℕ) → 0 < length t → (get_or t 0 0 ≡ b → ⊥) → first_is b t ≡ false
unfolding first_is
first_not [] b h n = absurd (omega arith)
first_not (x ∷ l) b h n = ne_eqb x b n

takes_not : (t : List ℕ) (b : ℕ) (r : Step) → decode_at t 0 ≡ r → (get_or t 0 0 ≡ b → ⊥) → b ≤ 0x7F → takes (char_piece r) b ≡ false
unfolding takes char_piece
takes_not t b (Char k n) e h l = ne_eqb k b (λ q. h (sym (char_byte t 0 k n 0 e (char_at t 0 k n e).some) ∙ ap (λ (x : ℕ). get_or (encode x) 0 0) q ∙ ap (λ (x : List ℕ). get_or x 0 0) (encode_one b (omega arith))))
takes_not t b Ill e h l = refl
takes_not t b End e h l = refl

module _ (t name : List ℕ) (end : Bool) (from : ℕ) (b : ℕ) (i : from < length name) (a : b ≡ get_or name from 0) where
  -- t has a byte, which is neither `[` nor b
  passed_by_lem : 0 < length t → (get_or t 0 0 ≡ opening → ⊥) → (get_or t 0 0 ≡ b → ⊥) → b ≤ 0x7F → false ≡ fits_at (pattern_pieces t) end (codes_of (drop from name))
  unfolding fits_at
  passed_by_lem h o n l =
      let low : get_or name from 0 ≤ 0x7F = omega arith in
      let codes : codes_of (drop from name) ≡ get_or name from 0 ∷ codes_of (drop (from + 1) name) = codes_char name from (get_or name from 0) 1 (sym (decode_one name from i low)) in
      let piece : takes (piece_at t) (get_or name from 0) ≡ false =
      ap (λ (y : Piece). takes y (get_or name from 0)) (sym (piece_char t false (sym (first_not t opening h o)) refl)) ∙ takes_not t (get_or name from 0) (decode_at t 0) refl (λ q. n (q ∙ sym a)) low in
      sym (rw (pieces_cons t h, codes) (and_first _ _ piece))

pub place_passed : (t name : List ℕ) (end : Bool) (from : ℕ) (r : Bool) → from < length name → r ≡ begins_with_other t (get_or name from 0) → r ≡ true
    → false ≡ fits_at (pattern_pieces t) end (codes_of (drop from name))
unfolding begins_with_other
place_passed t name end from r i e q =
    let b = get_or name from 0 in
    let u = pick_past (ltb (length t) 1) _ (sym e ∙ q) in
    let v = pick_past (eqb (get_or t 0 0) opening) _ u.1 in
    let w = pick_past (eqb (get_or t 0 0) b) _ v.1 in
    passed_by_lem t name end from b i refl (omega (arith, ltb-false (length t) 1 u.0)) (eqb-false _ _ v.0) (eqb-false _ _ w.0) (leb-true b 0x7F w.1)

-- ---- what fits has all its bytes outside the boxes in the name

place_cons : (x : ℕ) (l : List ℕ) → eqb x closing ≡ false → place_of closing (x ∷ l) ≡ suc (place_of closing l)
unfolding place_of
place_cons x l e = pick_false _ _ _ e

box_by : (x : ℕ) (l : List ℕ) (t : Bool) → has closing l ≡ t → eqb x closing ≡ false → box_length (x ∷ l) ≡ suc (box_length l)
unfolding box_length
box_by x l true q e =
    pick_true _ _ _ (has_cons closing x l ∙ pick_false _ _ _ e ∙ q) ∙ omega (arith, place_cons x l e) ∙ ap suc (sym (pick_true (has closing l) (place_of closing l + 1) (length l) q))
box_by x l false q e =
    pick_false _ _ _ (has_cons closing x l ∙ pick_false _ _ _ e ∙ q) ∙ ap suc (sym (pick_false (has closing l) (place_of closing l + 1) (length l) q))

-- from behind a `[` on
box_closes : (x : ℕ) (l : List ℕ) → eqb x closing ≡ true → box_length (x ∷ l) ≡ 1
unfolding box_length place_of
box_closes x l e = pick_true _ _ _ (has_cons closing x l ∙ pick_true _ _ _ e) ∙ ap (λ (n : ℕ). n + 1) (pick_true _ _ _ e)

box_step : (x : ℕ) (l : List ℕ) (t : Bool) → eqb x closing ≡ t → bits_in true l ≡ bits_in false (drop (box_length l) l)
    → bits_in true (x ∷ l) ≡ bits_in false (drop (box_length (x ∷ l)) (x ∷ l))
unfolding bits_in pick
box_step x l true e on = rw (e, box_closes x l e) refl
box_step x l false e on = rw (e, box_by x l (has closing l) refl e) on

box_passed : (l : List ℕ) → bits_in true l ≡ bits_in false (drop (box_length l) l)
unfolding bits_in
box_passed [] = sym (ap (bits_in false) (drop-nil (box_length [])))
box_passed (x ∷ l) = box_step x l (eqb x closing) refl (box_passed l)

-- a box at the front
front_passed : (x : ℕ) (l : List ℕ) → eqb x opening ≡ true → bits_in false (x ∷ l) ≡ bits_in false (drop (length_at (x ∷ l)) (x ∷ l))
unfolding bits_in pick length_at first_is
front_passed x l e = rw (e, one-add) (box_passed l)

-- none of them is `[`
Free : List ℕ → Type 0
Free l = (i : ℕ) → i < length l → get_or l i 0 ≡ opening → ⊥

free_none : Free []
unfolding Free
free_none i h e = omega arith

free_cons : (x : ℕ) (l : List ℕ) → (x ≡ opening → ⊥) → Free l → Free (x ∷ l)
unfolding Free
free_cons x l n f zero h e = n e
free_cons x l n f (suc i) h e = f i (omega arith) e

encode_free : (k : ℕ) → (k ≡ opening → ⊥) → Free (encode k)
encode_free k n = elim (dec_lt k 0x80) [
  | yes h ↦ rw (encode_one k h) (free_cons _ _ n free_none)
  | no g ↦ elim (dec_lt k 0x800) [
    | yes h ↦ rw (encode_two k (omega arith) h) (free_cons _ _ (λ e. omega arith) (free_cons _ _ (λ e. omega arith) free_none))
    | no h ↦ elim (dec_lt k 0x10000) [
      | yes i ↦ rw (encode_three k (omega arith) i) (free_cons _ _ (λ e. omega arith) (free_cons _ _ (λ e. omega arith) (free_cons _ _ (λ e. omega arith) free_none)))
      | no i ↦ rw (encode_four k (omega arith)) (free_cons _ _ (λ e. omega arith) (free_cons _ _ (λ e. omega arith) (free_cons _ _ (λ e. omega arith) (free_cons _ _ (λ e. omega arith) free_none))))
    ]
  ]
]

text_has : (bits : ℕ) (e l : List ℕ) → In bits e → Free e → Has bits (bits_in false l) → Has bits (bits_in false (e ++ l))
unfolding bits_in pick In Free
text_has bits [] l a f h = h
text_has bits (x ∷ e) l a f h =
    let no : eqb x opening ≡ false = ne_eqb x opening (f 0 (omega arith)) in
    rw no (both bits _ _ (a 0 (omega arith)) (text_has bits e l (λ i g. a (suc i) (omega arith)) (λ i g. f (suc i) (omega arith)) h))

first_yes : (x : ℕ) (l : List ℕ) (b : ℕ) → first_is b (x ∷ l) ≡ true → eqb x b ≡ true
unfolding first_is
first_yes x l b e = e

-- the piece at the front
module _ (bits x : ℕ) (l : List ℕ) (c : ℕ) (a : In bits (encode c)) where
  char_has : (r : Step) → decode_at (x ∷ l) 0 ≡ r → first_is opening (x ∷ l) ≡ false → takes (char_piece r) c ≡ true → Has bits (bits_in false (drop (char_length r) (x ∷ l))) → Has bits (bits_in false (x ∷ l))
  unfolding takes char_piece char_length first_is
  char_has (Char k n) e o t h =
      let same : k ≡ c = eqb-true k c t in
      let other : k ≡ opening → ⊥ = λ q. eqb-false x opening o (sym (char_byte (x ∷ l) 0 k n 0 e (char_at (x ∷ l) 0 k n e).some) ∙ ap (λ (y : ℕ). get_or (encode y) 0 0) q ∙ ap (λ (y : List ℕ). get_or y 0 0) (encode_one opening (omega arith))) in
      rw (char_drop (x ∷ l) 0 k n e, zero-add) (text_has bits (encode k) (drop n (x ∷ l)) (rw same a) (encode_free k other) h)
  char_has Ill e o t h = absurd (false≢true t)
  char_has End e o t h = absurd (false≢true t)

  piece_has : (t : Bool) → first_is opening (x ∷ l) ≡ t → takes (piece_at (x ∷ l)) c ≡ true → Has bits (bits_in false (drop (length_at (x ∷ l)) (x ∷ l))) → Has bits (bits_in false (x ∷ l))
  unfolding piece_at length_at pick
  piece_has true o t h = subst (Has bits) (sym (front_passed x l (first_yes x l opening o))) h
  piece_has false o t h = char_has (decode_at (x ∷ l) 0) refl o (rw o at t) (rw o at h)

fits_has : (f bits : ℕ) (t : List ℕ) → length t ≤ f → (end : Bool) (cs : List ℕ) → Covers bits cs → fits_at (pattern_pieces t) end cs ≡ true → Has bits (bits_in false t)
unfolding bits_in fits_at
fits_has zero bits [] h end cs a e = and_zero_r bits
fits_has zero bits (x ∷ l) h end cs a e = absurd (omega arith)
fits_has (suc f) bits [] h end cs a e = and_zero_r bits
fits_has (suc f) bits (x ∷ l) h end [] a e = absurd (false≢true (rw (pieces_cons (x ∷ l) (omega arith)) at e))
fits_has (suc f) bits (x ∷ l) h end (c ∷ cs) (more i a) e =
    let b = piece_bytes (x ∷ l) (omega arith) in
    let less = length-drop (length_at (x ∷ l)) (x ∷ l) in
    let w = and_inv (takes (piece_at (x ∷ l)) c) _ (rw (pieces_cons (x ∷ l) (omega arith)) at e) in
    piece_has bits x l c i (first_is opening (x ∷ l)) refl w.0 (fits_has f bits (drop (length_at (x ∷ l)) (x ∷ l)) (omega arith) end cs a w.1)

anywhere_has : (bits : ℕ) (t : List ℕ) (end : Bool) (cs : List ℕ) → Covers bits cs → fits_anywhere (pattern_pieces t) end cs ≡ true → Has bits (bits_in false t)
unfolding fits_anywhere
anywhere_has bits t end [] a e = fits_has (length t) bits t (omega arith) end [] a e
anywhere_has bits t end (c ∷ cs) (more i a) e =
    ⊎_elim (λ w. fits_has (length t) bits t (omega arith) end (c ∷ cs) (more i a) w.0) (λ w. anywhere_has bits t end cs a w.1) (pick_inv _ _ _ _ e)

has_by : (bits : ℕ) (start : Bool) (t : List ℕ) (end : Bool) (cs : List ℕ) → Covers bits cs → matches_in start (pattern_pieces t) end cs ≡ true → Has bits (bits_in false t)
unfolding matches_in pick
has_by bits true t end cs a e = fits_has (length t) bits t (omega arith) end cs a e
has_by bits false t end cs a e = anywhere_has bits t end cs a e

-- what cannot be true without bits that are lacking
pub not_lacking : (bits n : ℕ) (t : Bool) → has_bits bits n ≡ false → (t ≡ true → Has bits n) → t ≡ false
not_lacking bits n true h f = absurd (false≢true (sym h ∙ has_yes bits n (f refl)))
not_lacking bits n false h f = refl

-- a pattern that requires a bit which the name's signature has not does not match it
pub lacking_not : (p name : List ℕ) → has_bits (signature_of name) (required_of p) ≡ false → matches_of p name ≡ false
unfolding required_of matches_of
lacking_not p name h = not_lacking _ _ _ h (has_by (signature_of name) _ (middle p) _ (codes_of name) (signature_covers name))

-- ---- the loop over a pattern

none_left : (s : List ℕ) → length s ≡ 0 → s ≡ []
none_left [] h = refl
none_left (x ∷ s) h = absurd (omega arith)

pub record Requiring (t s : List ℕ) (bits : ℕ) : Type 0 where
  pub is : bit_or bits (bits_in false s) ≡ bits_in false t

pub requiring_start : (t : List ℕ) → Requiring t t 0
requiring_start t = record { is = or_zero_l (bits_in false t) }

module _ {t s : List ℕ} {bits : ℕ} (w : Requiring t s bits) where
  here : (length s ≡ 0 → ⊥) → s ≡ get_or s 0 0 ∷ drop 1 s
  here h = drop-cons s 0 0 (omega arith)

  pub requiring_box : (n : ℕ) → (length s ≡ 0 → ⊥) → get_or s 0 0 ≡ opening → n ≡ length_at s → Requiring t (take (length s - n) (drop n s)) bits
  requiring_box n h o e =
      let front : bits_in false s ≡ bits_in false (drop (length_at s) s) = rw (here h) (front_passed (get_or s 0 0) (drop 1 s) (eq-eqb _ _ o)) in
      record { is = rw (rest_is s n, e) (ap (bit_or bits) (sym front) ∙ w.is) }

  pub requiring_next : (b : ℕ) → (length s ≡ 0 → ⊥) → (get_or s 0 0 ≡ opening → ⊥) → b ≡ bit_of (get_or s 0 0) → Requiring t (take (length s - 1) (drop 1 s)) (bit_or bits b)
  unfolding bits_in pick
  requiring_next b h o e =
      let literal : bits_in false s ≡ bit_or b (bits_in false (drop 1 s)) = rw (here h, ne_eqb (get_or s 0 0) opening o, e) refl in
      record { is = rw (rest_is s 1) (or_assoc bits b _ ∙ ap (bit_or bits) (sym literal) ∙ w.is) }

  pub requiring_end : length s ≡ 0 → bits ≡ bits_in false t
  unfolding bits_in
  requiring_end h = sym (or_zero_r bits) ∙ ap (λ (l : List ℕ). bit_or bits (bits_in false l)) (sym (none_left s h)) ∙ w.is

pub required_by : (p x : List ℕ) (r : ℕ) → x ≡ middle p → r ≡ bits_in false x → r ≡ required_of p
unfolding required_of
required_by p x r e f = f ∙ ap (bits_in false) e

pub ruleset requiring_laws = (requiring_start, requiring_box, requiring_next, requiring_end, next_laws, required_by, rules)
