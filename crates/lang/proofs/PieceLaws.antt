-- Reading: the anchors, a box, the piece at the front, and one piece after the other. A law for each way that the code can go.
-- Assumes nothing.
use mathlib.Core.Path.{◌≡◌, refl, sym, ap, ◌∙◌}
use mathlib.Core.Bool.{Bool, true, false}
use mathlib.Core.List.{List, [], ◌∷◌}
use Prim.Native.Nat.{ℕ, zero, suc, ◌+◌, ◌-◌, ◌≤◌, ◌<◌}
use native.Mathlib.Omega.{arith}
use lib.ListN.{length, take, drop, length-drop}
use borrow.Author.Rules.{rules}
use borrow.Author.Tests.{lt-ltb, le-ltb, ltb-true}
use Rattle.letters.specs.Utf8.{decode_at}
use Rattle.letters.specs.declared.utf8.Step.{Step}
use Rattle.letters.specs.declared.utf8.Step.TheVariants.{Char, Ill, End}
use Rattle.letters.proofs.Utf8Laws.{char_at, end_at}
use Rattle.texts.specs.Parts.{first_is, place_of, has, opening, closing, without_caret, without_dollar}
use Rattle.texts.proofs.Laws.{place_most, first_some_by}
use Rattle.lang.specs.Patterns.{Piece, middle, inside_of, box_length, box_piece, char_piece, char_length, piece_at, length_at, pattern_pieces_in, pattern_pieces}
use Rattle.base.proofs.PickLaws.{pick_true, pick_false}
use Rattle.base.proofs.Stores.{rest_is}

-- ---- the anchors

pub middle_by : (p x y : List ℕ) → x ≡ without_caret p → y ≡ without_dollar x → y ≡ middle p
unfolding middle
middle_by p x y e f = f ∙ ap without_dollar e

-- ---- a box, from behind its `[`

module _ (s : List ℕ) (i : ℕ) (e : i ≡ place_of closing s) where
  closed : i < length s → has closing s ≡ true
  unfolding has
  closed h = lt-ltb _ _ (rw e at h)

  not_closed : length s ≤ i → has closing s ≡ false
  unfolding has
  not_closed h = le-ltb _ _ (rw e at h)

  pub inside_yes : i < length s → take i s ≡ inside_of s
  unfolding inside_of
  inside_yes h = ap (λ (n : ℕ). take n s) e ∙ sym (pick_true _ _ _ (closed h))

  pub inside_no : length s ≤ i → [] ≡ inside_of s
  unfolding inside_of
  inside_no h = sym (pick_false _ _ _ (not_closed h))

  pub box_len_yes : i < length s → i + 1 ≡ box_length s
  unfolding box_length
  box_len_yes h = ap (λ (n : ℕ). n + 1) e ∙ sym (pick_true _ _ _ (closed h))

  pub box_len_no : length s ≤ i → i ≡ box_length s
  unfolding box_length
  box_len_no h = omega (arith, place_most closing s) ∙ sym (pick_false _ _ _ (not_closed h))

most_by : (s : List ℕ) (t : Bool) → has closing s ≡ t → box_length s ≤ length s
unfolding box_length has
most_by s true e = let b = ltb-true (place_of closing s) (length s) e in rw (pick_true _ (place_of closing s + 1) (length s) e) (omega arith)
most_by s false e = rw (pick_false _ (place_of closing s + 1) (length s) e) (omega arith)

pub box_most : (s : List ℕ) → box_length s ≤ length s
box_most s = most_by s (has closing s) refl

pub ruleset box_laws = (inside_yes, inside_no, box_len_yes, box_len_no, rules)

-- ---- the character and the piece at the front

module _ (l : List ℕ) (r : Step) (e : r ≡ decode_at l 0) where
  pub char_len : (k n : ℕ) → r ≡ Char k n → n ≡ char_length (decode_at l 0)
  unfolding char_length
  char_len k n q = sym (ap char_length (sym e ∙ q))

  pub char_len_ill : r ≡ Ill → 1 ≡ char_length (decode_at l 0)
  unfolding char_length
  char_len_ill q = sym (ap char_length (sym e ∙ q))

  pub char_len_end : r ≡ End → 0 ≡ char_length (decode_at l 0)
  unfolding char_length
  char_len_end q = sym (ap char_length (sym e ∙ q))

module _ (l : List ℕ) (t : Bool) (e : t ≡ first_is opening l) where
  pub length_box : (n : ℕ) → t ≡ true → n ≡ box_length (take (length l - 1) (drop 1 l)) → 1 + n ≡ length_at l
  unfolding length_at
  length_box n p f = ap (λ (m : ℕ). 1 + m) (f ∙ ap box_length (rest_is l 1)) ∙ sym (pick_true _ _ _ (sym e ∙ p))

  pub length_char : (n : ℕ) → t ≡ false → n ≡ char_length (decode_at l 0) → n ≡ length_at l
  unfolding length_at
  length_char n p f = f ∙ sym (pick_false _ _ _ (sym e ∙ p))

  pub length_fits : (n : ℕ) → t ≡ true → n ≡ box_length (take (length l - 1) (drop 1 l)) → 1 + n ≤ length l
  length_fits n p f = omega (arith, first_some_by opening l t e p, box_most (drop 1 l), f ∙ ap box_length (rest_is l 1), length-drop 1 l)

  pub piece_box : (x : List ℕ) → t ≡ true → x ≡ inside_of (take (length l - 1) (drop 1 l)) → box_piece x ≡ piece_at l
  unfolding piece_at
  piece_box x p f = ap box_piece (f ∙ ap inside_of (rest_is l 1)) ∙ sym (pick_true _ _ _ (sym e ∙ p))

  pub piece_char : t ≡ false → char_piece (decode_at l 0) ≡ piece_at l
  unfolding piece_at
  piece_char p = sym (pick_false _ _ _ (sym e ∙ p))

pub ruleset front_laws = (first_some_by, char_len, char_len_ill, char_len_end, length_box, length_char, rules)

-- ---- one piece after the other

-- n bytes of l: at least one, and no more than there are
pub record Bytes (l : List ℕ) (n : ℕ) : Type 0 where
  pub some : 1 ≤ n
  pub most : n ≤ length l

char_bytes : (l : List ℕ) (r : Step) → decode_at l 0 ≡ r → 0 < length l → Bytes l (char_length r)
unfolding char_length
char_bytes l (Char k n) e h = let w = char_at l 0 k n e in record { some = w.some; most = omega arith }
char_bytes l Ill e h = record { some = omega arith; most = omega arith }
char_bytes l End e h = let no_way = end_at l 0 e in absurd (omega arith)

bytes_by : (l : List ℕ) (t : Bool) → first_is opening l ≡ t → 0 < length l → Bytes l (length_at l)
unfolding length_at
bytes_by l true e h = rw (pick_true _ (1 + box_length (drop 1 l)) (char_length (decode_at l 0)) e) (record { some = omega arith; most = omega (arith, box_most (drop 1 l), length-drop 1 l) })
bytes_by l false e h = rw (pick_false _ (1 + box_length (drop 1 l)) (char_length (decode_at l 0)) e) (char_bytes l (decode_at l 0) refl h)

pub piece_bytes : (l : List ℕ) → 0 < length l → Bytes l (length_at l)
piece_bytes l h = bytes_by l (first_is opening l) refl h

-- any fuel that is enough
enough : (f g : ℕ) (l : List ℕ) → length l ≤ f → length l ≤ g → pattern_pieces_in f l ≡ pattern_pieces_in g l
unfolding pattern_pieces_in
enough zero zero l h k = refl
enough zero (suc g) [] h k = refl
enough zero (suc g) (x ∷ l) h k = absurd (omega arith)
enough (suc f) zero [] h k = refl
enough (suc f) zero (x ∷ l) h k = absurd (omega arith)
enough (suc f) (suc g) [] h k = refl
enough (suc f) (suc g) (x ∷ l) h k =
    let b = piece_bytes (x ∷ l) (omega arith) in
    let less = length-drop (length_at (x ∷ l)) (x ∷ l) in
    ap (λ (m : List Piece). piece_at (x ∷ l) ∷ m) (enough f g (drop (length_at (x ∷ l)) (x ∷ l)) (omega arith) (omega arith))

pub pieces_cons : (l : List ℕ) → 0 < length l → pattern_pieces l ≡ piece_at l ∷ pattern_pieces (drop (length_at l) l)
unfolding pattern_pieces pattern_pieces_in
pieces_cons [] h = absurd (omega arith)
pieces_cons (x ∷ l) h =
    let b = piece_bytes (x ∷ l) h in
    let less = length-drop (length_at (x ∷ l)) (x ∷ l) in
    let rest = drop (length_at (x ∷ l)) (x ∷ l) in
    ap (λ (m : List Piece). piece_at (x ∷ l) ∷ m) (enough (length l) (length rest) rest (omega arith) (omega arith))

pub pieces_none : (t : List ℕ) → length t ≡ 0 → pattern_pieces t ≡ []
unfolding pattern_pieces pattern_pieces_in
pieces_none [] h = refl
pieces_none (x ∷ t) h = absurd (omega arith)

-- behind the piece at the front, of n bytes, as the code cuts it off
module _ (t : List ℕ) (n : ℕ) (h : length t ≡ 0 → ⊥) (e : n ≡ length_at t) where
  bytes : Bytes t n
  bytes = rw e (piece_bytes t (omega arith))

  pub next_within : n ≤ length t
  next_within = bytes.most

  pub next_less : length (take (length t - n) (drop n t)) < length t
  next_less = rw rest_is (omega (arith, bytes.some, length-drop n t))

  pub next_pieces : pattern_pieces t ≡ piece_at t ∷ pattern_pieces (take (length t - n) (drop n t))
  next_pieces = pieces_cons t (omega arith) ∙ rw (rest_is t n, e) refl

pub ruleset next_laws = (next_within, next_less)
