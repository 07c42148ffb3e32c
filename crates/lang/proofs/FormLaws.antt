-- The forms: the characters of a box, a piece, all pieces, the frame. A law for each way that the code can go. Assumes nothing.
use mathlib.Core.Path.{◌≡◌, refl, sym, ap, ◌∙◌}
use mathlib.Core.Bool.{Bool, true, false, ◌||◌}
use mathlib.Core.List.{List, [], ◌∷◌}
use Prim.Native.Nat.{ℕ, ◌+◌, ◌-◌}
use native.Mathlib.Omega.{arith}
use lib.Dec.{eqb}
use lib.ListN.{length, take, drop}
use borrow.Author.Rules.{rules}
use borrow.Author.Tests.{lt-ltb, le-ltb, eq-eqb, ne_eqb}
use Rattle.base.specs.Pick.{pick, and}
use Rattle.letters.specs.Utf8.{decode_at}
use Rattle.letters.specs.Reading as letters
use Rattle.letters.specs.declared.utf8.Step.{Step}
use Rattle.letters.specs.declared.utf8.Step.TheVariants.{Char, Ill, End}
use Rattle.letters.proofs.ReadingLaws.{Walk, walk_start, walk_on, walk_stop, walk_ill, walk_end, step_laws}
use Rattle.texts.specs.Parts.{first_is, place_of, has, opening, without_caret}
use Rattle.texts.proofs.Chars.{has_cons}
use Rattle.texts.proofs.Laws.{first_some_by}
use Rattle.letters.proofs.Utf8Laws.{ill_in_lem, end_at}
use Rattle.std.specs.List.{list_any}
use Rattle.lang.specs.Patterns.{plain, box_plain, inside_of, box_piece, char_piece, piece_at, length_at, pattern_pieces, all_box_plain, listed_box, good_piece, all_good}
use Rattle.lang.proofs.PieceLaws.{piece_box, piece_char, next_laws, next_pieces, pieces_none}
use Rattle.base.proofs.PickLaws.{and_rest, and_none, and_first, and_no}

-- ---- the characters of a box, as far as place p

pub listed_none : (l : List ℕ) → length l ≡ 0 → false ≡ listed_box l
unfolding listed_box
listed_none l e = and_none _ _ _ (le-ltb 0 (length l) (omega arith)) refl

module _ {l : List ℕ} {p : ℕ} (w : Walk Bool all_box_plain l p) (r : Step) (e : r ≡ decode_at l p) where
  pub listing_next : (k n : ℕ) (t : Bool) → r ≡ Char k n → t ≡ box_plain k → t ≡ true → Walk Bool all_box_plain l (p + n)
  unfolding all_box_plain and
  listing_next k n t q f g = walk_on w k n (sym e ∙ q) (λ m. simp (sym f ∙ g))

  pub listing_stop : (k n : ℕ) (t : Bool) → r ≡ Char k n → t ≡ box_plain k → t ≡ false → false ≡ listed_box l
  unfolding all_box_plain listed_box
  listing_stop k n t q f g = and_no _ _ (sym (walk_stop w k n false (sym e ∙ q) (λ m. and_first _ _ (sym f ∙ g))))

  listing_past : (x : Step) → decode_at l p ≡ x → ((k n : ℕ) → x ≡ Char k n → ⊥) → all_box_plain (letters.symbols_of l) ≡ eqb p (length l)
  unfolding all_box_plain
  listing_past (Char k n) q h = absurd (h k n refl)
  listing_past Ill q h = let i = ill_in_lem l p q in walk_ill w false q (λ m. refl) ∙ sym (ne_eqb p (length l) (λ z. omega arith))
  listing_past End q h = let i = end_at l p q in walk_end w q ∙ sym (eq-eqb p (length l) (omega (arith, w.within)))

  -- no character is left: all were read where the place is the end
  pub listing_done : ((k n : ℕ) → r ≡ Char k n → ⊥) → (length l ≡ 0 → ⊥) → eqb p (length l) ≡ listed_box l
  unfolding listed_box
  listing_done h g = and_rest _ _ _ (lt-ltb 0 (length l) (omega arith)) (sym (listing_past r (sym e) h))

pub ruleset listing_laws = (listed_none, walk_start, listing_next, listing_stop, listing_done, step_laws, rules)

-- ---- a piece

module _ (l : List ℕ) (r : Step) (e : r ≡ decode_at l 0) where
  pub good_char : (k n : ℕ) (t : Bool) → r ≡ Char k n → t ≡ plain k → t ≡ good_piece (char_piece (decode_at l 0))
  unfolding good_piece char_piece
  good_char k n t q f = f ∙ sym (ap (λ (x : Step). good_piece (char_piece x)) (sym e ∙ q))

  pub good_ill : r ≡ Ill → false ≡ good_piece (char_piece (decode_at l 0))
  unfolding good_piece char_piece
  good_ill q = sym (ap (λ (x : Step). good_piece (char_piece x)) (sym e ∙ q))

  pub good_end : r ≡ End → false ≡ good_piece (char_piece (decode_at l 0))
  unfolding good_piece char_piece
  good_end q = sym (ap (λ (x : Step). good_piece (char_piece x)) (sym e ∙ q))

module _ (l : List ℕ) (t : Bool) (e : t ≡ first_is opening l) (r : Bool) where
  pub good_box : (x y : List ℕ) → t ≡ true → x ≡ inside_of (take (length l - 1) (drop 1 l)) → y ≡ without_caret x → r ≡ listed_box y → r ≡ good_piece (piece_at l)
  unfolding good_piece box_piece
  good_box x y p f g h = h ∙ ap listed_box g ∙ ap good_piece (piece_box l t e x p f)

  pub good_other : t ≡ false → r ≡ good_piece (char_piece (decode_at l 0)) → r ≡ good_piece (piece_at l)
  good_other p h = h ∙ ap good_piece (piece_char l t e p)

pub ruleset good_laws = (first_some_by, good_char, good_ill, good_end, good_box, good_other, rules)

-- ---- all pieces, as far as q

pub record Passing (t rest : List ℕ) : Type 0 where
  pub is : all_good (pattern_pieces t) ≡ all_good (pattern_pieces rest)

pub passing_start : (t : List ℕ) → Passing t t
passing_start t = record { is = refl }

module _ {t s : List ℕ} (w : Passing t s) where
  module _ (r : Bool) (h : length s ≡ 0 → ⊥) (e : r ≡ good_piece (piece_at s)) where
    pub passing_next : (n : ℕ) → r ≡ true → n ≡ length_at s → Passing t (take (length s - n) (drop n s))
    unfolding all_good and
    passing_next n p f = record { is = w.is ∙ ap all_good (next_pieces s n h f) ∙ simp (sym e ∙ p) }

    pub passing_stop : r ≡ false → false ≡ all_good (pattern_pieces t)
    unfolding all_good
    passing_stop p = sym (w.is ∙ ap all_good (next_pieces s _ h refl) ∙ and_first _ _ (sym e ∙ p))

  pub passing_done : length s ≡ 0 → true ≡ all_good (pattern_pieces t)
  unfolding all_good
  passing_done h = sym (w.is ∙ ap all_good (pieces_none s h))

pub ruleset passing_laws = (passing_start, passing_next, passing_stop, passing_done, next_laws, rules)

-- ---- the frame

or_by : (t u : Bool) → (t || u) ≡ pick t true u
unfolding pick
or_by true u = refl
or_by false u = refl

has_is : (b : ℕ) (p : List ℕ) → list_any (λ x. eqb x b) p ≡ has b p
unfolding has place_of
has_is b [] = refl
has_is b (x ∷ p) = or_by (eqb x b) _ ∙ ap (pick (eqb x b) true) (has_is b p) ∙ sym (has_cons b x p)

pub has_by : (b : ℕ) (p : List ℕ) (t : Bool) → t ≡ list_any (λ x. eqb x b) p → t ≡ has b p
has_by b p t e = e ∙ has_is b p

pub ruleset blank_laws = (has_by, rules)
