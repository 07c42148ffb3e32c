-- Matching: the characters of a box, a piece, the pieces from a place on, any place. A law for each way that the code can go.
-- Assumes nothing.
use mathlib.Core.Path.{◌≡◌, refl, sym, ap, ap₂, ◌∙◌}
use mathlib.Core.Bool.{Bool, true, false, not}
use mathlib.Core.List.{List, [], ◌∷◌}
use Prim.Native.Nat.{ℕ, ◌+◌, ◌-◌}
use lib.Dec.{eqb}
use lib.ListN.{length, take, drop}
use borrow.Author.Rules.{rules}
use borrow.Author.Tests.{eqb-true, eqb-false}
use Rattle.base.specs.Pick.{and}
use Rattle.letters.specs.Utf8.{decode_at}
use Rattle.letters.specs.Reading.{codes_of}
use Rattle.letters.specs.declared.utf8.Step.{Step}
use Rattle.letters.specs.declared.utf8.Step.TheVariants.{Char, Ill, End}
use Rattle.letters.proofs.CodesLaws.{codes_char, codes_ill, codes_end}
use Rattle.letters.proofs.ReadingLaws.{step_laws}
use Rattle.texts.specs.Parts.{first_is, last_is, has, caret, dollar, opening, without_caret}
use Rattle.lang.specs.Patterns.{Piece, middle, inside_of, box_piece, char_piece, piece_at, length_at, pattern_pieces, takes, fits_at, fits_anywhere, matches_in, matches_of}
use Rattle.lang.proofs.PieceLaws.{piece_box, piece_char, next_within, next_pieces, pieces_none}
use Rattle.base.proofs.PickLaws.{pick_true, pick_false, pick_yes, pick_no, and_first}
use Rattle.texts.proofs.Laws.{first_some_by}

-- ---- a piece

module _ (x y : List ℕ) (k : ℕ) (t r : Bool) (e : t ≡ first_is caret x) (f : y ≡ without_caret x) (g : r ≡ has k (codes_of y)) where
  member : r ≡ has k (codes_of (without_caret x))
  member = g ∙ ap (λ (l : List ℕ). has k (codes_of l)) f

  pub box_negated : t ≡ true → not r ≡ takes (box_piece x) k
  unfolding takes box_piece
  box_negated p = ap not member ∙ sym (pick_true _ _ _ (sym e ∙ p))

  pub box_plain_lem : t ≡ false → r ≡ takes (box_piece x) k
  unfolding takes box_piece
  box_plain_lem p = member ∙ sym (pick_false _ _ _ (sym e ∙ p))

module _ (l : List ℕ) (k : ℕ) (r : Step) (e : r ≡ decode_at l 0) where
  pub takes_char : (c n : ℕ) → r ≡ Char c n → eqb c k ≡ takes (char_piece (decode_at l 0)) k
  unfolding takes char_piece
  takes_char c n q = sym (ap (λ (x : Step). takes (char_piece x) k) (sym e ∙ q))

  pub takes_ill : r ≡ Ill → false ≡ takes (char_piece (decode_at l 0)) k
  unfolding takes char_piece
  takes_ill q = sym (ap (λ (x : Step). takes (char_piece x) k) (sym e ∙ q))

  pub takes_end : r ≡ End → false ≡ takes (char_piece (decode_at l 0)) k
  unfolding takes char_piece
  takes_end q = sym (ap (λ (x : Step). takes (char_piece x) k) (sym e ∙ q))

module _ (l : List ℕ) (k : ℕ) (t : Bool) (e : t ≡ first_is opening l) (r : Bool) where
  pub takes_box : (x : List ℕ) → t ≡ true → x ≡ inside_of (take (length l - 1) (drop 1 l)) → r ≡ takes (box_piece x) k → r ≡ takes (piece_at l) k
  takes_box x p f h = h ∙ ap (λ (y : Piece). takes y k) (piece_box l t e x p f)

  pub takes_other : t ≡ false → r ≡ takes (char_piece (decode_at l 0)) k → r ≡ takes (piece_at l) k
  takes_other p h = h ∙ ap (λ (y : Piece). takes y k) (piece_char l t e p)

pub ruleset takes_laws = (first_some_by, box_negated, box_plain_lem, takes_char, takes_ill, takes_end, takes_box, takes_other, rules)

-- ---- the pieces from a place on: the pieces of s are left, and the name from `at` on

pub record Fitting (t : List ℕ) (end : Bool) (name : List ℕ) (from : ℕ) (s : List ℕ) (at : ℕ) : Type 0 where
  pub is : fits_at (pattern_pieces t) end (codes_of (drop from name)) ≡ fits_at (pattern_pieces s) end (codes_of (drop at name))

pub fitting_start : (t : List ℕ) (end : Bool) (name : List ℕ) (from : ℕ) → Fitting t end name from t from
fitting_start t end name from = record { is = refl }

module _ {t : List ℕ} {end : Bool} {name : List ℕ} {from : ℕ} {s : List ℕ} {at : ℕ} (w : Fitting t end name from s at) (r : Step) (e : r ≡ decode_at name at) where
  -- no piece is left
  pub fitting_over : (k n : ℕ) → r ≡ Char k n → length s ≡ 0 → not end ≡ fits_at (pattern_pieces t) end (codes_of (drop from name))
  unfolding fits_at
  fitting_over k n u h = sym (w.is ∙ ap₂ (λ (xs : List Piece) (cs : List ℕ). fits_at xs end cs) (pieces_none s h) (codes_char name at k n (sym e ∙ u)))

  module _ (k n : ℕ) (u : r ≡ Char k n) (h : length s ≡ 0 → ⊥) (b : Bool) (f : b ≡ takes (piece_at s) k) where
    step : (m : ℕ) → m ≡ length_at s → fits_at (pattern_pieces t) end (codes_of (drop from name)) ≡ and b (fits_at (pattern_pieces (take (length s - m) (drop m s))) end (codes_of (drop (at + n) name)))
    unfolding fits_at
    step m g =
        w.is ∙ ap₂ (λ (xs : List Piece) (cs : List ℕ). fits_at xs end cs) (next_pieces s m h g) (codes_char name at k n (sym e ∙ u)) ∙ rw (sym f) refl

    pub fitting_next : (m : ℕ) → b ≡ true → m ≡ length_at s → Fitting t end name from (take (length s - m) (drop m s)) (at + n)
    unfolding and
    fitting_next m p g = record { is = step m g ∙ rw p refl }

    pub fitting_stop : b ≡ false → false ≡ fits_at (pattern_pieces t) end (codes_of (drop from name))
    fitting_stop p = sym (step _ refl ∙ and_first _ _ p)

  pub fitting_past : r ≡ Ill → Fitting t end name from s (at + 1)
  fitting_past u = record { is = w.is ∙ ap (fits_at (pattern_pieces s) end) (codes_ill name at (sym e ∙ u)) }

  over : (b : Bool) → eqb (length s) 0 ≡ b → fits_at (pattern_pieces s) end [] ≡ b
  unfolding fits_at
  over true f = ap (λ (xs : List Piece). fits_at xs end []) (pieces_none s (eqb-true (length s) 0 f))
  over false f = ap (λ (xs : List Piece). fits_at xs end []) (next_pieces s _ (eqb-false (length s) 0 f) refl)

  -- the name is at its end
  pub fitting_end : r ≡ End → eqb (length s) 0 ≡ fits_at (pattern_pieces t) end (codes_of (drop from name))
  fitting_end u = sym (w.is ∙ ap (fits_at (pattern_pieces s) end) (codes_end name at (sym e ∙ u)) ∙ over _ refl)

pub ruleset fitting_laws = (fitting_start, fitting_over, fitting_next, fitting_stop, fitting_past, fitting_end, step_laws, next_within, rules)

-- ---- any place, as far as `at`

pub record Trying (t : List ℕ) (end : Bool) (name : List ℕ) (at : ℕ) : Type 0 where
  pub is : fits_anywhere (pattern_pieces t) end (codes_of name) ≡ fits_anywhere (pattern_pieces t) end (codes_of (drop at name))

pub trying_start : (t : List ℕ) (end : Bool) (name : List ℕ) → Trying t end name 0
trying_start t end name = record { is = refl }

pub anywhere_here : (xs : List Piece) (end : Bool) (cs : List ℕ) → fits_at xs end cs ≡ true → fits_anywhere xs end cs ≡ true
unfolding fits_anywhere
anywhere_here xs end [] e = e
anywhere_here xs end (c ∷ cs) e = pick_true _ _ _ e

module _ {t : List ℕ} {end : Bool} {name : List ℕ} {at : ℕ} (w : Trying t end name at) (b : Bool) (f : b ≡ fits_at (pattern_pieces t) end (codes_of (drop at name))) where
  pub trying_found : b ≡ true → true ≡ fits_anywhere (pattern_pieces t) end (codes_of name)
  trying_found p = sym (w.is ∙ anywhere_here (pattern_pieces t) end (codes_of (drop at name)) (sym f ∙ p))

  module _ (r : Step) (e : r ≡ decode_at name at) (p : b ≡ false) where
    pub trying_next : (k n : ℕ) → r ≡ Char k n → Trying t end name (at + n)
    unfolding fits_anywhere
    trying_next k n u =
        let c = codes_char name at k n (sym e ∙ u) in
        record { is = w.is ∙ ap (fits_anywhere (pattern_pieces t) end) c ∙ pick_false _ _ _ (ap (fits_at (pattern_pieces t) end) (sym c) ∙ sym f ∙ p) }

    pub trying_past : r ≡ Ill → Trying t end name (at + 1)
    trying_past u = record { is = w.is ∙ ap (fits_anywhere (pattern_pieces t) end) (codes_ill name at (sym e ∙ u)) }

    pub trying_none : r ≡ End → false ≡ fits_anywhere (pattern_pieces t) end (codes_of name)
    unfolding fits_anywhere
    trying_none u =
        let c = codes_end name at (sym e ∙ u) in
        sym (w.is ∙ ap (fits_anywhere (pattern_pieces t) end) c ∙ ap (fits_at (pattern_pieces t) end) (sym c) ∙ sym f ∙ p)

pub ruleset trying_laws = (trying_start, trying_found, trying_next, trying_past, trying_none, step_laws, rules)

-- ---- a pattern and a name

module _ (p name x : List ℕ) (s end r : Bool) (d : end ≡ last_is dollar p) (m : x ≡ middle p) (a : s ≡ first_is caret p) where
  pub match_start : s ≡ true → r ≡ fits_at (pattern_pieces x) end (codes_of name) → r ≡ matches_of p name
  unfolding matches_of matches_in
  match_start u h = pick_yes _ _ _ _ (sym a ∙ u) (h ∙ rw (m, d))

  pub match_anywhere : s ≡ false → r ≡ fits_anywhere (pattern_pieces x) end (codes_of name) → r ≡ matches_of p name
  unfolding matches_of matches_in
  match_anywhere u h = pick_no _ _ _ _ (sym a ∙ u) (h ∙ rw (m, d))

pub ruleset match_laws = (match_start, match_anywhere, rules)
