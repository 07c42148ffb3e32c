-- What a pattern requires of the pairs of neighbouring characters: a name that lacks some of them is not matched. Assumes nothing.
use mathlib.Core.Path.{◌≡◌, refl, sym, ap, subst, ◌∙◌}
use mathlib.Core.Bool.{Bool, true, false, false≢true}
use mathlib.Core.List.{List, [], ◌∷◌}
use mathlib.Core.Logic.{⊎_elim}
use Prim.Native.Nat.{ℕ, ◌+◌, ◌-◌}
use lib.Bits.{bit_or, and_zero_r, or_zero_l}
use lib.ListN.{length, take, drop}
use borrow.Author.Rules.{rules}
use borrow.Author.Tests.{eqb-true}
use Rattle.std.specs.Prelude.{Option, Some, None}
use Rattle.std.specs.Bool.{then_some}
use Rattle.base.specs.Pick.{pick}
use Rattle.base.proofs.Bits.{or_assoc}
use Rattle.base.proofs.PickLaws.{pick_inv, and_inv}
use Rattle.letters.specs.Utf8.{decode_at}
use Rattle.letters.specs.Reading.{codes_of}
use Rattle.letters.specs.declared.utf8.Step.{Step}
use Rattle.letters.specs.declared.utf8.Step.TheVariants.{Char, Ill, End}
use Rattle.letters.proofs.CodesLaws.{codes_char, codes_ill, codes_end}
use Rattle.letters.proofs.ReadingLaws.{step_laws}
use Rattle.texts.specs.Parts.{first_is, last_is, caret, dollar, opening}
use Rattle.texts.specs.Signatures.{has_bits}
use Rattle.texts.proofs.SignatureLaws.{Has, both, has_self, has_first, has_second}
use Rattle.lang.specs
use specs.Patterns.{Piece, exactly, box, stray, middle, box_piece, char_piece, piece_at, length_at, pattern_pieces, takes, fits_at, fits_anywhere, matches_in, matches_of}
use specs.InnerContracts.{pair_bit, pair_where, pairs_from, pairs_of, pairs_needed, pairs_required, pair_of, code_in, front_char}
use Rattle.lang.proofs
use proofs.PieceLaws.{next_laws, next_pieces, pieces_none}
use proofs.Shortcuts.{not_lacking}

-- ---- what fits has its pairs among those of the characters, of which the one before may be known

module _ (bits : ℕ) where
  where_has : (known : Bool) (real prev k : ℕ) → (known ≡ true → real ≡ prev) → Has bits (pair_bit real k) → Has bits (pair_where known prev k)
  unfolding pair_where pick
  where_has true real prev k e h = subst (λ (x : ℕ). Has bits (pair_bit x k)) (e refl) h
  where_has false real prev k e h = and_zero_r bits

  fits_pairs : (xs : List Piece) (known : Bool) (real prev : ℕ) (end : Bool) (cs : List ℕ) → (known ≡ true → real ≡ prev) → Has bits (pairs_from real cs) → fits_at xs end cs ≡ true
      → Has bits (pairs_needed known prev end xs)
  unfolding pairs_from pairs_needed fits_at takes pick
  fits_pairs [] known real prev false cs e h f = and_zero_r bits
  fits_pairs [] known real prev true [] e h f = where_has known real prev 0 e h
  fits_pairs [] known real prev true (c ∷ cs) e h f = absurd (false≢true f)
  fits_pairs (exactly k ∷ xs) known real prev end [] e h f = absurd (false≢true f)
  fits_pairs (exactly k ∷ xs) known real prev end (c ∷ cs) e h f =
      let w = and_inv _ _ f in
      let same : k ≡ c = eqb-true k c w.0 in
      both bits _ _ (where_has known real prev k e (rw same (has_first bits _ _ h))) (fits_pairs xs true c k end cs (λ _. sym same) (has_second bits (pair_bit real c) _ h) w.1)
  fits_pairs (box negated l ∷ xs) known real prev end [] e h f = absurd (false≢true f)
  fits_pairs (box negated l ∷ xs) known real prev end (c ∷ cs) e h f = fits_pairs xs false c prev end cs (λ q. absurd (false≢true q)) (has_second bits (pair_bit real c) _ h) (and_inv _ _ f).1
  fits_pairs (stray ∷ xs) known real prev end [] e h f = absurd (false≢true f)
  fits_pairs (stray ∷ xs) known real prev end (c ∷ cs) e h f = absurd (false≢true (and_inv _ _ f).0)

  anywhere_pairs : (xs : List Piece) (real prev : ℕ) (end : Bool) (cs : List ℕ) → Has bits (pairs_from real cs) → fits_anywhere xs end cs ≡ true → Has bits (pairs_needed false prev end xs)
  unfolding pairs_from fits_anywhere
  anywhere_pairs xs real prev end [] h f = fits_pairs xs false real prev end [] (λ q. absurd (false≢true q)) h f
  anywhere_pairs xs real prev end (c ∷ cs) h f =
      ⊎_elim (λ w. fits_pairs xs false real prev end (c ∷ cs) (λ q. absurd (false≢true q)) h w.0) (λ w. anywhere_pairs xs c prev end cs (has_second bits (pair_bit real c) _ h) w.1) (pick_inv _ _ _ _ f)

  match_pairs : (start : Bool) (xs : List Piece) (end : Bool) (cs : List ℕ) → Has bits (pairs_from 0 cs) → matches_in start xs end cs ≡ true → Has bits (pairs_needed start 0 end xs)
  unfolding matches_in pick
  match_pairs true xs end cs h f = fits_pairs xs true 0 0 end cs (λ _. refl) h f
  match_pairs false xs end cs h f = anywhere_pairs xs 0 0 end cs h f

-- a pattern that requires a pair which the name has not does not match it
pub pairs_lacking_not : (p name : List ℕ) → has_bits (pairs_of name) (pairs_required p) ≡ false → matches_of p name ≡ false
unfolding pairs_of pairs_required matches_of
pairs_lacking_not p name h = not_lacking _ _ _ h (match_pairs (pairs_from 0 (codes_of name)) _ _ _ (codes_of name) (has_self _))

-- ---- the loop over a name

pub record Pairing (name : List ℕ) (prev bits at : ℕ) : Type 0 where
  pub is : bit_or bits (pairs_from prev (codes_of (drop at name))) ≡ pairs_of name

pub pairing_start : (name : List ℕ) → Pairing name 0 0 0
unfolding pairs_of
pairing_start name = record { is = or_zero_l _ }

module _ {name : List ℕ} {prev bits at : ℕ} (w : Pairing name prev bits at) (r : Step) (e : r ≡ decode_at name at) where
  pub pairing_next : (k n b : ℕ) → r ≡ Char k n → b ≡ pair_bit prev k → Pairing name k (bit_or bits b) (at + n)
  unfolding pairs_from
  pairing_next k n b u f = record { is = or_assoc bits b _ ∙ ap (bit_or bits) (rw (codes_char name at k n (sym e ∙ u), f) refl) ∙ w.is }

  pub pairing_past : r ≡ Ill → Pairing name prev bits (at + 1)
  pairing_past u = record { is = ap (λ (cs : List ℕ). bit_or bits (pairs_from prev cs)) (sym (codes_ill name at (sym e ∙ u))) ∙ w.is }

  pub pairing_end : (b : ℕ) → r ≡ End → b ≡ pair_bit prev 0 → bit_or bits b ≡ pairs_of name
  unfolding pairs_from
  pairing_end b u f = ap (bit_or bits) (f ∙ sym (ap (pairs_from prev) (codes_end name at (sym e ∙ u)))) ∙ w.is

pub ruleset pairing_laws = (pairing_start, pairing_next, pairing_past, pairing_end, step_laws, rules)

-- ---- the loop over a pattern

-- what is required behind a character, where one is known
pub needed : Option ℕ → Bool → List Piece → ℕ
needed None end xs = pairs_needed false 0 end xs
needed (Some x) end xs = pairs_needed true x end xs

-- one that is not known may be any
forget : (p q : ℕ) (end : Bool) (xs : List Piece) → pairs_needed false p end xs ≡ pairs_needed false q end xs
unfolding pairs_needed pair_where pick
forget p q end [] = refl
forget p q end (exactly k ∷ xs) = refl
forget p q end (box negated l ∷ xs) = forget p q end xs
forget p q end (stray ∷ xs) = forget p q end xs

module _ (end : Bool) (xs : List Piece) where
  none_on : (prev : Option ℕ) → needed prev end (stray ∷ xs) ≡ bit_or (pair_of prev None) (needed None end xs)
  unfolding needed pairs_needed pair_of
  none_on None = sym (or_zero_l _)
  none_on (Some p) = forget p 0 end xs ∙ sym (or_zero_l _)

  char_on : (prev : Option ℕ) (r : Step) → needed prev end (char_piece r ∷ xs) ≡ bit_or (pair_of prev (code_in r)) (needed (code_in r) end xs)
  unfolding needed pairs_needed pair_where pick pair_of char_piece code_in
  char_on None (Char k n) = refl
  char_on (Some p) (Char k n) = refl
  char_on prev Ill = none_on prev
  char_on prev End = none_on prev

  front_by : (prev : Option ℕ) (l : List ℕ) (t : Bool) → first_is opening l ≡ t → needed prev end (piece_at l ∷ xs) ≡ bit_or (pair_of prev (front_char l)) (needed (front_char l) end xs)
  unfolding piece_at front_char pick needed pairs_needed box_piece
  front_by None l true e = rw e (none_on None)
  front_by (Some p) l true e = rw e (none_on (Some p))
  front_by prev l false e = rw e (char_on prev (decode_at l 0))

end_on : (p : Option ℕ) (e : Bool) → pair_of p (then_some e 0) ≡ needed p e []
unfolding needed pairs_needed pair_where pick pair_of
end_on None true = refl
end_on None false = refl
end_on (Some x) true = refl
end_on (Some x) false = refl

pub record Chaining (t : List ℕ) (start end : Bool) (prev : Option ℕ) (bits : ℕ) (s : List ℕ) : Type 0 where
  pub is : bit_or bits (needed prev end (pattern_pieces s)) ≡ pairs_needed start 0 end (pattern_pieces t)

pub chaining_start : (t : List ℕ) (start end : Bool) → Chaining t start end (then_some start 0) 0 t
unfolding needed
chaining_start t true end = record { is = or_zero_l _ }
chaining_start t false end = record { is = or_zero_l _ }

module _ {t : List ℕ} {start end : Bool} {prev : Option ℕ} {bits : ℕ} {s : List ℕ} (w : Chaining t start end prev bits s) where
  pub chaining_next : (n b : ℕ) (r : Option ℕ) → (length s ≡ 0 → ⊥) → n ≡ length_at s → r ≡ front_char s → b ≡ pair_of prev r → Chaining t start end r (bit_or bits b) (take (length s - n) (drop n s))
  chaining_next n b r h m e f = record {
    is = or_assoc bits b _
        ∙ ap (bit_or bits) (rw (f, e) (sym (ap (needed prev end) (next_pieces s n h m) ∙ front_by end _ prev s _ refl)))
        ∙ w.is;
  }

  over : length s ≡ 0 → bit_or bits (needed prev end []) ≡ pairs_needed start 0 end (pattern_pieces t)
  over h = ap (λ (xs : List Piece). bit_or bits (needed prev end xs)) (sym (pieces_none s h)) ∙ w.is

  pub chaining_end : (b : ℕ) → length s ≡ 0 → b ≡ pair_of prev (then_some end 0) → bit_or bits b ≡ pairs_needed start 0 end (pattern_pieces t)
  chaining_end b h f = ap (bit_or bits) (f ∙ end_on prev end) ∙ over h

pub required_pairs_by : (p x : List ℕ) (s e : Bool) (r : ℕ) → x ≡ middle p → s ≡ first_is caret p → e ≡ last_is dollar p → r ≡ pairs_needed s 0 e (pattern_pieces x) → r ≡ pairs_required p
unfolding pairs_required
required_pairs_by p x s e r u v w f = f ∙ rw (u, v, w) refl

pub ruleset chaining_laws = (chaining_start, chaining_next, chaining_end, next_laws, required_pairs_by, rules)
