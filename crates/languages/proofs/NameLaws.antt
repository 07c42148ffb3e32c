-- The loops of `all_letters` and `find_language`: the invariant of each, and a law for each way that a turn can go.
-- Assumes nothing.
use Rattle.strings.specs.declared.Span.{Span}
use Rattle.std.specs.Prelude.{Some, None, Option}
use mathlib.Core.Path.{◌≡◌, refl, sym, ap, ap₂, ◌∙◌}
use mathlib.Core.Bool.{Bool, true, false, ◌&&◌}
use mathlib.Core.List.{List, [], ◌∷◌}
use Prim.Native.Nat.{ℕ, suc, ◌+◌, ◌-◌, ◌*◌, ◌%◌, ◌^◌, ◌≤◌, ◌<◌, zero-le, min}
use native.Mathlib.Nat.{zero-add, sub-zero, one-mul}
use native.Mathlib.Omega.{arith}
use lib.Dec.{lit<, leb}
use lib.Pow.{shl_exact}
use lib.ListN.{length, take, drop}
use borrow.Author.Rules.{rules}
use borrow.Author.Tests.{lt-ltb, le-ltb}
use Rattle.base.specs.Pick.{and}
use Rattle.std.specs.List.{list_all}
use Rattle.std.specs.Char.{is_ascii_lowercase}
use Rattle.letters.specs.Order.{same_text}
use Rattle.languages.specs.Names.{is_letter, all_letters, name_place, bit_at, language_bit}
use Rattle.strings.specs.Reading.{strings, strings_of}
use Rattle.strings.proofs.Laws.{none_left, one_left, part_order, part_fits, walk_less}
use Rattle.base.proofs.PickLaws.{cases, pick_yes, pick_no, pick_true, pick_false}
use Rattle.strings.specs.InnerContracts.{string_at}

-- ---- all letters, as the code asks for them
and_by : (t u : Bool) → (t && u) ≡ and t u
unfolding and
and_by true u = refl
and_by false u = refl

letters_is : (s : List ℕ) → list_all is_ascii_lowercase s ≡ all_letters s
unfolding all_letters is_letter
letters_is [] = refl
letters_is (b ∷ s) = and_by (is_ascii_lowercase b) (list_all is_ascii_lowercase s) ∙ ap₂ and (and_by (leb 97 b) (leb b 122)) (letters_is s)

pub letters_by : (s : List ℕ) (r : Bool) → r ≡ list_all is_ascii_lowercase s → r ≡ all_letters s
letters_by s r e = e ∙ letters_is s

pub ruleset name_laws = (letters_by, cases)

-- ---- the bit of a place
bit_is : (k n p : ℕ) → p ≡ k → k < n → k < 32 → Some ((1 * 2 ^ k) % 2 ^ 32) ≡ bit_at p (min 32 n)
unfolding bit_at
bit_is k n p e h l = ap Some (shl_exact 1 k 32 (lit< tt) (omega arith) ∙ rw (one-mul, e)) ∙ pick_yes _ _ _ _ (lt-ltb p (min 32 n) (omega arith)) refl

no_bit : (p n : ℕ) → n ≤ p → None ≡ bit_at p n
unfolding bit_at
no_bit p n h = pick_no _ _ _ _ (le-ltb p n h) refl

-- ---- the strings before `at` are `place` many, and none is the name
abbrev left : List ℕ → ℕ → ℕ → List (List ℕ)
left s at place = strings (length s - place) (drop at s)

pub record Seen (s name : List ℕ) (at place : ℕ) : Type 0 where
  pub counted : place ≤ at
  pub placed : name_place name (strings_of s) ≡ place + name_place name (left s at place)
  pub held : length (strings_of s) ≡ place + length (left s at place)

pub seen_start : (s name : List ℕ) → Seen s name 0 0
unfolding strings_of
seen_start s name = record { counted = zero-le; placed = simp (zero-add, sub-zero); held = simp (zero-add, sub-zero) }

module _ (s : List ℕ) (at : ℕ) (part : Span) (r : Option Span) (p : r ≡ string_at s at) (q : r ≡ Some part) where
  module _ (name : List ℕ) (place : ℕ) (c : Seen s name at place) (t : Bool) (g : t ≡ same_text (take (part.end - part.start) (drop part.start s)) name) where
    one : left s at place ≡ take (part.end - part.start) (drop part.start s) ∷ left s part.end (place + 1)
    one =
        let fuel : length s - place ≡ suc (length s - (place + 1)) = omega (arith, walk_less s at part r p q) in
        ap (λ (f : ℕ). strings f (drop at s)) fuel ∙ one_left s at part r p q _

    pub seen_next : t ≡ false → Seen s name part.end (place + 1)
    unfolding name_place
    seen_next b = record {
      counted = omega (arith, walk_less s at part r p q);
      placed = c.placed ∙ ap (λ (l : List (List ℕ)). place + name_place name l) one ∙ ap (λ (n : ℕ). place + n) (pick_false _ _ _ (sym g ∙ b)) ∙ omega arith;
      held = c.held ∙ ap (λ (l : List (List ℕ)). place + length l) one ∙ omega arith;
    }

    pub seen_found : t ≡ true → place < 32 → Some ((1 * 2 ^ place) % 2 ^ 32) ≡ language_bit s name
    unfolding name_place language_bit
    seen_found b h =
        let found : name_place name (left s at place) ≡ 0 = ap (name_place name) one ∙ pick_true _ _ _ (sym g ∙ b) in
        let there : length (left s at place) ≡ suc (length (left s part.end (place + 1))) = ap length one in
        bit_is place _ _ (omega (arith, c.placed)) (omega (arith, c.held)) h

module _ (s name : List ℕ) (at place : ℕ) (c : Seen s name at place) where
  pub seen_cut : (r : Option Span) → r ≡ string_at s at → r ≡ None → None ≡ language_bit s name
  unfolding name_place language_bit
  seen_cut r p q =
      let none : left s at place ≡ [] = none_left s at r p q _ in
      let first : name_place name (left s at place) ≡ 0 = ap (name_place name) none in
      let ended : length (left s at place) ≡ 0 = ap length none in
      no_bit _ _ (omega (arith, c.placed, c.held))

  pub seen_full : 32 ≤ place → None ≡ language_bit s name
  unfolding language_bit
  seen_full h = no_bit _ _ (omega (arith, c.placed))

pub ruleset find_laws = (seen_start, part_order, part_fits, seen_next, seen_found, seen_cut, seen_full, rules)
