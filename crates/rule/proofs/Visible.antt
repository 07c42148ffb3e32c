-- The quick tests: what they say of a text, and the loop that makes them. Assumes nothing.
use mathlib.Core.Path.{◌≡◌, refl, sym, ap, ◌∙◌}
use mathlib.Core.Bool.{Bool, true, false, ◌&&◌}
use mathlib.Core.List.{List, [], ◌∷◌}
use Prim.Native.Nat.{ℕ, zero, suc, ◌+◌, ◌≤◌, ◌<◌}
use native.Mathlib.Omega.{arith}
use lib.Dec.{eqb, ltb, leb-suc-suc}
use lib.ListN.{length, get_or}
use borrow.Author.Rules.{rules}
use borrow.Author.Tests.{le-ltb, ne_eqb, ltb-false, eqb-false, leb-true}
use Rattle.std.specs.List.{list_all}
use Rattle.base.specs.Pick.{pick, and}
use Rattle.letters.specs.Utf8.{decode_at}
use Rattle.letters.specs.Reading.{Symbol, symbol, stray_byte}
use Rattle.letters.specs.declared.utf8.Step.TheVariants.{Char, Ill}
use Rattle.letters.proofs.Utf8Laws.{decode_one, char_at, ill_in_lem}
use Rattle.letters.proofs.ReadingLaws.{Pieces, end, one, bad, pieces_of}
use Rattle.texts.specs.Parts.{tail, front, place_of, has, opening}
use Rattle.rule.specs.Matching.{plain_code, plain_in, rule_text}
use Rattle.base.proofs.PickLaws.{pick_true, and_inv, pick_past}
use Rattle.rule.specs.InnerContracts.{visible, all_visible, visible_literal}
use Rattle.base.proofs.Arms.{clash}

-- ---- the code asks whether all are visible

and_by : (t u : Bool) → (t && u) ≡ and t u
unfolding and
and_by true u = refl
and_by false u = refl

visible_is : (but : ℕ) (s : List ℕ) → list_all (visible but) s ≡ all_visible but s
unfolding all_visible
visible_is but [] = refl
visible_is but (b ∷ s) = ap (λ (t : Bool). visible but b && t) (visible_is but s) ∙ and_by (visible but b) (all_visible but s)

pub literal_by : (s : List ℕ) (t : Bool) → t ≡ list_all (visible opening) s → t ≡ visible_literal s
unfolding visible_literal
literal_by s t e = e ∙ visible_is opening s

-- ---- what a byte that passes is

record Seen (but b : ℕ) : Type 0 where
  low : 0x23 ≤ b
  high : b ≤ 0x7E
  other : b ≡ but → ⊥

seen : (but b : ℕ) → visible but b ≡ true → Seen but b
unfolding visible
seen but b e =
    let u = pick_past (ltb b 0x23) _ e in
    let v = pick_past (eqb b but) _ u.1 in
    record { low = ltb-false b 0x23 u.0; high = leb-true b 0x7E v.1; other = eqb-false b but v.0 }

seen_at : (but : ℕ) (s : List ℕ) → all_visible but s ≡ true → (i : ℕ) → i < length s → Seen but (get_or s i 0)
unfolding all_visible
seen_at but [] e i h = absurd (omega arith)
seen_at but (x ∷ s) e zero h = seen but x (and_inv _ _ e).0
seen_at but (x ∷ s) e (suc i) h = seen_at but s (and_inv _ _ e).1 i (omega arith)

-- ---- such a text is a rule text

plain_seen : (but b : ℕ) → Seen but b → plain_code b ≡ true
unfolding plain_code pick
plain_seen but b w =
    let l : 0x20 ≤ b = omega (arith, w.low) in
    let q : b ≡ 0x22 → ⊥ = λ e. omega (arith, w.low) in
    let d : b ≡ 0x7F → ⊥ = λ e. omega (arith, w.high) in
    rw (le-ltb b 0x20 l, ne_eqb b 0x22 q, ne_eqb b 0x7F d) refl

module _ (but : ℕ) (s : List ℕ) (v : all_visible but s ≡ true) where
  one_at : (p : ℕ) → p < length s → Char (get_or s p 0) 1 ≡ decode_at s p
  one_at p h = let w = seen_at but s v p h in decode_one s p h (omega (arith, w.high))

  plain_pieces : (p : ℕ) (l : List Symbol) → Pieces s p l → plain_in l ≡ true
  unfolding plain_in
  plain_pieces p [] (end e) = refl
  plain_pieces p (symbol q k ∷ l) (one {n = n} e r) =
      let i : p < length s = (char_at s p k n e).start in
      let is : Char (get_or s p 0) 1 ≡ Char k n = one_at p i ∙ e in
      let same : get_or s p 0 ≡ k = cc in
      pick_true _ _ _ (ap plain_code (sym same) ∙ plain_seen but (get_or s p 0) (seen_at but s v p i)) ∙ plain_pieces (p + n) l r
  plain_pieces p (stray_byte q b ∷ l) (bad e r) = let is : Char (get_or s p 0) 1 ≡ Ill = one_at p (ill_in_lem s p e) ∙ e in clash (cc)

  visible_text : rule_text s ≡ true
  unfolding rule_text
  visible_text = plain_pieces 0 _ (pieces_of s)

pub text_by_lem : (s : List ℕ) (but : ℕ) (t : Bool) → t ≡ list_all (visible but) s → t ≡ true → t ≡ rule_text s
text_by_lem s but t e p = p ∙ sym (visible_text but s (sym (visible_is but s) ∙ sym e ∙ p))

pub literal_text : (s : List ℕ) → visible_literal s ≡ true → rule_text s ≡ true
unfolding visible_literal
literal_text s e = visible_text opening s e

pub ruleset literal_laws = (literal_by, text_by_lem, rules)

-- ---- it has no `[`, and neither has a part of it

pub data Clear : List ℕ → Type 0 where
  none : Clear []
  more : {x : ℕ} {l : List ℕ} → (x ≡ opening → ⊥) → Clear l → Clear (x ∷ l)

clear_by : (s : List ℕ) → all_visible opening s ≡ true → Clear s
unfolding all_visible
clear_by [] e = none
clear_by (x ∷ s) e = let w = and_inv _ _ e in more (seen opening x w.0).other (clear_by s w.1)

pub literal_clear : (s : List ℕ) → visible_literal s ≡ true → Clear s
unfolding visible_literal
literal_clear s e = clear_by s e

pub clear_has : {l : List ℕ} → Clear l → has opening l ≡ false
unfolding has place_of pick
clear_has none = refl
clear_has (more {x = x} {l = l} n c) = rw (ne_eqb x opening n) (leb-suc-suc (suc (place_of opening l)) (length l) ∙ clear_has c)

pub clear_tail : {l : List ℕ} → Clear l → Clear (tail l)
unfolding tail
clear_tail none = none
clear_tail (more n c) = c

pub clear_front : {l : List ℕ} → Clear l → Clear (front l)
unfolding front
clear_front none = none
clear_front (more n none) = none
clear_front (more n (more m c)) = more n (clear_front (more m c))
