-- Whether a character stands in a text, as far as place p. Assumes nothing.
use mathlib.Core.Path.{◌≡◌, refl, sym, ap, ◌∙◌}
use mathlib.Core.Bool.{Bool, true, false, ◌||◌}
use mathlib.Core.List.{List, [], ◌∷◌, ◌++◌}
use Prim.Native.Nat.{ℕ, zero, suc, ◌+◌, ◌-◌, ◌<◌}
use native.Mathlib.Decide.{dec_lt}
use native.Mathlib.Numerals.{add-one}
use native.Mathlib.Omega.{arith}
use lib.Dec.{eqb, ltb, leb-suc-suc, leb-zero}
use lib.ListN.{length, get_or, drop, drop_of_length-le}
use lib.Seq.{drop-cons}
use borrow.Author.Rules.{rules}
use Rattle.std.specs.List.{list_any}
use borrow.Author.Tests.{eq-eqb, ne_eqb}
use Rattle.base.specs.Pick.{pick}
use Rattle.base.proofs.Arms.{clash}
use Rattle.base.proofs.PickLaws.{pick_true, pick_false}
use Rattle.letters.specs.Utf8.{decode_at, encode}
use Rattle.letters.specs.Reading.{codes_of}
use Rattle.letters.specs.declared.utf8.Step.{Step}
use Rattle.letters.specs.declared.utf8.Step.TheVariants.{Char, Ill, End}
use Rattle.letters.proofs.Utf8Laws.{encode_one, encode_two, encode_three, encode_four, decode_one, char_at, char_drop, ill_in_lem, end_at}
use Rattle.letters.proofs.ReadingLaws.{step_laws}
use Rattle.letters.proofs.CodesLaws.{codes_char, codes_ill, codes_end}
use Rattle.texts.specs.Parts.{place_of, has}

step_by : (t : Bool) (n m : ℕ) → ltb (pick t 0 (suc n)) (suc m) ≡ pick t true (ltb n m)
unfolding pick
step_by true n m = leb-suc-suc 0 m ∙ leb-zero m
step_by false n m = leb-suc-suc (suc n) m

pub has_cons : (k x : ℕ) (l : List ℕ) → has k (x ∷ l) ≡ pick (eqb x k) true (has k l)
unfolding has place_of
has_cons k x l = step_by (eqb x k) (place_of k l) (length l)

pub has_nil : (k : ℕ) → has k [] ≡ false
unfolding has place_of
has_nil k = refl

pub or_is : (t u : Bool) → (t || u) ≡ pick t true u
unfolding pick
or_is true u = refl
or_is false u = refl

has_any : (k : ℕ) (l : List ℕ) → list_any (λ x. eqb x k) l ≡ has k l
has_any k [] = sym (has_nil k)
has_any k (x ∷ l) = or_is (eqb x k) _ ∙ ap (pick (eqb x k) true) (has_any k l) ∙ sym (has_cons k x l)

-- as `contains` tells it
pub has_by : (k : ℕ) (l : List ℕ) (r : Bool) → r ≡ list_any (λ x. eqb x k) l → r ≡ has k l
has_by k l r e = e ∙ has_any k l

-- ---- a character of one byte

has_over : (k x : ℕ) (l : List ℕ) → (x ≡ k → ⊥) → has k (x ∷ l) ≡ has k l
has_over k x l h = has_cons k x l ∙ pick_false _ _ _ (ne_eqb x k h)

module _ (k : ℕ) (small : k < 0x80) where
  -- the bytes of another one are all above it
  encode_has : (c : ℕ) (rest : List ℕ) → has k (encode c ++ rest) ≡ pick (eqb c k) true (has k rest)
  encode_has c rest = elim (dec_lt c 0x80) [
    | yes h ↦ ap (λ (l : List ℕ). has k (l ++ rest)) (encode_one c h) ∙ has_cons k c rest
    | no h ↦ elim (dec_lt c 0x800) [
      | yes g ↦ ap (λ (l : List ℕ). has k (l ++ rest)) (encode_two c (omega arith) g) ∙ has_over k _ _ (λ q. omega arith) ∙ has_over k _ _ (λ q. omega arith)
          ∙ sym (pick_false _ _ _ (ne_eqb c k (λ q. omega arith)))
      | no g ↦ elim (dec_lt c 0x10000) [
        | yes f ↦ ap (λ (l : List ℕ). has k (l ++ rest)) (encode_three c (omega arith) f) ∙ has_over k _ _ (λ q. omega arith) ∙ has_over k _ _ (λ q. omega arith)
            ∙ has_over k _ _ (λ q. omega arith) ∙ sym (pick_false _ _ _ (ne_eqb c k (λ q. omega arith)))
        | no f ↦ ap (λ (l : List ℕ). has k (l ++ rest)) (encode_four c (omega arith)) ∙ has_over k _ _ (λ q. omega arith) ∙ has_over k _ _ (λ q. omega arith)
            ∙ has_over k _ _ (λ q. omega arith) ∙ has_over k _ _ (λ q. omega arith) ∙ sym (pick_false _ _ _ (ne_eqb c k (λ q. omega arith)))
      ]
    ]
  ]

  module _ (s : List ℕ) where
    byte_by : (p : ℕ) (r : Step) → decode_at s p ≡ r → ((q : ℕ) → length s - q < length s - p → has k (codes_of (drop q s)) ≡ has k (drop q s)) → has k (codes_of (drop p s)) ≡ has k (drop p s)
    byte_by p (Char c n) e on =
        ap (has k) (codes_char s p c n e) ∙ has_cons k c (codes_of (drop (p + n) s))
        ∙ ap (pick (eqb c k) true) (on (p + n) (let w = char_at s p c n e in omega arith))
        ∙ sym (ap (has k) (char_drop s p c n e) ∙ encode_has c (drop (p + n) s))
    byte_by p Ill e on =
        let here = ill_in_lem s p e in
        let wide : get_or s p 0 ≡ k → ⊥ = λ q. (let o = decode_one s p here (omega arith) ∙ e in clash (cc)) in
        ap (has k) (codes_ill s p e) ∙ on (p + 1) (omega arith)
        ∙ sym (ap (has k) (drop-cons s p 0 here) ∙ has_over k _ _ wide ∙ ap (λ (m : ℕ). has k (drop m s)) (sym (add-one p)))
    byte_by p End e on = ap (has k) (codes_end s p e) ∙ sym (ap (has k) (drop_of_length-le s (end_at s p e)))

    byte_from : (f p : ℕ) → length s - p < f → has k (codes_of (drop p s)) ≡ has k (drop p s)
    byte_from zero p h = absurd (omega arith)
    byte_from (suc f) p h = byte_by p (decode_at s p) refl (λ q l. byte_from f q (omega arith))

    pub has_byte : (b n : ℕ) → b ≡ k → n ≡ place_of b s → ltb n (length s) ≡ has k (codes_of s)
    unfolding has
    has_byte b n e q = rw (q, e) (sym (byte_from (suc (length s)) 0 (omega arith)))

    -- the same as `contains` tells it
    pub byte_contained : (r : Bool) → r ≡ list_any (λ x. eqb x k) s → r ≡ has k (codes_of s)
    unfolding has
    byte_contained r e = e ∙ has_any k s ∙ has_byte k (place_of k s) refl refl

-- ---- the characters of a box, as far as place p

pub record Seeking (k : ℕ) (l : List ℕ) (p : ℕ) : Type 0 where
  pub is : has k (codes_of l) ≡ has k (codes_of (drop p l))

pub seeking_start : (k : ℕ) (l : List ℕ) → Seeking k l 0
seeking_start k l = record { is = refl }

module _ {k : ℕ} {l : List ℕ} {p : ℕ} (w : Seeking k l p) (r : Step) (e : r ≡ decode_at l p) where
  first : (c n : ℕ) → r ≡ Char c n → has k (codes_of l) ≡ pick (eqb c k) true (has k (codes_of (drop (p + n) l)))
  first c n q = w.is ∙ ap (has k) (codes_char l p c n (sym e ∙ q)) ∙ has_cons k c (codes_of (drop (p + n) l))

  pub seeking_next : (c n : ℕ) → r ≡ Char c n → (c ≡ k → ⊥) → Seeking k l (p + n)
  seeking_next c n q h = record { is = first c n q ∙ pick_false _ _ _ (ne_eqb c k h) }

  pub seeking_found : (c n : ℕ) → r ≡ Char c n → c ≡ k → true ≡ has k (codes_of l)
  seeking_found c n q h = sym (first c n q ∙ pick_true _ _ _ (eq-eqb c k h))

  pub seeking_past : r ≡ Ill → Seeking k l (p + 1)
  seeking_past q = record { is = w.is ∙ ap (has k) (codes_ill l p (sym e ∙ q)) }

  pub seeking_none : r ≡ End → false ≡ has k (codes_of l)
  seeking_none q = sym (w.is ∙ ap (has k) (codes_end l p (sym e ∙ q)) ∙ has_nil k)

pub ruleset seeking_laws = (seeking_start, seeking_next, seeking_found, seeking_past, seeking_none, step_laws, rules)
