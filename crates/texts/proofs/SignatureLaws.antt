-- A text's signature has the bits of its bytes, and so of the bytes of each of its characters. Assumes nothing.
use mathlib.Core.Path.{◌≡◌, refl, sym, ap, ap₂, subst, ◌∙◌}
use mathlib.Core.Bool.{true, false≢true}
use mathlib.Core.List.{List, [], ◌∷◌}
use mathlib.Core.Logic.{⊎_elim}
use Prim.Native.Nat.{ℕ, zero, suc, ◌+◌, ◌-◌, ◌*◌, ◌%◌, ◌^◌, ◌≤◌, ◌<◌}
use native.Mathlib.Nat.{one-mul}
use native.Mathlib.Numerals.{add-one}
use native.Mathlib.Omega.{arith}
use lib.Bits.{bit_and, bit_or, and_comm, and_mask, or_zero_l, or_zero_r}
use lib.Dec.{eqb, lit<}
use lib.ListN.{length, get_or, drop, drop_of_length-le}
use lib.Pow.{shl_exact}
use lib.Seq.{drop-cons, get_or-take, get_or-drop}
use borrow.Author.Rules.{rules}
use borrow.Author.Tests.{eq-eqb, eqb-true}
use Rattle.base.proofs.Bits.{bit, bits_ext, and_bit, or_bit, and_assoc, or_assoc, and_or, and_over_or}
use Rattle.base.proofs.PickLaws.{pick_inv}
use Rattle.letters.specs.Utf8.{decode_at, encode}
use Rattle.letters.specs.Reading.{codes_of}
use Rattle.letters.specs.declared.utf8.Step.{Step}
use Rattle.letters.specs.declared.utf8.Step.TheVariants.{Char, Ill, End}
use Rattle.letters.proofs.Utf8Laws.{char_at, char_length_lem, ill_in_lem}
use Rattle.letters.proofs.CodesLaws.{codes_char, codes_ill, codes_end}
use Rattle.texts.specs.Parts.{has}
use Rattle.texts.specs.Signatures.{bit_of, signature_of, has_bits}
use Rattle.texts.proofs.Chars.{has_cons, has_nil}

-- ---- the signature

-- bits has each bit of n
abbrev pub Has : ℕ → ℕ → Type 0
Has bits n = bit_and bits n ≡ n

pub has_yes : (bits n : ℕ) → Has bits n → has_bits bits n ≡ true
unfolding has_bits
has_yes bits n h = eq-eqb _ _ h

pub bit_of_lem : (b : ℕ) → (1 * 2 ^ (b % 64)) % 2 ^ 64 ≡ bit_of b
bit_of_lem b = shl_exact 1 (b % 64) 64 (lit< tt) (omega arith) ∙ one-mul (2 ^ (b % 64))

pub record Signing (name : List ℕ) (i bits : ℕ) : Type 0 where
  pub is : bit_or bits (signature_of (drop i name)) ≡ signature_of name

pub signing_start : (name : List ℕ) → Signing name 0 0
signing_start name = record { is = or_zero_l (signature_of name) }

pub signing_next : {name : List ℕ} {i bits b : ℕ} → Signing name i bits → i < length name → b ≡ bit_of (get_or name i 0) → Signing name (i + 1) (bit_or bits b)
unfolding signature_of
signing_next {name} {i} {bits} w h e =
    let here : drop i name ≡ get_or name i 0 ∷ drop (i + 1) name = rw add-one (drop-cons name i 0 h) in
    record {
      is = ap (λ (x : ℕ). bit_or (bit_or bits x) (signature_of (drop (i + 1) name))) e ∙ or_assoc bits _ _
          ∙ ap (λ (l : List ℕ). bit_or bits (signature_of l)) (sym here) ∙ w.is;
    }

pub signing_end : {name : List ℕ} {i bits : ℕ} → Signing name i bits → length name ≤ i → bits ≡ signature_of name
unfolding signature_of
signing_end {name} {i} {bits} w h = sym (or_zero_r bits) ∙ ap (λ (l : List ℕ). bit_or bits (signature_of l)) (sym (drop_of_length-le name h)) ∙ w.is

pub ruleset signing_laws = (bit_of_lem, signing_start, signing_next, signing_end, rules)

-- ---- the bytes of a text have their bits

-- all 64 bits have each
pub all_has : (b : ℕ) → Has (2 ^ 64 - 1) (bit_of b)
all_has b = and_comm (2 ^ 64 - 1) (bit_of b) ∙ and_mask (bit_of b) 64 ∙ sym (ap (λ (x : ℕ). x % 2 ^ 64) (one-mul (bit_of b))) ∙ bit_of_lem b

own : (a m : ℕ) → Has (bit_or a m) a
own a m = and_comm (bit_or a m) a ∙ and_or a m

others : (a m n : ℕ) → Has m n → Has (bit_or a m) n
others a m n h = bits_ext _ _ (λ k. simp (and_bit, or_bit) (omega (arith, sym (and_bit m n k) ∙ ap (λ (x : ℕ). bit x k) h)))

pub has_self : (n : ℕ) → Has n n
has_self n = bits_ext _ _ (λ k. simp (and_bit) (omega arith))

part : (bits m n : ℕ) → Has bits m → Has m n → Has bits n
part bits m n h g = ap (bit_and bits) (sym g) ∙ sym (and_assoc bits m n) ∙ ap (λ (x : ℕ). bit_and x n) h ∙ g

pub both : (bits a b : ℕ) → Has bits a → Has bits b → Has bits (bit_or a b)
both bits a b h g = and_over_or bits a b ∙ ap₂ bit_or h g

-- what has both has each
pub has_first : (bits a b : ℕ) → Has bits (bit_or a b) → Has bits a
has_first bits a b h = part bits (bit_or a b) a h (own a b)

pub has_second : (bits a b : ℕ) → Has bits (bit_or a b) → Has bits b
has_second bits a b h = part bits (bit_or a b) b h (others a b b (has_self b))

-- each of l has its bit
unfoldable pub In : ℕ → List ℕ → Type 0
In bits l = (i : ℕ) → i < length l → Has bits (bit_of (get_or l i 0))

pub signature_in : (l : List ℕ) → In (signature_of l) l
unfolding In signature_of
signature_in [] i h = absurd (omega arith)
signature_in (x ∷ l) zero h = own (bit_of x) (signature_of l)
signature_in (x ∷ l) (suc i) h = others (bit_of x) (signature_of l) (bit_of (get_or l i 0)) (signature_in l i (omega arith))

-- so have those of each of its characters
pub data Covers (bits : ℕ) : List ℕ → Type 0 where
  none : Covers bits []
  more : {c : ℕ} {cs : List ℕ} → In bits (encode c) → Covers bits cs → Covers bits (c ∷ cs)

-- the bytes of a character are those of its encoding
pub char_byte : (s : List ℕ) (p k n i : ℕ) → decode_at s p ≡ Char k n → i < n → get_or (encode k) i 0 ≡ get_or s (p + i) 0
char_byte s p k n i e h = ap (λ (l : List ℕ). get_or l i 0) (char_at s p k n e).bytes ∙ get_or-take n (drop p s) i 0 h ∙ get_or-drop p s i 0

char_in : (bits : ℕ) (s : List ℕ) → In bits s → (p k n : ℕ) → decode_at s p ≡ Char k n → In bits (encode k)
unfolding In
char_in bits s a p k n e i h =
    let w = char_at s p k n e in
    let size : length (encode k) ≡ n = char_length_lem s p k n e in
    subst (λ (b : ℕ). Has bits (bit_of b)) (sym (char_byte s p k n i e (omega arith))) (a (p + i) (omega arith))

module _ (bits : ℕ) (s : List ℕ) (a : In bits s) where
  covers_by : (p : ℕ) (r : Step) → decode_at s p ≡ r → ((q : ℕ) → length s - q < length s - p → Covers bits (codes_of (drop q s))) → Covers bits (codes_of (drop p s))
  covers_by p (Char k n) e on = rw (codes_char s p k n e) (more (char_in bits s a p k n e) (on (p + n) (let w = char_at s p k n e in omega arith)))
  covers_by p Ill e on = rw (codes_ill s p e) (on (p + 1) (omega (arith, ill_in_lem s p e)))
  covers_by p End e on = rw (codes_end s p e) none

  covers_from : (f p : ℕ) → length s - p < f → Covers bits (codes_of (drop p s))
  covers_from zero p h = absurd (omega arith)
  covers_from (suc f) p h = covers_by p (decode_at s p) refl (λ q l. covers_from f q (omega arith))

pub signature_covers : (s : List ℕ) → Covers (signature_of s) (codes_of s)
signature_covers s = covers_from (signature_of s) s (signature_in s) (suc (length s)) 0 (omega arith)

pub covered : (bits k : ℕ) {cs : List ℕ} → has k cs ≡ true → Covers bits cs → In bits (encode k)
covered bits k h none = absurd (false≢true (sym (has_nil k) ∙ h))
covered bits k h (more {c} {cs} a w) =
    ⊎_elim (λ v. subst (λ (x : ℕ). In bits (encode x)) (eqb-true c k v.0) a) (λ v. covered bits k v.1 w) (pick_inv (eqb c k) true (has k cs) true (sym (has_cons k c cs) ∙ h))
