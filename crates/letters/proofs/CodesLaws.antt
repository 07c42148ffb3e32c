-- The code points of the rest of a slice, step by step: what walks over characters in the crates above use. Assumes nothing.
use mathlib.Core.Path.{◌≡◌, refl, sym, ap, ◌∙◌}
use mathlib.Core.List.{List, [], ◌∷◌}
use Prim.Native.Nat.{ℕ, zero, suc, ◌+◌}
use native.Mathlib.Omega.{arith}
use lib.ListN.{length, get_or, drop, length-drop}
use lib.Seq.{get_or-drop}
use borrow.Author.Tests.{lt-ltb, le-ltb}
use native.Mathlib.Decide.{dec_lt}
use Rattle.letters.specs.Utf8.{decode_at, decode_bytes}
use Rattle.letters.specs.Reading.{Symbol, symbol, stray_byte, symbols_on, symbols_from, symbols_of, codes_in, codes_of}
use Rattle.letters.specs.declared.utf8.Step.{Step}
use Rattle.letters.specs.declared.utf8.Step.TheVariants.{Char, Ill, End}
use Rattle.letters.proofs.ReadingLaws.{Pieces, end, one, bad, pieces_from_lem, char_left, ill_left, end_left}
use Rattle.base.proofs.PickLaws.{pick_true, pick_false}

-- what stands at q of the rest from p on stands at p + q of the whole
pub decode_drop : (s : List ℕ) (p q : ℕ) → decode_at (drop p s) q ≡ decode_at s (p + q)
unfolding decode_at
decode_drop s p q =
    let b : (i : ℕ) → get_or (drop p s) (q + i) 0 ≡ get_or s (p + q + i) 0 = λ i. get_or-drop p s (q + i) 0 ∙ ap (λ (m : ℕ). get_or s m 0) (omega arith) in
    let same : decode_bytes (get_or (drop p s) q 0) (get_or (drop p s) (q + 1) 0) (get_or (drop p s) (q + 2) 0) (get_or (drop p s) (q + 3) 0)
    ≡ decode_bytes (get_or s (p + q) 0) (get_or s (p + q + 1) 0) (get_or s (p + q + 2) 0) (get_or s (p + q + 3) 0) = rw (get_or-drop p s q 0, b 1, b 2, b 3) refl in
    elim (dec_lt (p + q) (length s)) [
      | yes h ↦ pick_true _ _ _ (lt-ltb q (length (drop p s)) (rw length-drop (omega arith))) ∙ same ∙ sym (pick_true _ _ _ (lt-ltb (p + q) (length s) h))
      | no n ↦ pick_false _ _ _ (le-ltb q (length (drop p s)) (rw length-drop (omega arith))) ∙ sym (pick_false _ _ _ (le-ltb (p + q) (length s) (omega arith)))
    ]

-- the code points from a place on do not depend on what stands before it
shift_on : (x : Step) (s t : List ℕ) (p q : ℕ) (f g : ℕ → List Symbol) → ((n : ℕ) → codes_in (f (q + n)) ≡ codes_in (g (p + q + n))) → codes_in (symbols_on x t q f) ≡ codes_in (symbols_on x s (p + q) g)
unfolding symbols_on codes_in
shift_on (Char k n) s t p q f g h = ap (λ (l : List ℕ). k ∷ l) (h n)
shift_on Ill s t p q f g h = h 1
shift_on End s t p q f g h = refl

shift : (f : ℕ) (s : List ℕ) (p q : ℕ) → codes_in (symbols_from f (drop p s) q) ≡ codes_in (symbols_from f s (p + q))
unfolding symbols_from
shift zero s p q = refl
shift (suc f) s p q =
    ap (λ (x : Step). codes_in (symbols_on x (drop p s) q (symbols_from f (drop p s)))) (decode_drop s p q)
    ∙ shift_on (decode_at s (p + q)) s (drop p s) p q (symbols_from f (drop p s)) (symbols_from f s) (λ n. shift f s p (q + n) ∙ ap (λ (m : ℕ). codes_in (symbols_from f s m)) (omega arith))

-- what stands from p on is one list
unique : {s : List ℕ} {p : ℕ} {l m : List Symbol} → Pieces s p l → Pieces s p m → l ≡ m
unique r (end e) = end_left r e
unique r (one {p = p} {k = k} e q) = let w = char_left r e in w.1 ∙ ap (λ (t : List Symbol). symbol p k ∷ t) (unique w.2 q)
unique {s} r (bad {p = p} e q) = let w = ill_left r e in w.1 ∙ ap (λ (t : List Symbol). stray_byte p (get_or s p 0) ∷ t) (unique w.2 q)

-- the code points from p on, by any trace
pub codes_by : {s : List ℕ} {p : ℕ} {l : List Symbol} → Pieces s p l → codes_of (drop p s) ≡ codes_in l
unfolding codes_of symbols_of
codes_by {s} {p} r =
    shift (length (drop p s)) s p 0
    ∙ ap (λ (m : ℕ). codes_in (symbols_from (length (drop p s)) s m)) (omega arith)
    ∙ ap codes_in (unique (pieces_from_lem (length (drop p s)) s p (omega (arith, length-drop p s))) r)

module _ (s : List ℕ) (p : ℕ) where
  here : Pieces s p (symbols_from (length s) s p)
  here = pieces_from_lem (length s) s p (omega arith)

  pub codes_char : (k n : ℕ) → decode_at s p ≡ Char k n → codes_of (drop p s) ≡ k ∷ codes_of (drop (p + n) s)
  unfolding codes_in
  codes_char k n e = let w = char_left here e in codes_by here ∙ ap codes_in w.1 ∙ ap (λ (l : List ℕ). k ∷ l) (sym (codes_by w.2))

  pub codes_ill : decode_at s p ≡ Ill → codes_of (drop p s) ≡ codes_of (drop (p + 1) s)
  unfolding codes_in
  codes_ill e = let w = ill_left here e in codes_by here ∙ ap codes_in w.1 ∙ sym (codes_by w.2)

  pub codes_end : decode_at s p ≡ End → codes_of (drop p s) ≡ []
  unfolding codes_in
  codes_end e = codes_by here ∙ ap codes_in (end_left here e)
