-- Laws of `Fields`, in the form in which `search` applies them to what the code has tested. Assumes nothing.
use mathlib.Core.Path.{◌≡◌, refl, sym, ◌∙◌}
use mathlib.Core.Bool.{Bool, true, false}
use mathlib.Core.List.{List, []}
use Rattle.std.specs.Prelude.{max, Option, Some, None}
use native.Mathlib.Decide.{dec_lt}
use Prim.Native.Nat.{ℕ, suc, ◌+◌, ◌-◌, ◌≤◌, ◌<◌}
use native.Mathlib.Numerals.{add-one}
use native.Mathlib.Nat.{add-sub_cancel_left}
use native.Mathlib.Omega.{arith}
use lib.Dec.{eqb, leb}
use lib.ListN.{length, get_or, take, drop, drop_of_length-le, length-drop}
use lib.Seq.{drop-cons, take_all, take-nil}
use borrow.Author.Tests.{lt-ltb, le-ltb, eq-eqb, ne_eqb}
use Rattle.base.specs.Pick.{pick}
use Rattle.rules_parser.specs as specs
use specs.Fields.{part_of, passes_of, span_of, span_end, pair_at, text, field, quoted_at, bare_at, field_at, parted_at, ends_at, tail_ok, Kind, Blank, NotBlank, NotQuote, FieldKind, Quoted, Plain}
use specs.InnerContracts.{gap_at}
use specs.declared.fields.Text.{Text}
use specs.declared.fields.Field.{Field}
use Rattle.base.proofs.PickLaws.{pick_true, pick_false}
use borrow.Author.Rules.{rules}

-- a test of what a call returned
pub eqb_by : (x y b : ℕ) → x ≡ y → eqb x b ≡ eqb y b
eqb_by x y b e = rw e refl

-- ---- a run of bytes of a kind, x being where it ends
span_at : (k : Kind) (s : List ℕ) (i : ℕ) → i < length s → span_end k s i ≡ i + pick (passes_of k (get_or s i 0)) (suc (span_of k (drop (i + 1) s))) 0
unfolding span_end span_of
span_at k s i h = rw (add-one, drop-cons s i 0) refl

module _ (k : Kind) (s : List ℕ) (x i : ℕ) where
  pub span_more : (t : Bool) → i < length s → t ≡ passes_of k (get_or s i 0) → t ≡ true → x ≡ span_end k s i → x ≡ span_end k s (i + 1)
  unfolding span_end
  span_more t h e p inv = inv ∙ span_at k s i h ∙ rw (← e, pick_true t (suc (span_of k (drop (i + 1) s))) 0 p) (omega arith)

  pub span_stop : (t : Bool) → i < length s → t ≡ passes_of k (get_or s i 0) → t ≡ false → x ≡ span_end k s i → i ≡ x
  span_stop t h e p inv = sym (inv ∙ span_at k s i h ∙ rw (← e, pick_false t (suc (span_of k (drop (i + 1) s))) 0 p) (omega arith))

  pub span_done : length s ≤ i → x ≡ span_end k s i → i ≡ x
  unfolding span_end span_of
  span_done h inv = sym (inv ∙ rw (drop_of_length-le s h) (omega arith))

  pub span_low : x ≡ span_end k s i → i ≤ x
  unfolding span_end
  span_low q = omega arith

-- where a search that began at p ends with nothing found
pub span_past : (k : Kind) (s : List ℕ) (p i m : ℕ) → length s ≤ i → (p ≤ length s → i ≤ length s) → span_end k s p ≡ span_end k s i → m ≡ max (length s) p → m ≡ span_end k s p
span_past k s p i m h g e w = elim (dec_lt p (length s)) [
  | yes l ↦ omega (arith, g (omega arith), span_done k s _ i h refl)
  | no l ↦ omega (arith, span_done k s _ p (omega arith) refl)
]

-- ---- a field, e or q being the end of a run
some_inv : (t : Bool) (q x : ℕ) → Some q ≡ pick t (Some x) None → (t ≡ true) × (q ≡ x)
unfolding pick
some_inv true q x e = (refl, cc)
some_inv false q x e = cc

none_inv : (t : Bool) (x : ℕ) → None ≡ pick t (Some x) None → t ≡ false
unfolding pick
none_inv true x e = cc
none_inv false x e = refl

module _ (s : List ℕ) (p : ℕ) where
  pub quoted_is : (e : ℕ) → p < length s → get_or s p 0 ≡ 34 → e ≡ span_end NotQuote s (p + 1) → e < length s
      → Some (field (text (p + 1) (e - (p + 1))) (e + 1)) ≡ field_at Quoted s p
  unfolding quoted_at field_at
  quoted_is e h b q l = sym (pick_true _ _ _ (lt-ltb _ _ h) ∙ pick_true _ _ _ (eq-eqb _ _ b) ∙ rw (← q) (pick_true _ _ _ (lt-ltb _ _ l)))

  pub quoted_open : (e : ℕ) → p < length s → get_or s p 0 ≡ 34 → e ≡ span_end NotQuote s (p + 1) → length s ≤ e → None ≡ field_at Quoted s p
  unfolding quoted_at field_at
  quoted_open e h b q l = sym (pick_true _ _ _ (lt-ltb _ _ h) ∙ pick_true _ _ _ (eq-eqb _ _ b) ∙ rw (← q) (pick_false _ _ _ (le-ltb _ _ l)))

  pub quoted_other : p < length s → (get_or s p 0 ≡ 34 → ⊥) → None ≡ field_at Quoted s p
  unfolding quoted_at field_at
  quoted_other h b = sym (pick_true _ _ _ (lt-ltb _ _ h) ∙ pick_false _ _ _ (ne_eqb _ _ b))

  pub quoted_past : length s ≤ p → None ≡ field_at Quoted s p
  unfolding quoted_at field_at
  quoted_past h = sym (pick_false _ _ _ (le-ltb _ _ h))

  pub word_is : (e : ℕ) → e ≡ span_end NotBlank s p → p < e → Some (field (text p (e - p)) e) ≡ field_at Plain s p
  unfolding bare_at field_at
  word_is e q h = rw (← q) (sym (pick_true _ _ _ (lt-ltb p e h)))

  pub word_none : (e : ℕ) → e ≡ span_end NotBlank s p → e ≤ p → None ≡ field_at Plain s p
  unfolding bare_at field_at
  word_none e q h = rw (← q) (sym (pick_false _ _ _ (le-ltb p e h)))

  pub parted_is : (k : FieldKind) (q : ℕ) (r : Option Field) → Some q ≡ gap_at s p → r ≡ field_at k s q → r ≡ parted_at k s p
  unfolding gap_at parted_at
  parted_is k q r e f = let w = some_inv _ _ _ e in f ∙ rw w.1 (sym (pick_true _ _ _ w.0))

  pub parted_none : (k : FieldKind) → None ≡ gap_at s p → None ≡ parted_at k s p
  unfolding gap_at parted_at
  parted_none k e = sym (pick_false _ _ _ (none_inv _ _ e))

  pub ends_is : (q : ℕ) → q ≡ span_end Blank s p → leb (length s) q ≡ ends_at s p
  unfolding ends_at
  ends_is q e = rw e refl

  pub tail_more : (q : ℕ) (t : Bool) → q ≡ span_end Blank s p → q < length s → t ≡ pair_at s q 47 47 → t ≡ tail_ok s p
  unfolding tail_ok
  tail_more q t e h f = f ∙ rw (← e) (sym (pick_true _ _ _ (lt-ltb q (length s) h)))

  pub tail_none : (q : ℕ) → q ≡ span_end Blank s p → length s ≤ q → true ≡ tail_ok s p
  unfolding tail_ok
  tail_none q e h = rw (← e) (sym (pick_false _ _ _ (le-ltb q (length s) h)))

pub ruleset fields = (
  quoted_is,
  quoted_open,
  quoted_other,
  quoted_past,
  word_is,
  word_none,
  parted_is,
  parted_none,
  ends_is,
  tail_more,
  tail_none,
)

-- ---- the part that a text is, as the slice is cut
module _ (s : List ℕ) (t : Text) where
  pub part_none : length s ≤ t.start → [] ≡ part_of s t
  unfolding part_of
  part_none h = rw (drop_of_length-le s h) (sym (take-nil t.len))

  pub part_rest : length s - t.start ≤ t.len → take (length s - t.start) (drop t.start s) ≡ part_of s t
  unfolding part_of
  part_rest h =
      let n = length-drop t.start s in
      let d = drop t.start s in
      take_all (length s - t.start) d (omega (arith, n)) ∙ sym (take_all t.len d (omega (arith, n)))

  pub part_is : take (t.start + t.len - t.start) (drop t.start s) ≡ part_of s t
  unfolding part_of
  part_is = rw add-sub_cancel_left refl

pub ruleset parts = (part_none, part_rest, part_is, rules)
