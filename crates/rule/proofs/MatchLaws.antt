-- A law for each way out of the code of matching.rt. Assumes nothing.
use mathlib.Core.Path.{◌≡◌, refl, sym, ◌∙◌}
use mathlib.Core.Bool.{Bool, true, false}
use mathlib.Core.List.{List}
use Prim.Native.Nat.{ℕ, ◌+◌}
use native.Mathlib.Omega.{arith}
use lib.Dec.{eqb}
use lib.ListN.{length}
use lib.Seq.{drop-drop}
use borrow.Author.Rules.{rules}
use borrow.Author.Tests.{lt-ltb, le-ltb, eq-eqb, ne_eqb}
use Rattle.letters.specs.Utf8.{decode_at}
use Rattle.letters.specs.declared.utf8.Step.{Step}
use Rattle.letters.specs.declared.utf8.Step.TheVariants.{Char, Ill, End}
use Rattle.letters.proofs.ReadingLaws.{Walk, walk_start, walk_on, walk_stop, walk_ill, walk_end, step_laws}
use Rattle.letters.proofs.Utf8Laws.{ill_in_lem, end_at}
use Rattle.texts.proofs.Laws.{prefix_within}
use Rattle.rule.specs.Matching.{plain_code, plain_in, rule_text}
use Rattle.base.proofs.Stores.{rest_is}
use Rattle.base.proofs.PickLaws.{pick_true, pick_false}

-- ---- the characters of a rule's string, as far as place p

module _ {s : List ℕ} {p : ℕ} (w : Walk Bool plain_in s p) (r : Step) (e : r ≡ decode_at s p) where
  pub plain_on : (k n : ℕ) (t : Bool) → r ≡ Char k n → t ≡ plain_code k → t ≡ true → Walk Bool plain_in s (p + n)
  unfolding plain_in
  plain_on k n t q i h = walk_on w k n (sym e ∙ q) (λ m. pick_true _ _ _ (sym i ∙ h))

  pub plain_stop : (k n : ℕ) (t : Bool) → r ≡ Char k n → t ≡ plain_code k → t ≡ false → false ≡ rule_text s
  unfolding plain_in rule_text
  plain_stop k n t q i h = sym (walk_stop w k n false (sym e ∙ q) (λ m. pick_false _ _ _ (sym i ∙ h)))

  plain_past : (x : Step) → decode_at s p ≡ x → ((k n : ℕ) → x ≡ Char k n → ⊥) → eqb p (length s) ≡ rule_text s
  unfolding plain_in rule_text
  plain_past (Char k n) q h = absurd (h k n refl)
  plain_past Ill q h = let i = ill_in_lem s p q in ne_eqb p (length s) (λ z. omega arith) ∙ sym (walk_ill w false q (λ m. refl))
  plain_past End q h = let i = end_at s p q in eq-eqb p (length s) (omega (arith, w.within)) ∙ sym (walk_end w q)

  -- no character is left: all of the text was read where the place is its end
  pub plain_done : ((k n : ℕ) → r ≡ Char k n → ⊥) → eqb p (length s) ≡ rule_text s
  plain_done h = plain_past r (sym e) h

pub ruleset plain_laws = (walk_start, plain_on, plain_stop, plain_done, step_laws, rules)

-- ---- a rule at a place of a text

pub ruleset match_laws = (lt-ltb, le-ltb, drop-drop, rest_is, prefix_within, rules)
