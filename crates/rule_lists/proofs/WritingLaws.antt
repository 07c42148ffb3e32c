-- A law for each way that the functions of `writing` can go. Assumes nothing.
use mathlib.Core.Path.{◌≡◌, sym, ap, ◌∙◌}
use mathlib.Core.List.{List, [], ◌∷◌, ◌++◌, append-nil}
use Prim.Native.Nat.{ℕ, ◌+◌, ◌%◌, ◌≤◌, ◌<◌}
use native.Mathlib.Numerals.{add-one}
use native.Mathlib.Omega.{arith}
use borrow.Author.Rules.{rules}
use lib.ListN.{length, get_or, take}
use lib.Seq.{get_or-take, take-suc}
use Rattle.writing.specs.InnerContracts.{Put}
use Rattle.writing.proofs.Laws.{put_none, put_then, put_long, put_place}
use Rattle.rule_lines.specs.Rules.{Rule}
use Rattle.pack_bytes.specs.Bytes.{count_bytes}
use Rattle.held.specs.InnerContracts.{at_place, key_bytes}
use Rattle.held.proofs.Keys.{key_append}
use Rattle.rules_parser.specs.Fields.{part_of}
use Rattle.rules_parser.specs.InnerContracts.{strings_from}
use Rattle.rules_parser.specs.declared.fields.Text.{Text}
use Rattle.rules_parser.specs.declared.known.Strings.{Strings}
use Rattle.rules_parser.proofs.RuleStrings.{rule_strings}
use Rattle.rule_lists.specs.declared.tables.Spot.{Spot}
use Rattle.rule_lists.specs.Lines.{rule_in}
use Rattle.rule_lists.specs.TableContracts.{RowReads, KeptIs, keys_of, Low}
use Rattle.rule_lists.specs.WritingContracts.{rule_put, row_put, SomeKept, RowFits, row_at_put, RowsPut}
use Rattle.rule_lists.proofs.TableLaws.{rows_at, key_at_lem, kept_low}
use Rattle.pack_bytes.specs.InnerContracts.{text_put}

-- ---- a rule: its four strings one after the other
pub rule_put_lem : (s : List ℕ) (a b c d : Text) (o o₁ o₂ o₃ o₄ : List ℕ) (at p q r e : ℕ) (t u v w : List ℕ)
    → t ≡ part_of s a → Put o o₁ at p (text_put t) → u ≡ part_of s b → Put o₁ o₂ p q (text_put u) → v ≡ part_of s c → Put o₂ o₃ q r (text_put v)
    → w ≡ part_of s d → Put o₃ o₄ r e (text_put w) → Put o o₄ at e (rule_put (rule_in s a b c d))
unfolding rule_put
rule_put_lem s a b c d o o₁ o₂ o₃ o₄ at p q r e t u v w f x g y h z k l =
    put_then (rw f at x) (put_then (rw g at y) (put_then (rw h at z) (rw k at l)))

pub row_put_lem : (s : List ℕ) (place : ℕ) (t : Strings) → t ≡ strings_from s place → (o o' : List ℕ) (at e : ℕ)
    → Put o o' at e (rule_put (rule_in s t.pattern t.left t.right t.expression)) → Put o o' at e (row_put s place)
unfolding row_put
row_put_lem s place t q o o' at e w = rw q at w

-- ---- a list: rows by keys

-- what is written of a line that is a rule
reads_put : (s : List ℕ) (place : ℕ) (r : Rule) → RowReads s place r → row_put s place ≡ rule_put r
unfolding row_put
reads_put s place r w = rw (← rule_strings s place _ _ _ _ _ w.says) (ap rule_put w.is)

-- the rules of the first i keys are written
pub record Putting (bundle : List ℕ) (rows : List Spot) (keys : List ℕ) (n i : ℕ) (o₀ : List ℕ) (at₀ : ℕ) (o : List ℕ) (at : ℕ) : Type 0 where
  pub within : i ≤ n
  pub is : (rs : List Rule) → KeptIs bundle rows n rs → Put o₀ o at₀ at (key_bytes rule_put rs (take i keys))

module _ (bundle : List ℕ) (rows : List Spot) (keys : List ℕ) (n : ℕ) (few : n ≤ 4096) (sorted : take n keys ≡ keys_of rows n 0 []) (size : length keys ≡ 4096) where
  key_row : (i : ℕ) → i < n → get_or keys i 0 % 4096 < n
  key_row i h =
      let e : get_or (keys_of rows n 0 []) i 0 ≡ get_or keys i 0 = ap (λ (l : List ℕ). get_or l i 0) (sym sorted) ∙ get_or-take n keys i 0 h in
      omega (arith, key_at_lem rows n i few h)

  pub key_fits : SomeKept bundle rows n → (i : ℕ) → i < n → RowFits bundle rows (get_or keys i 0 % 4096)
  key_fits s i h =
      let k = s.some.1 in
      let w = rows_at k few _ (key_row i h) in
      record { size = k.size; order = w.spot.order; within = w.spot.within }

  module _ {o₀ : List ℕ} {at₀ : ℕ} where
    pub putting_next : (i : ℕ) (o : List ℕ) (at : ℕ) → i < n → Putting bundle rows keys n i o₀ at₀ o at → (o' : List ℕ) (e : ℕ) → Put o o' at e (row_at_put bundle rows (get_or keys i 0 % 4096))
        → Putting bundle rows keys n (i + 1) o₀ at₀ o' e
    unfolding key_bytes
    putting_next i o at h w o' e v = record {
      within = omega arith;
      is = λ rs k.
          let x = rows_at k few _ (key_row i h) in
          let y : row_at_put bundle rows (get_or keys i 0 % 4096) ≡ at_place rule_put rs (get_or keys i 0 % 4096) = reads_put _ _ _ x.spot.reads ∙ sym (x.at rule_put) in
          let z : key_bytes rule_put rs (take (i + 1) keys) ≡ key_bytes rule_put rs (take i keys) ++ row_at_put bundle rows (get_or keys i 0 % 4096) =
          ap (key_bytes rule_put rs) (ap (λ (m : ℕ). take m keys) (add-one i) ∙ take-suc keys i 0 (omega arith)) ∙ key_append rule_put rs (take i keys) (get_or keys i 0 ∷ []) ∙ ap (λ (l : List ℕ). key_bytes rule_put rs (take i keys) ++ l) (append-nil _ ∙ sym y) in
          rw z (put_then (w.is rs k) v);
    }

    pub putting_done : (o₁ : List ℕ) (at₁ : ℕ) → Put o₁ o₀ at₁ at₀ (count_bytes n) → (i : ℕ) (o : List ℕ) (at : ℕ) → n ≤ i → Putting bundle rows keys n i o₀ at₀ o at → RowsPut bundle rows n o₁ at₁ at o
    putting_done o₁ at₁ v i o at h w =
        let e : i ≡ n = omega (arith, w.within) in
        let l : take i keys ≡ keys_of rows n 0 [] = ap (λ (m : ℕ). take m keys) e ∙ sorted in
        record { is = λ rs k. rw (← l) (put_then v (w.is rs k)) }

-- behind the count
pub putting_start : (bundle : List ℕ) (rows : List Spot) (keys : List ℕ) (n : ℕ) (o o₀ : List ℕ) (at at₀ : ℕ) → Put o o₀ at at₀ (count_bytes n) → Putting bundle rows keys n 0 o₀ at₀ o₀ at₀
unfolding key_bytes
putting_start bundle rows keys n o o₀ at at₀ v =
    record { within = omega arith; is = λ rs k. put_none o₀ at₀ (omega (arith, v.room, put_long _ _ _ _ _ v)) (put_place _ _ _ _ _ v) }

-- rows of some rules can be sorted
pub some_low : (bundle : List ℕ) (rows : List Spot) (n : ℕ) → SomeKept bundle rows n → n ≤ 4096 → Low rows n
some_low bundle rows n w few = kept_low bundle rows n _ w.some.1 few

pub ruleset writing_laws = (rule_put_lem, row_put_lem, rules)

pub ruleset rows_laws = (key_fits, putting_start, putting_next, putting_done, rules)
