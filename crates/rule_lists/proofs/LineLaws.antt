-- Laws of the lines, as `search` applies them. Assumes nothing.
use mathlib.Core.Path.{◌≡◌, refl, sym, ap, ap₂, ◌∙◌}
use mathlib.Core.List.{List}
use Prim.Native.Nat.{ℕ}
use borrow.Author.Rules.{rules}
use Rattle.refusals.specs.declared.Refusal.{Refusal}
use Rattle.rule_lines.specs.Rules.{rule, rule_fault}
use Rattle.rule.specs.Matching.{first_code}
use Rattle.rules_parser.specs.Fields.{part_of}
use Rattle.rules_parser.proofs.NumberLaws.{item_one}
use Rattle.rules_parser.specs.Files.{item_at}
use Rattle.rules_parser.specs.declared.fields.Text.{Text}
use Rattle.rules_parser.specs.declared.lines.FileKind.TheVariants.{Rules}
use Rattle.rules_parser.specs.declared.lines.Clause.{Clause}
use Rattle.rules_parser.specs.declared.files.Item.{Item}
use Rattle.rules_parser.specs.declared.files.Item.TheVariants as item
use Rattle.std.specs.Prelude.{Result, Ok, Err, Option, Some, None}
use Rattle.rule_lists.specs.declared.lines.Row.{Row}
use Rattle.rule_lists.specs.declared.lines.Row.TheVariants as row
use Rattle.rule_lists.specs.InnerContracts.{row_by, row_told, row_in, row_at}

-- ---- the rule of four texts

module _ (names s p l r e : List ℕ) (a b c d : Text) (n : ℕ) (fault : Option Refusal)
    (is : fault ≡ rule_fault names (rule p l r e)) (ep : p ≡ part_of s a) (el : l ≡ part_of s b) (er : r ≡ part_of s c) (ee : e ≡ part_of s d) where
  by : fault ≡ rule_fault names (rule (part_of s a) (part_of s b) (part_of s c) (part_of s d))
  by = is ∙ rw (ep, el, er, ee) refl

  row_by_lem : (x : Option Refusal) → fault ≡ x → row_by x (first_code p) n ≡ row_told names s a b c d n
  unfolding row_told
  row_by_lem x z = ap₂ (λ (y : Option Refusal) (k : ℕ). row_by y k n) (sym z ∙ by) (ap first_code ep)

  pub row_rule : (k : ℕ) → fault ≡ None → k ≡ first_code p → Ok (row.Rule k n) ≡ row_told names s a b c d n
  unfolding row_by
  row_rule k z h = ap (λ (x : ℕ). Ok (row.Rule x n)) h ∙ row_by_lem None z

  pub row_fault : (w : Refusal) → fault ≡ Some w → Err w ≡ row_told names s a b c d n
  unfolding row_by
  row_fault w z = row_by_lem (Some w) z

-- ---- a line

module _ (names s : List ℕ) (p : ℕ) (i : Item) (is : i ≡ item_at Rules s p) (r : Result Row Refusal) where
  pub row_item : (j : Item) → i ≡ j → r ≡ row_in names s j → r ≡ row_at names s p
  unfolding row_at
  row_item j h e = e ∙ ap (row_in names s) (sym h ∙ is)

  pub row_told_lem : (t : Clause) (n : ℕ) → i ≡ item.Tells t n → (u : Clause) → t ≡ u → r ≡ row_in names s (item.Tells u n) → r ≡ row_at names s p
  row_told_lem t n h u g e = row_item _ (h ∙ ap (λ (x : Clause). item.Tells x n) g) e

pub ruleset row_laws = (item_one, row_rule, row_fault, row_item, row_told_lem, rules)
