-- What the crate above uses of a file's items, without the definitions. Assumes nothing.
use mathlib.Core.Path.{◌≡◌, refl, sym, ap, subst, ◌∙◌}
use mathlib.Core.Bool.{Bool, true}
use mathlib.Core.List.{List, [], ◌∷◌}
use Prim.Native.Nat.{ℕ, zero, suc, ◌+◌, ◌-◌, ◌≤◌, ◌<◌}
use native.Mathlib.Omega.{arith}
use lib.ListN.{length}
use borrow.Author.Tests.{lt-ltb, le-ltb, ltb-true}
use Rattle.languages.specs.Names.{language_name}
use Rattle.rule.specs.Matching.{rule_text}
use Rattle.rules_parser.specs as specs
use specs.Fields.{part_of}
use specs.Files.{item_at, on_next, items_from, items_of}
use Rattle.rules_parser.proofs as own
use own.Ahead.{Ahead, item_ahead}
use own.Sound.{Good, told_good}
use specs.Grammar.{said_of}
use specs.declared.fields.Text.{Text}
use specs.declared.lines.FileKind.{FileKind}
use specs.declared.lines.FileKind.TheVariants.{Languages, Guesses, Rules}
use specs.declared.lines.Clause.{Clause}
use specs.declared.lines.Clause.TheVariants.{Rule, Guess, Name}
use specs.declared.files.Item.{Item}
use specs.declared.files.Item.TheVariants.{Passed, Tells, Wrong}
use Rattle.base.proofs.PickLaws.{pick_true, pick_false, pick_cong}
use specs.InnerContracts.{items_at}

-- ---- an item goes on, within the file

module _ (k : FileKind) (s : List ℕ) (p l n : ℕ) (e : item_at k s p ≡ Passed l n) where
  passed : (p < n) × (n ≤ length s) × (1 ≤ l) × (p + l ≤ n)
  unfolding Ahead
  passed = subst (Ahead s p) e (item_ahead k s p)

  pub passed_goes : p < n
  passed_goes = passed.0

  pub passed_in : n ≤ length s
  passed_in = passed.1

  pub passed_some : 1 ≤ l
  passed_some = passed.2

  pub passed_lines : l ≤ n - p
  passed_lines = omega (arith, passed.3)

module _ (k : FileKind) (s : List ℕ) (p : ℕ) (t : Clause) (n : ℕ) (e : item_at k s p ≡ Tells t n) where
  tells : (p < n) × (n ≤ length s)
  unfolding Ahead
  tells = subst (Ahead s p) e (item_ahead k s p)

  pub tells_goes : p < n
  tells_goes = tells.0

  pub tells_in : n ≤ length s
  tells_in = tells.1

pub ruleset going = (passed_goes, passed_in, passed_some, passed_lines, tells_goes, tells_in)

-- ---- a file is read item by item

past_end : (f : ℕ) (k : FileKind) (s : List ℕ) (p : ℕ) → length s ≤ p → items_from f k s p ≡ []
unfolding items_from
past_end zero k s p h = refl
past_end (suc f) k s p h = pick_false _ _ _ (le-ltb p (length s) h)

-- any fuel of what is left gives the same
same_items : (f g : ℕ) (k : FileKind) (s : List ℕ) (p : ℕ) → length s - p ≤ f → length s - p ≤ g → items_from f k s p ≡ items_from g k s p
unfolding items_from Ahead on_next
same_items zero g k s p h i = sym (past_end g k s p (omega arith))
same_items (suc f) zero k s p h i = past_end (suc f) k s p (omega arith)
same_items (suc f) (suc g) k s p h i =
    pick_cong _ _ _ _ _ (λ e. on (ltb-true _ _ e) (item_at k s p) (item_ahead k s p) (λ m. same_items f g k s m)) (λ e. refl)
  where
    on : p < length s → (x : Item) → Ahead s p x → ((m : ℕ) → length s - m ≤ f → length s - m ≤ g → items_from f k s m ≡ items_from g k s m)
        → on_next x (items_from f k s) ≡ on_next x (items_from g k s)
    on l (Passed n m) w ih = ap (λ (r : List Item). Passed n m ∷ r) (ih m (omega (arith, w.0)) (omega (arith, w.0)))
    on l (Tells t m) w ih = ap (λ (r : List Item). Tells t m ∷ r) (ih m (omega (arith, w.0)) (omega (arith, w.0)))
    on l Wrong w ih = refl

pub items_start : (k : FileKind) (s : List ℕ) → items_at k s 0 ≡ items_of k s
unfolding items_of
items_start k s = same_items _ _ k s 0 (omega arith) (omega arith)

pub items_end : (k : FileKind) (s : List ℕ) (p : ℕ) → length s ≤ p → items_at k s p ≡ []
items_end k s p h = past_end _ k s p h

items_here : (k : FileKind) (s : List ℕ) (p : ℕ) → p < length s → items_at k s p ≡ on_next (item_at k s p) (items_from (length s - p) k s)
unfolding items_from
items_here k s p h = same_items (length s - p) (suc (length s - p)) k s p (omega arith) (omega arith) ∙ pick_true _ _ _ (lt-ltb p (length s) h)

pub items_passed : (k : FileKind) (s : List ℕ) (p l n : ℕ) → item_at k s p ≡ Passed l n → items_at k s p ≡ Passed l n ∷ items_at k s n
unfolding on_next
items_passed k s p l n e =
    let a = passed_goes k s p l n e in
    let b = passed_in k s p l n e in
    items_here k s p (omega arith) ∙ rw e (ap (λ (r : List Item). Passed l n ∷ r) (same_items _ _ k s n (omega arith) (omega arith)))

pub items_tells : (k : FileKind) (s : List ℕ) (p : ℕ) (t : Clause) (n : ℕ) → item_at k s p ≡ Tells t n → items_at k s p ≡ Tells t n ∷ items_at k s n
unfolding on_next
items_tells k s p t n e =
    let a = tells_goes k s p t n e in
    let b = tells_in k s p t n e in
    items_here k s p (omega arith) ∙ rw e (ap (λ (r : List Item). Tells t n ∷ r) (same_items _ _ k s n (omega arith) (omega arith)))

pub items_wrong : (k : FileKind) (s : List ℕ) (p : ℕ) → p < length s → item_at k s p ≡ Wrong → items_at k s p ≡ Wrong ∷ []
unfolding on_next
items_wrong k s p h e = items_here k s p h ∙ rw e refl

pub ruleset reading = (items_start, items_end, items_passed, items_tells, items_wrong)

-- ---- what a told line guarantees

good : (k : FileKind) (s : List ℕ) (p : ℕ) (t : Clause) (n : ℕ) → item_at k s p ≡ Tells t n → Good (said_of s t)
good k s p t n e = told_good k s p t n (omega (arith, tells_goes k s p t n e, tells_in k s p t n e)) e

module _ (s : List ℕ) (p : ℕ) (a b c d : Text) (n : ℕ) (e : item_at Rules s p ≡ Tells (Rule a b c d) n) where
  texts : (rule_text (part_of s a) ≡ true) × (rule_text (part_of s b) ≡ true) × (rule_text (part_of s c) ≡ true) × (rule_text (part_of s d) ≡ true)
  unfolding Good said_of
  texts = good Rules s p (Rule a b c d) n e

  pub rule_pattern : rule_text (part_of s a) ≡ true
  rule_pattern = texts.0

  pub rule_left : rule_text (part_of s b) ≡ true
  rule_left = texts.1

  pub rule_right : rule_text (part_of s c) ≡ true
  rule_right = texts.2

  pub rule_expression : rule_text (part_of s d) ≡ true
  rule_expression = texts.3

pub guess_pattern : (s : List ℕ) (p : ℕ) (a b : Text) (v : Bool) (n : ℕ) → item_at Guesses s p ≡ Tells (Guess a b v) n → rule_text (part_of s a) ≡ true
unfolding Good said_of
guess_pattern s p a b v n e = good Guesses s p (Guess a b v) n e

pub name_language : (s : List ℕ) (p : ℕ) (t : Text) (n : ℕ) → item_at Languages s p ≡ Tells (Name t) n → language_name (part_of s t) ≡ true
unfolding Good said_of
name_language s p t n e = good Languages s p (Name t) n e
