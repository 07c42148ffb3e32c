-- Laws of the faults of a rule, as `search` applies them. Assumes nothing.
use Rattle.phonemes.specs.declared.answers.ExpressionFault.TheVariants.{Malformed, UnlistedName}
use Rattle.phonemes.specs.declared.answers.ExpressionFault.{ExpressionFault}
use Rattle.std.specs.Prelude.{Option, Some, None, Result, Ok, Err}
use mathlib.Core.Path.{◌≡◌, refl, sym, ap, ◌∙◌}
use mathlib.Core.Bool.{Bool, true, false, not}
use mathlib.Core.List.{List}
use Prim.Native.Nat.{ℕ, zero, suc, ◌≤◌, ◌<◌}
use native.Mathlib.Omega.{arith}
use lib.Dec.{eqb, ltb}
use lib.ListN.{length}
use mathlib.Core.Logic.{⊎_elim}
use borrow.Author.Tests.{eq-eqb, ltb-false}
use Rattle.base.specs.Pick.{pick, and}
use Rattle.base.proofs.PickLaws.{pick_true, pick_false, pick_all, and_yes, and_second, and_inv, and_assoc, pick_inv}
use Rattle.refusals.specs.declared.Refusal.{Refusal}
use Rattle.refusals.specs.declared.Refusal.TheVariants.{PatternEmpty, TooMuch, BoxEmpty}
use Rattle.regex_optim.specs.Contexts.{Form, left_form, right_form, kind_of, empty_box}
use Rattle.regex_optim.specs.InnerContracts.{literal_kind}
use Rattle.regex_optim.specs.declared.OptimizedRegex.{OptimizedRegex}
use Rattle.regex_optim.specs.declared.OptimizedRegex.TheVariants.{AllStringsMatcher, IsEmpty, Equals, StartsWith, EndsWith}
use Rattle.regex_optim.proofs.Laws.{kind_by_literal, literal_not_empty, left_is, right_is}
use Rattle.regex_optim.proofs.NumberLaws.{form_one}
use Rattle.base.proofs.Arms.{clash}
use Rattle.rule.specs.InnerContracts.{visible_literal}
use Rattle.rule.specs.Matching.{rule_text}
use Rattle.rule.proofs.Visible.{Clear, literal_text, literal_clear, clear_has, clear_tail, clear_front}
use Rattle.texts.specs.Parts.{opening, without_caret, without_dollar, first_is, last_is, has}
use Rattle.phonemes.specs.Expressions.{round, unround, checked_of}
use Rattle.phonemes.proofs.Visible.{clear_good, clear_malformed}
use Rattle.phonemes.proofs.NumberLaws.{expression_one}
use Rattle.rule_lines.specs.Rules.{Rule, length_fault, context_fault, box_fault, contexts_fault, expression_fault, fault_else, rule_fault, rule_texts, faultless, rule_good}
use Rattle.rule_lines.specs.InnerContracts.{form_good, left_good, right_good, expression_good, strings_good}
use borrow.Author.Rules.{rules}

-- ---- each fault by what was answered for it

pub or_first : (a a' b : Option Refusal) (w : Refusal) → a ≡ a' → a ≡ Some w → Some w ≡ fault_else a' b
unfolding fault_else
or_first a a' b w e h = ap (λ (x : Option Refusal). fault_else x b) (sym h ∙ e)

pub or_next : (a a' b x : Option Refusal) → a ≡ a' → a ≡ None → x ≡ b → x ≡ fault_else a' b
unfolding fault_else
or_next a a' b x e z h = h ∙ ap (λ (y : Option Refusal). fault_else y b) (sym z ∙ e)

pub context_by : (x : Option Refusal) (f g : Option OptimizedRegex) → x ≡ context_fault f → f ≡ g → x ≡ context_fault g
context_by x f g e h = e ∙ ap context_fault h

pub expression_by : (x : Option Refusal) (f g : Result ℕ ExpressionFault) → x ≡ expression_fault f → f ≡ g → x ≡ expression_fault g
expression_by x f g e h = e ∙ ap expression_fault h

pub ruleset fault_laws = (form_one, expression_one, or_first, or_next, context_by, expression_by, rules)

-- ---- a visible literal: without `[` a context is a literal, which is always in the forms

Formed : Option OptimizedRegex → Type 0
Formed x = faultless (context_fault x) ≡ true

literal_left : (n : ℕ) (s : Bool) → Formed (literal_kind n s true)
unfolding Formed literal_kind context_fault faultless pick
literal_left n true = pick_all Formed (eqb n 0) (Some IsEmpty) (Some Equals) refl refl
literal_left n false = pick_all Formed (eqb n 0) (Some AllStringsMatcher) (Some EndsWith) refl refl

literal_right : (n : ℕ) (e : Bool) → Formed (literal_kind n true e)
unfolding Formed literal_kind context_fault faultless pick
literal_right n true = pick_all Formed (eqb n 0) (Some IsEmpty) (Some Equals) refl refl
literal_right n false = pick_all Formed (eqb n 0) (Some AllStringsMatcher) (Some StartsWith) refl refl

formed : Option OptimizedRegex → Bool
formed x = faultless (context_fault x)

module _ (c : List ℕ) (t : Bool) (p : t ≡ visible_literal c) (q : t ≡ true) where
  clear : Clear c
  clear = literal_clear c (sym p ∙ q)

  text : rule_text c ≡ true
  text = literal_text c (sym p ∙ q)

  pub left_literal : true ≡ left_good c
  unfolding left_good form_good Formed formed without_caret
  left_literal =
      let none : has opening (without_caret c) ≡ false = clear_has (pick_all Clear _ _ _ (clear_tail clear) clear) in
      let fits = ap (λ (x : Form). not (empty_box x)) (left_is c) ∙ ap not (literal_not_empty _ _ _ none) in
      let in_forms_lem = ap (λ (x : Form). formed (kind_of x)) (left_is c) ∙ ap formed (sym (kind_by_literal _ _ _ _ (sym none) _ refl refl)) ∙ literal_left _ _ in
      sym (and_yes _ _ text (and_yes _ _ fits in_forms_lem))

  pub right_literal : true ≡ right_good c
  unfolding right_good form_good Formed formed without_dollar
  right_literal =
      let none : has opening (without_dollar c) ≡ false = clear_has (pick_all Clear _ _ _ (clear_front clear) clear) in
      let fits = ap (λ (x : Form). not (empty_box x)) (right_is c) ∙ ap not (literal_not_empty _ _ _ none) in
      let in_forms_lem = ap (λ (x : Form). formed (kind_of x)) (right_is c) ∙ ap formed (sym (kind_by_literal _ _ _ _ (sym none) _ refl refl)) ∙ literal_right _ _ in
      sym (and_yes _ _ text (and_yes _ _ fits in_forms_lem))

  -- of an expression only the round brackets matter
  literal_good : (names : List ℕ) (b : Bool) → pick (first_is round c) (last_is unround c) true ≡ b → b ≡ expression_good names c
  unfolding expression_good expression_fault faultless
  literal_good names true e = sym (and_yes _ _ text (ap (λ (x : Result ℕ ExpressionFault). faultless (expression_fault x)) (clear_good names c clear e)))
  literal_good names false e = sym (and_second _ _ text (ap (λ (x : Result ℕ ExpressionFault). faultless (expression_fault x)) (clear_malformed names c clear e)))

  module _ (names : List ℕ) (f : Bool) (g : f ≡ first_is round c) where
    pub literal_round : (u : Bool) → f ≡ true → u ≡ last_is unround c → u ≡ expression_good names c
    literal_round u v h = literal_good names u (pick_true _ _ _ (sym g ∙ v) ∙ sym h)

    pub literal_plain : f ≡ false → true ≡ expression_good names c
    literal_plain v = literal_good names true (pick_false _ _ _ (sym g ∙ v))

-- ---- any other

module _ (c : List ℕ) (t : Bool) (p : t ≡ rule_text c) (q : t ≡ true) (b : Bool) (k : Option OptimizedRegex) (u : Bool) (f : u ≡ and (not b) (faultless (context_fault k))) where
  pub left_judged : b ≡ empty_box (left_form c) → k ≡ kind_of (left_form c) → u ≡ left_good c
  unfolding left_good form_good and
  left_judged d e = f ∙ rw (d, e, sym p ∙ q) refl

  pub right_judged : b ≡ empty_box (right_form c) → k ≡ kind_of (right_form c) → u ≡ right_good c
  unfolding right_good form_good and
  right_judged d e = f ∙ rw (d, e, sym p ∙ q) refl

pub ruleset context_laws = (left_literal, right_literal, left_judged, right_judged, form_one, rules)

pub expression_judged : (c : List ℕ) (t : Bool) → t ≡ rule_text c → t ≡ true → (f : Option Refusal) (u : Bool) → u ≡ faultless f → (names : List ℕ) (k : Result ℕ ExpressionFault) → f ≡ expression_fault k → k ≡ checked_of names c → u ≡ expression_good names c
unfolding expression_good and
expression_judged c t p q f u is names k g e = is ∙ ap faultless (g ∙ ap expression_fault e) ∙ sym (rw (sym p ∙ q) refl)

pub ruleset string_laws = (form_one, expression_one, left_literal, right_literal, literal_round, literal_plain, expression_judged, rules)

-- ---- the whole rule: without a fault where no part has one

faultless_else : (a b : Option Refusal) → faultless (fault_else a b) ≡ and (faultless a) (faultless b)
unfolding faultless fault_else and
faultless_else None b = refl
faultless_else (Some w) b = refl

and_false : (a : Bool) → and a false ≡ false
unfolding and
and_false true = refl
and_false false = refl

by_string : (a n b f c g d h : Bool) → and (and a (and b (and c d))) (and n (and f (and g h))) ≡ and n (and a (and (and b f) (and (and c g) (and d h))))
unfolding and
by_string false true b f c g d h = refl
by_string false false b f c g d h = refl
by_string true false b f c g d h = and_false (and b (and c d))
by_string true true false f c g d h = refl
by_string true true true false c g d h = and_false (and c d)
by_string true true true true false g d h = refl
by_string true true true true true false d h = and_false d
by_string true true true true true true false h = refl
by_string true true true true true true true h = refl

-- the lengths of a rule's strings
abbrev pub lengths_fault : Rule → Option Refusal
lengths_fault r = length_fault (length r.pattern) (length r.left) (length r.right) (length r.expression)

-- a context's faults stand one behind the other
by_side : (a b : Bool) (x y : Bool) → and a (and b (faultless (pick x (Some BoxEmpty) (pick y (Some BoxEmpty) None)))) ≡ and (and (not x) a) (and (not y) b)
unfolding and pick faultless
by_side a false true y = and_false a
by_side a true true y = and_false a
by_side a false false true = refl
by_side a true false true = refl
by_side a false false false = refl
by_side a true false false = refl

contexts_good : (f g : Form) → faultless (contexts_fault f g) ≡ and (form_good f) (form_good g)
unfolding contexts_fault box_fault form_good
contexts_good f g = faultless_else _ _ ∙ ap (and _) (faultless_else _ _) ∙ by_side _ _ _ _

faultless_is : (names : List ℕ) (r : Rule)
    → faultless (rule_fault names r)
    ≡ and (faultless (lengths_fault r)) (and (form_good (left_form r.left)) (and (form_good (right_form r.right)) (faultless (expression_fault (checked_of names r.expression)))))
unfolding rule_fault
faultless_is names r =
    faultless_else _ _ ∙ ap (and _) (faultless_else _ _ ∙ ap (λ (b : Bool). and b (faultless (expression_fault (checked_of names r.expression)))) (contexts_good _ _) ∙ and_assoc _ _ _)

pub good_is : (names : List ℕ) (r : Rule) → rule_good names r ≡ and (faultless (lengths_fault r)) (strings_good names r)
unfolding rule_good rule_texts strings_good left_good right_good expression_good
good_is names r = ap (and _) (faultless_is names r) ∙ by_string _ _ _ _ _ _ _ _

-- ---- what a good rule keeps to, and a rule that does

pub record Texts (r : Rule) : Type 0 where
  pub pattern : rule_text r.pattern ≡ true
  pub left : rule_text r.left ≡ true
  pub right : rule_text r.right ≡ true
  pub expression : rule_text r.expression ≡ true

pub texts_good : (names : List ℕ) (r : Rule) → Texts r → rule_fault names r ≡ None → rule_good names r ≡ true
unfolding rule_good rule_texts faultless
texts_good names r t e = and_yes _ _ (and_yes _ _ t.pattern (and_yes _ _ t.left (and_yes _ _ t.right t.expression))) (ap faultless e)

without : (f : Option Refusal) → faultless f ≡ true → f ≡ None
unfolding faultless
without None e = refl
without (Some w) e = clash (cc)

else_inv : (a b : Option Refusal) → fault_else a b ≡ None → (a ≡ None) × (b ≡ None)
unfolding fault_else
else_inv None b e = (refl, e)
else_inv (Some w) b e = clash (cc)

-- no fault of the lengths: none over 255
some_length : (p : ℕ) (x : Option Refusal) → pick (eqb p 0) (Some PatternEmpty) x ≡ None → x ≡ None
some_length p x e = ⊎_elim (λ w. clash (cc w.1)) (λ w. w.1) (pick_inv (eqb p 0) (Some PatternEmpty) x None e)

short_length : (p : ℕ) (x : Option Refusal) → pick (ltb 255 p) (Some TooMuch) x ≡ None → (p ≤ 255) × (x ≡ None)
short_length p x e = ⊎_elim (λ w. clash (cc w.1)) (λ w. (ltb-false 255 p w.0, w.1)) (pick_inv (ltb 255 p) (Some TooMuch) x None e)

pub record Short (r : Rule) : Type 0 where
  pub pattern : length r.pattern ≤ 255
  pub left : length r.left ≤ 255
  pub right : length r.right ≤ 255
  pub expression : length r.expression ≤ 255

lengths_short : (r : Rule) → lengths_fault r ≡ None → Short r
unfolding length_fault
lengths_short r h =
    let a = short_length (length r.pattern) _ (some_length (length r.pattern) _ h) in
    let b = short_length (length r.left) _ a.1 in
    let c = short_length (length r.right) _ b.1 in
    record { pattern = a.0; left = b.0; right = c.0; expression = (short_length (length r.expression) None c.1).0 }

some_pattern : (p l r e : ℕ) → length_fault p l r e ≡ None → 0 < p
unfolding length_fault
some_pattern zero l r e h = let z = sym (pick_true _ (Some PatternEmpty) _ (eq-eqb 0 0 refl)) ∙ h in clash (cc)
some_pattern (suc p) l r e h = omega arith

has_alternatives : (x : Result ℕ ExpressionFault) → expression_fault x ≡ None → (n : ℕ) × (x ≡ Ok n)
unfolding expression_fault
has_alternatives (Ok n) e = (n, refl)
has_alternatives (Err Malformed) e = clash (cc)
has_alternatives (Err UnlistedName) e = clash (cc)

module _ (names : List ℕ) (r : Rule) (g : rule_good names r ≡ true) where
  pub good_texts : Texts r
  unfolding rule_good rule_texts
  good_texts =
      let a = and_inv _ _ (and_inv _ _ g).0 in
      let b = and_inv _ _ a.1 in
      let c = and_inv _ _ b.1 in
      record { pattern = a.0; left = b.0; right = c.0; expression = c.1 }

  no_fault : rule_fault names r ≡ None
  unfolding rule_good
  no_fault = without _ (and_inv _ _ g).1

  pub good_pattern : 0 < length r.pattern
  unfolding rule_fault
  good_pattern = some_pattern _ _ _ _ (else_inv _ _ no_fault).0

  pub good_short : Short r
  unfolding rule_fault
  good_short = lengths_short r (else_inv _ _ no_fault).0

  pub good_expression : (n : ℕ) × (checked_of names r.expression ≡ Ok n)
  unfolding rule_fault
  good_expression = has_alternatives _ (else_inv _ _ (else_inv _ _ no_fault).1).1

  -- each context is in the forms, and no empty box
  pub good_contexts : (form_good (left_form r.left) ≡ true) × (form_good (right_form r.right) ≡ true)
  unfolding rule_fault faultless
  good_contexts = and_inv _ _ (sym (contexts_good _ _) ∙ ap faultless (else_inv _ _ (else_inv _ _ no_fault).1).0)
