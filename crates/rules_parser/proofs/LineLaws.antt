-- Laws of `Lines`, as `search` applies them. Assumes nothing.
use mathlib.Core.Path.{◌≡◌, refl, sym, ap, ◌∙◌}
use mathlib.Core.Bool.{Bool, true, false}
use mathlib.Core.List.{List}
use Prim.Native.Nat.{ℕ, ◌+◌, ◌-◌, ◌≤◌, ◌<◌}
use native.Mathlib.Nat.{le_of_eq}
use lib.ListN.{length, take, drop, length-drop}
use lib.Seq.{take_all}
use borrow.Author.Tests.{le-leb, lt-leb}
use Rattle.base.specs.Pick.{pick}
use Rattle.letters.specs.Order.{same_text}
use Rattle.texts.specs.Parts.{prefix_of}
use Rattle.languages.specs.Names.{language_name}
use Rattle.rule.specs.Matching.{rule_text}
use Rattle.rules_parser.specs as specs
use specs.Fields.{part_of, span_end, pair_at, Blank as blanks}
use specs.Lines.{on_field, text_at, four_at, include_word, include_at, rule_at, true_word, false_word, guess_told, accept_told, guess_at, name_told, name_at, told_at, line_at}
use specs.declared.fields.Text.{Text}
use specs.declared.fields.Field.{Field}
use Rattle.std.specs.Prelude.{Option, Some, None, option_map}
use specs.declared.lines.FileKind.{FileKind}
use specs.declared.lines.FileKind.TheVariants.{Languages, Guesses, Rules}
use specs.declared.lines.Clause.{Clause}
use specs.declared.lines.Clause.TheVariants.{Name}
use specs.declared.lines.Line.TheVariants.{Blank, Comment, Opens, Tells}
use Rattle.base.proofs.PickLaws.{pick_true, pick_false}

-- ---- tests of a text, x being the part that it is and t what a call said of it
module _ (s x : List ℕ) (c : Text) (e : x ≡ part_of s c) (t : Bool) where
  pub text_is : t ≡ rule_text x → t ≡ text_at s c
  unfolding text_at
  text_is f = f ∙ rw e refl

  pub name_is : t ≡ language_name x → t ≡ true → Some (Name c) ≡ name_told s c
  unfolding name_told
  name_is f g = sym (pick_true _ _ _ (rw (← e) (sym f ∙ g)))

  pub name_not : t ≡ language_name x → t ≡ false → None ≡ name_told s c
  unfolding name_told
  name_not f g = sym (pick_false _ _ _ (rw (← e) (sym f ∙ g)))

  module _ (a b : Text) where
    pub accept_true : (l : Option Clause) → t ≡ same_text x true_word → t ≡ true → l ≡ guess_told s a b true → l ≡ accept_told s a b c
    unfolding accept_told
    accept_true l f g h = h ∙ sym (pick_true _ _ _ (rw (← e) (sym f ∙ g)))

    module _ (f : t ≡ same_text x true_word) (g : t ≡ false) (x' : List ℕ) (e' : x' ≡ part_of s c) (t' : Bool) (f' : t' ≡ same_text x' false_word) where
      not_true : accept_told s a b c ≡ pick (same_text (part_of s c) false_word) (guess_told s a b false) None
      unfolding accept_told
      not_true = pick_false _ _ _ (rw (← e) (sym f ∙ g))

      pub accept_false : (l : Option Clause) → t' ≡ true → l ≡ guess_told s a b false → l ≡ accept_told s a b c
      accept_false l g' h = h ∙ sym (not_true ∙ pick_true _ _ _ (rw (← e') (sym f' ∙ g')))

      pub accept_none : t' ≡ false → None ≡ accept_told s a b c
      accept_none g' = sym (not_true ∙ pick_false _ _ _ (rw (← e') (sym f' ∙ g')))

pub ruleset texts = (text_is, name_is, name_not, accept_true, accept_false, accept_none)

-- ---- one field after the other. x is what stands there, r what a call gave, l the line
pub on_is : (x r : Option Field) (f : Field) (k : Text → ℕ → Option Clause) (l : Option Clause) → r ≡ x → r ≡ Some f → l ≡ k f.text f.next → l ≡ on_field x k
unfolding on_field
on_is x r f k l e h g = g ∙ rw (← e, h) refl

pub on_none : (x r : Option Field) (k : Text → ℕ → Option Clause) (l : Option Clause) → r ≡ x → r ≡ None → l ≡ None → l ≡ on_field x k
unfolding on_field
on_none x r k l e h g = g ∙ rw (← e, h) refl

pub ruleset in_order = (on_is, on_none)

-- ---- a rule or an include; the slice from p on is cut to its own length
pub rule_past : (s : List ℕ) (p : ℕ) → length s ≤ p → None ≡ rule_at s p
unfolding rule_at
rule_past s p h = sym (pick_true _ _ _ (le-leb _ _ h))

module _ (s : List ℕ) (p : ℕ) (h : p < length s) (t : Bool) (e : t ≡ prefix_of include_word (take (length s - p) (drop p s))) (l : Option Clause) where
  begins : t ≡ prefix_of include_word (drop p s)
  begins = e ∙ ap (prefix_of include_word) (take_all _ _ (le_of_eq (length-drop p s)))

  pub rule_include : t ≡ true → l ≡ include_at s (p + 8) → l ≡ rule_at s p
  unfolding rule_at
  rule_include f g = g ∙ sym (pick_false _ _ _ (lt-leb _ _ h) ∙ pick_true _ _ _ (sym begins ∙ f))

  pub rule_four : t ≡ false → l ≡ four_at s p → l ≡ rule_at s p
  unfolding rule_at
  rule_four f g = g ∙ sym (pick_false _ _ _ (lt-leb _ _ h) ∙ pick_false _ _ _ (sym begins ∙ f))

pub ruleset rule_steps = (rule_past, rule_include, rule_four)

-- ---- any line
module _ (k : FileKind) (s : List ℕ) (p : ℕ) (l : Option Clause) where
  pub told_name : k ≡ Languages → l ≡ name_at s p → l ≡ told_at k s p
  unfolding told_at
  told_name e f = f ∙ rw e refl

  pub told_guess : k ≡ Guesses → l ≡ guess_at s p → l ≡ told_at k s p
  unfolding told_at
  told_guess e f = f ∙ rw e refl

  pub told_rule : k ≡ Rules → l ≡ rule_at s p → l ≡ told_at k s p
  unfolding told_at
  told_rule e f = f ∙ rw e refl

-- q being the first place that is no blank
module _ (k : FileKind) (s : List ℕ) (p q : ℕ) (e : q ≡ span_end blanks s p) where
  pub line_blank : length s ≤ q → Some Blank ≡ line_at k s p
  unfolding line_at
  line_blank h = rw (← e) (sym (pick_true _ _ _ (le-leb _ _ h)))

  pub line_comment : (t : Bool) → q < length s → t ≡ pair_at s q 47 47 → t ≡ true → Some Comment ≡ line_at k s p
  unfolding line_at
  line_comment t h f g = rw (← e) (sym (pick_false _ _ _ (lt-leb _ _ h) ∙ pick_true _ _ _ (sym f ∙ g)))

  pub line_opens : (t u : Bool) → q < length s → t ≡ pair_at s q 47 47 → t ≡ false → u ≡ pair_at s q 47 42 → u ≡ true → Some Opens ≡ line_at k s p
  unfolding line_at
  line_opens t u h f g i j = rw (← e) (sym (pick_false _ _ _ (lt-leb _ _ h) ∙ pick_false _ _ _ (sym f ∙ g) ∙ pick_true _ _ _ (sym i ∙ j)))

  module _ (t u : Bool) (h : q < length s) (f : t ≡ pair_at s q 47 47) (g : t ≡ false) (i : u ≡ pair_at s q 47 42) (j : u ≡ false) where
    line_told : line_at k s p ≡ option_map Tells (told_at k s q)
    unfolding line_at
    line_told = rw (← e) (pick_false _ _ _ (lt-leb _ _ h) ∙ pick_false _ _ _ (sym f ∙ g) ∙ pick_false _ _ _ (sym i ∙ j))

    pub line_tells : (c : Clause) → Some c ≡ told_at k s q → Some (Tells c) ≡ line_at k s p
    line_tells c z = sym (line_told ∙ rw (← z) refl)

    pub line_wrong : None ≡ told_at k s q → None ≡ line_at k s p
    line_wrong z = sym (line_told ∙ rw (← z) refl)

pub ruleset any_line = (told_name, told_guess, told_rule, line_blank, line_comment, line_opens, line_tells, line_wrong)
