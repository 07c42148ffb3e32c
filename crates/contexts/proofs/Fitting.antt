-- What request 11 refuses matched nowhere, and what is accepted fits some text. Assumes nothing.
use Rattle.phonemes.specs.declared.answers.ExpressionFault.TheVariants.{Malformed, UnlistedName}
use Rattle.phonemes.specs.declared.answers.ExpressionFault.{ExpressionFault}
use Rattle.std.specs.Prelude.{Option, Some, None, Result, Ok, Err}
use mathlib.Core.Path.{◌≡◌, refl, sym, ap, ◌∙◌}
use mathlib.Core.Bool.{Bool, true, false, not}
use mathlib.Core.List.Memᴰ
use mathlib.Core.List.{List, [], ◌∷◌, Memᴰ, append-nil}
use mathlib.Core.Logic.{◌⊎◌, inl, inr, ⊎_elim}
use Prim.Native.Nat.{ℕ, ◌≤◌}
use native.Mathlib.Omega.{arith}
use lib.ListN.{length, take}
use lib.Seq.{take-length, length-take-le}
use borrow.Author.Tests.{eq-eqb}
use Rattle.base.specs.Pick.{pick, and}
use Rattle.base.proofs.Arms.{clash}
use Rattle.base.proofs.PickLaws.{pick_true, pick_false, pick_all, pick_inv, and_first, and_inv, and_no}
use Rattle.letters.specs.Utf8.{decode_at, encode}
use Rattle.letters.specs.Reading.{codes_of}
use Rattle.letters.specs.declared.utf8.Step.{Step}
use Rattle.letters.specs.declared.utf8.Step.TheVariants.{Char, Ill, End}
use Rattle.letters.proofs.Utf8Laws.{char_at, encode_decode, decode_part, end_at}
use Rattle.letters.proofs.CodesLaws.{codes_char}
use Rattle.texts.specs.Parts.{tail, front, first_is, last_is, has, caret, dollar, opening, closing, without_caret, without_dollar}
use Rattle.texts.proofs.Chars.{has_cons}
use Rattle.regex_optim.specs.Contexts.{Form, box_form, box_inner, boxed, form_in, left_form, right_form, kind_of, takes_none, empty_box}
use Rattle.regex_optim.specs.declared.OptimizedRegex.{OptimizedRegex}
use Rattle.regex_optim.proofs.Laws.{Anchored, anchored_left, anchored_right, box_empty, in_literal, in_box, in_none, left_is, right_is}
use Rattle.regex_optim.proofs.FittingLaws.{fits_itself, box_takes, empty_fits_nothing}
use Rattle.refusals.specs.declared.Refusal.{Refusal}
use Rattle.refusals.specs.declared.Refusal.TheVariants.{BoxEmpty}
use Rattle.rule.specs.Matching.{rule_matches}
use Rattle.rule.proofs.Formed.{text_formed}
use Rattle.rule_lines.specs.Rules.{Rule, length_fault, context_fault, box_fault, contexts_fault, expression_fault, fault_else, rule_fault, faultless, rule_good}
use Rattle.rule_lines.specs.InnerContracts.{form_good}
use Rattle.rule_lines.proofs.Laws.{good_texts, good_short, good_contexts}
use Rattle.pack.specs.Packs.{Pack, Verdict, pack_of, accepted, refused, verdict_of, all}
use Rattle.pack.specs.Numbers.{checked_numbers}
use Rattle.pack.proofs.Laws.{ListsAt, no_list, one_list, is_pack}
use Rattle.choices.specs.Texts.{Text}
use Rattle.code_points.proofs.Bytes.{border, Formed, formed_of, never_ill, char_formed, ill_not}
use Rattle.code_points.proofs.Cuts.{tail_formed, front_formed, between_formed}
use Rattle.code_points.proofs.Packs.{rules_good}
use Rattle.contexts.specs.Fitting.{FitsSome, ContextsFit, AllContextsFit, MatchesNowhere}
use Rattle.contexts.proofs.Missing.{missing, few_codes}

-- ---- a rule with an empty box matches nowhere

else_is : (a b : Option Refusal) (w : Refusal) → fault_else a b ≡ Some w → (a ≡ Some w) ⊎ (b ≡ Some w)
unfolding fault_else
else_is None b w e = inr e
else_is (Some v) b w e = inl e

-- no other judgment gives 20
NotTwenty : Option Refusal → Type 0
NotTwenty f = f ≡ Some BoxEmpty → ⊥

length_other : (p l r e : ℕ) → NotTwenty (length_fault p l r e)
unfolding length_fault NotTwenty
length_other p l r e =
    pick_all NotTwenty _ _ _ (λ q. clash (cc))
    (pick_all NotTwenty _ _ _ (λ q. clash (cc)) (pick_all NotTwenty _ _ _ (λ q. clash (cc)) (pick_all NotTwenty _ _ _ (λ q. clash (cc)) (pick_all NotTwenty _ _ _ (λ q. clash (cc)) (λ q. clash (cc))))))

context_other : (f : Option OptimizedRegex) → NotTwenty (context_fault f)
unfolding context_fault NotTwenty
context_other (Some form) e = clash (cc)
context_other None e = clash (cc)

expression_other : (x : Result ℕ ExpressionFault) → NotTwenty (expression_fault x)
unfolding expression_fault NotTwenty
expression_other (Ok n) e = clash (cc)
expression_other (Err Malformed) e = clash (cc)
expression_other (Err UnlistedName) e = clash (cc)

box_by : (f g : Form) → box_fault f g ≡ Some BoxEmpty → (empty_box f ≡ true) ⊎ (empty_box g ≡ true)
unfolding box_fault
box_by f g e = ⊎_elim (λ w. inl w.0) (λ w. ⊎_elim (λ v. inr v.0) (λ v. clash (cc v.1)) (pick_inv _ _ _ _ w.1)) (pick_inv _ _ _ _ e)

box_in : (names : List ℕ) (r : Rule) → rule_fault names r ≡ Some BoxEmpty → (empty_box (left_form r.left) ≡ true) ⊎ (empty_box (right_form r.right) ≡ true)
unfolding rule_fault contexts_fault NotTwenty
box_in names r e =
    ⊎_elim (λ w. absurd (length_other _ _ _ _ w))
    (λ w. ⊎_elim
    (λ v. ⊎_elim (λ u. absurd (context_other _ u)) (λ u. ⊎_elim (λ t. absurd (context_other _ t)) (λ t. box_by _ _ t) (else_is _ _ _ u)) (else_is _ _ _ v))
    (λ v. absurd (expression_other _ v)) (else_is _ _ _ w))
    (else_is _ _ _ e)

-- 20 takes nothing away that a rule could have done
pub refused_box_matches_nowhere : (names : List ℕ) (r : Rule) → rule_fault names r ≡ Some BoxEmpty → MatchesNowhere r
unfolding MatchesNowhere rule_matches
refused_box_matches_nowhere names r e text place =
    pick_all (λ (b : Bool). b ≡ false) _ _ _ refl
    (⊎_elim
    (λ w. sym (and_no _ _ (and_no _ _ (sym (empty_fits_nothing _ _ w)))))
    (λ w. sym (and_no _ _ (sym (and_first _ _ (empty_fits_nothing _ _ w)))))
    (box_in names r e))

-- ---- well-formed texts of at most 255 bytes, and what is cut off them

record ShortText (t : Text) : Type 0 where
  formed : Formed t
  few : length t ≤ 255

tail_few : (t : Text) → length (tail t) ≤ length t
unfolding tail
tail_few [] = omega arith
tail_few (x ∷ t) = omega arith

front_few : (t : Text) → length (front t) ≤ length t
unfolding front
front_few [] = omega arith
front_few (x ∷ []) = omega arith
front_few (x ∷ y ∷ t) = omega (arith, front_few (y ∷ t))

caret_off : (t : Text) (q : Bool) → first_is caret t ≡ q → ShortText t → ShortText (pick q (tail t) t)
unfolding pick
caret_off t true e w = record { formed = tail_formed caret refl t e w.formed; few = omega (arith, w.few, tail_few t) }
caret_off t false e w = w

dollar_off : (t : Text) (q : Bool) → last_is dollar t ≡ q → ShortText t → ShortText (pick q (front t) t)
unfolding pick
dollar_off t true e w = record { formed = front_formed dollar refl border t e w.formed; few = omega (arith, w.few, front_few t) }
dollar_off t false e w = w

inner_short : (t : Text) → boxed t ≡ true → ShortText t → ShortText (box_inner t)
unfolding boxed box_inner
inner_short t b w =
    let p = and_inv _ _ b in
    let q = and_inv _ _ p.1 in
    record { formed = between_formed opening closing refl refl t p.0 q.0 w.formed; few = omega (arith, w.few, tail_few t, front_few (tail t)) }

-- ---- a character that a box takes, as a text

record SomeTaken (hit : Bool) (l : Text) : Type 0 where
  text : Text
  code : ℕ
  reads : decode_at text 0 ≡ Char code (length text)
  takes : pick (has code (codes_of l)) hit (not hit) ≡ true

-- the first that is listed
first_taken : (l : Text) → ShortText l → (length l ≡ 0 → ⊥) → (x : Step) → decode_at l 0 ≡ x → SomeTaken true l
first_taken l w some (Char k n) e =
    let c = char_at l 0 k n e in
    let long : length (take n l) ≡ n = length-take-le n l (omega (arith, c.end)) in
    let listed : has k (codes_of l) ≡ true = ap (has k) (codes_char l 0 k n e) ∙ has_cons k k _ ∙ pick_true _ _ _ (eq-eqb k k refl) in
    record { text = take n l; code = k; reads = decode_part l k n e ∙ ap (Char k) (sym long); takes = pick_true _ _ _ listed }
first_taken l w some Ill e = absurd (ill_not l 0 e w.formed)
first_taken l w some End e = absurd (some (omega (arith, end_at l 0 e)))

-- of the 256 characters from U+0100 on one that is not
other_taken : (l : Text) → ShortText l → SomeTaken false l
other_taken l w =
    let u = missing 0x100 256 (codes_of l) (omega (arith, w.few, few_codes l)) in
    record {
      text = encode u.number;
      code = u.number;
      reads = ap (λ (s : Text). decode_at s 0) (sym (append-nil (encode u.number))) ∙ encode_decode u.number [] (record { most = omega (arith, u.below); apart = inl (omega (arith, u.below)) });
      takes = pick_false _ _ _ u.not_there;
    }

some_taken : (hit : Bool) (l : Text) → ShortText l → takes_none hit l ≡ false → SomeTaken hit l
unfolding takes_none and
some_taken true l w e = first_taken l w (λ q. clash (cc (sym (eq-eqb (length l) 0 q) ∙ e))) _ refl
some_taken false l w e = other_taken l w

-- ---- every context that is accepted

module _ (s e : Bool) (t : Text) (a : Anchored s e) (w : ShortText t) (g : form_good (form_in s e t) ≡ true) where
  box_some : (hit : Bool) (l : Text) → form_in s e t ≡ box_form s e hit l → ShortText l → FitsSome (form_in s e t)
  unfolding form_good
  box_some hit l q v =
      let c = some_taken hit l v (sym (box_empty s e hit l a) ∙ ap empty_box (sym q) ∙ unnot _ (and_inv _ _ g).0) in
      rw q (record {
        text = c.text;
        formed = never_ill c.text (rw (take-length c.text) at (char_formed c.text 0 c.code _ c.reads));
        does = box_takes c.text c.code c.reads s e hit l a ∙ c.takes;
      })
    where
      unnot : (b : Bool) → not b ≡ true → b ≡ false
      unnot true q = sym q
      unnot false q = refl

  some_by : (h u : Bool) → h ≡ has opening t → u ≡ boxed t → FitsSome (form_in s e t)
  unfolding form_good kind_of context_fault faultless without_caret
  some_by false u o b = rw (in_literal s e t false o refl) (record { text = t; formed = never_ill t w.formed; does = fits_itself s e t a })
  some_by true false o b = let q = in_none s e t true o false b refl refl in clash (cc (ap (λ (f : Form). faultless (context_fault (kind_of f))) (sym q) ∙ (and_inv _ _ g).1))
  some_by true true o b = box_some _ _ (in_box s e t true o true b refl refl) (caret_off (box_inner t) _ refl (inner_short t (sym b) w))

  some_fits : FitsSome (form_in s e t)
  some_fits = some_by _ _ refl refl

module _ (names : List ℕ) (r : Rule) (g : rule_good names r ≡ true) where
  contexts_fit : ContextsFit r
  unfolding without_caret without_dollar
  contexts_fit =
      let texts = good_texts names r g in
      let short = good_short names r g in
      let good = good_contexts names r g in
      let left : ShortText r.left = record { formed = formed_of r.left (text_formed r.left texts.left); few = short.left } in
      let right : ShortText r.right = record { formed = formed_of r.right (text_formed r.right texts.right); few = short.right } in
      record {
        left = rw (left_is r.left) (some_fits _ true _ (anchored_left _) (caret_off r.left _ refl left) (rw (left_is r.left) at good.0));
        right = rw (right_is r.right) (some_fits true _ _ (anchored_right _) (dollar_off r.right _ refl right) (rw (right_is r.right) at good.1));
      }

rule_in_lem : (names : List ℕ) (rs : List Rule) → all (rule_good names) rs ≡ true → (r : Rule) → Memᴰ r rs → ContextsFit r
unfolding all
rule_in_lem names [] g r m = absurd (Memᴰ.not-nil m)
rule_in_lem names (x ∷ rs) g r m =
    let w = and_inv _ _ g in
    ⊎_elim (λ q. rw q (contexts_fit names x w.0)) (λ n. rule_in_lem names rs w.1 r n) (Memᴰ.cases_cons m)

list_in_lem : {s names : List ℕ} {n at e : ℕ} {ls : List (List Rule)} → ListsAt s names n at ls e → (rs : List Rule) → Memᴰ rs ls → all (rule_good names) rs ≡ true
list_in_lem no_list rs m = absurd (Memᴰ.not-nil m)
list_in_lem (one_list w l) rs m = ⊎_elim (λ q. rw q (rules_good _ w.value w.passes)) (λ n. list_in_lem l rs n) (Memᴰ.cases_cons m)

-- no context of an accepted pack is one that can never fit
pub accepted_contexts_fit : (s : List ℕ) (p : Pack) → pack_of s ≡ accepted p → AllContextsFit p
unfolding AllContextsFit
accepted_contexts_fit s p e rs m r n = rule_in_lem _ rs (list_in_lem (is_pack s p e).lists rs m) r n

by_verdict : (s : List ℕ) (v : Verdict) → pack_of s ≡ v → checked_numbers (verdict_of v) ≡ 0 ∷ [] → (p : Pack) × (pack_of s ≡ accepted p) × AllContextsFit p
unfolding checked_numbers verdict_of
by_verdict s (accepted p) e q = (p, e, accepted_contexts_fit s p e)
by_verdict s (refused n) e q = clash (cc)

-- the same of what `check` promises: of any bytes to which it answers 0
pub checked_contexts_fit : (s : List ℕ) → checked_numbers (verdict_of (pack_of s)) ≡ 0 ∷ [] → (p : Pack) × (pack_of s ≡ accepted p) × AllContextsFit p
checked_contexts_fit s q = by_verdict s (pack_of s) refl q
