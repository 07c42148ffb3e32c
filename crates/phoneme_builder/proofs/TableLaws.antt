-- Laws for the table of alternatives: the languages of those with the same text, and what is kept. Assumes nothing.
use borrow.Author.Rules.{rules}
use borrow.Author.Count.{below_more}
use mathlib.Core.Path.{◌≡◌, refl, sym, ap, ap₂, ◌∙◌}
use mathlib.Core.Bool.{Bool, true, false}
use mathlib.Core.Logic.{⊎_elim}
use mathlib.Core.List.{List, ◌∷◌, ◌++◌}
use Prim.Native.Nat.{ℕ, zero, suc, ◌+◌, ◌-◌, ◌≤◌, ◌<◌, zero-le}
use native.Mathlib.Nat.{add-zero, zero-add, not-suc-le-zero}
use native.Mathlib.Numerals.{add-one}
use native.Mathlib.Omega.{arith}
use lib.ListN.{length, take, drop, set, length-set, length-take}
use lib.Seq.{get_or-take, get_or-set_same, get_or-set_other}
use Rattle.base.specs.Pick.{pick}
use Rattle.base.proofs.Arms.{clash}
use Rattle.base.proofs.PickLaws.{pick_true, pick_false}
use Rattle.letters.specs.Order.{same_text}
use Rattle.letters.proofs.OrderLaws.{same_is}
use Rattle.languages.specs.Sets.{narrowed, is_empty}
use Rattle.languages.specs.InnerContracts.{decoded, codes_merged, IsCode}
use Rattle.languages.specs.declared.sets.LanguageSet.{LanguageSet}
use Rattle.languages.proofs.CodedLaws.{merge_code, merged_either, merged_covers, none_left}
use Rattle.choices.specs.Texts.{Text}
use Rattle.choices.specs.Apply.{Alternative, Entry, under, enter}
use Rattle.choices.specs.Choices.{◌∈◌, here, there}
use Rattle.choices.proofs.Covered.{Covered, drop_covered}
use Rattle.phoneme_builder.specs
use specs.BufferContracts.{first_of, second_of, langs_of, alt_of, candidate_at, alt_at, alts_from, alternatives, AltIn, Earlier, Before, AltsIn}
use specs.InnerContracts.{langs_if_alike, Asks, Alike, Keeps, KeptIn}
use specs.declared.expressions.Candidate.{Candidate}
use Rattle.phoneme_builder.proofs.EnterLaws.{no_languages}

-- ---- the alternatives of a table

alts_end : (expr : List ℕ) (alts : List Candidate) (i k : ℕ) (more : List Alternative) → alts_from expr alts i k ++ alt_at expr alts (i + k) ∷ more ≡ alts_from expr alts i (suc k) ++ more
unfolding alts_from
alts_end expr alts i zero more = ap (λ (n : ℕ). alt_at expr alts n ∷ more) (add-zero i)
alts_end expr alts i (suc k) more =
    let n : i + suc k ≡ suc i + k = omega arith in
    ap (◌∷◌ (alt_at expr alts i)) (ap (λ (m : ℕ). alts_from expr alts (suc i) k ++ alt_at expr alts m ∷ more) n ∙ alts_end expr alts (suc i) k more)

-- one more
pub alts_more : (expr : List ℕ) (alts : List Candidate) (j : ℕ) (more : List Alternative) → alternatives expr alts j ++ alt_at expr alts j ∷ more ≡ alternatives expr alts (suc j) ++ more
alts_more expr alts j more =
    ap (λ (n : ℕ). alternatives expr alts j ++ alt_at expr alts n ∷ more) (sym (zero-add j)) ∙ alts_end expr alts 0 j more

alt_there : (expr : List ℕ) (alts : List Candidate) (i k n : ℕ) → n < k → alt_at expr alts (i + n) ∈ alts_from expr alts i k
unfolding alts_from
alt_there expr alts i zero n h = absurd (not-suc-le-zero h)
alt_there expr alts i (suc k) zero h = rw (add-zero i) here
alt_there expr alts i (suc k) (suc n) h =
    let e : i + suc n ≡ suc i + n = omega arith in
    rw e (there (alt_there expr alts (suc i) k n (omega arith)))

alts_agree : (expr : List ℕ) (alts alts' : List Candidate) (i k : ℕ) → ((j : ℕ) → j < i + k → candidate_at alts' j ≡ candidate_at alts j) → alts_from expr alts' i k ≡ alts_from expr alts i k
unfolding alts_from
alts_agree expr alts alts' i zero h = refl
alts_agree expr alts alts' i (suc k) h =
    ap₂ (λ x xs. x ∷ xs) (ap (λ (c : Candidate). alt_of expr c.number) (h i (omega arith))) (alts_agree expr alts alts' (suc i) k (λ j l. h j (omega arith)))

-- what those before it with the same text have covers an alternative
pub before_covers : {expr : List ℕ} {alts : List Candidate} {j : ℕ} {t : Text} {p : ℕ} → Before expr alts j t p → (u : Entry) → is_empty (narrowed u.langs (decoded p)) ≡ false
    → (a : Alternative) → a.text ≡ t → Covered u (alternatives expr alts j) a
before_covers {expr} {alts} {j} w u h a e =
    let r = w.some u.langs h in
    record {
      by = alt_at expr alts r.number;
      among = rw (zero-add r.number) at (alt_there expr alts 0 j r.number r.before);
      text = r.text ∙ sym e;
      some = r.some;
    }

pub alike_refl : {xs ys : List Alternative} → xs ≡ ys → Alike xs ys
alike_refl e = record { are = λ u limit rest l i. ap (λ (zs : List Alternative). enter limit (under u zs ++ rest) l) e }

pub alike_trans : {xs ys zs : List Alternative} → Alike xs ys → Alike ys zs → Alike xs zs
alike_trans v w = record { are = λ u limit rest l i. v.are u limit rest l i ∙ w.are u limit rest l i }

before_agree : {e : List ℕ} {alts alts' : List Candidate} {j : ℕ} {t : Text} {p : ℕ} → ((i : ℕ) → i < j → candidate_at alts' i ≡ candidate_at alts i)
    → Before e alts j t p → Before e alts' j t p
before_agree {e} same v = record {
  code = v.code;
  some = λ g q.
      let r = v.some g q in
      let there = same r.number r.before in
      record { number = r.number; before = r.before; text = ap (λ (c : Candidate). (alt_of e c.number).text) there ∙ r.text; some = rw there r.some };
}

-- the first of a table alone
module _ {e : List ℕ} {alts : List Candidate} {m : ℕ} (are : AltsIn e alts m) where
  taken_long : length (take m alts) ≡ m
  taken_long = simp length-take (omega (arith, are.within))

  taken_at : (j : ℕ) → j < m → candidate_at (take m alts) j ≡ candidate_at alts j
  taken_at j h = get_or-take m alts j (record { number = 0; before = 0 }) h

  pub taken_in : AltsIn e (take m alts) (length (take m alts))
  taken_in = rw taken_long (record {
    within = omega (arith, taken_long);
    each = λ j h. rw (taken_at j h) (are.each j h);
    before = λ j h. rw (taken_at j h) (before_agree (λ i l. taken_at i (omega arith)) (are.before j h));
  })

  pub taken_same : alternatives e (take m alts) (length (take m alts)) ≡ alternatives e alts m
  taken_same = rw taken_long (alts_agree e alts (take m alts) 0 m (λ j h. taken_at j (omega arith)))

-- ---- two alternatives

-- an alternative's part of the expression
module _ {expr : List ℕ} {x : ℕ} (is : AltIn expr x) {start end : ℕ} (es : start ≡ first_of x) (ee : end ≡ second_of x) where
  pub alt_order : start ≤ end
  alt_order = rw (es, ee) is.start_in

  pub alt_end : end ≤ length expr
  alt_end = rw ee is.end_in_lem

  pub alt_text : take (end - start) (drop start expr) ≡ (alt_of expr x).text
  unfolding alt_of
  alt_text = rw (es, ee)

pub ruleset text_laws = (alt_order, alt_end, alt_text, rules)

module _ (expr : List ℕ) (x y : ℕ) {a b : Text} (ea : a ≡ (alt_of expr x).text) (eb : b ≡ (alt_of expr y).text) {s : Bool} (p : s ≡ same_text a b) where
  asked : s ≡ same_text (alt_of expr x).text (alt_of expr y).text
  asked = rw (ea, eb) at p

  pub alike_yes : (r : ℕ) → s ≡ true → r ≡ langs_of y → r ≡ langs_if_alike expr x y
  alike_yes r q e = e ∙ sym (pick_true _ _ _ (sym asked ∙ q))

  pub alike_no : s ≡ false → 0 ≡ langs_if_alike expr x y
  alike_no q = sym (pick_false _ _ _ (sym asked ∙ q))

pub ruleset alike_laws = (alike_yes, alike_no, rules)

-- ---- the loop over those before it

pub record Looking (e : List ℕ) (alts : List Candidate) (n x i langs : ℕ) : Type 0 where
  pub within : i ≤ n
  pub before : Before e alts i (alt_of e x).text langs

pub looking_start : (e : List ℕ) (alts : List Candidate) (n x : ℕ) → Looking e alts n x 0 0
looking_start e alts n x = record { within = zero-le; before = record { code = no_languages; some = λ g h. let z = none_left g in clash (cc) } }

more_before : {e : List ℕ} {alts : List Candidate} {i : ℕ} {t : Text} {g : LanguageSet} → Earlier e alts i t g → Earlier e alts (i + 1) t g
more_before r = record { number = r.number; before = omega (arith, r.before); text = r.text; some = r.some }

module _ {e : List ℕ} {alts : List Candidate} {n x : ℕ} (a : Asks e alts n x) where
  pub look_own : AltIn e x
  look_own = a.own

  module _ (i : ℕ) (h : i < n) where
    pub look_index : i < length alts
    look_index = omega (arith, a.parts.within)

    pub look_other : AltIn e (candidate_at alts i).number
    look_other = a.parts.each i h

    -- the languages of alternative i, where it has the text
    here_by : (g : LanguageSet) (s : Bool) → same_text (alt_of e x).text (alt_at e alts i).text ≡ s
        → is_empty (narrowed g (decoded (pick s (langs_of (candidate_at alts i).number) 0))) ≡ false → Earlier e alts (i + 1) (alt_of e x).text g
    unfolding pick alt_of
    here_by g true p q = record { number = i; before = omega arith; text = sym (same_is _ _ p); some = q }
    here_by g false p q = let z = none_left g in clash (cc)

    code_by : (s : Bool) → IsCode (pick s (langs_of (candidate_at alts i).number) 0)
    unfolding pick
    code_by true = look_other.code
    code_by false = no_languages

    pub looking_next : {langs : ℕ} → Looking e alts n x i langs → (r : ℕ) → r ≡ langs_if_alike e x (candidate_at (take n alts) i).number → (m : ℕ) → m ≡ codes_merged langs r
        → Looking e alts n x (i + 1) m
    looking_next {langs} w r is m em =
        let er : r ≡ langs_if_alike e x (candidate_at alts i).number = rw (get_or-take n alts i (record { number = 0; before = 0 }) h) at is in
        let c : IsCode r = rw er (code_by _) in
        record {
          within = omega arith;
          before = rw em (record {
            code = merge_code w.before.code c;
            some = λ g q. ⊎_elim (λ v. more_before (w.before.some g v)) (λ v. here_by g _ refl (rw er at v)) (merged_either w.before.code c g q);
          });
        }

  pub looking_end : {i langs : ℕ} → Looking e alts n x i langs → n ≤ i → Before e alts n (alt_of e x).text langs
  looking_end {i} w h = let all : i ≡ n = omega (arith, w.within) in rw all at w.before

pub ruleset looking_laws = (looking_start, look_own, look_index, look_other, looking_next, looking_end, rules)

-- ---- keeping one

module _ {e : List ℕ} {alts : List Candidate} {n x : ℕ} (k : Keeps e alts n x) where
  pub keep_index : n < length alts
  keep_index = k.room

  module _ {b : ℕ} (w : Before e alts n (alt_of e x).text b) where
    -- those with its text have all its languages
    pub keep_none : (g m : ℕ) → g ≡ langs_of x → m ≡ codes_merged b g → m ≡ b → KeptIn e alts alts n x n
    unfolding alt_of
    keep_none g m eg em same =
        let all : codes_merged b (langs_of x) ≡ b = rw (eg, same) at (sym em) in
        record {
          same = refl;
          parts = k.asks.parts;
          few = omega arith;
          alike = λ more. record {
            are = λ u limit rest l i. sym (drop_covered limit u (alternatives e alts n) (alt_of e x) more rest l i
                (λ p. before_covers w u (merged_covers w.code k.asks.own.code all u.langs p) (alt_of e x) refl));
          };
        }

    held : List Candidate
    held = set alts n (record { number = x; before = b })

    same : (j : ℕ) → j < n → candidate_at held j ≡ candidate_at alts j
    unfolding held
    same j h =
        let other : j ≡ n → ⊥ = λ o. omega arith in
        get_or-set_other alts n j (record { number = x; before = b }) (record { number = 0; before = 0 }) other

    own : candidate_at held n ≡ record { number = x; before = b }
    unfolding held
    own = get_or-set_same alts n (record { number = x; before = b }) (record { number = 0; before = 0 }) k.room

    held_parts : AltsIn e held (n + 1)
    unfolding held
    held_parts = record {
      within = omega (arith, k.room, length-set alts n (record { number = x; before = b }));
      each = below_more (λ j. AltIn e (candidate_at held j).number) n (λ j h. rw (same j h) (k.asks.parts.each j h)) (rw own k.asks.own);
      before = below_more (λ j. Before e held j (alt_at e held j).text (candidate_at held j).before) n
          (λ j h. rw (same j h) (before_agree (λ i l. same i (omega arith)) (k.asks.parts.before j h)))
          (rw own (before_agree same w));
    }

    pub keep_one : KeptIn e alts (set alts n (record { number = x; before = b })) n x (n + 1)
    unfolding held
    keep_one = record {
      same = length-set alts n (record { number = x; before = b });
      parts = held_parts;
      few = omega arith;
      alike = λ more. alike_refl (ap (λ (m : ℕ). alternatives e held m ++ more) (add-one n) ∙ sym (alts_more e held n more)
          ∙ ap₂ (λ (xs : List Alternative) (c : Candidate). xs ++ alt_of e c.number ∷ more) (alts_agree e alts held 0 n (λ j h. same j (omega arith))) own);
    }

pub ruleset keep_laws = (keep_index, keep_none, keep_one, rules)
