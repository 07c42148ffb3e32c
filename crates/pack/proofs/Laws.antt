-- What the crates above use of a pack: where an accepted one holds its names, guessing rules and lists, and what each string keeps to.
-- Assumes nothing.
use Rattle.strings.specs.Places.{number}
use Rattle.std.proofs.lemmas.Option.{same_Some}
use Rattle.pack.specs.Places.{rule_spans}
use Rattle.pack.specs.declared.rules.RuleAt.{RuleAt}
use Rattle.std.specs.Prelude.{None, Option, Some, Ok}
use mathlib.Core.Path.{◌≡◌, refl, sym, ap, ap₂, subst, ◌∙◌}
use mathlib.Core.Bool.{Bool, true, false}
use mathlib.Core.List.{List, [], ◌∷◌}
use Prim.Native.Nat.{ℕ, zero, suc, ◌+◌, ◌-◌, ◌^◌, ◌≤◌, ◌<◌, zero-le, min}
use native.Mathlib.Nat.{not-suc-le-zero, le_of_suc-le-suc, lt_of_le_of_lt}
use native.Mathlib.Omega.{arith}
use lib.Bits.{and_le_l}
use lib.Pow.{pow_pos}
use lib.Dec.{eqb, leb, ltb}
use lib.ListN.{length, get_or, take, drop, length-append, length-drop}
use lib.Seq.{take-append_seam}
use borrow.Author.Tests.{leb-true, ltb-true, ltb-false, eqb-true, eq-eqb}
use Rattle.base.specs.Pick.{pick}
use Rattle.base.proofs.One.{one}
use Rattle.strings.specs.Reading.{strings, strings_of, Read, got, read_byte, read_number, read_many, place_in, is_nil}
use Rattle.languages.specs.declared.sets.LanguageSet.{LanguageSet}
use Rattle.languages.specs.declared.sets.LanguageSet.TheVariants.{Any}
use Rattle.languages.proofs.Laws.{without_below, any_below, mask_below}
use Rattle.strings.proofs.Laws.{strings_none, strings_all, strings_one}
use Rattle.letters.specs.Reading.{first_ill}
use Rattle.rule.proofs.Formed.{text_formed}
use Rattle.phonemes.specs.Expressions.{checked_of}
use Rattle.lang.specs.Patterns.{matches_of}
use Rattle.pack.specs
use specs.Packs.{Guess, Pack, Verdict, accepted, refused, read_names, read_guess, read_guesses, read_rule, read_list, all, list_good, names_good, guesses_good, section, names_in, list_count, list_sections, end_section, pack_of, strings_length}
use Rattle.rule_lines.proofs.Laws.{good_texts, good_pattern, good_expression}
use Rattle.rule_lines.specs.Rules.{Rule, rule_good}
use specs.PlaceContracts.{surveyed_of, found_in, places_of, SurveyIs, placed_rule, placed_from, rule_stands_at, count_in, rule_count, list_at}
use Rattle.strings.specs.InnerContracts.{behind, read_some, number_in, number_at}
use specs.Guessing.{narrowed_by, narrowed_by_all, left_over, all_listed, guessed}
use specs.InnerContracts.{rest_places, guesses_at, guessed_at}
use specs.declared
use declared.sections.Surveyed.{Surveyed}
use declared.sections.Surveyed.TheVariants as surveyed
use Rattle.pack.proofs
use proofs.NumberLaws.{surveyed_one}
use proofs.Readers.{names_ends, guesses_ends, list_ends}
use Rattle.strings.proofs.Readers.{EndOf, Ends, end_here, end_then, end_is, end_within, place_drop, then_inv, many_length, byte_ends, byte_some, byte_none, count_of}
use Rattle.base.proofs.Arms.{clash}
use proofs.Judging.{Judged, fine, faulty, judged, judge_fine, Ending}
use proofs.RuleLaws.{RuleIs, rule_read, rule_is}
use proofs.SectionLaws.{section_is, found_one, written, written_length, names_written, names_end, names_few, rest_reads, rest_places_lem}
use Rattle.base.proofs.PickLaws.{pick_all, and_inv}
use Rattle.languages.specs.InnerContracts.{BitsBelow}

-- the promise of a survey allows one answer and one content of `places` and of `rows`
pub survey_one : {s t o o' : List ℕ} {u p p' : List (List ℕ)} {r r' : Surveyed} → SurveyIs s t u r o p → SurveyIs s t u r' o' p' → (r ≡ r') × (o ≡ o') × (p ≡ p')
survey_one a b = (surveyed_one _ _ (one a.result b.result), one a.stored.placed b.stored.placed, one a.stored.noted b.stored.noted)

-- ---- the sections of an accepted pack

data Stage {A : Type 0} (s : List ℕ) (good : A → Bool) (rd : Read A) (k : A → List ℕ → Verdict) (p : Pack) : Type 0 where
  staged : (e : ℕ) (w : Ending s good rd e) → k w.value (drop e s) ≡ accepted p → Stage s good rd k p

stage_by : {A : Type 0} (s : List ℕ) (place : ℕ) (good : A → Bool) (f : List ℕ → Read A) (l : List ℕ) (k : A → List ℕ → Verdict) (p : Pack) → Ends f → EndOf s l
    → Judged (refused place) good (f l) k (accepted p) → Stage s good (f l) k p
stage_by s place good f l k p v w (faulty x y) = clash (cc)
stage_by s place good f l k p v w (fine a r g h y) =
    let o = end_then w (v l a r g) in
    staged (place_in s r) (record { value = a; reads = g ∙ ap (got a) (end_is o); passes = h; fits = end_within o }) (sym (ap (k a) (end_is o)) ∙ y)

stage : {A : Type 0} (s : List ℕ) (place : ℕ) (good : A → Bool) (f : List ℕ → Read A) (l : List ℕ) (k : A → List ℕ → Verdict) (p : Pack) → Ends f → EndOf s l
    → section place good (f l) k ≡ accepted p → Stage s good (f l) k p
stage s place good f l k p v w e = stage_by s place good f l k p v w (judged _ good (f l) k _ (sym (section_is place good (f l) k) ∙ e))

-- n lists from a place on, each good, and the place behind them
pub data ListsAt (s nm : List ℕ) : ℕ → ℕ → List (List Rule) → ℕ → Type 0 where
  no_list : {at : ℕ} → ListsAt s nm zero at [] at
  one_list : {n at e end : ℕ} {ls : List (List Rule)} (w : Ending s (list_good nm) (read_list (drop at s)) e) → ListsAt s nm n e ls end → ListsAt s nm (suc n) at (w.value ∷ ls) end

data Behind (s nm : List ℕ) (n at : ℕ) (k : List (List Rule) → List ℕ → Verdict) (p : Pack) : Type 0 where
  lists_then : (ls : List (List Rule)) (e : ℕ) → e ≤ length s → ListsAt s nm n at ls e → k ls (drop e s) ≡ accepted p → Behind s nm n at k p

step_behind : (s nm : List ℕ) (n at : ℕ) (k : List (List Rule) → List ℕ → Verdict) (p : Pack) (e : ℕ) (w : Ending s (list_good nm) (read_list (drop at s)) e)
    → Behind s nm n e (λ ls t. k (w.value ∷ ls) t) p → Behind s nm (suc n) at k p
step_behind s nm n at k p e w (lists_then ls x h l y) = lists_then (w.value ∷ ls) x h (one_list w l) y

behind_by : (s nm : List ℕ) (n at : ℕ) (k : List (List Rule) → List ℕ → Verdict) (p : Pack)
    → ((x : ℕ) (j : List (List Rule) → List ℕ → Verdict) → x ≤ length s → list_sections s nm n (drop x s) j ≡ accepted p → Behind s nm n x j p)
    → Stage s (list_good nm) (read_list (drop at s)) (λ rules q. list_sections s nm n q (λ lists t. k (rules ∷ lists) t)) p → Behind s nm (suc n) at k p
behind_by s nm n at k p ih (staged x w y) = step_behind s nm n at k p x w (ih x (λ ls t. k (w.value ∷ ls) t) w.fits y)

lists_behind : (s nm : List ℕ) (n at : ℕ) (k : List (List Rule) → List ℕ → Verdict) (p : Pack) → at ≤ length s → list_sections s nm n (drop at s) k ≡ accepted p → Behind s nm n at k p
unfolding list_sections
lists_behind s nm zero at k p h e = lists_then [] at h no_list e
lists_behind s nm (suc n) at k p h e =
    behind_by s nm n at k p (λ x j l g. lists_behind s nm n x j p l g) (stage s _ (list_good nm) read_list (drop at s) _ p list_ends (end_here s at h) e)

-- what an accepted pack holds, and where
pub record IsPack (s : List ℕ) (p : Pack) : Type 0 where
  pub guesses : ℕ
  pub counted : ℕ
  pub front : Ending s names_good (read_names s) guesses
  pub middle : Ending s (guesses_good (length front.value)) (read_guesses (drop guesses s)) counted
  pub names : front.value ≡ p.names
  pub rules : middle.value ≡ p.guesses
  pub room : counted < length s
  pub count : get_or s counted 0 ≡ list_count (length p.names)
  pub lists : ListsAt s (take (guesses - 1) (drop 1 s)) (list_count (length p.names)) (counted + 1) p.lists (length s)

end_inv : (s : List ℕ) (p q : Pack) (r : List ℕ) → end_section s q r ≡ accepted p → (q ≡ p) × (r ≡ [])
unfolding end_section is_nil pick
end_inv s p q [] e = (cc, refl)
end_inv s p q (x ∷ r) e = clash (cc)

nothing_left : (s : List ℕ) (e : ℕ) → e ≤ length s → drop e s ≡ [] → e ≡ length s
nothing_left s e h q = omega (arith, ap length q, length-drop e s)

module _ (s : List ℕ) (c n e : ℕ) (k : e ≤ length s) (g : read_byte (drop c s) ≡ got n (drop e s)) where
  byte_in_by : (t : Bool) → ltb c (length s) ≡ t → c < length s
  byte_in_by true q = ltb-true _ _ q
  byte_in_by false q = let o = sym (byte_none s c (ltb-false _ _ q)) ∙ g in clash (cc)

  byte_in : c < length s
  byte_in = byte_in_by _ refl

  byte_value : get_or s c 0 ≡ n
  byte_value = let o = sym (byte_some s c byte_in) ∙ g in cc

  byte_next : e ≡ c + 1
  byte_next =
      let h : c < length s = byte_in in
      let o = sym (byte_some s c h) ∙ g in
      let rest : drop (c + 1) s ≡ drop e s = cc in
      omega (arith, ap length rest, length-drop (c + 1) s, length-drop e s)

pack_4 : (s : List ℕ) (p : Pack) (g c : ℕ) (w : Ending s names_good (read_names s) g) (v : Ending s (guesses_good (length w.value)) (read_guesses (drop g s)) c) (n e : ℕ)
    → read_byte (drop c s) ≡ got n (drop e s) → n ≡ list_count (length w.value) → e ≤ length s
    → Behind s (take (g - 1) (drop 1 s)) n e (λ ls d. end_section s (record { names = w.value; guesses = v.value; lists = ls }) d) p → IsPack s p
pack_4 s p g c w v n e r q h (lists_then ls x k l y) =
    let i = end_inv s p _ (drop x s) y in
    let names : w.value ≡ p.names = ap (λ (o : Pack). o.names) i.0 in
    let guesses : v.value ≡ p.guesses = ap (λ (o : Pack). o.guesses) i.0 in
    let lists : ls ≡ p.lists = ap (λ (o : Pack). o.lists) i.0 in
    let end : x ≡ length s = nothing_left s x k i.1 in
    let count : n ≡ list_count (length p.names) = q ∙ ap (λ (o : List (List ℕ)). list_count (length o)) names in
    record {
      guesses = g;
      counted = c;
      front = w;
      middle = v;
      names = names;
      rules = guesses;
      room = byte_in s c n e h r;
      count = byte_value s c n e h r ∙ count;
      lists = rw (← count, ← byte_next s c n e h r, ← lists, ← end) l;
    }

pack_3 : (s : List ℕ) (p : Pack) (g c : ℕ) (w : Ending s names_good (read_names s) g) (v : Ending s (guesses_good (length w.value)) (read_guesses (drop g s)) c)
    → Stage s (λ (n : ℕ). eqb n (list_count (length w.value))) (read_byte (drop c s))
    (λ n q. list_sections s (take (g - 1) (drop 1 s)) n q (λ ls d. end_section s (record { names = w.value; guesses = v.value; lists = ls }) d)) p → IsPack s p
pack_3 s p g c w v (staged e u y) = pack_4 s p g c w v u.value e u.reads (eqb-true _ _ u.passes) u.fits (lists_behind s _ u.value e _ p u.fits y)

pack_1 : (s : List ℕ) (p : Pack) → pack_of s ≡ accepted p → (g : ℕ) (w : Ending s names_good (read_names s) g) {k : List Guess → List ℕ → Verdict}
    → Stage s (guesses_good (length w.value)) (read_guesses (drop g s)) k p → IsPack s p
pack_1 s p e g w (staged c v y) =
    pack_3 s p g c w v (stage s _ _ read_byte (drop c s) _ p byte_ends (end_here s c v.fits) (sym (rest_reads s g w c v) ∙ e))

pack_0 : (s : List ℕ) (p : Pack) → pack_of s ≡ accepted p
    → Stage s names_good (read_names s)
    (λ names a. section (place_in s a) (guesses_good (length names)) (read_guesses a) (λ guesses b.
    section (place_in s b) (λ (n : ℕ). eqb n (list_count (length names))) (read_byte b) (λ n c.
    list_sections s (names_in s a) n c (λ lists d. end_section s (record { names = names; guesses = guesses; lists = lists }) d)))) p → IsPack s p
pack_0 s p e (staged g w y) = pack_1 s p e g w (stage s _ _ read_guesses (drop g s) _ p guesses_ends (end_here s g w.fits) y)

-- what an accepted pack holds stands in it, section by section
pub is_pack : (s : List ℕ) (p : Pack) → pack_of s ≡ accepted p → IsPack s p
unfolding pack_of
is_pack s p e = pack_0 s p e (stage s 0 names_good read_names s _ p names_ends (end_here s 0 zero-le) e)

-- ---- a rule keeps to the rules of the files

pub record GoodRule (nm : List ℕ) (r : Rule) : Type 0 where
  pub pattern_formed : first_ill r.pattern ≡ None
  pub expression_formed : first_ill r.expression ≡ None
  pub pattern_some : 0 < length r.pattern
  pub alternatives : ℕ
  pub expression : checked_of nm r.expression ≡ Ok alternatives

pub good_rule : (nm : List ℕ) (r : Rule) → rule_good nm r ≡ true → GoodRule nm r
good_rule nm r e =
    let t = good_texts nm r e in
    let n = good_expression nm r e in
    record {
      pattern_formed = text_formed r.pattern t.pattern;
      expression_formed = text_formed r.expression t.expression;
      pattern_some = good_pattern nm r e;
      alternatives = n.0;
      expression = n.1;
    }

-- where the pack is bytes, an expression has at most 255
pub short_expression : (s : List ℕ) (at : ℕ) (r : Rule) (q : List ℕ) → ((i : ℕ) → get_or s i 0 < 256) → read_rule (drop at s) ≡ got r q → length r.expression < 256
short_expression s at r q b e =
    let w = rule_read s at r q e in
    omega (arith, b (at + 1 + length r.pattern + 1 + length r.left + 1 + length r.right))

-- ---- the rules of a list, one after the other

-- rs stand from a place on: each by its places, and good
pub data RulesAt (s nm : List ℕ) : ℕ → List Rule → Type 0 where
  no_rule : {at : ℕ} → RulesAt s nm at []
  one_rule : {at a b c d e f g h : ℕ} {r : Rule} {rs : List Rule} → rule_stands_at s at ≡ Some (rule_spans a b c d e f g h) → (w : RuleIs s at a b c d e f g h) → w.value ≡ r
      → rule_good nm r ≡ true → RulesAt s nm h rs → RulesAt s nm at (r ∷ rs)

module _ (s nm : List ℕ) (at : ℕ) (x : Rule) (r : List ℕ) (o : read_rule (drop at s) ≡ got x r) where
  placed_at : rule_stands_at s at ≡ placed_from at (length x.pattern) (length x.left) (length x.right) (length x.expression)
  unfolding rule_stands_at placed_rule
  placed_at = ap (placed_rule at) o

  rule_step : (rs : List Rule) → rule_good nm x ≡ true → ((h : ℕ) → r ≡ drop h s → RulesAt s nm h rs) → RulesAt s nm at (x ∷ rs)
  unfolding placed_from
  rule_step rs k ih =
      let w = rule_is s at (rule_stands_at s at) refl _ placed_at in
      let same = sym w.reads ∙ o in
      let value : w.value ≡ x = cc in
      let rest : r ≡ drop (at + 4 + length x.pattern + length x.left + length x.right + length x.expression) s = cc in
      one_rule placed_at w value k (ih _ rest)

-- what a caller of `rule_at` learns there
pub record Held (s nm : List ℕ) (a b c d e f g h : ℕ) (r : Rule) (rs : List Rule) : Type 0 where
  pub pattern : take (b - a) (drop a s) ≡ r.pattern
  pub good : rule_good nm r ≡ true
  pub rest : RulesAt s nm h rs

pub held_by : (s nm : List ℕ) (at : ℕ) (spans : RuleAt) (r : Rule) (rs : List Rule) → Some spans ≡ rule_stands_at s at → RulesAt s nm at (r ∷ rs) → Held s nm spans.pattern.start spans.pattern.end spans.left.start spans.left.end spans.right.start spans.right.end spans.expression.start spans.expression.end r rs
held_by s nm at spans r rs o (one_rule {a = a'} {b = b'} {h = h'} p w v k l) =
    let same = same_Some _ _ (o ∙ p) in
    let ea : spans.pattern.start ≡ a' = ap (λ (x : RuleAt). x.pattern.start) same in
    let eb : spans.pattern.end ≡ b' = ap (λ (x : RuleAt). x.pattern.end) same in
    let eh : spans.expression.end ≡ h' = ap (λ (x : RuleAt). x.expression.end) same in
    record {
      pattern = ap₂ (λ (x y : ℕ). take (x - y) (drop y s)) eb ea ∙ w.pattern ∙ ap (λ (y : Rule). y.pattern) v;
      good = k;
      rest = subst (λ (x : ℕ). RulesAt s nm x rs) (sym eh) l;
    }

-- one is there
never_cut : (s nm : List ℕ) (at : ℕ) (r : Rule) (rs : List Rule) → None ≡ rule_stands_at s at → RulesAt s nm at (r ∷ rs) → ⊥
never_cut s nm at r rs o (one_rule p w v k l) = let same = o ∙ p in clash (cc)

pub held_whole : (s nm : List ℕ) (at : ℕ) (r : Rule) (rs : List Rule) (x : Option RuleAt) → RulesAt s nm at (r ∷ rs) → x ≡ rule_stands_at s at → x ≡ None → ⊥
held_whole s nm at r rs x l o q = never_cut s nm at r rs (sym q ∙ o) l

all_inv : (nm : List ℕ) (x : Rule) (xs : List Rule) → all (rule_good nm) (x ∷ xs) ≡ true → (rule_good nm x ≡ true) × (all (rule_good nm) xs ≡ true)
unfolding all
all_inv nm x xs e = and_inv _ _ e

rules_by : (s nm : List ℕ) (n at : ℕ) (l : List ℕ) (rs : List Rule) (q : List ℕ) → l ≡ drop at s → read_many read_rule n l ≡ got rs q → all (rule_good nm) rs ≡ true → RulesAt s nm at rs
unfolding read_many
rules_by s nm zero at l rs q h e g = let none : [] ≡ rs = cc in subst (RulesAt s nm at) none no_rule
rules_by s nm (suc n) at l rs q h e g =
    let i = then_inv (read_rule l) _ rs q e in
    let j = then_inv (read_many read_rule n i.1) _ rs q i.3 in
    let whole : i.0 ∷ j.0 ≡ rs = cc in
    let good = all_inv nm i.0 j.0 (ap (all (rule_good nm)) whole ∙ g) in
    subst (RulesAt s nm at) whole (rule_step s nm at i.0 i.1 (sym (ap read_rule h) ∙ i.2) j.0 good.0 (λ x o. rules_by s nm n x i.1 j.0 j.1 o j.2 good.1))

pub record ListIs (s nm : List ℕ) (place : ℕ) (rs : List Rule) : Type 0 where
  pub count : rule_count s place ≡ length rs
  pub few : length rs ≤ 4096
  pub fits : place + 2 ≤ length s
  pub held : RulesAt s nm (place + 2) rs

module _ (s nm : List ℕ) (at : ℕ) (rs : List Rule) (q : List ℕ) (k : list_good nm rs ≡ true) where
  list_parts : (leb (length rs) 4096 ≡ true) × (all (rule_good nm) rs ≡ true)
  unfolding list_good
  list_parts = let a = and_inv _ _ k in (a.0, (and_inv _ _ a.1).0)

  list_by : (n : ℕ) (l : List ℕ) → read_number 2 (drop at s) ≡ got n l → read_many read_rule n l ≡ got rs q → ListIs s nm at rs
  unfolding number_at number_in rule_count count_in
  list_by n l o e =
      let w = count_of s at (number_at 2 s at) (number n (place_in s l)) refl (ap (number_in s) o) in
      let same = sym w.reads ∙ o in
      let rest : drop (place_in s l) s ≡ l = cc in
      record {
        count = ap count_in o ∙ sym (many_length read_rule n l rs q e);
        few = leb-true _ _ list_parts.0;
        fits = omega arith;
        held = rules_by s nm n (at + 2) l rs q (sym rest ∙ ap (λ (x : ℕ). drop x s) w.ends) e list_parts.1;
      }

  list_is : read_list (drop at s) ≡ got rs q → ListIs s nm at rs
  unfolding read_list
  list_is e = let i = then_inv (read_number 2 (drop at s)) _ rs q e in list_by i.0 i.1 i.2 i.3

rules_some : (s nm : List ℕ) {at : ℕ} {rs : List Rule} → RulesAt s nm at rs → read_some read_rule (length rs) (drop at s) ≡ rs
unfolding read_some behind
rules_some s nm no_rule = refl
rules_some s nm (one_rule p w v k l) = rw w.reads (ap₂ (λ (x : Rule) (xs : List Rule). x ∷ xs) v (rules_some s nm l))

list_some : (s nm : List ℕ) (place : ℕ) (rs : List Rule) → ListIs s nm place rs → list_at s place ≡ rs
unfolding list_at
list_some s nm place rs w = rw w.count (rules_some s nm w.held)

-- ---- the lists, by the places that a survey leaves

found_nil : (s nm r : List ℕ) → length (found_in s nm zero r) ≡ 0
unfolding found_in
found_nil s nm r = refl

found_more : (s nm : List ℕ) (n at e : ℕ) (rs : List Rule) → read_list (drop at s) ≡ got rs (drop e s) → list_good nm rs ≡ true
    → found_in s nm (suc n) (drop at s) ≡ place_in s (drop at s) ∷ found_in s nm n (drop e s)
found_more s nm n at e rs o k =
    let m : suc n - 1 ≡ n = omega arith in
    found_one s nm (suc n) _ rs _ (omega arith) o k ∙ ap (λ (x : ℕ). place_in s (drop at s) ∷ found_in s nm x (drop e s)) m

lists_found : (s nm : List ℕ) {n at end : ℕ} {ls : List (List Rule)} → ListsAt s nm n at ls end → length (found_in s nm n (drop at s)) ≡ n
lists_found s nm {at = at} no_list = found_nil s nm (drop at s)
lists_found s nm {at = at} (one_list {n = n} {e = e} w l) =
    ap length (found_more s nm n at e w.value w.reads w.passes) ∙ ap suc (lists_found s nm l)

lists_held : (s nm : List ℕ) {n at end : ℕ} {ls : List (List Rule)} → at ≤ length s → ListsAt s nm n at ls end → (k : ℕ) → k < n
    → ListIs s nm (get_or (found_in s nm n (drop at s)) k 0) (get_or ls k [])
lists_held s nm h no_list k l = absurd (not-suc-le-zero l)
lists_held s nm {at = at} h (one_list {n = n} {e = e} w v) zero l =
    let place : at ≡ get_or (found_in s nm (suc n) (drop at s)) zero 0 =
    sym (ap (λ (x : List ℕ). get_or x zero 0) (found_more s nm n at e w.value w.reads w.passes) ∙ place_drop s at h) in
    subst (λ (x : ℕ). ListIs s nm x w.value) place (list_is s nm at w.value _ w.passes w.reads)
lists_held s nm {at = at} h (one_list {n = n} {e = e} {ls = ls} w v) (suc k) l =
    subst (λ (x : List ℕ). ListIs s nm (get_or x (suc k) 0) (get_or ls k [])) (sym (found_more s nm n at e w.value w.reads w.passes))
    (lists_held s nm w.fits v k (le_of_suc-le-suc l))

lists_length : (s nm : List ℕ) {n at end : ℕ} {ls : List (List Rule)} → ListsAt s nm n at ls end → length ls ≡ n
lists_length s nm no_list = refl
lists_length s nm (one_list w l) = ap suc (lists_length s nm l)

-- ---- the strings of the names' bytes

written_strings : (f : ℕ) (xs : List (List ℕ)) → length (written xs) ≤ f → strings f (written xs) ≡ xs
unfolding written
written_strings f [] h = strings_none f
written_strings zero (t ∷ ts) h = absurd (not-suc-le-zero h)
written_strings (suc f) (t ∷ ts) h = strings_one f t (written ts) ∙ ap (λ (x : List (List ℕ)). t ∷ x) (written_strings f ts (omega (arith, length-append t (written ts))))

-- ---- guessing

many_some : {A : Type 0} (f : List ℕ → Read A) (n : ℕ) (l : List ℕ) (xs : List A) (r : List ℕ) → read_many f n l ≡ got xs r → read_some f n l ≡ xs
unfolding read_many read_some behind
many_some f zero l xs r e = cc
many_some f (suc n) l xs r e =
    let i = then_inv (f l) _ xs r e in
    let j = then_inv (read_many f n i.1) _ xs r i.3 in
    let whole : i.0 ∷ j.0 ≡ xs = cc in
    rw i.2 (ap (λ (y : List _). i.0 ∷ y) (many_some f n i.1 j.0 j.1 j.2) ∙ whole)

guesses_all : (s : List ℕ) (place : ℕ) (gs : List Guess) (q : List ℕ) → read_guesses (drop place s) ≡ got gs q → guesses_at s place ≡ gs
unfolding read_guesses guesses_at behind
guesses_all s place gs q e =
    let i = then_inv (read_number 2 (drop place s)) _ gs q e in
    rw i.2 (many_some read_guess i.0 i.1 gs q i.3)

-- a guessing section: its count, and so many rules behind it
pub record GuessSection (s : List ℕ) (place : ℕ) : Type 0 where
  pub few : rule_count s place ≤ 4096
  pub fits : place + 2 ≤ length s
  pub rest : List ℕ
  pub reads : read_many read_guess (rule_count s place) (drop (place + 2) s) ≡ got (guesses_at s place) rest

guess_section : (s : List ℕ) (place n : ℕ) (gs : List Guess) (q : List ℕ) → read_guesses (drop place s) ≡ got gs q → guesses_good n gs ≡ true → GuessSection s place
unfolding read_guesses guesses_good rule_count count_in number_at number_in
guess_section s place n gs q e g =
    let i = then_inv (read_number 2 (drop place s)) _ gs q e in
    let w = count_of s place _ (number i.0 (place_in s i.1)) refl (ap (number_in s) i.2) in
    let rest : i.1 ≡ drop (place + 2) s = (let o = sym i.2 ∙ w.reads in cc) ∙ ap (λ (k : ℕ). drop k s) w.ends in
    let count : rule_count s place ≡ i.0 = ap count_in i.2 in
    record {
      few = omega (arith, count, many_length read_guess i.0 i.1 gs q i.3, leb-true (length gs) 4096 (and_inv _ _ g).0);
      fits = omega (arith, w.fits, w.ends);
      rest = q;
      reads = ap₂ (λ (k : ℕ) (l : List ℕ). read_many read_guess k l) count (sym rest) ∙ i.3 ∙ ap (λ (l : List Guess). got l q) (sym (guesses_all s place gs q e));
    }

-- ---- what an accepted pack gives, where g is the place of its guessing section

module _ (s : List ℕ) (p : Pack) (g : ℕ) (e : pack_of s ≡ accepted p) (q : g ≡ 1 + strings_length p.names) where
  is : IsPack s p
  is = is_pack s p e

  place_is : is.guesses ≡ g
  place_is = names_end s is.guesses is.front ∙ ap (λ (ns : List (List ℕ)). 1 + strings_length ns) is.names ∙ sym q

  -- at most 32 languages
  pub languages_few : length p.names ≤ 32
  languages_few = omega (arith, names_few s is.guesses is.front, ap length is.names)

  -- the names' bytes end with the pack
  pub guesses_within : g ≤ length s
  guesses_within = omega (arith, is.front.fits, place_is)

  -- the names' bytes are the names, each behind its length byte
  pub names_held : take (g - 1) (drop 1 s) ≡ written p.names
  names_held =
      let w = is.front in
      let size : g - 1 ≡ length (written w.value) = omega (arith, written_length w.value, ap strings_length is.names) in
      ap₂ take size (names_written s w.value _ w.reads) ∙ take-append_seam (written w.value) (drop is.guesses s) ∙ ap written is.names

  -- their strings are the names
  pub names_strings : strings_of (take (g - 1) (drop 1 s)) ≡ p.names
  names_strings = ap strings_of names_held ∙ strings_all (written p.names) ∙ written_strings _ p.names (omega arith)

  -- the guessing rules at g are the pack's
  pub guesses_held : guesses_at s g ≡ p.guesses
  guesses_held = ap (guesses_at s) (sym place_is) ∙ guesses_all s is.guesses is.middle.value _ is.middle.reads ∙ is.rules

  pub guesses_whole : GuessSection s g
  guesses_whole = subst (GuessSection s) place_is (guess_section s is.guesses _ _ _ is.middle.reads is.middle.passes)

  -- so a guess by the numbers of a survey is a guess by the pack's rules
  pub guess_told_lem : (name : List ℕ) → guessed_at s g (length p.names) name ≡ guessed (length p.names) p.guesses name
  unfolding guessed_at
  guess_told_lem name =
      let n : min 32 (length p.names) ≡ length p.names = omega (arith, languages_few) in
      ap₂ (λ (k : ℕ) (gs : List Guess). guessed k gs name) n guesses_held

  -- for each language three lists, and two more
  pub lists_counted : length p.lists ≡ list_count (length p.names)
  lists_counted = lists_length s _ is.lists

  nm_is : take (is.guesses - 1) (drop 1 s) ≡ take (g - 1) (drop 1 s)
  nm_is = ap (λ (k : ℕ). take (k - 1) (drop 1 s)) place_is

  places_are : places_of s ≡ found_in s (take (g - 1) (drop 1 s)) (list_count (length p.names)) (drop (is.counted + 1) s)
  unfolding rest_places
  places_are =
      let reads : read_byte (drop is.counted s) ≡ got (list_count (length p.names)) (drop (is.counted + 1) s) =
      byte_some s is.counted is.room ∙ ap (λ (n : ℕ). got n (drop (is.counted + 1) s)) is.count in
      let n : list_count (length p.names) ≡ list_count (length is.front.value) = ap (λ (ns : List (List ℕ)). list_count (length ns)) (sym is.names) in
      rest_places_lem s is.guesses is.front is.counted is.middle
      ∙ judge_fine _ _ _ _ (list_count (length p.names)) _ reads (eq-eqb _ _ n)
      ∙ ap (λ (l : List ℕ). found_in s l (list_count (length p.names)) (drop (is.counted + 1) s)) nm_is

  lists_here : ListsAt s (take (g - 1) (drop 1 s)) (list_count (length p.names)) (is.counted + 1) p.lists (length s)
  lists_here = subst (λ (l : List ℕ). ListsAt s l (list_count (length p.names)) (is.counted + 1) p.lists (length s)) nm_is is.lists

  -- a place for each
  pub places_counted : length (places_of s) ≡ list_count (length p.names)
  places_counted = ap length places_are ∙ lists_found s _ lists_here

  -- and at the k-th place the k-th list
  pub list_held : (k : ℕ) → k < list_count (length p.names) → ListIs s (take (g - 1) (drop 1 s)) (get_or (places_of s) k 0) (get_or p.lists k [])
  list_held k h =
      let room : is.counted + 1 ≤ length s = omega (arith, is.room) in
      subst (λ (l : List ℕ). ListIs s (take (g - 1) (drop 1 s)) (get_or l k 0) (get_or p.lists k [])) (sym places_are) (lists_held s _ room lists_here k h)

  -- so what is read at the k-th place is the k-th list
  pub list_told : (k : ℕ) → k < list_count (length p.names) → list_at s (get_or (places_of s) k 0) ≡ get_or p.lists k []
  list_told k h = list_some s _ _ _ (list_held k h)

  pub list_fits : (k : ℕ) → k < list_count (length p.names) → get_or (places_of s) k 0 ≤ length s
  list_fits k h = omega (arith, (list_held k h).fits)

-- the pack whose numbers a survey gives
pub record SurveyedPack (s : List ℕ) (n g : ℕ) : Type 0 where
  pub pack : Pack
  pub is : pack_of s ≡ accepted pack
  pub languages : n ≡ length pack.names
  pub guesses : g ≡ 1 + strings_length pack.names

surveyed_by : (s : List ℕ) (n g : ℕ) (v : Verdict) → pack_of s ≡ v → surveyed_of v ≡ surveyed.Accepted n g → SurveyedPack s n g
unfolding surveyed_of
surveyed_by s n g (accepted p) e q = record { pack = p; is = e; languages = cc; guesses = cc }
surveyed_by s n g (refused k) e q = clash (cc)

pub surveyed_pack : (s : List ℕ) (n g : ℕ) (r : Surveyed) → r ≡ surveyed_of (pack_of s) → r ≡ surveyed.Accepted n g → SurveyedPack s n g
surveyed_pack s n g r p q = surveyed_by s n g _ refl (sym p ∙ q)

-- ---- a guess has only bits of the listed languages

narrow_below : (n : ℕ) (name : List ℕ) (g : Guess) (m : ℕ) → m < 2 ^ n → narrowed_by name g m < 2 ^ n
unfolding narrowed_by
narrow_below n name g m h =
    pick_all (λ (x : ℕ). x < 2 ^ n) (matches_of g.pattern name) _ m
    (pick_all (λ (x : ℕ). x < 2 ^ n) (eqb g.accept 0) _ _ (without_below n m g.mask _ refl h) (lt_of_le_of_lt (and_le_l m g.mask) h)) h

all_below : (n : ℕ) (name : List ℕ) (gs : List Guess) (m : ℕ) → m < 2 ^ n → narrowed_by_all name gs m < 2 ^ n
unfolding narrowed_by_all
all_below n name [] m h = h
all_below n name (g ∷ gs) m h = all_below n name gs (narrowed_by name g m) (narrow_below n name g m h)

start_below : (n : ℕ) → all_listed n < 2 ^ n
unfolding all_listed
start_below n = omega (arith, pow_pos n)

pub guessed_below : (n : ℕ) (gs : List Guess) (name : List ℕ) → BitsBelow n (guessed n gs name)
unfolding guessed left_over
guessed_below n gs name =
    pick_all (BitsBelow n) (eqb (narrowed_by_all name gs (all_listed n)) 0) Any _ (any_below n) (mask_below n _ (all_below n name gs (all_listed n) (start_below n)))

pub guess_below : (s : List ℕ) (place n : ℕ) (name : List ℕ) (r : LanguageSet) → r ≡ guessed_at s place n name → n ≤ 32 → BitsBelow n r
unfolding guessed_at
guess_below s place n name r e h =
    let k : min 32 n ≡ n = omega arith in
    subst (BitsBelow n) (sym (e ∙ ap (λ (m : ℕ). guessed m (guesses_at s place) name) k)) (guessed_below n (guesses_at s place) name)
