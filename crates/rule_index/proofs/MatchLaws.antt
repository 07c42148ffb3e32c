-- The first rule that matches at a place of a word: the loop over the rules to try, and what its answer tells. Assumes nothing.
use Rattle.rule_index.specs.Places.{matched}
use Rattle.rule_index.specs.declared.matching.Matched.{Matched}
use Rattle.pack.specs.declared.rules.RuleAt.{RuleAt}
use Rattle.std.specs.Prelude.{Option, Some, None}
use borrow.Author.Rules.{rules}
use mathlib.Core.Path.{◌≡◌, refl, sym, ap, ap₂, subst, ◌∙◌}
use mathlib.Core.Bool.{Bool, true, false}
use mathlib.Core.List.{List, [], ◌∷◌}
use Prim.Native.Nat.{ℕ, zero, suc, ◌+◌, ◌-◌, ◌%◌, ◌≤◌, ◌<◌, max}
use native.Mathlib.Nat.{sub-zero}
use native.Mathlib.Omega.{arith}
use native.Mathlib.Numerals.{add-one}
use lib.Dec.{eqb}
use lib.ListN.{length, get_or, take, drop, length-take, length-drop}
use mir.Syntax.{w8}
use mir.Val.{Fits}
use borrow.Author.Tests.{lt-ltb, le-ltb}
use Rattle.base.specs.Pick.{pick}
use Rattle.base.proofs.PickLaws.{pick_true, pick_false, pick_all, and_yes, and_first, and_second, and_rest, and_none}
use Rattle.rule.specs.Matching.{rule_matches}
use Rattle.phonemes.proofs.Laws.{match_end}
use Rattle.strings.specs.Reading.{cut, got}
use Rattle.pack.specs.Packs.{read_rule}
use Rattle.rule_lines.specs.Rules.{Rule}
use Rattle.pack.specs.PlaceContracts.{rule_stands_at}
use Rattle.strings.specs.InnerContracts.{behind, ByteIs}
use Rattle.texts.specs.Parts.{first_byte, last_byte}
use Rattle.texts.specs.Signatures.{bit_of, has_bits}
use Rattle.base.proofs.Stores.{rest_is}
use Rattle.strings.proofs.Readers.{place_drop}
use Rattle.pack.proofs.RuleLaws.{RuleIs, rule_is, rule_cut, pattern_order, pattern_fits, left_order, left_fits, right_order, right_fits}
use Rattle.pack.proofs.Laws.{short_expression}
use Rattle.rule_index.specs
use specs.Matching.{Match, none, by, first_match}
use Rattle.pack.specs.PlaceContracts.{NUMBERS}
use specs.Rows.{places_row, leads_row, before_row, behind_row, noted_at}
use specs.InnerContracts.{rules_between, lead_of, rule_in, rule_of, tried_by, tried_at, FrontIs, numbered, found_in, matcher, RuleIn, MatchIs, seen, seen_in}
use Rattle.rule_index.proofs.RowLaws.{or_else, first_append}
use specs.declared
use declared.numbers.Front.{Front}

-- ---- the rules between two places, from the front

between_done : (f : ℕ) (s : List ℕ) (at stop : ℕ) → stop ≤ at → rules_between f s at stop ≡ []
unfolding rules_between
between_done zero s at stop h = refl
between_done (suc f) s at stop h = pick_false _ _ _ (le-ltb _ _ h)

between_cut : (f : ℕ) (s : List ℕ) (at stop : ℕ) → read_rule (drop at s) ≡ cut → rules_between f s at stop ≡ []
unfolding rules_between behind
between_cut zero s at stop e = refl
between_cut (suc f) s at stop e = rw e (pick_all (λ (l : List Rule). l ≡ []) _ _ _ refl refl)

between_one : (f : ℕ) (s : List ℕ) (at stop next : ℕ) (r : Rule) → at < stop → stop ≤ at + f → next ≤ length s → read_rule (drop at s) ≡ got r (drop next s)
    → rules_between f s at stop ≡ r ∷ rules_between (f - 1) s next stop
unfolding rules_between behind
between_one zero s at stop next r h l m e = let no_way : ⊥ = omega arith in absurd no_way
between_one (suc f) s at stop next r h l m e =
    let k : suc f - 1 ≡ f = omega arith in
    pick_true _ _ _ (lt-ltb _ _ h) ∙ rw (e, place_drop s next m, k) refl

-- ---- the loop: none before `at` matched

pub record Finding (s word : List ℕ) (place : ℕ) (m : Match) (at stop : ℕ) : Type 0 where
  pub bytes : (i : ℕ) → Fits w8 (get_or s i 0)
  pub here : place < length word
  pub fuel : ℕ
  pub enough : stop ≤ at + fuel
  pub is : m ≡ first_match (rules_between fuel s at stop) word place

pub finding_start : (s word : List ℕ) (place start stop : ℕ) → ((i : ℕ) → Fits w8 (get_or s i 0)) → place < length word
    → Finding s word place (first_match (rules_between stop s start stop) word place) start stop
finding_start s word place start stop b h = record { bytes = b; here = h; fuel = stop; enough = omega arith; is = refl }

-- what the first of two lists has goes before
found_first : (s word : List ℕ) (place : ℕ) (m n : Match) (found : Matched) → MatchIs s word place m (Some found) → MatchIs s word place (or_else m n) (Some found)
unfolding MatchIs or_else
found_first s word place none n found v = absurd v
found_first s word place (by r) n found v = v

missed_first : (s word : List ℕ) (place : ℕ) (m n : Match) → MatchIs s word place m None → or_else m n ≡ n
unfolding MatchIs or_else
missed_first s word place none n v = refl
missed_first s word place (by r) n v = absurd v

-- none is left to try
nothing_left : (s word : List ℕ) (place : ℕ) (l : List Rule) → l ≡ [] → MatchIs s word place (first_match l word place) None
unfolding first_match MatchIs
nothing_left s word place l e = subst (λ (l : List Rule). MatchIs s word place (first_match l word place) None) (sym e) tt

-- the rule at a place, tried
module _ (s : List ℕ) (at : ℕ) (x : Option RuleAt) (o : x ≡ rule_stands_at s at) (spans : RuleAt) (q : x ≡ Some spans) where
  rule_here : RuleIs s at spans.pattern.start spans.pattern.end spans.left.start spans.left.end spans.right.start spans.right.end spans.expression.start spans.expression.end
  rule_here = rule_is s at x o spans q

  rule_forward : at < spans.expression.end
  rule_forward =
      let v = rule_here in omega arith

  module _ (word : List ℕ) (place : ℕ) (t : Bool) (k : t ≡ rule_matches (take (spans.pattern.end - spans.pattern.start) (drop spans.pattern.start s)) (take (spans.left.end - spans.left.start) (drop spans.left.start s)) (take (spans.right.end - spans.right.start) (drop spans.right.start s)) word place) where
    test : t ≡ rule_matches rule_here.value.pattern rule_here.value.left rule_here.value.right word place
    test = k ∙ (λ i. rule_matches (rule_here.pattern i) (rule_here.left i) (rule_here.right i) word place)

    tested : (rs : List Rule) → first_match (rule_here.value ∷ rs) word place ≡ pick t (by rule_here.value) (first_match rs word place)
    unfolding first_match
    tested rs = ap (λ (u : Bool). pick u (by rule_here.value) (first_match rs word place)) (sym test)

    rule_told_lem : ((i : ℕ) → Fits w8 (get_or s i 0)) → place < length word → (step : ℕ) → t ≡ true → step ≡ max 1 (spans.pattern.end - spans.pattern.start) → MatchIs s word place (by rule_here.value) (Some (matched step spans.expression))
    unfolding MatchIs
    rule_told_lem bytes here step z y =
        let v = rule_here in
        let size : spans.pattern.end - spans.pattern.start ≡ length v.value.pattern = omega (arith, ap length v.pattern, length-take (spans.pattern.end - spans.pattern.start) (drop spans.pattern.start s), length-drop spans.pattern.start s, pattern_fits s at x o spans q) in
        record {
          passes = omega arith;
          within = omega (arith, match_end _ _ _ word place t test z);
          order = v.seven;
          fits = v.fits;
          expression = v.expression;
          short = omega (arith, short_expression s at v.value _ (λ i. omega (arith, bytes i)) v.reads, ap length v.expression, length-take (spans.expression.end - spans.expression.start) (drop spans.expression.start s), length-drop spans.expression.start s);
        }

    rule_found : ((i : ℕ) → Fits w8 (get_or s i 0)) → place < length word → (rs : List Rule) (step : ℕ) → t ≡ true → step ≡ max 1 (spans.pattern.end - spans.pattern.start) → MatchIs s word place (first_match (rule_here.value ∷ rs) word place) (Some (matched step spans.expression))
    rule_found bytes here rs step z y = subst (λ (m : Match). MatchIs s word place m (Some (matched step spans.expression))) (sym (tested rs ∙ pick_true _ _ _ z)) (rule_told_lem bytes here step z y)

module _ {s word : List ℕ} {place at stop : ℕ} {m : Match} (w : Finding s word place m at stop) where
  pub finding_done : stop ≤ at → MatchIs s word place m None
  finding_done h = rw w.is (nothing_left s word place _ (between_done _ _ _ _ h))

  module _ (x : Option RuleAt) (o : x ≡ rule_stands_at s at) where
    pub finding_cut : x ≡ None → MatchIs s word place m None
    finding_cut q = rw w.is (nothing_left s word place _ (between_cut _ _ _ _ (rule_cut s at x o q)))

    module _ (spans : RuleAt) (q : x ≡ Some spans) where
      finding_forward : at < spans.expression.end
      finding_forward = rule_forward s at x o spans q

      pub finding_less : at < stop → stop - spans.expression.end < stop - at
      finding_less n = omega (arith, finding_forward)

      module _ (n : at < stop) (t : Bool)
          (k : t ≡ rule_matches (take (spans.pattern.end - spans.pattern.start) (drop spans.pattern.start s)) (take (spans.left.end - spans.left.start) (drop spans.left.start s)) (take (spans.right.end - spans.right.start) (drop spans.right.start s)) word place) where
        in_front : m ≡ first_match ((rule_here s at x o spans q).value ∷ rules_between (w.fuel - 1) s spans.expression.end stop) word place
        in_front =
            let v = rule_here s at x o spans q in
            w.is ∙ ap (λ (l : List Rule). first_match l word place) (between_one _ s at stop spans.expression.end _ n w.enough v.fits v.reads)

        pub finding_next : t ≡ false → Finding s word place m spans.expression.end stop
        finding_next z = record {
          bytes = w.bytes;
          here = w.here;
          fuel = w.fuel - 1;
          enough = omega (arith, finding_forward);
          is = in_front ∙ tested s at x o spans q word place t k (rules_between (w.fuel - 1) s spans.expression.end stop) ∙ pick_false _ _ _ z;
        }

        pub finding_found : (step : ℕ) → t ≡ true → step ≡ max 1 (spans.pattern.end - spans.pattern.start) → MatchIs s word place m (Some (matched step spans.expression))
        finding_found step z y = rw in_front (rule_found s at x o spans q word place t k w.bytes w.here _ step z y)

pub ruleset finding_laws = (finding_start, finding_done, finding_cut, finding_less, finding_next, finding_found, pattern_order, pattern_fits, left_order, left_fits, right_order, right_fits, rules)

-- ---- one rule, by its place and by its number

module _ (s : List ℕ) (bytes : (i : ℕ) → Fits w8 (get_or s i 0)) (word : List ℕ) (place at : ℕ) (x : Option RuleAt) (o : x ≡ rule_stands_at s at) where
  pub one_cut : x ≡ None → MatchIs s word place (first_match (rule_in (read_rule (drop at s))) word place) None
  unfolding rule_in
  one_cut q = nothing_left s word place _ (ap rule_in (rule_cut s at x o q))

  module _ (spans : RuleAt) (q : x ≡ Some spans) (t : Bool)
      (k : t ≡ rule_matches (take (spans.pattern.end - spans.pattern.start) (drop spans.pattern.start s)) (take (spans.left.end - spans.left.start) (drop spans.left.start s)) (take (spans.right.end - spans.right.start) (drop spans.right.start s)) word place) where
    one_is : rule_in (read_rule (drop at s)) ≡ (rule_here s at x o spans q).value ∷ []
    unfolding rule_in
    one_is = ap rule_in (rule_here s at x o spans q).reads

    pub one_missed : t ≡ false → MatchIs s word place (first_match (rule_in (read_rule (drop at s))) word place) None
    unfolding first_match MatchIs
    one_missed z = rw (one_is, tested s at x o spans q word place t k [], pick_false t (by (rule_here s at x o spans q).value) none z) tt

    pub one_found : place < length word → (step : ℕ) → t ≡ true → step ≡ max 1 (spans.pattern.end - spans.pattern.start) → MatchIs s word place (first_match (rule_in (read_rule (drop at s))) word place) (Some (matched step spans.expression))
    one_found here step z y = rw one_is (rule_found s at x o spans q word place t k bytes here [] step z y)

pub ruleset one_laws = (one_cut, one_missed, one_found, pattern_order, pattern_fits, left_order, left_fits, right_order, right_fits, rules)

module _ (s : List ℕ) (table : List (List ℕ)) (number : ℕ) (word : List ℕ) (place : ℕ) {front : Front} (w : FrontIs word place front)
    (z : Bool) (ez : z ≡ tried_by table number front.one front.two front.before front.behind) where
  tried : tried_at table number word place ≡ z
  tried = sym (rw (w.one, w.two, w.before, w.behind) at ez)

  pub number_over : z ≡ false → MatchIs s word place (first_match (rule_of s table word place number) word place) None
  unfolding rule_of
  number_over e = nothing_left s word place _ (pick_false _ _ _ (tried ∙ e))

  pub number_tried : (at : ℕ) (r : Option Matched) → z ≡ true → at ≡ noted_at table places_row number
      → MatchIs s word place (first_match (rule_in (read_rule (drop at s))) word place) r → MatchIs s word place (first_match (rule_of s table word place number) word place) r
  unfolding rule_of
  number_tried at r e f v = rw (pick_true _ (rule_in (read_rule (drop (noted_at table places_row number) s))) [] (tried ∙ e), ← f) v

pub ruleset number_laws = (number_over, number_tried, rules)

-- ---- the marks of a number's rule

module _ (table : List (List ℕ)) (e one two before behind x : ℕ) (ex : x ≡ noted_at table leads_row e) (a : Bool) (ea : a ≡ pick (eqb x one) true (eqb x two)) where
  led : a ≡ pick (eqb (noted_at table leads_row e) one) true (eqb (noted_at table leads_row e) two)
  led = rw ex at ea

  pub tried_no : a ≡ false → false ≡ tried_by table e one two before behind
  unfolding tried_by
  tried_no q = and_none _ _ false (sym led ∙ q) refl

  module _ (q : a ≡ true) (y : ℕ) (ey : y ≡ noted_at table before_row e) (b : Bool) (eb : b ≡ has_bits y before) where
    pub tried_lacking : b ≡ false → false ≡ tried_by table e one two before behind
    unfolding tried_by
    tried_lacking v = and_rest _ _ false (sym led ∙ q) (and_none _ _ false (sym (rw ey at eb) ∙ v) refl)

    pub tried_as : b ≡ true → (z : ℕ) (r : Bool) → z ≡ noted_at table behind_row e → r ≡ has_bits z behind → r ≡ tried_by table e one two before behind
    unfolding tried_by
    tried_as v z r ez er = and_rest _ _ r (sym led ∙ q) (and_rest _ _ r (sym (rw ey at eb) ∙ v) (rw ez at er))

pub ruleset tried_laws = (tried_no, tried_lacking, tried_as, rules)

-- ---- what a word has at a place

pub front_is : (word : List ℕ) (place one two l before f behind : ℕ) → ByteIs (take (length word - place) (drop place word)) 0 one → two ≡ lead_of (take (length word - place) (drop place word))
    → l ≡ last_byte (take (place - 0) word) → before ≡ bit_of l → f ≡ first_byte (take (length word - (place + 1)) (drop (place + 1) word)) → behind ≡ bit_of f
    → FrontIs word place (record { one = one; two = two; before = before; behind = behind })
front_is word place one two l before f behind o t el eb ef eh =
    let rest = rest_is word place in
    record {
      one = o.is ∙ ap (λ (x : List ℕ). first_byte x) rest;
      two = t ∙ ap (λ (x : List ℕ). lead_of x) rest;
      before = eb ∙ ap (λ (b : ℕ). bit_of b) (el ∙ ap (λ (n : ℕ). last_byte (take n word)) (sub-zero place));
      behind = eh ∙ ap (λ (b : ℕ). bit_of b) (ef ∙ ap (λ (x : List ℕ). first_byte x) (rest_is word (place + 1)));
    }

pub ruleset front_laws = (front_is, rules)

-- ---- the loop over the numbers: none before `number` matched

pub record NumbersLeft (s : List ℕ) (table : List (List ℕ)) (word : List ℕ) (place : ℕ) (m : Match) (number stop : ℕ) : Type 0 where
  pub is : m ≡ first_match (numbered s table word place number (stop - number)) word place

pub left_numbers_start : (s : List ℕ) (table : List (List ℕ)) (word : List ℕ) (place start stop : ℕ)
    → NumbersLeft s table word place (first_match (numbered s table word place start (stop - start)) word place) start stop
left_numbers_start s table word place start stop = record { is = refl }

module _ {s : List ℕ} {table : List (List ℕ)} {word : List ℕ} {place : ℕ} {m : Match} {number stop : ℕ} (w : NumbersLeft s table word place m number stop) where
  pub left_numbers_done : stop ≤ number → MatchIs s word place m None
  unfolding numbered
  left_numbers_done h =
      let none_more : stop - number ≡ 0 = omega arith in
      rw w.is (nothing_left s word place _ (ap (numbered s table word place number) none_more))

  module _ (h : number < stop) (r : Option Matched) (v : MatchIs s word place (first_match (rule_of s table word place number) word place) r) where
    one_more_lem : m ≡ or_else (first_match (rule_of s table word place number) word place) (first_match (numbered s table word place (number + 1) (stop - (number + 1))) word place)
    unfolding numbered
    one_more_lem =
        let left : stop - number ≡ suc (stop - (number + 1)) = omega arith in
        w.is ∙ ap (λ (n : ℕ). first_match (numbered s table word place number n) word place) left
        ∙ first_append (rule_of s table word place number) _ word place
        ∙ rw add-one refl

    pub left_numbers_found : (found : Matched) → r ≡ Some found → MatchIs s word place m (Some found)
    left_numbers_found found e = rw one_more_lem (found_first s word place _ _ found (rw e at v))

    pub left_numbers_next : r ≡ None → NumbersLeft s table word place m (number + 1) stop
    left_numbers_next e = record { is = one_more_lem ∙ missed_first s word place _ _ (rw e at v) }

pub ruleset left_numbers_laws = (left_numbers_start, left_numbers_done, left_numbers_found, left_numbers_next, rules)

-- ---- the look-up

module _ (s : List ℕ) (table : List (List ℕ)) (start stop : ℕ) (word : List ℕ) (place : ℕ) (r : Option Matched) where
  pub found_placed : NUMBERS < stop → (from to : ℕ) → from ≡ start - NUMBERS → to ≡ stop - NUMBERS
      → MatchIs s word place (first_match (rules_between to s from to) word place) r → MatchIs s word place (found_in s table start stop word place) r
  unfolding found_in
  found_placed h from to f t w = rw (pick_true _ _ _ (lt-ltb NUMBERS stop h), ← f, ← t) w

  pub found_numbered : stop ≤ NUMBERS → MatchIs s word place (first_match (numbered s table word place start (stop - start)) word place) r
      → MatchIs s word place (found_in s table start stop word place) r
  unfolding found_in
  found_numbered h w = rw (pick_false _ _ _ (le-ltb NUMBERS stop h)) w

pub ruleset found_laws = (found_placed, found_numbered, rules)

module _ (s : List ℕ) (table : List (List ℕ)) (list : ℕ) (word : List ℕ) (place : ℕ) where
  no_match : matcher s table list word place ≡ none → MatchIs s word place (matcher s table list word place) None
  unfolding MatchIs
  no_match e = subst (λ (m : Match). MatchIs s word place m None) (sym e) tt

  pub unlisted : 98 ≤ list → MatchIs s word place (matcher s table list word place) None
  unfolding matcher
  unlisted h = no_match (pick_false _ _ _ (and_first _ _ (le-ltb _ _ h)))

  pub unplaced : list < 98 → length word ≤ place → MatchIs s word place (matcher s table list word place) None
  unfolding matcher
  unplaced h k = no_match (pick_false _ _ _ (and_second _ _ (lt-ltb _ _ h) (le-ltb _ _ k)))

  pub looked_up : (r : Option Matched) (b : ℕ) → list < 98 → place < length word → b ≡ get_or word place 0
      → MatchIs s word place (found_in s table (get_or (get_or table list []) (b % 64) 0) (get_or (get_or table list []) (b % 64 + 64) 0) word place) r
      → MatchIs s word place (matcher s table list word place) r
  unfolding matcher
  looked_up r b h k e w = subst (λ (m : Match). MatchIs s word place m r) (sym (pick_true _ _ _ (and_yes _ _ (lt-ltb _ _ h) (lt-ltb _ _ k)))) (rw (← e) w)

pub ruleset look_laws = (unlisted, unplaced, looked_up, rules)

-- ---- what the answer tells a caller

-- the rule that matched, and where it stands
pub record Matching (s word : List ℕ) (place : ℕ) (m : Match) (step start end : ℕ) : Type 0 where
  pub value : Rule
  pub is : m ≡ by value
  pub placed : RuleIn s word place value step start end

matched_at : (s word : List ℕ) (place : ℕ) (m : Match) (found : Matched) → MatchIs s word place m (Some found) → Matching s word place m found.step found.expression.start found.expression.end
unfolding MatchIs
matched_at s word place none found x = absurd x
matched_at s word place (by r) found x = record { value = r; is = refl; placed = x }

unmatched_at : (s word : List ℕ) (place : ℕ) (m : Match) → MatchIs s word place m None → m ≡ none
unfolding MatchIs
unmatched_at s word place none x = refl
unmatched_at s word place (by r) x = absurd x

module _ (s word : List ℕ) (place : ℕ) (m : Match) (r : Option Matched) (e : MatchIs s word place m r) where
  pub match_by : (found : Matched) → r ≡ Some found → Matching s word place m found.step found.expression.start found.expression.end
  match_by found q = matched_at s word place m found (subst (MatchIs s word place m) q e)

  pub match_none : r ≡ None → m ≡ none
  match_none q = unmatched_at s word place m (subst (MatchIs s word place m) q e)

-- the promise of `first_match` allows one answer, but for where an expression stands that stands twice
pub match_one : (s word : List ℕ) (place : ℕ) (m : Match) (r r' : Option Matched) → MatchIs s word place m r → MatchIs s word place m r' → seen_in s r ≡ seen_in s r'
unfolding MatchIs seen_in
match_one s word place none None None x y = refl
match_one s word place none None (Some found) x y = absurd y
match_one s word place none (Some found) r x y = absurd x
match_one s word place (by v) None r x y = absurd x
match_one s word place (by v) (Some found) None x y = absurd y
match_one s word place (by v) (Some found) (Some again) x y = ap₂ seen (x.passes ∙ sym y.passes) (x.expression ∙ sym y.expression)
