-- A rule by its places, and the loop over a list. Assumes nothing.
use Rattle.std.proofs.lemmas.Option.{same_Some}
use Rattle.pack.specs.Places.{rule_spans}
use Rattle.pack.specs.declared.rules.RuleAt.{RuleAt}
use Rattle.strings.specs.declared.Number.{Number}
use Rattle.strings.specs.declared.Span.{Span}
use borrow.Author.Rules.{rules}
use Rattle.std.specs.Prelude.{Option, Some, None}
use Rattle.std.proofs.lemmas.Option.{some_pair_parts}
use mathlib.Core.Path.{◌≡◌, refl, sym, ap, ap₂, subst, ◌∙◌}
use mathlib.Core.Bool.{Bool, true, false}
use mathlib.Core.List.{List, [], ◌∷◌}
use Prim.Native.Nat.{ℕ, zero, suc, ◌+◌, ◌-◌, ◌%◌, ◌≤◌, ◌<◌, zero-le}
use native.Mathlib.Omega.{arith}
use lib.Dec.{leb}
use lib.ListN.{length, take, drop, length-take, length-drop}
use borrow.Author.Tests.{le-leb, lt-leb}
use Rattle.base.specs.Pick.{pick, and}
use Rattle.rule.specs.Matching.{first_code}
use Rattle.strings.specs.Reading.{Read, cut, got, and_read, read_many, place_in}
use Rattle.pack.specs
use specs.Packs.{read_rule, read_list, all, ordered_by_code, list_good}
use Rattle.rule_lines.specs.Rules.{Rule, rule, rule_good}
use specs.PlaceContracts.{judge, placed_from, placed_rule, rule_stands_at, count_in, rule_count, NUMBERS, noted_in, placed_in, row_from}
use specs.InnerContracts.{end_in, all_from, rule_fits, rules_from, ruled_in, RulesNoted, ListNoted}
use Rattle.strings.specs.InnerContracts.{ByteIs, behind, number_at, string_at}
use Rattle.pack.proofs
use proofs.Readers.{rule_ends}
use Rattle.strings.proofs.Readers.{end_here, end_then, end_is, end_within, place_drop, count_of, count_cut, TextIs, text_is, text_cut, TextRead, TextThen, reads_on, text_then}
use Rattle.base.proofs.Arms.{clash}
use proofs.Judging.{Faulty, runs_out, Judged, fine, faulty, judged, judge_faulty, walk_on, walk_off, walk_end, counted_cut, counted_much, counted_many}
use Rattle.base.proofs.PickLaws.{and_yes, and_first, and_second}

-- ---- the strings of a rule, one after the other

part_length : (s : List ℕ) (p a e : ℕ) → TextIs s p a e → length (take (e - a) (drop a s)) ≡ e - a
part_length s p a e w = omega (arith, length-take (e - a) (drop a s), length-drop a s)

module _ (s : List ℕ) (place : ℕ) (x₁ : Option Span) (g₁ : x₁ ≡ string_at s place) where
  pub rule_cut_1 : x₁ ≡ None → None ≡ rule_stands_at s place
  unfolding rule_stands_at placed_rule read_rule and_read
  rule_cut_1 q = rw (text_cut s place x₁ g₁ q) refl

  module _ (part : Span) (q₁ : x₁ ≡ Some part) (x₂ : Option Span) (g₂ : x₂ ≡ string_at s part.end) where
    pub rule_cut_2 : x₂ ≡ None → None ≡ rule_stands_at s place
    unfolding rule_stands_at placed_rule read_rule and_read
    rule_cut_2 q = let w = text_is s place x₁ g₁ part q₁ in rw (w.reads, text_cut s part.end x₂ g₂ q) refl

    module _ (part₂ : Span) (q₂ : x₂ ≡ Some part₂) (x₃ : Option Span) (g₃ : x₃ ≡ string_at s part₂.end) where
      pub rule_cut_3 : x₃ ≡ None → None ≡ rule_stands_at s place
      unfolding rule_stands_at placed_rule read_rule and_read
      rule_cut_3 q =
          let w = text_is s place x₁ g₁ part q₁ in
          let v = text_is s part.end x₂ g₂ part₂ q₂ in
          rw (w.reads, v.reads, text_cut s part₂.end x₃ g₃ q) refl

      module _ (part₃ : Span) (q₃ : x₃ ≡ Some part₃) (x₄ : Option Span) (g₄ : x₄ ≡ string_at s part₃.end) where
        pub rule_cut_4 : x₄ ≡ None → None ≡ rule_stands_at s place
        unfolding rule_stands_at placed_rule read_rule and_read
        rule_cut_4 q =
            let w = text_is s place x₁ g₁ part q₁ in
            let v = text_is s part.end x₂ g₂ part₂ q₂ in
            let u = text_is s part₂.end x₃ g₃ part₃ q₃ in
            rw (w.reads, v.reads, u.reads, text_cut s part₃.end x₄ g₄ q) refl

        pub rule_whole : (part₄ : Span) → x₄ ≡ Some part₄ → Some (rule_spans part.start part.end part₂.start part₂.end part₃.start part₃.end part₄.start part₄.end) ≡ rule_stands_at s place
        unfolding rule_stands_at placed_rule placed_from read_rule and_read
        rule_whole part₄ q₄ =
            let w = text_is s place x₁ g₁ part q₁ in
            let v = text_is s part.end x₂ g₂ part₂ q₂ in
            let u = text_is s part₂.end x₃ g₃ part₃ q₃ in
            let t = text_is s part₃.end x₄ g₄ part₄ q₄ in
            let l₁ = part_length s place part.start part.end w in
            let l₂ = part_length s part.end part₂.start part₂.end v in
            let l₃ = part_length s part₂.end part₃.start part₃.end u in
            let l₄ = part_length s part₃.end part₄.start part₄.end t in
            let p : ℕ = length (take (part.end - part.start) (drop part.start s)) in
            let l : ℕ = length (take (part₂.end - part₂.start) (drop part₂.start s)) in
            let r : ℕ = length (take (part₃.end - part₃.start) (drop part₃.start s)) in
            let f₁ : part.end ≡ place + 1 + p = omega arith in
            let f₂ : part₂.end ≡ place + 2 + p + l = omega arith in
            let f₃ : part₃.end ≡ place + 3 + p + l + r = omega arith in
            let f₄ : part₄.end ≡ place + 4 + p + l + r + length (take (part₄.end - part₄.start) (drop part₄.start s)) = omega arith in
            let g₁ : part.start ≡ place + 1 = w.begins in
            let g₂ : part₂.start ≡ place + 2 + p = omega arith in
            let g₃ : part₃.start ≡ place + 3 + p + l = omega arith in
            let g₄ : part₄.start ≡ place + 4 + p + l + r = omega arith in
            rw (w.reads, v.reads, u.reads, t.reads) (cc)

pub ruleset rule_at_laws = (rule_cut_1, rule_cut_2, rule_cut_3, rule_cut_4, rule_whole, rules)

-- a rule that is read, by its texts
pub record RuleRead (s : List ℕ) (at : ℕ) (r : Rule) (q : List ℕ) : Type 0 where
  pub pattern : TextRead s at r.pattern
  pub left : TextRead s (at + 1 + length r.pattern) r.left
  pub right : TextRead s (at + 1 + length r.pattern + 1 + length r.left) r.right
  pub expression : TextRead s (at + 1 + length r.pattern + 1 + length r.left + 1 + length r.right) r.expression
  pub rest : q ≡ drop (at + 1 + length r.pattern + 1 + length r.left + 1 + length r.right + 1 + length r.expression) s

-- the next string, and what is read behind it
pub record Then {B : Type 0} (s : List ℕ) (p : ℕ) (k : List ℕ → List ℕ → Read B) (b : B) (q : List ℕ) : Type 0 where
  pub text : List ℕ
  pub read : TextRead s p text
  pub rest : k text (drop (p + 1 + length text) s) ≡ got b q

pub then_text : {B : Type 0} {s : List ℕ} {p : ℕ} {k : List ℕ → List ℕ → Read B} {b : B} {q : List ℕ} → TextThen s p k b q → Then s p k b q
then_text (reads_on t w g) = record { text = t; read = w; rest = g }

pub rule_read : (s : List ℕ) (at : ℕ) (x : Rule) (q : List ℕ) → read_rule (drop at s) ≡ got x q → RuleRead s at x q
unfolding read_rule
rule_read s at x q g =
    let p = then_text (text_then s at _ x q g) in
    let f = then_text (text_then s (at + 1 + length p.text) _ x q p.rest) in
    let r = then_text (text_then s (at + 1 + length p.text + 1 + length f.text) _ x q f.rest) in
    let e = then_text (text_then s (at + 1 + length p.text + 1 + length f.text + 1 + length r.text) _ x q r.rest) in
    let parts = e.rest in
    let is : rule p.text f.text r.text e.text ≡ x = cc in
    let rest : drop (at + 1 + length p.text + 1 + length f.text + 1 + length r.text + 1 + length e.text) s ≡ q = cc in
    subst (λ (y : Rule). RuleRead s at y q) is (record { pattern = p.read; left = f.read; right = r.read; expression = e.read; rest = sym rest })

-- a rule at a place, by its places
pub record RuleIs (s : List ℕ) (at a b c d e f g h : ℕ) : Type 0 where
  pub value : Rule
  pub reads : read_rule (drop at s) ≡ got value (drop h s)
  pub begins : a ≡ at + 1
  pub one : a ≤ b
  pub two : b < c
  pub three : c ≤ d
  pub four : d < e
  pub five : e ≤ f
  pub six : f < g
  pub seven : g ≤ h
  pub fits : h ≤ length s
  pub pattern : take (b - a) (drop a s) ≡ value.pattern
  pub left : take (d - c) (drop c s) ≡ value.left
  pub right : take (f - e) (drop e s) ≡ value.right
  pub expression : take (h - g) (drop g s) ≡ value.expression

-- the part that a text is, by where it starts and ends
part_is : (s : List ℕ) (p a e : ℕ) (t : List ℕ) → TextRead s p t → a ≡ p + 1 → e ≡ p + 1 + length t → take (e - a) (drop a s) ≡ t
part_is s p a e t w f g = let n : e - a ≡ length t = omega arith in ap₂ (λ (x y : ℕ). take x (drop y s)) n f ∙ w.text

is_by : (s : List ℕ) (at : ℕ) (spans : RuleAt) (x : Read Rule) → read_rule (drop at s) ≡ x → placed_rule at x ≡ Some spans → RuleIs s at spans.pattern.start spans.pattern.end spans.left.start spans.left.end spans.right.start spans.right.end spans.expression.start spans.expression.end
unfolding placed_rule placed_from
is_by s at spans cut o k = clash (cc)
is_by s at spans (got r q) o k =
    let w = rule_read s at r q o in
    let same = same_Some _ _ k in
    let ea : at + 1 ≡ spans.pattern.start = ap (λ (x : RuleAt). x.pattern.start) same in
    let eb : at + 1 + length r.pattern ≡ spans.pattern.end = ap (λ (x : RuleAt). x.pattern.end) same in
    let ec : at + 2 + length r.pattern ≡ spans.left.start = ap (λ (x : RuleAt). x.left.start) same in
    let ed : at + 2 + length r.pattern + length r.left ≡ spans.left.end = ap (λ (x : RuleAt). x.left.end) same in
    let ee : at + 3 + length r.pattern + length r.left ≡ spans.right.start = ap (λ (x : RuleAt). x.right.start) same in
    let ef : at + 3 + length r.pattern + length r.left + length r.right ≡ spans.right.end = ap (λ (x : RuleAt). x.right.end) same in
    let eg : at + 4 + length r.pattern + length r.left + length r.right ≡ spans.expression.start = ap (λ (x : RuleAt). x.expression.start) same in
    let eh : at + 4 + length r.pattern + length r.left + length r.right + length r.expression ≡ spans.expression.end = ap (λ (x : RuleAt). x.expression.end) same in
    let fh : at + 1 + length r.pattern + 1 + length r.left + 1 + length r.right + 1 + length r.expression ≡ spans.expression.end = omega arith in
    record {
      value = r;
      reads = o ∙ ap (got r) (w.rest ∙ ap (λ (n : ℕ). drop n s) fh);
      begins = sym ea;
      one = omega arith;
      two = omega arith;
      three = omega arith;
      four = omega arith;
      five = omega arith;
      six = omega arith;
      seven = omega arith;
      fits = omega arith;
      pattern = part_is s at spans.pattern.start spans.pattern.end r.pattern w.pattern (sym ea) (sym eb);
      left = part_is s _ spans.left.start spans.left.end r.left w.left (omega arith) (omega arith);
      right = part_is s _ spans.right.start spans.right.end r.right w.right (omega arith) (omega arith);
      expression = part_is s _ spans.expression.start spans.expression.end r.expression w.expression (omega arith) (omega arith);
    }

cut_by : (s : List ℕ) (at : ℕ) (x : Read Rule) → read_rule (drop at s) ≡ x → placed_rule at x ≡ None → read_rule (drop at s) ≡ cut
unfolding placed_rule placed_from
cut_by s at cut g h = g
cut_by s at (got r q) g h = clash (cc)

module _ (s : List ℕ) (at : ℕ) (x : Option RuleAt) (o : x ≡ rule_stands_at s at) where
  pub rule_is : (spans : RuleAt) → x ≡ Some spans → RuleIs s at spans.pattern.start spans.pattern.end spans.left.start spans.left.end spans.right.start spans.right.end spans.expression.start spans.expression.end
  unfolding rule_stands_at
  rule_is spans q = is_by s at spans _ refl (sym o ∙ q)

  pub rule_cut : x ≡ None → read_rule (drop at s) ≡ cut
  unfolding rule_stands_at
  rule_cut q = cut_by s at _ refl (sym o ∙ q)

-- ---- the count of a list

pub rules_many : (s : List ℕ) (at : ℕ) (told : Number) (r : Option Number) → r ≡ number_at 2 s at → r ≡ Some told → told.value ≡ rule_count s at
unfolding rule_count count_in
rules_many s at told r p q = sym (ap count_in (count_of s at r told p q).reads)

pub rules_none : (s : List ℕ) (at : ℕ) (r : Option Number) → r ≡ number_at 2 s at → r ≡ None → 0 ≡ rule_count s at
unfolding rule_count count_in
rules_none s at r p q = sym (ap count_in (count_cut s at r p q))

pub ruleset count_laws = (rules_many, rules_none, rules)

-- ---- a rule behind another

module _ (s : List ℕ) (at : ℕ) (x : Option RuleAt) (o : x ≡ rule_stands_at s at) where
  pub next_cut : (names : List ℕ) (least : ℕ) → x ≡ None → None ≡ ruled_in s names least (read_rule (drop at s))
  unfolding ruled_in
  next_cut names least q = sym (judge_faulty _ _ _ _ (runs_out (rule_cut s at x o q)))

  module _ (spans : RuleAt) (q : x ≡ Some spans) where
    here : RuleIs s at spans.pattern.start spans.pattern.end spans.left.start spans.left.end spans.right.start spans.right.end spans.expression.start spans.expression.end
    here = rule_is s at x o spans q

    pub pattern_order : spans.pattern.start ≤ spans.pattern.end
    pattern_order = here.one

    pub pattern_fits : spans.pattern.end ≤ length s
    pattern_fits = let w = here in omega arith

    pub left_order : spans.left.start ≤ spans.left.end
    left_order = here.three

    pub left_fits : spans.left.end ≤ length s
    left_fits = let w = here in omega arith

    pub right_order : spans.right.start ≤ spans.right.end
    right_order = here.five

    pub right_fits : spans.right.end ≤ length s
    right_fits = let w = here in omega arith

    pub expression_order : spans.expression.start ≤ spans.expression.end
    expression_order = here.seven

    pub expression_fits : spans.expression.end ≤ length s
    expression_fits = here.fits

    -- the rule that the parts make
    parts : here.value ≡ rule (take (spans.pattern.end - spans.pattern.start) (drop spans.pattern.start s)) (take (spans.left.end - spans.left.start) (drop spans.left.start s)) (take (spans.right.end - spans.right.start) (drop spans.right.start s)) (take (spans.expression.end - spans.expression.start) (drop spans.expression.start s))
    parts = let w = here in λ i. record { pattern = sym w.pattern i; left = sym w.left i; right = sym w.right i; expression = sym w.expression i }

    module _ (names : List ℕ) (least code : ℕ) (k : code ≡ first_code (take (spans.pattern.end - spans.pattern.start) (drop spans.pattern.start s))) where
      ruled : (t : Bool) → rule_fits names least (rule (take (spans.pattern.end - spans.pattern.start) (drop spans.pattern.start s)) (take (spans.left.end - spans.left.start) (drop spans.left.start s)) (take (spans.right.end - spans.right.start) (drop spans.right.start s)) (take (spans.expression.end - spans.expression.start) (drop spans.expression.start s))) ≡ t
          → ruled_in s names least (read_rule (drop at s)) ≡ pick t (Some (spans.expression.end, code)) None
      unfolding ruled_in judge
      ruled t v = rw (here.reads, place_drop s spans.expression.end here.fits) (ap₂ (λ (u : Bool) (n : ℕ). pick u (Some (spans.expression.end, n)) None) (ap (rule_fits names least) parts ∙ v) (ap (λ (r : Rule). first_code r.pattern) parts ∙ sym k))

      pub rule_below : code < least → None ≡ ruled_in s names least (read_rule (drop at s))
      unfolding rule_fits pick
      rule_below o = let low : first_code (take (spans.pattern.end - spans.pattern.start) (drop spans.pattern.start s)) < least = omega arith in sym (ruled false (and_first _ _ (lt-leb _ _ low)))

      module _ (above : least ≤ code) (t : Bool) (v : t ≡ rule_good names (rule (take (spans.pattern.end - spans.pattern.start) (drop spans.pattern.start s)) (take (spans.left.end - spans.left.start) (drop spans.left.start s)) (take (spans.right.end - spans.right.start) (drop spans.right.start s)) (take (spans.expression.end - spans.expression.start) (drop spans.expression.start s)))) where
        high : leb least (first_code (take (spans.pattern.end - spans.pattern.start) (drop spans.pattern.start s))) ≡ true
        high = let up : least ≤ first_code (take (spans.pattern.end - spans.pattern.start) (drop spans.pattern.start s)) = omega arith in le-leb _ _ up

        pub rule_bad : t ≡ false → None ≡ ruled_in s names least (read_rule (drop at s))
        unfolding rule_fits pick
        rule_bad e = sym (ruled false (and_second _ _ high (sym v ∙ e)))

        pub rule_fine : t ≡ true → Some (spans.expression.end, code) ≡ ruled_in s names least (read_rule (drop at s))
        unfolding rule_fits pick
        rule_fine e = sym (ruled true (and_yes _ _ high (sym v ∙ e)))

pub ruleset next_rule_laws = (next_cut, pattern_order, pattern_fits, left_order, left_fits, right_order, right_fits, expression_order, expression_fits, rule_below, rule_bad, rule_fine, rules)

-- ---- a rule noted by its place

pub noted_place : (s row row' : List ℕ) (at e b x y : ℕ) → ByteIs s (at + 1) b → x ≡ NUMBERS + at → y ≡ NUMBERS + e → row' ≡ noted_in row (b % 64) x y → row' ≡ placed_in s row at e
noted_place s row row' at e b x y w f g h = rw (f, g, w.is) at h

-- ---- the rules of a list

pub record Listing (s names : List ℕ) (start count : ℕ) (row : List ℕ) (at i least : ℕ) (row' : List ℕ) : Type 0 where
  pub within : at ≤ length s
  pub is : end_in s (rules_from names 0) (read_many read_rule count (drop start s)) ≡ end_in s (rules_from names least) (read_many read_rule (count - i) (drop at s))
  pub noted : row_from s count start row ≡ row_from s (count - i) at row'

pub listing_start : (s names : List ℕ) (start count : ℕ) (row : List ℕ) → start ≤ length s → Listing s names start count row start 0 0 row
listing_start s names start count row h = let all : count - 0 ≡ count = omega arith in record { within = h; is = rw all refl; noted = rw all refl }

-- a rule more in a row
pub row_next : (s : List ℕ) (n at e : ℕ) (row : List ℕ) (r : Rule) → 0 < n → read_rule (drop at s) ≡ got r (drop e s) → e ≤ length s → row_from s n at row ≡ row_from s (n - 1) e (placed_in s row at e)
unfolding row_from behind
row_next s zero at e row r h g f = let no_way : ⊥ = omega arith in absurd no_way
row_next s (suc n) at e row r h g f =
    let m : n ≡ suc n - 1 = omega arith in
    rw g (ap (λ (p : ℕ). row_from s n p (placed_in s row at p)) (place_drop s e f) ∙ ap (λ (k : ℕ). row_from s k e (placed_in s row at e)) m)

-- what was ruled, taken apart
record Ruling (s names : List ℕ) (at least e code : ℕ) : Type 0 where
  value : Rule
  reads : read_rule (drop at s) ≡ got value (drop e s)
  passes : rule_fits names least value ≡ true
  first : first_code value.pattern ≡ code
  fits : e ≤ length s

ruling_by : (s names : List ℕ) (at least e code : ℕ) → at ≤ length s
    → Judged {R = Option (ℕ × ℕ)} None (rule_fits names least) (read_rule (drop at s)) (λ r q. Some (place_in s q, first_code r.pattern)) (Some (e, code)) → Ruling s names at least e code
ruling_by s names at least e code w (faulty x y) = clash (cc)
ruling_by s names at least e code w (fine r q g h y) =
    let o = end_then (end_here s at w) (rule_ends _ r q g) in
    let both = some_pair_parts _ _ _ _ y in
    record {
      value = r;
      reads = g ∙ ap (got r) (end_is o ∙ ap (λ (n : ℕ). drop n s) both.0);
      passes = h;
      first = both.1;
      fits = omega (arith, end_within o, both.0);
    }

off_by : (s names : List ℕ) (at least : ℕ)
    → Judged {R = Option (ℕ × ℕ)} None (rule_fits names least) (read_rule (drop at s)) (λ r q. Some (place_in s q, first_code r.pattern)) None → Faulty (rule_fits names least) (read_rule (drop at s))
off_by s names at least (faulty x y) = x
off_by s names at least (fine r q g h y) = clash (cc)

module _ {s names : List ℕ} {start count : ℕ} {row : List ℕ} {at i least : ℕ} {row' : List ℕ} (w : Listing s names start count row at i least row') where
  pub listing_within : at ≤ length s
  listing_within = w.within

  module _ (x : Option (ℕ × ℕ)) (g : x ≡ ruled_in s names least (read_rule (drop at s))) (h : i < count) where
    module _ (e code : ℕ) (q : x ≡ Some (e, code)) where
      ruling : Ruling s names at least e code
      unfolding ruled_in
      ruling = ruling_by s names at least e code w.within (judged _ _ _ _ _ (sym g ∙ q))

      pub listing_fits : e ≤ length s
      listing_fits = ruling.fits

      pub listing_next : (row'' : List ℕ) → row'' ≡ placed_in s row' at e → Listing s names start count row e (i + 1) code row''
      unfolding rules_from
      listing_next row'' f =
          let left : count - i - 1 ≡ count - (i + 1) = omega arith in
          record {
            within = ruling.fits;
            is = w.is ∙ walk_on s read_rule (rule_fits names) (λ m r. first_code r.pattern) (λ m. true) least count i _ ruling.value _ h ruling.reads ruling.passes
                ∙ ap (λ (m : ℕ). end_in s (rules_from names m) (read_many read_rule (count - (i + 1)) (drop e s))) ruling.first;
            noted = w.noted ∙ row_next s (count - i) at e row' ruling.value (omega arith) ruling.reads ruling.fits ∙ ap₂ (λ (n : ℕ) (l : List ℕ). row_from s n e l) left (sym f);
          }

    pub listing_bad : x ≡ None → RulesNoted s names count start row None row'
    unfolding ruled_in rules_from
    listing_bad q = record {
      result = sym (w.is ∙ walk_off s read_rule (rule_fits names) (λ m r. first_code r.pattern) (λ m. true) least count i _ h (off_by s names at least (judged _ _ _ _ _ (sym g ∙ q))));
      noted = tt;
    }

  pub listing_done : count ≤ i → RulesNoted s names count start row (Some at) row'
  unfolding rules_from pick row_from
  listing_done h =
      let none : count - i ≡ 0 = omega arith in
      record {
        result = sym (w.is ∙ walk_end s read_rule (rule_fits names) (λ m r. first_code r.pattern) (λ m. true) least count i at h w.within);
        noted = sym (w.noted ∙ ap (λ (n : ℕ). row_from s n at row') none);
      }

pub ruleset listing_laws = (listing_start, listing_within, listing_fits, listing_next, listing_bad, listing_done, rules)

-- ---- a list is good where each of its rules is, behind the one before

unfoldable first_fits : ℕ → List Rule → Bool
first_fits least [] = true
first_fits least (x ∷ xs) = leb least (first_code x.pattern)

ordered_is : (x : Rule) (xs : List Rule) → ordered_by_code (x ∷ xs) ≡ and (first_fits (first_code x.pattern) xs) (ordered_by_code xs)
unfolding ordered_by_code first_fits and
ordered_is x [] = refl
ordered_is x (y ∷ xs) = refl

pub swap : (l g a o : Bool) → and (and l g) (and a o) ≡ and (and g a) (and l o)
unfolding and
swap true true a o = refl
swap true false a o = refl
swap false true true o = refl
swap false true false o = refl
swap false false a o = refl

rules_nil : (names : List ℕ) (least : ℕ) → rules_from names least [] ≡ and (all (rule_good names) []) (and (first_fits least []) (ordered_by_code []))
unfolding rules_from all_from all first_fits ordered_by_code and
rules_nil names least = refl

rules_cons : (names : List ℕ) (least : ℕ) (x : Rule) (xs : List Rule)
    → rules_from names (first_code x.pattern) xs ≡ and (all (rule_good names) xs) (and (first_fits (first_code x.pattern) xs) (ordered_by_code xs))
    → rules_from names least (x ∷ xs) ≡ and (all (rule_good names) (x ∷ xs)) (and (first_fits least (x ∷ xs)) (ordered_by_code (x ∷ xs)))
unfolding rules_from all_from all first_fits rule_fits
rules_cons names least x xs ih =
    ap (and (rule_fits names least x)) (ih ∙ ap (and (all (rule_good names) xs)) (sym (ordered_is x xs)))
    ∙ swap (leb least (first_code x.pattern)) (rule_good names x) (all (rule_good names) xs) (ordered_by_code (x ∷ xs))

rules_are : (names : List ℕ) (least : ℕ) (rs : List Rule) → rules_from names least rs ≡ and (all (rule_good names) rs) (and (first_fits least rs) (ordered_by_code rs))
rules_are names least [] = rules_nil names least
rules_are names least (x ∷ xs) = rules_cons names least x xs (rules_are names (first_code x.pattern) xs)

first_fits_lem : (rs : List Rule) → first_fits 0 rs ≡ true
unfolding first_fits
first_fits_lem [] = refl
first_fits_lem (x ∷ xs) = le-leb 0 (first_code x.pattern) zero-le

list_is : (names : List ℕ) (rs : List Rule) → length rs ≤ 4096 → list_good names rs ≡ rules_from names 0 rs
unfolding list_good and
list_is names rs h = rw (le-leb (length rs) 4096 h) (sym (rules_are names 0 rs ∙ ap (λ (t : Bool). and (all (rule_good names) rs) (and t (ordered_by_code rs))) (first_fits_lem rs)))

list_not : (names : List ℕ) (rs : List Rule) → 4096 < length rs → list_good names rs ≡ false
unfolding list_good
list_not names rs h = and_first _ _ (lt-leb _ _ h)

module _ (s names : List ℕ) (at : ℕ) (row : List ℕ) (r : Option Number) (p : r ≡ number_at 2 s at) where
  pub list_cut : r ≡ None → ListNoted s names at row None row
  unfolding read_list
  list_cut q = record { result = counted_cut s read_rule (list_good names) (rules_from names 0) 4096 (list_not names) (list_is names) at r p q; noted = tt }

  module _ (told : Number) (q : r ≡ Some told) where
    pub list_much : 4096 < told.value → ListNoted s names at row None row
    unfolding read_list
    list_much h = record { result = counted_much s read_rule (list_good names) (rules_from names 0) 4096 (list_not names) (list_is names) at r p told q h; noted = tt }

    pub list_starts : told.next ≤ length s
    list_starts = (count_of s at r told p q).fits

    pub list_many : (x : Option ℕ) (row' : List ℕ) → told.value ≤ 4096 → RulesNoted s names told.value told.next row x row' → ListNoted s names at row x row'
    unfolding read_list
    list_many x row' h v = record {
      result = counted_many s read_rule (list_good names) (rules_from names 0) 4096 (list_not names) (list_is names) at r p told q x h v.result;
      noted = rw (← rules_many s at told r p q, ← (count_of s at r told p q).ends) v.noted;
    }

pub ruleset list_laws = (list_cut, list_much, list_starts, list_many, rules)
