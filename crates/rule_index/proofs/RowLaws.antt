-- A row of the table: noting a rule, and the loops over a list. A rule whose pattern begins with a byte of another kind than the word's never
-- matches, so the rules from the first to the last of a kind are enough; nor does one whose marks tell so. Assumes nothing.
use Rattle.pack.specs.declared.rules.RuleAt.{RuleAt}
use Rattle.std.specs.Prelude.{Option, Some, None}
use borrow.Author.Rules.{rules}
use mathlib.Core.Path.{◌≡◌, refl, sym, ap, ap₂, subst, ◌∙◌}
use mathlib.Core.Bool.{Bool, true, false}
use mathlib.Core.List.{List, [], ◌∷◌, ◌++◌, append_assoc, append-nil}
use Prim.Native.Nat.{ℕ, zero, suc, ◌+◌, ◌-◌, ◌*◌, ◌%◌, ◌≤◌, ◌<◌}
use native.Mathlib.Nat.{add-zero}
use native.Mathlib.Omega.{arith}
use lib.Dec.{eqb, ltb}
use lib.ListN.{length, get_or, take, drop, set, replicate, length-set, length-take, length-replicate, get_or-replicate, drop_of_length-le}
use lib.Seq.{get_or-set_same, get_or-set_other, get_or-take, get_or-drop}
use borrow.Author.Tests.{eqb-true, eqb-false, eq-eqb, ne_eqb, lt-ltb, le-ltb}
use Rattle.base.specs.Pick.{pick}
use Rattle.base.proofs.PickLaws.{pick_true, pick_false, pick_all, pick_past, and_first, and_yes, and_inv}
use Rattle.texts.specs.Parts.{first_byte, prefix_of}
use Rattle.texts.specs.Signatures.{bit_of}
use Rattle.texts.proofs.Laws.{prefix_byte}
use Rattle.texts.proofs.SignatureLaws.{Has, has_yes, all_has}
use Rattle.regex_optim.specs.Contexts.{right_form, fits}
use Rattle.regex_optim.specs.InnerContracts.{all_bits, left_bits, right_bits}
use Rattle.regex_optim.proofs.BesideLaws.{left_has, right_has}
use Rattle.rule.specs.Matching.{rule_matches}
use Rattle.strings.specs.Reading.{got}
use Rattle.pack.specs.Packs.{read_rule, strings_length}
use Rattle.rule_lines.specs.Rules.{Rule}
use Rattle.pack.specs.PlaceContracts.{rule_stands_at, rule_count, list_at, NUMBERS, noted_in, placed_in, row_from, row_at}
use Rattle.strings.specs.InnerContracts.{ByteIs, behind}
use Rattle.strings.proofs.Readers.{place_drop}
use Rattle.pack.proofs.RuleLaws.{RuleIs, rule_is, pattern_order, pattern_fits, left_order, left_fits, right_order, right_fits, row_next}
use Rattle.pack.proofs.Laws.{RulesAt, one_rule, ListIs, good_rule, held_by, held_whole, list_held, list_told}
use Rattle.rule_index.specs
use specs.declared.numbers.Marks.{Marks}
use specs.Matching.{Match, none, by, Matcher, first_match}
use specs.Rows.{places_row, leads_row, before_row, behind_row, required_row, rows, Roomy, noted_at}
use specs.InnerContracts.{pack_in, rules_between, lead_of, behind_bits, tried_by, tried_at, rule_in, rule_of, numbered, found_in, ListPlaced, RowPlaces, MarksAre, numbered_in, Agree, ListReady, ListIndexed}
use Rattle.rule_index.proofs
use proofs.CellLaws.{set_here, set_room}
use proofs.NumberedLaws.{numbered_room, numbered_here, numbered_before, numbered_behind, numbered_agree, agree_same, agree_then, agree_row}

-- ---- a rule whose pattern begins with a byte of another kind does not match

other_first : (p s : List ℕ) → 0 < length p → (get_or p 0 0 % 64 ≡ get_or s 0 0 % 64 → ⊥) → prefix_of p s ≡ false
unfolding prefix_of
other_first [] s h k = let no_way : ⊥ = omega arith in absurd no_way
other_first (x ∷ p) [] h k = refl
other_first (x ∷ p) (y ∷ s) h k = and_first _ _ (ne_eqb y x (λ e. k (ap (λ (n : ℕ). n % 64) (sym e))))

module _ (r : Rule) (word : List ℕ) (place : ℕ) where
  never_by : (t : Bool) → ltb (length word) place ≡ t → prefix_of r.pattern (drop place word) ≡ false → rule_matches r.pattern r.left r.right word place ≡ false
  unfolding rule_matches
  never_by true e f = pick_true _ _ _ e
  never_by false e f = pick_false _ _ _ e ∙ and_first _ _ f

  module _ (some : 0 < length r.pattern) where
    never_other : (get_or r.pattern 0 0 % 64 ≡ get_or word place 0 % 64 → ⊥) → rule_matches r.pattern r.left r.right word place ≡ false
    never_other k =
        let here : get_or (drop place word) 0 0 ≡ get_or word place 0 = get_or-drop place word 0 0 ∙ ap (λ (n : ℕ). get_or word n 0) (add-zero place) in
        never_by _ refl (other_first r.pattern (drop place word) some (λ q. k (q ∙ ap (λ (n : ℕ). n % 64) here)))

    past_first : (p : List ℕ) → 0 < length p → prefix_of p [] ≡ false
    unfolding prefix_of
    past_first [] h = let no_way : ⊥ = omega arith in absurd no_way
    past_first (x ∷ p) h = refl

    -- nor behind the word
    pub never_past : length word ≤ place → rule_matches r.pattern r.left r.right word place ≡ false
    never_past h = never_by _ refl (ap (prefix_of r.pattern) (drop_of_length-le word h) ∙ past_first r.pattern some)

-- ---- a rule that matches has its marks there

lead_fits : (p s : List ℕ) → 0 < length p → prefix_of p s ≡ true → pick (eqb (lead_of p) (first_byte s)) true (eqb (lead_of p) (lead_of s)) ≡ true
lead_fits [] s h e = absurd (omega arith)
lead_fits (x ∷ []) s h e =
    let same : lead_of (x ∷ []) ≡ first_byte s = omega (arith, prefix_byte (x ∷ []) s e 0 (omega arith)) in
    pick_true _ _ _ (eq-eqb _ _ same)
lead_fits (x ∷ y ∷ p) s h e =
    let same : lead_of (x ∷ y ∷ p) ≡ lead_of s = omega (arith, prefix_byte (x ∷ y ∷ p) s e 0 (omega arith), prefix_byte (x ∷ y ∷ p) s e 1 (omega arith)) in
    pick_all (λ (b : Bool). b ≡ true) _ _ _ refl (eq-eqb _ _ same)

behind_has : (p right word : List ℕ) (place : ℕ) (t : Bool) → eqb (length p) 1 ≡ t → fits (right_form right) (drop (place + length p) word) ≡ true
    → Has (behind_bits p right) (bit_of (first_byte (drop (place + 1) word)))
unfolding behind_bits
behind_has p right word place true e f = rw (pick_true _ (right_bits right) all_bits e) (right_has right _ (rw (eqb-true (length p) 1 e) at f))
behind_has p right word place false e f = rw (pick_false _ (right_bits right) all_bits e) (all_has (first_byte (drop (place + 1) word)))

unless : (m t : Bool) → (m ≡ true → t ≡ true) → t ≡ false → m ≡ false
unless true t f e = sym (f refl) ∙ e
unless false t f e = refl

-- ---- lists that match alike where the word's byte is of kind b

unfoldable pub or_else : Match → Match → Match
or_else none m = m
or_else (by r) m = by r

or_else_none : (m : Match) → or_else m none ≡ m
unfolding or_else
or_else_none none = refl
or_else_none (by r) = refl

first_pick : (t : Bool) (r : Rule) (x y z : Match) → x ≡ or_else y z → pick t (by r) x ≡ or_else (pick t (by r) y) z
unfolding pick or_else
first_pick true r x y z e = refl
first_pick false r x y z e = e

pub first_append : (xs ys : List Rule) (word : List ℕ) (place : ℕ) → first_match (xs ++ ys) word place ≡ or_else (first_match xs word place) (first_match ys word place)
unfolding first_match or_else
first_append [] ys word place = refl
first_append (x ∷ xs) ys word place = first_pick _ x _ _ _ (first_append xs ys word place)

pub record Alike (b : ℕ) (xs ys : List Rule) : Type 0 where
  pub is : (word : List ℕ) (place : ℕ) → get_or word place 0 % 64 ≡ b → first_match xs word place ≡ first_match ys word place

alike_same : {b : ℕ} {xs ys : List Rule} → xs ≡ ys → Alike b xs ys
alike_same h = record { is = λ word place e. ap (λ (l : List Rule). first_match l word place) h }

module _ {b : ℕ} {xs ys : List Rule} (a : Alike b xs ys) where
  alike_then : {zs : List Rule} → Alike b ys zs → Alike b xs zs
  alike_then c = record { is = λ word place e. a.is word place e ∙ c.is word place e }

  alike_more : (zs : List Rule) → Alike b (xs ++ zs) (ys ++ zs)
  alike_more zs = record { is = λ word place e. first_append xs zs word place ∙ ap (λ (m : Match). or_else m (first_match zs word place)) (a.is word place e) ∙ sym (first_append ys zs word place) }

alike_other : (b : ℕ) (xs : List Rule) (r : Rule) → 0 < length r.pattern → (get_or r.pattern 0 0 % 64 ≡ b → ⊥) → Alike b (xs ++ r ∷ []) xs
unfolding first_match
alike_other b xs r some other = record {
  is = λ word place e.
      first_append xs (r ∷ []) word place ∙ ap (or_else (first_match xs word place)) (pick_false _ _ _ (never_other r word place some (λ q. other (q ∙ e)))) ∙ or_else_none _;
}

-- ---- rules that stand one after the other; `reads` says which one stands at a place or number, and what is behind it

pub data Stand (reads : ℕ → Rule → ℕ → Type 0) (to : ℕ) : ℕ → List Rule → Type 0 where
  stand_none : Stand reads to to []
  stand_rule : {at next : ℕ} {r : Rule} {rs : List Rule} → reads at r next → Stand reads to next rs → Stand reads to at (r ∷ rs)

stand_more : (reads : ℕ → Rule → ℕ → Type 0) {at from : ℕ} (next : ℕ) {rs : List Rule} (r : Rule) → reads at r next → Stand reads at from rs → Stand reads next from (rs ++ r ∷ [])
stand_more reads next r o stand_none = stand_rule o stand_none
stand_more reads next r o (stand_rule p w) = stand_rule p (stand_more reads next r o w)

-- what is found is the first of the rules that stand there
pub record FindsFirst (reads : ℕ → Rule → ℕ → Type 0) (found : ℕ → ℕ → Matcher) : Type 0 where
  pub is : {to at : ℕ} {rs : List Rule} → Stand reads to at rs → (word : List ℕ) (place : ℕ) → first_match rs word place ≡ found at to word place

-- ---- what an entry says of the rules so far

pub record Told (b : ℕ) (rs : List Rule) (m : Matcher) : Type 0 where
  pub is : (word : List ℕ) (place : ℕ) → get_or word place 0 % 64 ≡ b → first_match rs word place ≡ m word place

-- no rule of the kind yet; or those from the entry's first rule on, of which it finds enough
pub data Noted (reads : ℕ → Rule → ℕ → Type 0) (found : ℕ → ℕ → Matcher) (b : ℕ) (before : List Rule) (at p e : ℕ) : Type 0 where
  not_yet : e ≡ 0 → Alike b before [] → Noted reads found b before at p e
  since : (tail : List Rule) → (e ≡ 0 → ⊥) → Stand reads at p tail → Alike b before tail → Told b tail (found p e) → Noted reads found b before at p e

module _ {reads : ℕ → Rule → ℕ → Type 0} {found : ℕ → ℕ → Matcher} (finds : FindsFirst reads found) where
  stand_told : {b to from : ℕ} {rs : List Rule} → Stand reads to from rs → Told b rs (found from to)
  stand_told w = record { is = λ word place e. finds.is w word place }

  noted_found : ((p : ℕ) (word : List ℕ) (place : ℕ) → found p 0 word place ≡ none) → {b : ℕ} {before : List Rule} {at p e : ℕ} → Noted reads found b before at p e → Told b before (found p e)
  unfolding first_match
  noted_found n {p = p} (not_yet z a) = record { is = λ word place k. a.is word place k ∙ sym (ap (λ (e : ℕ). found p e word place) z ∙ n p word place) }
  noted_found n (since tail z w a c) = record { is = λ word place k. a.is word place k ∙ c.is word place k }

  -- one rule more, of another kind, or of the kind
  module _ {b : ℕ} {before : List Rule} {at next : ℕ} {r : Rule} (o : reads at r next) (h : next ≡ 0 → ⊥) where
    noted_other : {p e : ℕ} → 0 < length r.pattern → (get_or r.pattern 0 0 % 64 ≡ b → ⊥) → Noted reads found b before at p e → Noted reads found b (before ++ r ∷ []) next p e
    noted_other some other (not_yet z a) = not_yet z (alike_then (alike_other b before r some other) a)
    noted_other some other (since tail z w a c) =
        since (tail ++ r ∷ []) z (stand_more reads next r o w) (alike_more a (r ∷ [])) (record { is = λ word place k. (alike_other b tail r some other).is word place k ∙ c.is word place k })

    noted_first : {p e : ℕ} → e ≡ 0 → Noted reads found b before at p e → Noted reads found b (before ++ r ∷ []) next at next
    noted_first e (since tail z w a c) = absurd (z e)
    noted_first e (not_yet z a) =
        let one : Stand reads next at (r ∷ []) = stand_rule o stand_none in
        since (r ∷ []) h one (alike_more a (r ∷ [])) (stand_told one)

    noted_more : {p e : ℕ} → (e ≡ 0 → ⊥) → Noted reads found b before at p e → Noted reads found b (before ++ r ∷ []) next p next
    noted_more n (not_yet z a) = absurd (n z)
    noted_more n (since tail z w a c) =
        let more : Stand reads next _ (tail ++ r ∷ []) = stand_more reads next r o w in
        since (tail ++ r ∷ []) h more (alike_more a (r ∷ [])) (stand_told more)

-- ---- a row that a rule was noted in

-- what it says of the rules so far
abbrev RowNotes : (ℕ → Rule → ℕ → Type 0) → (ℕ → ℕ → Matcher) → List Rule → ℕ → List ℕ → Type 0
RowNotes reads found before at row = (b : ℕ) → b < 64 → Noted reads found b before at (get_or row b 0) (get_or row (b + 64) 0)

module _ (t t' : List ℕ) (kind at next : ℕ) (w : kind + 64 < length t) (q : t' ≡ noted_in t kind at next) where
  note_long : length t' ≡ length t
  unfolding noted_in
  note_long = ap length q ∙ pick_all (λ (l : List ℕ). length l ≡ length t) _ _ _ (simp length-set) (simp length-set)

  note_other : (j : ℕ) → (j ≡ kind → ⊥) → (j ≡ kind + 64 → ⊥) → get_or t' j 0 ≡ get_or t j 0
  unfolding noted_in
  note_other j h k =
      ap (λ (l : List ℕ). get_or l j 0) q
      ∙ pick_all (λ (l : List ℕ). get_or l j 0 ≡ get_or t j 0) _ _ _ (get_or-set_other (set t kind at) (kind + 64) j _ 0 k ∙ get_or-set_other t kind j at 0 h) (get_or-set_other t (kind + 64) j _ 0 k)

  apart : kind ≡ kind + 64 → ⊥
  apart e = omega arith

  module _ {reads : ℕ → Rule → ℕ → Type 0} {found : ℕ → ℕ → Matcher} (finds : FindsFirst reads found) {before : List Rule} {r : Rule} (o : reads at r next) (h : next ≡ 0 → ⊥) where
    noted_by : (z : Bool) → eqb (get_or t (kind + 64) 0) 0 ≡ z → Noted reads found kind before at (get_or t kind 0) (get_or t (kind + 64) 0)
        → Noted reads found kind (before ++ r ∷ []) next (get_or t' kind 0) (get_or t' (kind + 64) 0)
    unfolding noted_in
    noted_by true e x =
        let now : t' ≡ set (set t kind at) (kind + 64) next = q ∙ pick_true _ _ _ e in
        let place = get_or-set_other (set t kind at) (kind + 64) kind next 0 apart ∙ get_or-set_same t kind at 0 (omega arith) in
        let end = get_or-set_same (set t kind at) (kind + 64) next 0 (omega (arith, length-set t kind at)) in
        rw (now, place, end) (noted_first finds o h (eqb-true _ _ e) x)
    noted_by false e x =
        let now : t' ≡ set t (kind + 64) next = q ∙ pick_false _ _ _ e in
        let place = get_or-set_other t (kind + 64) kind next 0 apart in
        let end = get_or-set_same t (kind + 64) next 0 (omega arith) in
        rw (now, place, end) (noted_more finds o h (eqb-false _ _ e) x)

    kind_by : 0 < length r.pattern → kind ≡ get_or r.pattern 0 0 % 64 → RowNotes reads found before at t → (a : ℕ) → a < 64 → (z : Bool) → eqb kind a ≡ z
        → Noted reads found a (before ++ r ∷ []) next (get_or t' a 0) (get_or t' (a + 64) 0)
    kind_by some ek v a l true z =
        subst (λ (c : ℕ). Noted reads found c (before ++ r ∷ []) next (get_or t' c 0) (get_or t' (c + 64) 0)) (eqb-true kind a z)
        (noted_by _ refl (v kind (omega arith)))
    kind_by some ek v a l false z =
        let ne : kind ≡ a → ⊥ = eqb-false _ _ z in
        rw (note_other a (λ n. ne (sym n)) (λ n. omega arith), note_other (a + 64) (λ n. omega arith) (λ n. ne (omega arith)))
        (noted_other finds o h some (λ n. ne (ek ∙ n)) (v a l))

    row_notes : 0 < length r.pattern → kind ≡ get_or r.pattern 0 0 % 64 → RowNotes reads found before at t → RowNotes reads found (before ++ r ∷ []) next t'
    row_notes some ek v a l = kind_by some ek v a l _ refl

-- ---- what is found by two places, and by two numbers

-- a rule at a place, put behind the numbers
pub record PlacedAt (s : List ℕ) (at : ℕ) (r : Rule) (next : ℕ) : Type 0 where
  pub reads : read_rule (drop (at - NUMBERS) s) ≡ got r (drop (next - NUMBERS) s)
  pub forward : at < next
  pub low : NUMBERS ≤ at
  pub fits : next - NUMBERS ≤ length s

-- a rule by its number
pub record NumberedAt (s : List ℕ) (table : List (List ℕ)) (at : ℕ) (r : Rule) (next : ℕ) : Type 0 where
  pub rest : List ℕ
  pub reads : read_rule (drop (noted_at table places_row at) s) ≡ got r rest
  pub lead : noted_at table leads_row at ≡ lead_of r.pattern
  pub before : noted_at table before_row at ≡ left_bits r.left
  pub behind : noted_at table behind_row at ≡ behind_bits r.pattern r.right
  pub some : 0 < length r.pattern
  pub forward : next ≡ suc at
  pub few : at < NUMBERS

module _ (s : List ℕ) (table : List (List ℕ)) where
  no_places : (f at to : ℕ) → to ≤ at → rules_between f s at to ≡ []
  unfolding rules_between
  no_places zero at to h = refl
  no_places (suc f) at to h = pick_false _ _ _ (le-ltb at to h)

  no_numbers : (word : List ℕ) (place at n : ℕ) → n ≡ 0 → numbered s table word place at n ≡ []
  unfolding numbered
  no_numbers word place at n h = ap (numbered s table word place at) h

  -- nothing stands between a place or number and one that is not behind it
  nothing_found : (at to : ℕ) → to ≤ at → (word : List ℕ) (place : ℕ) → found_in s table at to word place ≡ none
  unfolding found_in first_match
  nothing_found at to h word place =
      pick_all (λ (m : Match). m ≡ none) _ _ _
      (ap (λ (l : List Rule). first_match l word place) (no_places (to - NUMBERS) (at - NUMBERS) (to - NUMBERS) (omega arith)))
      (ap (λ (l : List Rule). first_match l word place) (no_numbers word place at (to - at) (omega arith)))

  pub clear_found : (p : ℕ) (word : List ℕ) (place : ℕ) → found_in s table p 0 word place ≡ none
  clear_found p = nothing_found p 0 (omega arith)

  placed_order : {to at : ℕ} {rs : List Rule} → Stand (PlacedAt s) to at rs → at ≤ to
  placed_order stand_none = omega arith
  placed_order (stand_rule o w) = omega (arith, placed_order w, o.forward)

  placed_read : {to at : ℕ} (f : ℕ) {rs : List Rule} → to - NUMBERS ≤ at - NUMBERS + f → Stand (PlacedAt s) to at rs → rules_between f s (at - NUMBERS) (to - NUMBERS) ≡ rs
  unfolding rules_between behind
  placed_read {to = to} f h stand_none = no_places f (to - NUMBERS) (to - NUMBERS) (omega arith)
  placed_read zero h (stand_rule o w) = let no_way : ⊥ = omega (arith, placed_order w, o.forward, o.low) in absurd no_way
  placed_read {to} {at} (suc f) h (stand_rule {next = n} {r = r} o w) =
      pick_true _ _ _ (lt-ltb (at - NUMBERS) (to - NUMBERS) (omega (arith, placed_order w, o.forward, o.low)))
      ∙ rw (o.reads, place_drop s (n - NUMBERS) o.fits) (ap (λ (l : List Rule). r ∷ l) (placed_read f (omega (arith, o.forward, o.low)) w))

  over_found : (at to : ℕ) → NUMBERS < to → (word : List ℕ) (place : ℕ)
      → found_in s table at to word place ≡ first_match (rules_between (to - NUMBERS) s (at - NUMBERS) (to - NUMBERS)) word place
  unfolding found_in
  over_found at to h word place = pick_true _ _ _ (lt-ltb NUMBERS to h)

  under_found : (at to : ℕ) → to ≤ NUMBERS → (word : List ℕ) (place : ℕ)
      → found_in s table at to word place ≡ first_match (numbered s table word place at (to - at)) word place
  unfolding found_in
  under_found at to h word place = pick_false _ _ _ (le-ltb NUMBERS to h)

  placed_by : {to at : ℕ} {rs : List Rule} → NUMBERS < to → Stand (PlacedAt s) to at rs → (word : List ℕ) (place : ℕ) → first_match rs word place ≡ found_in s table at to word place
  placed_by {to} {at} h v word place = sym (over_found at to h word place ∙ ap (λ (l : List Rule). first_match l word place) (placed_read (to - NUMBERS) (omega arith) v))

  placed_is : {to at : ℕ} {rs : List Rule} → Stand (PlacedAt s) to at rs → (word : List ℕ) (place : ℕ) → first_match rs word place ≡ found_in s table at to word place
  unfolding first_match
  placed_is {to} stand_none word place = sym (nothing_found to to (omega arith) word place)
  placed_is (stand_rule o w) word place = placed_by (omega (arith, placed_order w, o.forward, o.low)) (stand_rule o w) word place

  placed_found : FindsFirst (PlacedAt s) (found_in s table)
  placed_found = record { is = placed_is }

  -- the rule of a number is tried where it matches
  tried_by_lem : {at next : ℕ} {r : Rule} → NumberedAt s table at r next → (word : List ℕ) (place : ℕ) → rule_matches r.pattern r.left r.right word place ≡ true → tried_at table at word place ≡ true
  unfolding rule_matches tried_by
  tried_by_lem {r = r} o word place m =
      let stands = and_inv (prefix_of r.pattern (drop place word)) _ (pick_past (ltb (length word) place) _ m).1 in
      let fit = and_inv (fits (right_form r.right) (drop (place + length r.pattern) word)) _ stands.1 in
      rw (o.lead, o.before, o.behind)
      (and_yes _ _ (lead_fits r.pattern (drop place word) o.some stands.0)
      (and_yes _ _ (has_yes _ _ (left_has r.left (take place word) fit.1)) (has_yes _ _ (behind_has r.pattern r.right word place _ refl fit.0))))

  number_one : {at next : ℕ} {r : Rule} → NumberedAt s table at r next → (word : List ℕ) (place : ℕ) (x : Match) (z : Bool) → tried_at table at word place ≡ z
      → pick (rule_matches r.pattern r.left r.right word place) (by r) x ≡ or_else (first_match (rule_of s table word place at) word place) x
  unfolding rule_of rule_in first_match or_else
  number_one {r = r} o word place x true e = rw (pick_true _ _ _ e, o.reads) (first_pick _ r x none x refl)
  number_one {r = r} o word place x false e = rw (pick_false _ _ _ e) (pick_false _ _ _ (unless _ _ (tried_by_lem o word place) e))

  numbered_order : {to at : ℕ} {rs : List Rule} → Stand (NumberedAt s table) to at rs → at ≤ to
  numbered_order stand_none = omega arith
  numbered_order (stand_rule o w) = omega (arith, numbered_order w, o.forward)

  numbered_few : {to at next : ℕ} {r : Rule} {rs : List Rule} → NumberedAt s table at r next → Stand (NumberedAt s table) to next rs → to ≤ NUMBERS
  numbered_few o stand_none = omega (arith, o.forward, o.few)
  numbered_few o (stand_rule p w) = numbered_few p w

  numbered_read : (n : ℕ) {to at : ℕ} {rs : List Rule} → Stand (NumberedAt s table) to at rs → to ≡ at + n → (word : List ℕ) (place : ℕ)
      → first_match rs word place ≡ first_match (numbered s table word place at n) word place
  unfolding numbered first_match
  numbered_read zero stand_none e word place = refl
  numbered_read (suc n) stand_none e word place = let no_way : ⊥ = omega arith in absurd no_way
  numbered_read zero (stand_rule o w) e word place = let no_way : ⊥ = omega (arith, numbered_order w, o.forward) in absurd no_way
  numbered_read (suc n) {at = at} (stand_rule {r = r} o w) e word place =
      ap (pick (rule_matches r.pattern r.left r.right word place) (by r)) (numbered_read n w (omega (arith, o.forward)) word place)
      ∙ ap (λ (k : ℕ). pick (rule_matches r.pattern r.left r.right word place) (by r) (first_match (numbered s table word place k n) word place)) o.forward
      ∙ number_one o word place _ _ refl
      ∙ sym (first_append (rule_of s table word place at) _ word place)

  numbered_by : {to at : ℕ} {rs : List Rule} → to ≤ NUMBERS → at ≤ to → Stand (NumberedAt s table) to at rs → (word : List ℕ) (place : ℕ) → first_match rs word place ≡ found_in s table at to word place
  numbered_by {to} {at} h l v word place = numbered_read (to - at) v (omega arith) word place ∙ sym (under_found at to h word place)

  numbered_is : {to at : ℕ} {rs : List Rule} → Stand (NumberedAt s table) to at rs → (word : List ℕ) (place : ℕ) → first_match rs word place ≡ found_in s table at to word place
  unfolding first_match
  numbered_is {to} stand_none word place = sym (nothing_found to to (omega arith) word place)
  numbered_is (stand_rule o w) word place = numbered_by (numbered_few o w) (omega (arith, numbered_order w, o.forward)) (stand_rule o w) word place

  numbered_found : FindsFirst (NumberedAt s table) (found_in s table)
  numbered_found = record { is = numbered_is }

-- ---- the loops over a list

-- of all the rules of a list some are behind, and `left` others stand from `at` on
pub record Midway (s : List ℕ) (whole before : List Rule) (at left : ℕ) : Type 0 where
  pub rest : List Rule
  pub are : before ++ rest ≡ whole
  pub names : List ℕ
  pub held : RulesAt s names at rest
  pub counted : left ≡ length rest

module _ {s : List ℕ} {place : ℕ} (w : ListPlaced s place) where
  list_here : ListIs s (take (1 + strings_length (pack_in s).names - 1) (drop 1 s)) place (get_or (pack_in s).lists w.list [])
  list_here = rw w.held (list_held s (pack_in s) (1 + strings_length (pack_in s).names) w.is refl w.list w.known)

  list_whole : list_at s place ≡ get_or (pack_in s).lists w.list []
  list_whole = rw w.held (list_told s (pack_in s) (1 + strings_length (pack_in s).names) w.is refl w.list w.known)

  pub list_within : place + 2 ≤ length s
  list_within = list_here.fits

  midway_start : (left : ℕ) → left ≡ rule_count s place → Midway s (list_at s place) [] (place + 2) left
  midway_start left e = record { rest = get_or (pack_in s).lists w.list []; are = sym list_whole; names = _; held = list_here.held; counted = e ∙ list_here.count }

-- the rule that the loop is at
data Next (s names : List ℕ) (at left : ℕ) (rest : List Rule) : Type 0 where
  next : (r : Rule) (rs : List Rule) → rest ≡ r ∷ rs → RulesAt s names at (r ∷ rs) → Next s names at left rest

next_by : (s names : List ℕ) (at left : ℕ) (rest : List Rule) → left ≡ length rest → 0 < left → RulesAt s names at rest → Next s names at left rest
next_by s names at left [] e h l = let no_way : ⊥ = omega arith in absurd no_way
next_by s names at left (r ∷ rs) e h l = next r rs refl l

held_reads : (s names : List ℕ) (at a b c d e f g h : ℕ) (r : Rule) (rs : List Rule) (w : RuleIs s at a b c d e f g h) → RulesAt s names at (r ∷ rs) → w.value ≡ r
held_reads s names at a b c d e f g h r rs w (one_rule p v q k l) = let same = sym w.reads ∙ v.reads in let value : w.value ≡ v.value = cc in value ∙ q

none_left : (l : List Rule) → length l ≤ 0 → l ≡ []
none_left [] h = refl
none_left (x ∷ l) h = let no_way : ⊥ = omega arith in absurd no_way

midway_done : {s : List ℕ} {whole before : List Rule} {at left : ℕ} → Midway s whole before at left → left ≤ 0 → before ≡ whole
midway_done {before = before} w h = sym (ap (λ (l : List Rule). before ++ l) (none_left w.rest (omega (arith, w.counted))) ∙ append-nil before) ∙ w.are

module _ {s : List ℕ} {whole before : List Rule} {at left : ℕ} (w : Midway s whole before at left) (h : 0 < left) (x : Option RuleAt) (o : x ≡ rule_stands_at s at) where
  here : Next s w.names at left w.rest
  here = next_by s w.names at left w.rest w.counted h w.held

  cut_by : Next s w.names at left w.rest → x ≡ None → ⊥
  cut_by (next r rs n l) q = held_whole s w.names at r rs x l o q

  -- none is cut
  midway_cut : x ≡ None → ⊥
  midway_cut = cut_by here

  module _ (spans : RuleAt) (q : x ≡ Some spans) where
    rule_here : RuleIs s at spans.pattern.start spans.pattern.end spans.left.start spans.left.end spans.right.start spans.right.end spans.expression.start spans.expression.end
    rule_here = rule_is s at x o spans q

    some_by : Next s w.names at left w.rest → 0 < length (take (spans.pattern.end - spans.pattern.start) (drop spans.pattern.start s))
    some_by (next r rs n l) =
        let k = held_by s w.names at spans r rs (sym q ∙ o) l in
        rw k.pattern (good_rule w.names r k.good).pattern_some

    some_bytes : 0 < length (take (spans.pattern.end - spans.pattern.start) (drop spans.pattern.start s))
    some_bytes = some_by here

    some_pattern : 0 < length rule_here.value.pattern
    some_pattern = rw (← rule_here.pattern) some_bytes

    first_byte_lem : get_or rule_here.value.pattern 0 0 ≡ get_or s spans.pattern.start 0
    first_byte_lem =
        sym (ap (λ (l : List ℕ). get_or l 0 0) rule_here.pattern)
        ∙ get_or-take (spans.pattern.end - spans.pattern.start) (drop spans.pattern.start s) 0 0 (omega (arith, some_bytes, length-take (spans.pattern.end - spans.pattern.start) (drop spans.pattern.start s)))
        ∙ get_or-drop spans.pattern.start s 0 0 ∙ ap (λ (n : ℕ). get_or s n 0) (add-zero spans.pattern.start)

    forward : at < spans.expression.end
    forward = omega (arith, rule_here.begins, rule_here.one, rule_here.two, rule_here.three, rule_here.four, rule_here.five, rule_here.six, rule_here.seven)

    next_by_rule : Next s w.names at left w.rest → Midway s whole (before ++ rule_here.value ∷ []) spans.expression.end (left - 1)
    next_by_rule (next r rs n l) =
        let same : rule_here.value ≡ r = held_reads s w.names at spans.pattern.start spans.pattern.end spans.left.start spans.left.end spans.right.start spans.right.end spans.expression.start spans.expression.end r rs rule_here l in
        record {
          rest = rs;
          are = append_assoc before (rule_here.value ∷ []) rs ∙ ap (λ (v : Rule). before ++ v ∷ rs) same ∙ ap (λ (l : List Rule). before ++ l) (sym n) ∙ w.are;
          names = w.names;
          held = (held_by s w.names at spans r rs (sym q ∙ o) l).rest;
          counted = omega (arith, ap length n, w.counted);
        }

    midway_next : Midway s whole (before ++ rule_here.value ∷ []) spans.expression.end (left - 1)
    midway_next = next_by_rule here

-- ---- by places

pub record Placing (s : List ℕ) (whole : List Rule) (row : List ℕ) (at left : ℕ) : Type 0 where
  pub long : length row ≡ 128
  pub before : List Rule
  pub midway : Midway s whole before at left
  pub notes : (u : List (List ℕ)) → RowNotes (PlacedAt s) (found_in s u) before (NUMBERS + at) row

placing_start : {s : List ℕ} {place : ℕ} → ListPlaced s place → Placing s (list_at s place) (replicate 128 0) (place + 2) (rule_count s place)
placing_start w = record {
  long = length-replicate {A = ℕ} 128 0;
  before = [];
  midway = midway_start w _ refl;
  notes = λ u b h. not_yet (get_or-replicate 128 (b + 64) 0 0 (omega arith)) (alike_same refl);
}

module _ {s row : List ℕ} {whole : List Rule} {at left : ℕ} (w : Placing s whole row at left) where
  placing_done : left ≤ 0 → RowPlaces s row whole
  placing_done h = record {
    long = w.long;
    found = λ u word place.
        sym ((noted_found (placed_found s u) (clear_found s u) (w.notes u (get_or word place 0 % 64) (omega arith))).is word place refl)
        ∙ ap (λ (l : List Rule). first_match l word place) (midway_done w.midway h);
  }

  module _ (h : 0 < left) (x : Option RuleAt) (o : x ≡ rule_stands_at s at) (spans : RuleAt) (q : x ≡ Some spans) where
    placing_turn : Placing s whole (placed_in s row at spans.expression.end) spans.expression.end (left - 1)
    placing_turn =
        let v = rule_here w.midway h x o spans q in
        let ahead = forward w.midway h x o spans q in
        let kind : ℕ = get_or s (at + 1) 0 % 64 in
        let room : kind + 64 < length row = omega (arith, w.long) in
        let byte : kind ≡ get_or v.value.pattern 0 0 % 64 =
        ap (λ (m : ℕ). m % 64) (ap (λ (m : ℕ). get_or s m 0) (sym v.begins) ∙ sym (first_byte_lem w.midway h x o spans q)) in
        let here_at : NUMBERS + at - NUMBERS ≡ at = omega arith in
        let there : NUMBERS + spans.expression.end - NUMBERS ≡ spans.expression.end = omega arith in
        record {
          long = note_long row _ kind (NUMBERS + at) (NUMBERS + spans.expression.end) room refl ∙ w.long;
          before = _;
          midway = midway_next w.midway h x o spans q;
          notes = λ u. row_notes row _ kind (NUMBERS + at) (NUMBERS + spans.expression.end) room refl (placed_found s u)
              (record { reads = rw (here_at, there) v.reads; forward = omega arith; low = omega arith; fits = rw there v.fits })
              (λ n. omega arith) (some_pattern w.midway h x o spans q) byte (w.notes u);
        }

-- the rules that are left, each noted
placing_rule : {s row : List ℕ} {whole : List Rule} {at : ℕ} (n : ℕ) → ((row' : List ℕ) (at' : ℕ) → Placing s whole row' at' n → RowPlaces s (row_from s n at' row') whole)
    → Placing s whole row at (suc n) → (x : Option RuleAt) → x ≡ rule_stands_at s at → RowPlaces s (row_from s (suc n) at row) whole
placing_rule n more w None o = absurd (midway_cut w.midway (omega arith) _ o refl)
placing_rule {s} {row} {whole} {at} n more w (Some spans) o =
    let some : 0 < suc n = omega arith in
    let v = rule_here w.midway some _ o spans refl in
    let m : suc n - 1 ≡ n = omega arith in
    subst (λ (l : List ℕ). RowPlaces s l whole) (sym (row_next s (suc n) at spans.expression.end row v.value some v.reads v.fits ∙ ap (λ (k : ℕ). row_from s k spans.expression.end (placed_in s row at spans.expression.end)) m))
    (more _ _ (subst (Placing s whole (placed_in s row at spans.expression.end) spans.expression.end) m (placing_turn w some _ o spans refl)))

placing_all : {s row : List ℕ} {whole : List Rule} {at : ℕ} (n : ℕ) → Placing s whole row at n → RowPlaces s (row_from s n at row) whole
unfolding row_from
placing_all zero w = placing_done w (omega arith)
placing_all (suc n) w = placing_rule n (λ row' at' v. placing_all n v) w _ refl

-- by the row of a list its rules are found
pub row_places : {s : List ℕ} {place : ℕ} → ListPlaced s place → RowPlaces s (row_at s place) (list_at s place)
row_places w = placing_all _ (placing_start w)

-- ---- by numbers

pub record Numbering (s : List ℕ) (t : List (List ℕ)) (list place first : ℕ) (table : List (List ℕ)) (at left number : ℕ) : Type 0 where
  pub before : List Rule
  pub midway : Midway s (list_at s place) before at left
  pub row : list < 98
  pub roomy : Roomy table
  pub others : (k : ℕ) → k < places_row → (k ≡ list → ⊥) → get_or table k [] ≡ get_or t k []
  pub kept : (k : ℕ) → required_row ≤ k → get_or table k [] ≡ get_or t k []
  pub agree : Agree first t table
  pub more : first ≤ number
  pub room : number + left ≤ NUMBERS
  pub notes : (u : List (List ℕ)) → Agree number table u → RowNotes (NumberedAt s u) (found_in s u) before number (get_or table list [])

module _ {s : List ℕ} {t : List (List ℕ)} {list place first : ℕ} (w : ListReady s t list place first) where
  pub numbering_within : place + 2 ≤ length s
  numbering_within = list_within w.placed

  pub numbering_start : rule_count s place ≤ NUMBERS - first → (left : ℕ) → left ≡ rule_count s place → Numbering s t list place first t (place + 2) left first
  numbering_start l left e = record {
    before = [];
    midway = midway_start w.placed left e;
    row = w.row;
    roomy = w.room;
    others = λ k h n. refl;
    kept = λ k h. refl;
    agree = agree_same;
    more = omega arith;
    room = omega (arith, w.few);
    notes = λ u a b h. not_yet (w.blank.clear b h) (alike_same refl);
  }

module _ {s : List ℕ} {t table : List (List ℕ)} {list place first at left number : ℕ} (w : Numbering s t list place first table at left number) where
  pub numbering_done : left ≤ 0 → ListIndexed s t table list place first number
  numbering_done h = record {
    finds = record {
      found = λ u a word place.
          sym ((noted_found (numbered_found s u) (clear_found s u) (w.notes u a (get_or word place 0 % 64) (omega arith))).is word place refl)
          ∙ ap (λ (l : List Rule). first_match l word place) (midway_done w.midway h);
    };
    room = w.roomy;
    others = w.others;
    kept = w.kept;
    agree = w.agree;
    more = w.more;
    few = omega (arith, w.room);
  }

  module _ (h : 0 < left) (x : Option RuleAt) (o : x ≡ rule_stands_at s at) where
    pub numbering_cut : x ≡ None → ListIndexed s t table list place first number
    numbering_cut q = absurd (midway_cut w.midway h x o q)

    pub numbering_free : number < NUMBERS
    numbering_free = omega (arith, w.room)

    pub numbering_row : list < rows
    numbering_row = omega (arith, w.row)

    module _ (spans : RuleAt) (q : x ≡ Some spans) where
      module _ (byte : ℕ) (eb : ByteIs s spans.pattern.start byte) {y : Marks} (my : MarksAre (take (spans.pattern.end - spans.pattern.start) (drop spans.pattern.start s)) (take (spans.left.end - spans.left.start) (drop spans.left.start s)) (take (spans.right.end - spans.right.start) (drop spans.right.start s)) y)
          (t₁ : List (List ℕ)) (et : t₁ ≡ numbered_in table number at y) where
        roomy₁ : Roomy t₁
        roomy₁ = rw et (numbered_room w.roomy number numbering_free at y)

        row₁ : (k : ℕ) → k < places_row → get_or t₁ k [] ≡ get_or table k []
        row₁ k l = rw et (numbered_before w.roomy number numbering_free at y k l)

        behind₁ : (k : ℕ) → required_row ≤ k → get_or t₁ k [] ≡ get_or table k []
        behind₁ k l = rw et (numbered_behind w.roomy number numbering_free at y k l)

        agree₁ : Agree number table t₁
        agree₁ = rw et (numbered_agree w.roomy number numbering_free at y)

        kind_fits : byte % 64 + 64 < length (get_or t₁ list [])
        kind_fits = omega (arith, roomy₁.wide list numbering_row)

        module _ (row' : List ℕ) (er : row' ≡ noted_in (get_or t₁ list []) (byte % 64) number (number + 1)) where
          agree₂ : {n : ℕ} → Agree n t₁ (set t₁ list row')
          agree₂ = agree_row roomy₁ list w.row row'

          long_row : length row' ≡ 128
          long_row = note_long (get_or t₁ list []) row' (byte % 64) number (number + 1) kind_fits er ∙ roomy₁.wide list numbering_row

          module _ (u : List (List ℕ)) (a : Agree (number + 1) (set t₁ list row') u) where
            noted_here : (j : ℕ) → j < 4 → noted_at u (places_row + 32 * j) number ≡ get_or (at ∷ y.lead ∷ y.before ∷ y.behind ∷ []) j 0
            noted_here j l =
                a.same number j (omega arith) l ∙ (agree₂ {n = number + 1}).same number j (omega arith) l
                ∙ ap (λ (v : List (List ℕ)). noted_at v (places_row + 32 * j) number) et ∙ numbered_here w.roomy number numbering_free at y j l

            turn_notes : RowNotes (NumberedAt s u) (found_in s u) (w.before ++ (rule_here w.midway h x o spans q).value ∷ []) (number + 1) (get_or (set t₁ list row') list [])
            turn_notes =
                let v = rule_here w.midway h x o spans q in
                rw (set_here roomy₁ list numbering_row row')
                (row_notes (get_or t₁ list []) row' (byte % 64) number (number + 1) kind_fits er (numbered_found s u) {before = w.before} {r = v.value}
                (record {
                  rest = drop spans.expression.end s;
                  reads = rw (noted_here 0 (omega arith)) v.reads;
                  lead = noted_here 1 (omega arith) ∙ my.lead ∙ ap (λ (l : List ℕ). lead_of l) v.pattern;
                  before = noted_here 2 (omega arith) ∙ my.before ∙ ap left_bits v.left;
                  behind = noted_here 3 (omega arith) ∙ my.behind ∙ ap₂ behind_bits v.pattern v.right;
                  some = some_pattern w.midway h x o spans q;
                  forward = omega arith;
                  few = numbering_free;
                })
                (λ n. omega arith) (some_pattern w.midway h x o spans q)
                (ap (λ (m : ℕ). m % 64) (eb.is ∙ sym (first_byte_lem w.midway h x o spans q)))
                (rw (row₁ list w.row) (w.notes u (agree_then (omega arith) (agree_then (omega arith) agree₁ (agree₂ {n = number})) a))))

          pub numbering_turn : (left' : ℕ) → left ≡ left' + 1 → Numbering s t list place first (set t₁ list row') spans.expression.end left' (number + 1)
          numbering_turn left' turned = let fewer : left - 1 ≡ left' = omega arith in rw (← fewer) (record {
            before = w.before ++ (rule_here w.midway h x o spans q).value ∷ [];
            midway = midway_next w.midway h x o spans q;
            row = w.row;
            roomy = set_room roomy₁ list numbering_row row' long_row;
            others = λ k l n. get_or-set_other t₁ list k row' [] n ∙ row₁ k l ∙ w.others k l n;
            kept = λ k l. get_or-set_other t₁ list k row' [] (λ n. omega (arith, w.row)) ∙ behind₁ k l ∙ w.kept k l;
            agree = agree_then w.more w.agree (agree_then (omega arith) agree₁ (agree₂ {n = number}));
            more = omega (arith, w.more);
            room = omega (arith, w.room);
            notes = turn_notes;
          })

pub ruleset numbering_laws = (numbering_within, numbering_start, numbering_done, numbering_cut, numbering_free, numbering_row, numbering_turn, pattern_order, pattern_fits, left_order, left_fits, right_order, right_fits, rules)
