-- The guessing rules noted in the table, and guessing by what is noted: as the pack's guessing section does. Assumes nothing.
use Rattle.pack.specs.declared.guessing.GuessAt.{GuessAt}
use Rattle.std.specs.Prelude.{Option, Some, None}
use borrow.Author.Rules.{rules}
use mathlib.Core.Path.{◌≡◌, refl, sym, ap, ap₂, subst, ◌∙◌}
use mathlib.Core.Bool.{Bool, true, false}
use mathlib.Core.List.{List, [], ◌∷◌}
use Prim.Native.Nat.{ℕ, zero, suc, ◌+◌, ◌-◌, ◌*◌, ◌/◌, ◌%◌, ◌≤◌, ◌<◌, zero-le, min}
use native.Mathlib.Numerals.{add-one}
use native.Mathlib.Omega.{arith}
use lib.Bits.{bit_and, and_zero_r}
use lib.Dec.{eqb}
use borrow.Author.Tests.{eq-eqb}
use lib.ListN.{length, get_or, take, drop}
use Rattle.base.specs.Pick.{pick}
use Rattle.base.proofs.Arms.{clash}
use Rattle.base.proofs.PickLaws.{pick_true, pick_false, pick_all, pick_and, and_first, and_rest}
use Rattle.lang.specs.Patterns.{matches_of}
use Rattle.lang.specs.InnerContracts.{required_of, pairs_of, pairs_required}
use Rattle.texts.specs.Signatures.{signature_of, has_bits}
use Rattle.lang.proofs.Shortcuts.{lacking_not}
use Rattle.lang.proofs.PairLaws.{pairs_lacking_not}
use Rattle.languages.specs.Sets.{without}
use Rattle.languages.specs.declared.sets.LanguageSet.{LanguageSet}
use Rattle.strings.specs.Reading.{Read, got, read_many}
use Rattle.strings.proofs.Readers.{then_inv}
use Rattle.pack.specs.Packs.{Guess, guess, read_guess}
use Rattle.pack.specs.PlaceContracts.{rule_count}
use Rattle.pack.specs.Guessing.{narrowed_by, narrowed_by_all, left_over, all_listed, guessed}
use Rattle.pack.specs.InnerContracts.{guess_stands_at, guesses_at, guessed_at}
use Rattle.pack.proofs.GuessLaws.{GuessIs, guess_is, guess_cut, guess_order, guess_fits}
use Rattle.pack.proofs.Laws.{GuessSection, guesses_whole}
use Rattle.rule_index.specs
use specs.Rows.{required_row, pairs_row, guess_row, Roomy, noted_at, put_all}
use specs.GuessContracts.{narrowed_in, has_required, narrowed_noted, narrowed_by_first, guesser, PairsAsked, GuessesReady, GuessesNoted}
use Rattle.rule_index.proofs.CellLaws.{all_room, all_other, all_here, all_away}

-- ---- what is noted of the first rules decides what they narrow

module _ (s : List ℕ) (t t' : List (List ℕ)) (name : List ℕ) where
  noted_as : (j m : ℕ) → ((k : ℕ) → k < 3 → noted_at t' (required_row + 32 * k) j ≡ noted_at t (required_row + 32 * k) j) → narrowed_noted s t' name j m ≡ narrowed_noted s t name j m
  unfolding narrowed_noted has_required
  noted_as j m e = rw (e 0 (omega arith), e 1 (omega arith), e 2 (omega arith)) refl

  first_as : (n m : ℕ) → ((j k : ℕ) → j < n → k < 3 → noted_at t' (required_row + 32 * k) j ≡ noted_at t (required_row + 32 * k) j) → narrowed_by_first s t' name n m ≡ narrowed_by_first s t name n m
  unfolding narrowed_by_first
  first_as zero m e = refl
  first_as (suc n) m e = noted_as n _ (λ k l. e n k (omega arith) l) ∙ ap (narrowed_noted s t name n) (first_as n m (λ j k h l. e j k (omega arith) l))

-- a table whose rows for guessing are as they were guesses as it did
pub guesser_kept : (s : List ℕ) (t t' : List (List ℕ)) (place : ℕ) → ((k : ℕ) → required_row ≤ k → get_or t' k [] ≡ get_or t k []) → guesser s t' place ≡ guesser s t place
unfolding guesser noted_at
guesser_kept s t t' place kept = λ i n name.
    left_over (first_as s t t' name (min 4096 (rule_count s place)) (all_listed (min 32 n)) (λ j k h l. ap (λ (r : List ℕ). get_or r (j % 128) 0) (kept (required_row + 32 * k + j / 128) (omega arith))) i)

-- ---- one rule

module _ (name : List ℕ) (b m : ℕ) (p : List ℕ) (left x : ℕ) (e : x ≡ pick (eqb b 0) (without left m) (bit_and left m)) where
  pub narrow_idle : x ≡ left → left ≡ narrowed_by name (guess b m p) left
  unfolding narrowed_by
  narrow_idle q = sym (pick_all (λ (n : ℕ). n ≡ left) _ _ _ (sym e ∙ q) refl)

  module _ (t : Bool) (f : t ≡ matches_of p name) where
    pub narrow_hit : t ≡ true → x ≡ narrowed_by name (guess b m p) left
    unfolding narrowed_by
    narrow_hit q = e ∙ sym (pick_true _ _ _ (sym f ∙ q))

    pub narrow_missed : t ≡ false → left ≡ narrowed_by name (guess b m p) left
    unfolding narrowed_by
    narrow_missed q = sym (pick_false _ _ _ (sym f ∙ q))

pub ruleset narrow_laws = (narrow_idle, narrow_hit, narrow_missed, rules)

module _ (s name : List ℕ) (at left : ℕ) (x : Option GuessAt) (g : x ≡ guess_stands_at s at) where
  pub narrow_at_cut : x ≡ None → left ≡ narrowed_in name (read_guess (drop at s)) left
  unfolding narrowed_in
  narrow_at_cut q = rw (guess_cut s at x g q) refl

  pub narrow_at_whole : (spans : GuessAt) (r : ℕ) → x ≡ Some spans → r ≡ narrowed_by name (guess spans.accept spans.mask (take (spans.pattern.end - spans.pattern.start) (drop spans.pattern.start s))) left
      → r ≡ narrowed_in name (read_guess (drop at s)) left
  unfolding narrowed_in
  narrow_at_whole spans r q f = f ∙ sym (ap (λ (y : Read Guess). narrowed_in name y left) (guess_is s at x g spans q).reads)

pub ruleset narrow_at_laws = (guess_order, guess_fits, narrow_at_cut, narrow_at_whole, rules)

module _ (table : List (List ℕ)) (i signature pairs k : ℕ) (t : Bool) (e : k ≡ noted_at table required_row i) (h : t ≡ has_bits signature k) where
  pub required_lacking : t ≡ false → false ≡ has_required table i signature pairs
  unfolding has_required
  required_lacking q = sym (and_first _ _ (ap (has_bits signature) (sym e) ∙ sym h ∙ q))

  pub required_there : (l : ℕ) (r : Bool) → t ≡ true → l ≡ noted_at table pairs_row i → r ≡ has_bits pairs l → r ≡ has_required table i signature pairs
  unfolding has_required
  required_there l r q f g = and_rest _ _ _ (ap (has_bits signature) (sym e) ∙ sym h ∙ q) (g ∙ ap (has_bits pairs) f)

module _ (s name : List ℕ) (table : List (List ℕ)) (i left signature pairs : ℕ) (t : Bool) (is : signature ≡ signature_of name) (are : pairs ≡ pairs_of name)
    (h : t ≡ has_required table i signature pairs) where
  test : t ≡ has_required table i (signature_of name) (pairs_of name)
  test = h ∙ ap₂ (has_required table i) is are

  pub noted_passed : t ≡ false → left ≡ narrowed_noted s table name i left
  unfolding narrowed_noted
  noted_passed q = sym (pick_false _ _ _ (sym test ∙ q))

  pub noted_tried : (at r : ℕ) → t ≡ true → at ≡ noted_at table guess_row i → r ≡ narrowed_in name (read_guess (drop at s)) left → r ≡ narrowed_noted s table name i left
  unfolding narrowed_noted
  noted_tried at r q p f = f ∙ ap (λ (a : ℕ). narrowed_in name (read_guess (drop a s)) left) p ∙ sym (pick_true _ _ _ (sym test ∙ q))

pub ruleset noted_laws = (required_lacking, required_there, noted_passed, noted_tried, rules)

-- ---- the first rules

pub record Narrowing (s : List ℕ) (table : List (List ℕ)) (name : List ℕ) (count all i left : ℕ) : Type 0 where
  pub within : i ≤ count
  pub is : left ≡ narrowed_by_first s table name i all

pub narrowing_start : (s : List ℕ) (table : List (List ℕ)) (name : List ℕ) (count all : ℕ) → Narrowing s table name count all 0 all
unfolding narrowed_by_first
narrowing_start s table name count all = record { within = zero-le; is = refl }

module _ {s : List ℕ} {table : List (List ℕ)} {name : List ℕ} {count all i left : ℕ} (w : Narrowing s table name count all i left) where
  pub narrowing_noted : count ≤ 4096 → i < count → i < 4096
  narrowing_noted f h = omega arith

  pub narrowing_next : (r : ℕ) → i < count → r ≡ narrowed_noted s table name i left → Narrowing s table name count all (i + 1) r
  unfolding narrowed_by_first
  narrowing_next r h e = record { within = omega arith; is = e ∙ ap (narrowed_noted s table name i) w.is ∙ ap (λ (n : ℕ). narrowed_by_first s table name n all) (sym (add-one i)) }

  pub narrowing_done : count ≤ i → left ≡ narrowed_by_first s table name count all
  narrowing_done h = let e : i ≡ count = omega (arith, w.within) in w.is ∙ ap (λ (n : ℕ). narrowed_by_first s table name n all) e

pub ruleset narrowing_laws = (narrowing_start, narrowing_noted, narrowing_next, narrowing_done, rules)

pub count_few : (k n : ℕ) → k ≡ min 4096 n → k ≤ 4096
count_few k n e = omega arith

pub guess_by : (s : List ℕ) (table : List (List ℕ)) (name : List ℕ) (place n k all m : ℕ) (x : LanguageSet) → all ≡ all_listed (min 32 n) → k ≡ min 4096 (rule_count s place)
    → m ≡ narrowed_by_first s table name k all → x ≡ left_over m → x ≡ guesser s table place n name
unfolding guesser
guess_by s table name place n k all m x a b c d = d ∙ ap left_over (c ∙ ap₂ (λ (u v : ℕ). narrowed_by_first s table name u v) b a)

pub ruleset guess_laws = (count_few, guess_by, rules)

-- ---- the loop that notes them

-- the rules before the i-th are noted, and the others stand from a place on
pub record Noting (s : List ℕ) (place count : ℕ) (table₀ table : List (List ℕ)) (i at : ℕ) : Type 0 where
  pub counted : count ≡ rule_count s place
  pub few : count ≤ 4096
  pub within : i ≤ count
  pub room : Roomy table
  pub kept : (k : ℕ) → k < required_row → get_or table k [] ≡ get_or table₀ k []
  pub rules : List Guess
  pub rest : List ℕ
  pub reads : read_many read_guess (count - i) (drop at s) ≡ got rules rest
  pub narrowed : (name : List ℕ) (m : ℕ) → narrowed_by_all name (guesses_at s place) m ≡ narrowed_by_all name rules (narrowed_by_first s table name i m)

module _ {s : List ℕ} {place : ℕ} {table : List (List ℕ)} (w : GuessesReady s place table) where
  whole : GuessSection s place
  whole = guesses_whole s w.pack place w.is w.held

  pub section_within : place + 2 ≤ length s
  section_within = whole.fits

  pub noting_start : (count : ℕ) → count ≡ rule_count s place → Noting s place count table table 0 (place + 2)
  unfolding narrowed_by_first
  noting_start count e = record {
    counted = e;
    few = omega (arith, whole.few);
    within = zero-le;
    room = w.room;
    kept = λ k h. refl;
    rules = guesses_at s place;
    rest = whole.rest;
    reads = let all : count - 0 ≡ rule_count s place = omega arith in ap (λ (n : ℕ). read_many read_guess n (drop (place + 2) s)) all ∙ whole.reads;
    narrowed = λ name m. refl;
  }

-- the first of some rules that are read
record FirstRead (n : ℕ) (l : List ℕ) (gs : List Guess) (q : List ℕ) : Type 0 where
  one : Guess
  others : List Guess
  behind : List ℕ
  are : gs ≡ one ∷ others
  here : read_guess l ≡ got one behind
  then : read_many read_guess n behind ≡ got others q

first_read : (n : ℕ) (l : List ℕ) (gs : List Guess) (q : List ℕ) → read_many read_guess (suc n) l ≡ got gs q → FirstRead n l gs q
unfolding read_many
first_read n l gs q e =
    let i = then_inv (read_guess l) _ gs q e in
    let j = then_inv (read_many read_guess n i.1) _ gs q i.3 in
    let whole : i.0 ∷ j.0 ≡ gs = cc in
    let end : j.1 ≡ q = cc in
    record { one = i.0; others = j.0; behind = i.1; are = sym whole; here = i.2; then = j.2 ∙ ap (λ (r : List ℕ). got j.0 r) end }

unread : (t : Bool) (x m : ℕ) → (t ≡ false → x ≡ m) → pick t x m ≡ x
unfolding pick
unread true x m h = refl
unread false x m h = sym (h refl)

pub asked_all : (p : List ℕ) (r : ℕ) → r ≡ pairs_required p → PairsAsked p r
asked_all p r e = record { lacking = λ name h. pairs_lacking_not p name (ap (has_bits (pairs_of name)) (sym e) ∙ h) }

pub asked_none : (p : List ℕ) → PairsAsked p 0
unfolding has_bits
asked_none p = record { lacking = λ name h. let no = sym (eq-eqb (bit_and (pairs_of name) 0) 0 (and_zero_r (pairs_of name))) ∙ h in clash (cc) }

-- a rule noted by what its pattern requires narrows as it does when it is read
module _ (s : List ℕ) (table : List (List ℕ)) (i at : ℕ) (g : Guess) (r : List ℕ) (e : read_guess (drop at s) ≡ got g r) (bits : noted_at table required_row i ≡ required_of g.pattern)
    (pairs : PairsAsked g.pattern (noted_at table pairs_row i)) (there : noted_at table guess_row i ≡ at) (name : List ℕ) (m : ℕ) where
  noted_narrows : narrowed_noted s table name i m ≡ narrowed_by name g m
  unfolding narrowed_noted has_required narrowed_in narrowed_by
  noted_narrows =
      let first = unread (has_bits (signature_of name) (required_of g.pattern)) (narrowed_by name g m) m (λ q. pick_false (matches_of g.pattern name) _ m (lacking_not g.pattern name q)) in
      let second = unread (has_bits (pairs_of name) (noted_at table pairs_row i)) (narrowed_by name g m) m (λ q. pick_false (matches_of g.pattern name) _ m (pairs.lacking name q)) in
      rw (bits, there, e) (pick_and _ _ _ _ ∙ ap (λ (x : ℕ). pick (has_bits (signature_of name) (required_of g.pattern)) x m) second ∙ first)

module _ {s : List ℕ} {place count : ℕ} {table₀ table : List (List ℕ)} {i at : ℕ} (w : Noting s place count table₀ table i at) where
  pub noting_room : i < count → i < 4096
  noting_room h = omega (arith, w.few)

  pub noting_done : count ≤ i → GuessesNoted s place table₀ table
  unfolding guesser guessed_at guessed narrowed_by_all read_many
  noting_done h =
      let all : i ≡ count = omega (arith, w.within) in
      let none : count - i ≡ 0 = omega arith in
      let empty : w.rules ≡ [] = (let o = ap (λ (n : ℕ). read_many read_guess n (drop at s)) (sym none) ∙ w.reads in cc) in
      let many : i ≡ min 4096 (rule_count s place) = omega (arith, w.few, w.counted) in
      record {
        guessed = λ j n name.
            left_over (sym (w.narrowed name (all_listed (min 32 n)) ∙ ap (λ (gs : List Guess). narrowed_by_all name gs (narrowed_by_first s table name i (all_listed (min 32 n)))) empty
            ∙ ap (λ (k : ℕ). narrowed_by_first s table name k (all_listed (min 32 n))) many) j);
        kept = w.kept;
        room = w.room;
      }

  module _ (h : i < count) where
    more : read_many read_guess (suc (count - (i + 1))) (drop at s) ≡ got w.rules w.rest
    more = let e : suc (count - (i + 1)) ≡ count - i = omega arith in ap (λ (n : ℕ). read_many read_guess n (drop at s)) e ∙ w.reads

    here : FirstRead (count - (i + 1)) (drop at s) w.rules w.rest
    here = first_read _ _ _ _ more

    module _ (x : Option GuessAt) (g : x ≡ guess_stands_at s at) where
      -- bytes do not run out
      pub noting_cut : x ≡ None → GuessesNoted s place table₀ table
      noting_cut q = let o = sym here.here ∙ guess_cut s at x g q in clash (cc)

      module _ (spans : GuessAt) (q : x ≡ Some spans) (k p : ℕ) (f : k ≡ required_of (take (spans.pattern.end - spans.pattern.start) (drop spans.pattern.start s))) (f' : PairsAsked (take (spans.pattern.end - spans.pattern.start) (drop spans.pattern.start s)) p) where
        it : GuessIs s at spans.accept spans.mask spans.pattern.start spans.pattern.end
        it = guess_is s at x g spans q

        the : here.one ≡ guess spans.accept spans.mask (take (spans.pattern.end - spans.pattern.start) (drop spans.pattern.start s))
        the = let o = sym here.here ∙ it.reads in cc

        behind_it : here.behind ≡ drop spans.pattern.end s
        behind_it = let o = sym here.here ∙ it.reads in cc

        small : i < 4096
        small = noting_room h

        noted : List (List ℕ)
        noted = put_all table required_row i (k ∷ p ∷ at ∷ [])

        there : (j : ℕ) → j < 3 → noted_at noted (required_row + 32 * j) i ≡ get_or (k ∷ p ∷ at ∷ []) j 0
        unfolding noted
        there j l = all_here i small _ required_row table (omega arith) w.room j l

        others : (j n : ℕ) → j < i → n < 3 → noted_at noted (required_row + 32 * n) j ≡ noted_at table (required_row + 32 * n) j
        unfolding noted
        others j n l v = all_other i small _ required_row table (omega arith) w.room (required_row + 32 * n) j (λ k' v' y z. omega arith)

        narrows : (name : List ℕ) (n : ℕ) → narrowed_noted s noted name i n ≡ narrowed_by name here.one n
        narrows name n =
            noted_narrows s noted i at here.one here.behind here.here (there 0 (omega arith) ∙ f ∙ ap (λ (y : Guess). required_of y.pattern) (sym the))
            (rw (there 1 (omega arith), the) f') (there 2 (omega arith)) name n

        turned : Noting s place count table₀ noted (i + 1) spans.pattern.end
        unfolding noted narrowed_by_first narrowed_by_all
        turned = record {
          counted = w.counted;
          few = w.few;
          within = omega arith;
          room = all_room i small _ required_row table (omega arith) w.room;
          kept = λ j l. all_away i small _ required_row table j (λ n v y. omega arith) ∙ w.kept j l;
          rules = here.others;
          rest = w.rest;
          reads = ap (read_many read_guess (count - (i + 1))) (sym behind_it) ∙ here.then;
          narrowed = λ name n.
              w.narrowed name n ∙ ap (λ (gs : List Guess). narrowed_by_all name gs (narrowed_by_first s table name i n)) here.are
              ∙ ap (narrowed_by_all name here.others) (ap (narrowed_by name here.one) (sym (first_as s table noted name i n others))
              ∙ sym (narrows name (narrowed_by_first s noted name i n)) ∙ ap (λ (c : ℕ). narrowed_by_first s noted name c n) (sym (add-one i)));
        }

        pub noting_turn : {t : List (List ℕ)} → t ≡ put_all table required_row i (k ∷ p ∷ at ∷ []) → Noting s place count table₀ t (i + 1) spans.pattern.end
        unfolding noted
        noting_turn u = subst (λ (y : List (List ℕ)). Noting s place count table₀ y (i + 1) spans.pattern.end) (sym u) turned

pub ruleset asked_laws = (asked_all, asked_none, rules)

pub ruleset noting_laws = (guess_order, guess_fits, noting_start, noting_room, noting_done, noting_cut, noting_turn, rules)
