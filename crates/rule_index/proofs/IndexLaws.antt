-- The table: the loop over the lists, and what a survey's answer gives for it. Assumes nothing.
use borrow.Author.Rules.{rules}
use mathlib.Core.Path.{◌≡◌, refl, sym, ap, subst, ◌∙◌}
use mathlib.Core.Bool.{Bool, true, false}
use mathlib.Core.List.{List, [], ◌∷◌, map}
use Prim.Native.Nat.{ℕ, zero, suc, ◌+◌, ◌-◌, ◌*◌, ◌%◌, ◌≤◌, ◌<◌, zero-le}
use native.Mathlib.Omega.{arith}
use lib.Dec.{ltb}
use lib.ListN.{length, get_or, set, replicate, length-set, length-replicate, get_or-replicate, get_or-append}
use lib.Seq.{sets, sets-eq, length-sets, get_or-set_same, get_or-set_other}
use mir.Syntax.{w64}
use mir.Val.{Fits}
use borrow.Author.Tests.{ltb-true, ltb-false}
use Rattle.base.proofs.One.{one}
use Rattle.base.proofs.PickLaws.{pick_true, pick_false, and_yes, and_first, and_second}
use Rattle.pack.specs.Packs.{Pack, Verdict, accepted, refused, list_count, pack_of, strings_length}
use Rattle.rule_lines.specs.Rules.{Rule}
use Rattle.pack.specs.PlaceContracts.{NUMBERS, places_of, surveyed_of, rule_count, list_at, row_at, SurveyIs}
use Rattle.pack.specs.Numbers.{surveyed_numbers}
use Rattle.pack.specs.InnerContracts.{guessed_at}
use Rattle.languages.specs.declared.sets.LanguageSet.{LanguageSet}
use Rattle.pack.specs.declared.sections.Surveyed.{Surveyed}
use Rattle.pack.specs.declared.sections.Surveyed.TheVariants as surveyed
use Rattle.base.proofs.Arms.{clash}
use Rattle.pack.proofs.NumberLaws.{surveyed_one}
use Rattle.pack.proofs.Laws.{RulesAt, no_rule, one_rule, good_rule, languages_few, lists_counted, places_counted, list_held, list_told, SurveyedPack, surveyed_pack}
use Rattle.rule_index.specs
use specs.Matching.{none, Matcher, first_match}
use specs.Rows.{required_row, rows, Roomy}
use specs.GuessContracts.{guesser, guesser_by, GuessesReady, GuessesNoted}
use specs.InnerContracts.{pack_by, pack_in, found_in, matcher, Blank, ListPlaced, RowPlaces, Cleared, Agree, RowFinds, ListReady, ListStands, ListIndexed, ListsReady, Finds, ListsFound, SurveyLeft, AcceptedIs, IndexIs}
use Rattle.rule_index.proofs
use proofs.CellLaws.{row_within, set_here, set_room}
use proofs.NumberedLaws.{agree_same, agree_then, agree_row}
use proofs.RowLaws.{never_past, clear_found, row_places}
use proofs.GuessLaws.{guesser_kept}

-- ---- a list matches nothing behind a word

past_held : {s names : List ℕ} {at : ℕ} {rs : List Rule} (word : List ℕ) (place : ℕ) → length word ≤ place → RulesAt s names at rs → first_match rs word place ≡ none
unfolding first_match
past_held word place h no_rule = refl
past_held {names = names} word place h (one_rule {r = r} p w v k l) = pick_false _ _ _ (never_past r word place (good_rule names r k).pattern_some h) ∙ past_held word place h l

-- ---- rows

blank_finds : {s row : List ℕ} {table : List (List ℕ)} {n : ℕ} → Blank row → RowFinds s table n row []
unfolding first_match
blank_finds {s} {row} w = record {
  found = λ u a word place.
      ap (λ (e : ℕ). found_in s u (get_or row (get_or word place 0 % 64) 0) e word place) (w.clear (get_or word place 0 % 64) (omega arith)) ∙ clear_found s u _ word place;
}

row_kept : {s row : List ℕ} {t u : List (List ℕ)} {n m : ℕ} {rules : List Rule} → n ≤ m → Agree n t u → RowFinds s t n row rules → RowFinds s u m row rules
row_kept l a w = record { found = λ v b. w.found v (agree_then l a b) }

no_list : (ls : List (List Rule)) (k : ℕ) → length ls ≤ k → get_or ls k [] ≡ []
no_list [] k h = refl
no_list (x ∷ ls) zero h = let no_way : ⊥ = omega arith in absurd no_way
no_list (x ∷ ls) (suc k) h = no_list ls k (omega arith)

zeros_row : Blank (replicate 128 0)
zeros_row = record { long = length-replicate {A = ℕ} 128 0; clear = λ kind l. get_or-replicate 128 (kind + 64) 0 0 (omega arith) }

-- what is found by a table, from what is found by its rows
module _ (s : List ℕ) (table : List (List ℕ)) (n : ℕ) (rows : (k : ℕ) → k < 98 → RowFinds s table n (get_or table k []) (get_or (pack_in s).lists k []))
    (past : (k : ℕ) (word : List ℕ) (place : ℕ) → length word ≤ place → first_match (get_or (pack_in s).lists k []) word place ≡ none)
    (few : length (pack_in s).lists ≤ 98) where
  finds_by : (k : ℕ) (word : List ℕ) (place : ℕ) (t u : Bool) → ltb k 98 ≡ t → ltb place (length word) ≡ u → matcher s table k word place ≡ first_match (get_or (pack_in s).lists k []) word place
  unfolding matcher first_match
  finds_by k word place true true e f = pick_true _ _ _ (and_yes _ _ e f) ∙ (rows k (ltb-true _ _ e)).found table agree_same word place
  finds_by k word place true false e f = pick_false _ _ _ (and_second _ _ e f) ∙ sym (past k word place (ltb-false _ _ f))
  finds_by k word place false u e f =
      pick_false _ _ _ (and_first _ _ e) ∙ ap (λ (l : List Rule). first_match l word place) (sym (no_list (pack_in s).lists k (omega (arith, few, ltb-false k 98 e))))

  finds : Finds s table
  finds k = λ i word place. finds_by k word place _ _ refl refl i

-- ---- each row has its numbers

pub record Seen (table : List (List ℕ)) (k : ℕ) : Type 0 where
  pub long : (j : ℕ) → j < k → length (get_or table j []) ≡ 128

pub seen_start : (table : List (List ℕ)) → Seen table 0
seen_start table = record { long = λ j h. let no_way : ⊥ = omega arith in absurd no_way }

seen_by : {table : List (List ℕ)} {k : ℕ} → Seen table k → length (get_or table k []) ≡ 128 → (j : ℕ) → j < k + 1 → (z : Bool) → ltb j k ≡ z → length (get_or table j []) ≡ 128
seen_by w e j h true l = w.long j (ltb-true _ _ l)
seen_by {table} {k} w e j h false l =
    let least : k ≤ j = ltb-false _ _ l in
    let same : j ≡ k = omega arith in
    rw same e

pub seen_next : (table : List (List ℕ)) (k : ℕ) → Seen table k → length (get_or table k []) ≡ 128 → Seen table (k + 1)
seen_next table k w e = record { long = λ j h. seen_by w e j h _ refl }

pub seen_all : (table : List (List ℕ)) (k : ℕ) → Seen table k → rows ≤ k → Roomy table
seen_all table k w h = record { wide = λ j l. w.long j (omega arith) }

pub ruleset seen_laws = (seen_start, seen_next, seen_all, rules)

-- ---- rows made blank

pub record Clearing (from : ℕ) (t u : List (List ℕ)) (k : ℕ) : Type 0 where
  pub room : Roomy u
  pub least : from ≤ k
  pub blank : (j : ℕ) → from ≤ j → j < k → Blank (get_or u j [])
  pub same : (j : ℕ) → j < from → get_or u j [] ≡ get_or t j []

pub clearing_start : (from : ℕ) (t : List (List ℕ)) → Roomy t → Clearing from t t from
clearing_start from t room = record { room = room; least = omega arith; blank = λ j h l. let no_way : ⊥ = omega arith in absurd no_way; same = λ j h. refl }

module _ {from k : ℕ} {t u : List (List ℕ)} (w : Clearing from t u k) where
  module _ (h : k < 98) (row : List ℕ) (e : row ≡ replicate 128 0) where
    cleared_by : (j : ℕ) → from ≤ j → j < k + 1 → (z : Bool) → ltb j k ≡ z → Blank (get_or (set u k row) j [])
    cleared_by j l m true q = let less : j < k = ltb-true _ _ q in rw (get_or-set_other u k j row [] (λ n. omega arith)) (w.blank j l less)
    cleared_by j l m false q =
        let more : k ≤ j = ltb-false _ _ q in
        let same : j ≡ k = omega arith in
        rw (same, set_here w.room k (omega arith) row, e) zeros_row

    pub clearing_next : Clearing from t (set u k row) (k + 1)
    clearing_next = record {
      room = set_room w.room k (omega arith) row (ap length e ∙ length-replicate {A = ℕ} 128 0);
      least = omega (arith, w.least);
      blank = λ j l m. cleared_by j l m _ refl;
      same = λ j l. get_or-set_other u k j row [] (λ n. omega (arith, w.least)) ∙ w.same j l;
    }

  pub clearing_done : 98 ≤ k → Cleared from t u
  clearing_done h = record { blank = λ j l m. w.blank j l (omega arith); before = w.same; room = w.room }

  pub clearing_row : k < 98 → k < rows
  clearing_row h = omega arith

pub ruleset clearing_laws = (clearing_start, clearing_next, clearing_done, clearing_row, rules)

-- ---- one list

module _ {s : List ℕ} {table : List (List ℕ)} {list place free : ℕ} (w : ListStands s table list place free) where
  pub indexing_few : free ≤ NUMBERS
  indexing_few = w.few

  pub indexing_row : list < rows
  indexing_row = omega (arith, w.row)

  pub indexing_room : (count : ℕ) → count ≡ rule_count s place → count ≤ NUMBERS - free → rule_count s place ≤ NUMBERS - free
  indexing_room count e l = omega arith

  -- where its rules have no numbers its row stays as it is
  pub indexing_kept : ListIndexed s table table list place free free
  indexing_kept = record {
    finds = record { found = λ u a. w.noted.found u };
    room = w.room;
    others = λ k h n. refl;
    kept = λ k h. refl;
    agree = agree_same;
    more = omega arith;
    few = w.few;
  }

  -- where they have, they are numbered from a blank row on
  module _ (row : List ℕ) (blank : row ≡ replicate 128 0) where
    pub indexing_ready : ListReady s (set table list row) list place free
    indexing_ready = record {
      placed = w.placed;
      row = w.row;
      room = set_room w.room list indexing_row row (ap length blank ∙ length-replicate {A = ℕ} 128 0);
      blank = rw (set_here w.room list indexing_row row, blank) zeros_row;
      few = w.few;
    }

    pub indexing_numbered : (u : List (List ℕ)) (free' : ℕ) → ListIndexed s (set table list row) u list place free free' → ListIndexed s table u list place free free'
    indexing_numbered u free' v = record {
      finds = v.finds;
      room = v.room;
      others = λ k h n. v.others k h n ∙ get_or-set_other table list k row [] n;
      kept = λ k h. v.kept k h ∙ get_or-set_other table list k row [] (λ n. omega (arith, w.row));
      agree = agree_then (omega arith) (agree_row w.room list w.row row) v.agree;
      more = v.more;
      few = v.few;
    }

pub ruleset indexing_laws = (indexing_few, indexing_row, indexing_room, indexing_kept, indexing_ready, indexing_numbered, rules)

-- ---- the loop over the lists

-- the rows before the k-th find the rules of their lists, those behind have them by places, and the others are blank
pub record Listing (s places : List ℕ) (lists : ℕ) (t table : List (List ℕ)) (k free : ℕ) : Type 0 where
  pub is : pack_of s ≡ accepted (pack_in s)
  pub counted : lists ≡ list_count (length (pack_in s).names)
  pub held : (j : ℕ) → j < lists → get_or places j 0 ≡ get_or (places_of s) j 0
  pub roomy : Roomy table
  pub kept : (j : ℕ) → required_row ≤ j → get_or table j [] ≡ get_or t j []
  pub noted : (j : ℕ) → k ≤ j → j < lists → RowPlaces s (get_or table j []) (list_at s (get_or places j 0))
  pub blank : (j : ℕ) → lists ≤ j → j < 98 → Blank (get_or table j [])
  pub found : (j : ℕ) → j < k → RowFinds s table free (get_or table j []) (get_or (pack_in s).lists j [])
  pub within : k ≤ lists
  pub few : lists ≤ 98
  pub long : length places ≡ 98
  pub room : free ≤ NUMBERS

pub listing_start : {s places : List ℕ} {lists first : ℕ} {table : List (List ℕ)} → ListsReady s places lists table → first ≤ NUMBERS → Listing s places lists table table 0 first
unfolding list_count
listing_start {s} w l = record {
  is = w.is;
  counted = w.counted;
  held = w.held;
  roomy = w.room;
  kept = λ j h. refl;
  noted = λ j l h. w.noted j h;
  blank = w.blank;
  found = λ j h. let no_way : ⊥ = omega arith in absurd no_way;
  within = zero-le;
  few = omega (arith, languages_few s (pack_in s) (1 + strings_length (pack_in s).names) w.is refl);
  long = w.long;
  room = l;
}

module _ {s places : List ℕ} {lists k free : ℕ} {t table : List (List ℕ)} (w : Listing s places lists t table k free) where
  many : length (pack_in s).lists ≡ lists
  many = lists_counted s (pack_in s) (1 + strings_length (pack_in s).names) w.is refl ∙ sym w.counted

  past_by : (j : ℕ) (word : List ℕ) (place : ℕ) → length word ≤ place → (t : Bool) → ltb j lists ≡ t → first_match (get_or (pack_in s).lists j []) word place ≡ none
  unfolding first_match
  past_by j word place h true e =
      past_held word place h (list_held s (pack_in s) (1 + strings_length (pack_in s).names) w.is refl j (rw (← w.counted) (ltb-true _ _ e))).held
  past_by j word place h false e = ap (λ (l : List Rule). first_match l word place) (no_list (pack_in s).lists j (omega (arith, many, ltb-false j lists e)))

  row_by_lem : lists ≤ k → (j : ℕ) → j < 98 → (t : Bool) → ltb j lists ≡ t → RowFinds s table free (get_or table j []) (get_or (pack_in s).lists j [])
  row_by_lem h j l true e = w.found j (omega (arith, ltb-true j lists e))
  row_by_lem h j l false e =
      subst (λ (rs : List Rule). RowFinds s table free (get_or table j []) rs) (sym (no_list (pack_in s).lists j (omega (arith, many, ltb-false j lists e))))
      (blank_finds (w.blank j (ltb-false j lists e) l))

  pub listing_done : lists ≤ k → ListsFound s t table
  listing_done h = record { found = finds s table free (λ j l. row_by_lem h j l _ refl) (λ j word place l. past_by j word place l _ refl) (omega (arith, many)); kept = w.kept }

  module _ (h : k < lists) where
    pub listing_place : k < length places
    listing_place = omega arith

    pub listing_next : ListStands s table k (get_or places k 0) free
    listing_next = record {
      placed = record { is = w.is; list = k; known = rw (← w.counted) h; held = w.held k h };
      row = omega arith;
      room = w.roomy;
      noted = w.noted k (omega arith) h;
      few = w.room;
    }

    module _ {u : List (List ℕ)} {free' : ℕ} (v : ListIndexed s table u k (get_or places k 0) free free') where
      row_told_lem : RowFinds s u free' (get_or u k []) (get_or (pack_in s).lists k [])
      row_told_lem =
          subst (RowFinds s u free' (get_or u k [])) (ap (list_at s) (w.held k h) ∙ list_told s (pack_in s) (1 + strings_length (pack_in s).names) w.is refl k (rw (← w.counted) h)) v.finds

      found_by_lem : (j : ℕ) → j < k + 1 → (t : Bool) → ltb j k ≡ t → RowFinds s u free' (get_or u j []) (get_or (pack_in s).lists j [])
      found_by_lem j l true e =
          let less : j < k = ltb-true _ _ e in
          rw (v.others j (omega arith) (λ n. omega arith)) (row_kept v.more v.agree (w.found j less))
      found_by_lem j l false e =
          let more : k ≤ j = ltb-false _ _ e in
          let same : j ≡ k = omega arith in
          rw same row_told_lem

      pub listing_turn : Listing s places lists t u (k + 1) free'
      listing_turn = record {
        is = w.is;
        counted = w.counted;
        held = w.held;
        roomy = v.room;
        kept = λ j l. v.kept j l ∙ w.kept j l;
        noted = λ j l m. rw (v.others j (omega arith) (λ n. omega arith)) (w.noted j (omega arith) m);
        blank = λ j l m. subst Blank (sym (v.others j m (λ n. omega arith))) (w.blank j l m);
        found = λ j l. found_by_lem j l _ refl;
        within = omega arith;
        few = w.few;
        long = w.long;
        room = v.few;
      }

pub ruleset listing_laws = (listing_start, listing_done, listing_place, listing_next, listing_turn, rules)

-- ---- a run of stores, read again

sets_below : {A : Type 0} (vs l : List A) (i k : ℕ) (d : A) → k < i → get_or (sets l i vs) k d ≡ get_or l k d
sets_below [] l i k d h = refl
sets_below (a ∷ vs) l i k d h = sets_below vs (set l i a) (suc i) k d (omega arith) ∙ get_or-set_other l i k a d (λ e. omega arith)

sets_map : {A B : Type 0} (f : A → B) (xs : List A) (l : List B) (i j k : ℕ) (x : A) (d : B) → j ≡ i + k → k < length xs → i + length xs ≤ length l → get_or (sets l i (map f xs)) j d ≡ f (get_or xs k x)
sets_map f [] l i j k x d e h r = let no_way : ⊥ = omega arith in absurd no_way
sets_map f (a ∷ xs) l i j zero x d e h r =
    let here : j ≡ i = omega arith in
    sets_below (map f xs) (set l i (f a)) (suc i) j d (omega arith) ∙ ap (λ (n : ℕ). get_or (set l i (f a)) n d) here ∙ get_or-set_same l i (f a) d (omega arith)
sets_map f (a ∷ xs) l i j (suc k) x d e h r = sets_map f xs (set l i (f a)) (suc i) j k x d (omega arith) (omega arith) (omega (arith, length-set l i (f a)))

-- ---- a survey's answer

pub pack_in_lem : (s : List ℕ) (p : Pack) → pack_of s ≡ accepted p → pack_in s ≡ p
unfolding pack_in pack_by
pack_in_lem s p e = ap pack_by e

module _ {s t t' : List ℕ} {u u' : List (List ℕ)} {r : Surveyed} (w : SurveyIs s t u r t' u') where
  refused_by_lem : (place : ℕ) (v : Verdict) → pack_of s ≡ v → surveyed_of v ≡ surveyed.Refused place → (pack_in s).lists ≡ []
  unfolding surveyed_of pack_in pack_by
  refused_by_lem place (accepted p) e q = clash (cc)
  refused_by_lem place (refused k) e q = ap (λ (x : Verdict). (pack_by x).lists) e

  -- a refused pack has no list
  pub index_refused : {table : List (List ℕ)} → Cleared 0 u' table → (place : ℕ) → r ≡ surveyed.Refused place → IndexIs s (surveyed.Refused place) table
  unfolding first_match guesser_by
  index_refused {table} v place q =
      let none_there : (pack_in s).lists ≡ [] = refused_by_lem place _ refl (sym (surveyed_one _ _ w.result) ∙ q) in
      let empty : (k : ℕ) → get_or (pack_in s).lists k [] ≡ [] = λ k. ap (λ (l : List (List Rule)). get_or l k []) none_there in
      record {
        result = ap surveyed_numbers (sym q) ∙ w.result;
        found = finds s table 0 (λ k h. subst (λ (l : List Rule). RowFinds s table 0 (get_or table k []) l) (sym (empty k)) (blank_finds (v.blank k (omega arith) h)))
            (λ k word place h. ap (λ (l : List Rule). first_match l word place) (empty k)) (omega (arith, ap length none_there));
        guessed = refl;
      }

-- the table that the survey of an accepted pack left
module _ {s places : List ℕ} {table : List (List ℕ)} {n g : ℕ} (w : SurveyLeft s places table n g) where
  there : SurveyedPack s n g
  there = surveyed_pack s n g (surveyed.Accepted n g) (surveyed_one _ _ w.survey.result) refl

  few : n ≤ 32
  few = omega (arith, there.languages, languages_few s there.pack g there.is there.guesses)

  same : pack_in s ≡ there.pack
  same = pack_in_lem s there.pack there.is

  is_accepted : pack_of s ≡ accepted (pack_in s)
  is_accepted = there.is ∙ ap accepted (sym same)

  lists_many : 3 * n + 2 ≡ list_count (length (pack_in s).names)
  unfolding list_count
  lists_many = ap list_count (there.languages ∙ ap (λ (p : Pack). length p.names) (sym same))

  counted : length (places_of s) ≡ 3 * n + 2
  counted = places_counted s (pack_in s) g is_accepted (there.guesses ∙ ap (λ (p : Pack). 1 + strings_length p.names) (sym same)) ∙ sym lists_many

  pub left_thrice : Fits w64 (3 * n)
  left_thrice = record { fits = omega (arith, few) }

  pub left_lists : Fits w64 (3 * n + 2)
  left_lists = record { fits = omega (arith, few) }

  place_held : (k : ℕ) → k < 3 * n + 2 → get_or places k 0 ≡ get_or (places_of s) k 0
  place_held k h =
      ap (λ (x : List ℕ). get_or x k 0) (w.survey.stored.placed ∙ sets-eq (places_of s) w.empty 0 (omega (arith, w.long, few, counted)))
      ∙ get_or-append (places_of s) _ 0 k (omega (arith, counted))

  list_placed : (k : ℕ) → k < 3 * n + 2 → ListPlaced s (get_or (places_of s) k 0)
  list_placed k h = record { is = is_accepted; list = k; known = rw (← lists_many) h; held = refl }

  module _ (room : Roomy table) {cleared : List (List ℕ)} (v : Cleared (3 * n + 2) table cleared) where
    wide : rows ≤ length w.before
    wide = omega (arith, row_within table (rows - 1) (room.wide (rows - 1) (omega arith)), ap length w.survey.stored.noted, length-sets w.before 0 (map (row_at s) (places_of s)))

    row_noted : (k : ℕ) → k < 3 * n + 2 → get_or cleared k [] ≡ row_at s (get_or (places_of s) k 0)
    row_noted k h =
        v.before k h ∙ ap (λ (x : List (List ℕ)). get_or x k []) w.survey.stored.noted
        ∙ sets_map (row_at s) (places_of s) w.before 0 k k 0 [] (omega arith) (omega (arith, counted)) (omega (arith, wide, few, counted))

    pub left_guesses : GuessesReady s g cleared
    left_guesses = record { pack = there.pack; is = there.is; held = there.guesses; room = v.room }

    module _ {noted : List (List ℕ)} (x : GuessesNoted s g cleared noted) where
      pub left_ready : ListsReady s places (3 * n + 2) noted
      left_ready = record {
        is = is_accepted;
        counted = lists_many;
        long = ap length w.survey.stored.placed ∙ length-sets w.empty 0 (places_of s) ∙ w.long;
        held = place_held;
        room = x.room;
        noted = λ k h. rw (x.kept k (omega (arith, few)), row_noted k h, place_held k h) (row_places (list_placed k h));
        blank = λ k l h. subst Blank (sym (x.kept k (omega arith))) (v.blank k l h);
      }

  pub left_found : {noted done cleared : List (List ℕ)} → GuessesNoted s g cleared noted → ListsFound s noted done → AcceptedIs s done n g
  unfolding guesser_by
  left_found {noted} {done} x f = record {
    result = w.survey.result;
    found = f.found;
    guessed = ap (λ (a : ℕ → List ℕ → LanguageSet). a n) (guesser_kept s noted done g f.kept ∙ x.guessed);
  }

pub ruleset left_laws = (left_thrice, left_lists, left_guesses, left_ready, left_found, rules)

-- ---- the survey

pub zeros_long : length (replicate {A = ℕ} 98 0) ≡ 98
zeros_long = length-replicate {A = ℕ} 98 0

pub survey_left : (s places : List ℕ) (before table : List (List ℕ)) (languages guesses : ℕ) (r : Surveyed) → SurveyIs s (replicate 98 0) before r places table
    → r ≡ surveyed.Accepted languages guesses → SurveyLeft s places table languages guesses
survey_left s places before table languages guesses r w q = record {
  empty = replicate {A = ℕ} 98 0;
  before = before;
  survey = subst (λ (x : Surveyed). SurveyIs s (replicate {A = ℕ} 98 0) before x places table) q w;
  long = zeros_long;
}

pub ruleset survey_laws = (index_refused, survey_left, zeros_long, rules)

-- the promise of `index` allows one answer, and one table as far as it is looked at
pub index_one : (s : List ℕ) (r r' : Surveyed) (t t' : List (List ℕ)) → IndexIs s r t → IndexIs s r' t'
    → ◌≡◌ {A = Surveyed × (ℕ → Matcher) × (List ℕ → LanguageSet)} (r, matcher s t, guesser_by (guesser s t) r) (r', matcher s t', guesser_by (guesser s t') r')
index_one s r r' t t' a b =
    let verdict : r ≡ r' = surveyed_one _ _ (one a.result b.result) in
    let same : matcher s t ≡ matcher s t' = λ i k. (a.found k ∙ sym (b.found k)) i in
    let guesses : guesser_by (guesser s t) r ≡ guesser_by (guesser s t') r' = a.guessed ∙ ap (guesser_by (guessed_at s)) verdict ∙ sym b.guessed in
    λ i. (verdict i, same i, guesses i)
