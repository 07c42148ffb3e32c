-- The names, the lists and the survey: the loops over them, and that the sections one after the other are the pack. Assumes nothing.
use Rattle.strings.specs.declared.Span.{Span}
use mathlib.Core.Path.{◌≡◌, refl, sym, ap, ap₂, subst, ◌∙◌}
use mathlib.Core.Bool.{Bool, true, false}
use mathlib.Core.List.{List, [], ◌∷◌, ◌++◌, map, append_assoc}
use Prim.Native.Nat.{ℕ, zero, suc, ◌+◌, ◌-◌, ◌*◌, ◌≤◌, ◌<◌, zero-le}
use native.Mathlib.Nat.{not-suc-le-zero}
use native.Mathlib.Numerals.{add-one}
use native.Mathlib.Omega.{arith}
use lib.Dec.{eqb, leb}
use lib.ListN.{length, get_or, take, drop, set, replicate, length-append, length-drop, take-append-drop}
use lib.Seq.{sets, set_out, length-take-le}
use borrow.Author.Rules.{rules}
use Rattle.std.specs.Prelude.{Option, Some, None, Result, Ok, Err}
use borrow.Author.Tests.{le-leb, lt-leb, leb-true, eq-eqb, ne_eqb}
use Rattle.base.specs.Pick.{pick, and}
use Rattle.letters.specs.Order.{order_of, same_text, is_less, increasing}
use Rattle.std.specs.declared.cmp.Ordering.{Ordering}
use Rattle.std.specs.declared.cmp.Ordering.TheVariants.{Less, Equal, Greater}
use Rattle.languages.specs.Names.{language_name}
use Rattle.languages.proofs.Laws.{name_some}
use Rattle.strings.specs.Reading.{Read, cut, got, and_read, read_byte, read_text, read_many, place_in, is_nil}
use Rattle.pack.specs
use specs.Packs.{Pack, Verdict, accepted, refused, read_names, read_guesses, read_list, all, holds, any, names_good, guesses_good, list_good, section, names_in, list_count, list_sections, end_section, pack_of, verdict_of, strings_length}
use Rattle.rule_lines.specs.Rules.{Rule}
use specs.PlaceContracts.{surveyed_of, judge, found_in, places_of, row_at, Stored, SurveyIs}
use specs.InnerContracts.{end_in, all_from, past, follows, met_by, names_from, lists_end, ListNoted, ListsAre, ended, rest_of, rest_places, RestIs}
use Rattle.strings.specs.InnerContracts.{ByteIs, string_at}
use specs.declared
use declared.sections.Checked.TheVariants as checked
use declared.sections.Surveyed.{Surveyed}
use declared.sections.Surveyed.TheVariants as surveyed
use Rattle.pack.proofs
use proofs.NumberLaws.{surveyed_one, surveyed_told}
use proofs.RuleLaws.{swap}
use proofs.Readers.{names_ends, guesses_ends, list_ends}
use Rattle.strings.proofs.Readers.{EndOf, end_here, end_then, end_length, place_drop, then_inv, many_length, byte_ends, byte_some, byte_none, text_is, text_cut}
use Rattle.base.proofs.Arms.{clash}
use proofs.Judging.{Faulty, runs_out, fails, Ending, much_by, section_ends, section_faulty, judge_fine, judge_faulty, judge_same, walk_on, walk_off, walk_end}
use Rattle.base.proofs.PickLaws.{pick_true, pick_false, and_first, and_inv, and_assoc, pick_map}

-- ---- the names, one after the other

pub name_less : (p x : List ℕ) (t : Bool) → order_of p x ≡ Less → t ≡ language_name x → t ≡ follows p x
unfolding follows is_less and
name_less p x t q f = rw q f

pub name_other : (p x : List ℕ) (o : Ordering) → o ≡ order_of p x → (o ≡ Less → ⊥) → false ≡ follows p x
unfolding follows is_less and
name_other p x Less e n = absurd (n refl)
name_other p x Equal e n = rw (← e) refl
name_other p x Greater e n = rw (← e) refl

pub ruleset follows_laws = (name_less, name_other, rules)

unfoldable shift : List ℕ → List (List ℕ) → Bool
shift p [] = true
shift p (x ∷ xs) = is_less (order_of p x)

increasing_is : (x : List ℕ) (xs : List (List ℕ)) → increasing (x ∷ xs) ≡ and (shift x xs) (increasing xs)
unfolding increasing shift and
increasing_is x [] = refl
increasing_is x (y ∷ xs) = refl

met_is : (m t h : Bool) → pick (pick m true t) true h ≡ pick m true (pick t true h)
unfolding pick
met_is true t h = refl
met_is false t h = refl

-- the loop's test of what is left, from the name before it and whether `any` was met
names_nil : (p : List ℕ) (m : Bool) → names_from (past p m) [] ≡ and (all language_name []) (and (shift p []) (and (increasing []) (pick m true (holds any []))))
unfolding names_from all_from all shift increasing holds and pick
names_nil p true = refl
names_nil p false = refl

names_cons : (p x : List ℕ) (m : Bool) (xs : List (List ℕ))
    → names_from (past x (met_by m x)) xs ≡ and (all language_name xs) (and (shift x xs) (and (increasing xs) (pick (met_by m x) true (holds any xs))))
    → names_from (past p m) (x ∷ xs) ≡ and (all language_name (x ∷ xs)) (and (shift p (x ∷ xs)) (and (increasing (x ∷ xs)) (pick m true (holds any (x ∷ xs)))))
unfolding names_from all_from all shift follows met_by holds
names_cons p x m xs ih =
    ap (and (follows p x)) (ih
    ∙ ap (and (all language_name xs)) (sym (and_assoc (shift x xs) (increasing xs) (pick (met_by m x) true (holds any xs)))
    ∙ ap₂ and (sym (increasing_is x xs)) (met_is m (same_text x any) (holds any xs))))
    ∙ swap (is_less (order_of p x)) (language_name x) (all language_name xs) _

names_are : (p : List ℕ) (m : Bool) (xs : List (List ℕ)) → names_from (past p m) xs ≡ and (all language_name xs) (and (shift p xs) (and (increasing xs) (pick m true (holds any xs))))
names_are p m [] = names_nil p m
names_are p m (x ∷ xs) = names_cons p x m xs (names_are x (met_by m x) xs)

-- the empty text stands before each name
first_less : (x : List ℕ) → language_name x ≡ true → is_less (order_of [] x) ≡ true
unfolding is_less order_of
first_less [] e = let some = name_some [] e in absurd (omega arith)
first_less (y ∷ ys) e = refl

shift_by : (x : List ℕ) (a b t : Bool) → language_name x ≡ t → and (and t a) (and (is_less (order_of [] x)) b) ≡ and (and t a) b
unfolding and
shift_by x a b true e = ap (λ (u : Bool). and a (and u b)) (first_less x e)
shift_by x a b false e = refl

shift_first : (xs : List (List ℕ)) (b : Bool) → and (all language_name xs) (and (shift [] xs) b) ≡ and (all language_name xs) b
unfolding shift all and
shift_first [] b = refl
shift_first (x ∷ xs) b = shift_by x (all language_name xs) b _ refl

names_is : (xs : List (List ℕ)) → length xs ≤ 32 → names_good xs ≡ names_from (past [] false) xs
unfolding names_good and pick
names_is xs h = rw (le-leb (length xs) 32 h) (sym (names_are [] false xs ∙ shift_first xs (and (increasing xs) (holds any xs))))

names_not : (xs : List (List ℕ)) → 32 < length xs → names_good xs ≡ false
unfolding names_good
names_not xs h = and_first _ _ (lt-leb _ _ h)

names_reads : (s : List ℕ) → 0 < length s → read_names s ≡ read_many read_text (get_or s 0 0) (drop 1 s)
unfolding read_names read_byte and_read
names_reads [] h = let no_way : ⊥ = omega arith in absurd no_way
names_reads (b ∷ s) h = refl

pub names_none : (s : List ℕ) → length s ≡ 0 → None ≡ end_in s names_good (read_names s)
unfolding end_in judge read_names read_byte and_read
names_none [] h = refl
names_none (b ∷ s) h = let no_way : ⊥ = omega arith in absurd no_way

module _ (s : List ℕ) (n : ℕ) (h : 0 < length s) (b : n ≡ get_or s 0 0) where
  reads_n : read_names s ≡ read_many read_text n (drop 1 s)
  reads_n = names_reads s h ∙ ap (λ (k : ℕ). read_many read_text k (drop 1 s)) (sym b)

  pub names_much : 32 < n → None ≡ end_in s names_good (read_names s)
  unfolding end_in
  names_much l = sym (ap (end_in s names_good) reads_n ∙ judge_faulty _ _ _ _ (much_by read_text names_good 32 names_not _ n _ refl l))

pub met_already : (m : Bool) (x : List ℕ) → m ≡ true → m ≡ met_by m x
unfolding met_by
met_already m x e = e ∙ sym (pick_true _ _ _ e)

pub met_now : (m t : Bool) (x : List ℕ) → m ≡ false → t ≡ same_text x any → t ≡ met_by m x
unfolding met_by
met_now m t x e h = h ∙ sym (pick_false _ _ _ e)

pub record Naming (s : List ℕ) (count : ℕ) (before : List ℕ) (at i : ℕ) (met : Bool) : Type 0 where
  pub within : at ≤ length s
  pub is : end_in s names_good (read_names s) ≡ end_in s (names_from (past before met)) (read_many read_text (count - i) (drop at s))

pub naming_start : (s : List ℕ) (n : ℕ) → 0 < length s → n ≡ get_or s 0 0 → n ≤ 32 → Naming s n [] 1 0 false
unfolding end_in
naming_start s n h b l = let all : n - 0 ≡ n = omega arith in record {
  within = omega arith;
  is = rw all (ap (end_in s names_good) (reads_n s n h b)
      ∙ judge_same _ _ _ _ _ (λ xs t g. let few : length xs ≤ 32 = omega (arith, many_length read_text n (drop 1 s) xs t g) in names_is xs few));
}

module _ {s : List ℕ} {count : ℕ} {before : List ℕ} {at i : ℕ} {met : Bool} (w : Naming s count before at i met) where
  module _ (x : Option Span) (g : x ≡ string_at s at) where
    pub naming_cut : i < count → x ≡ None → None ≡ end_in s names_good (read_names s)
    unfolding names_from
    naming_cut h q = sym (w.is ∙ walk_off s read_text _ _ _ _ count i _ h (runs_out (text_cut s at x g q)))

    module _ (part : Span) (q : x ≡ Some part) where
      pub name_order : part.start ≤ part.end
      name_order = let v = text_is s at x g part q in omega arith

      pub name_fits : part.end ≤ length s
      name_fits = (text_is s at x g part q).fits

      module _ (t : Bool) (k : t ≡ follows before (take (part.end - part.start) (drop part.start s))) (h : i < count) where
        pub naming_bad : t ≡ false → None ≡ end_in s names_good (read_names s)
        unfolding names_from
        naming_bad v = sym (w.is ∙ walk_off s read_text _ _ _ _ count i _ h (fails _ _ (text_is s at x g part q).reads (sym k ∙ v)))

        pub naming_next : (m : Bool) → t ≡ true → m ≡ met_by met (take (part.end - part.start) (drop part.start s)) → Naming s count (take (part.end - part.start) (drop part.start s)) part.end (i + 1) m
        unfolding names_from
        naming_next m v f = let z = text_is s at x g part q in record {
          within = z.fits;
          is = w.is ∙ walk_on s read_text _ _ _ _ count i _ _ _ h z.reads (sym k ∙ v)
              ∙ ap (λ (u : Bool). end_in s (names_from (past (take (part.end - part.start) (drop part.start s)) u)) (read_many read_text (count - (i + 1)) (drop part.end s))) (sym f);
        }

  pub naming_done : count ≤ i → met ≡ true → Some at ≡ end_in s names_good (read_names s)
  unfolding names_from
  naming_done h q = sym (w.is ∙ walk_end s read_text _ _ _ _ count i at h w.within ∙ pick_true _ _ _ q)

  pub naming_lacks : count ≤ i → met ≡ false → None ≡ end_in s names_good (read_names s)
  unfolding names_from
  naming_lacks h q = sym (w.is ∙ walk_end s read_text _ _ _ _ count i at h w.within ∙ pick_false _ _ _ q)

pub ruleset naming_laws = (names_none, names_much, naming_start, naming_cut, name_order, name_fits, naming_bad, naming_next, naming_done, naming_lacks, rules)

-- ---- the lists, one after the other

pub put_out : {A : Type 0} (l : List A) (k : ℕ) (v : A) → length l ≤ k → l ≡ set l k v
put_out l k v h = sym (set_out l k v h)

pub record Found (s names : List ℕ) (start count : ℕ) (places : List ℕ) (rows : List (List ℕ)) (at k : ℕ) (places' : List ℕ) (rows' : List (List ℕ)) : Type 0 where
  pub within : at ≤ length s
  pub is : lists_end s names count (drop start s) ≡ lists_end s names (count - k) (drop at s)
  pub placed : sets places 0 (found_in s names count (drop start s)) ≡ sets places' k (found_in s names (count - k) (drop at s))
  pub noted : sets rows 0 (map (row_at s) (found_in s names count (drop start s))) ≡ sets rows' k (map (row_at s) (found_in s names (count - k) (drop at s)))

pub found_start : (s names : List ℕ) (start count : ℕ) (places : List ℕ) (rows : List (List ℕ)) → start ≤ length s → Found s names start count places rows start 0 places rows
found_start s names start count places rows h = let all : count - 0 ≡ count = omega arith in record { within = h; is = rw all refl; placed = rw all refl; noted = rw all refl }

-- what is stored of a list at a place, and then of the others
stored_next : {A : Type 0} (f : ℕ → A) (l : List A) (k place : ℕ) (found more : List ℕ) → found ≡ place ∷ more → sets l k (map f found) ≡ sets (set l k (f place)) (k + 1) (map f more)
stored_next f l k place found more e = ap (λ (x : List ℕ). sets l k (map f x)) e ∙ ap (λ (n : ℕ). sets (set l k (f place)) n (map f more)) (sym (add-one k))

ends_one : (s names : List ℕ) (n : ℕ) (r : List ℕ) (rules : List Rule) (q : List ℕ) → 0 < n → read_list r ≡ got rules q → list_good names rules ≡ true
    → lists_end s names n r ≡ lists_end s names (n - 1) q
unfolding lists_end
ends_one s names zero r rules q h e g = absurd (not-suc-le-zero h)
ends_one s names (suc n) r rules q h e g = let m : n ≡ suc n - 1 = omega arith in judge_fine _ _ _ _ rules q e g ∙ ap (λ (k : ℕ). lists_end s names k q) m

ends_none : (s names : List ℕ) (n : ℕ) (r : List ℕ) → 0 < n → Faulty (list_good names) (read_list r) → lists_end s names n r ≡ Err (place_in s r)
unfolding lists_end
ends_none s names zero r h f = absurd (not-suc-le-zero h)
ends_none s names (suc n) r h f = judge_faulty _ _ _ _ f

pub found_one : (s names : List ℕ) (n : ℕ) (r : List ℕ) (rules : List Rule) (q : List ℕ) → 0 < n → read_list r ≡ got rules q → list_good names rules ≡ true
    → found_in s names n r ≡ place_in s r ∷ found_in s names (n - 1) q
unfolding found_in
found_one s names zero r rules q h e g = absurd (not-suc-le-zero h)
found_one s names (suc n) r rules q h e g =
    let m : n ≡ suc n - 1 = omega arith in judge_fine _ _ _ _ rules q e g ∙ ap (λ (k : ℕ). place_in s r ∷ found_in s names k q) m

found_none : (s names : List ℕ) (n : ℕ) (r : List ℕ) → Faulty (list_good names) (read_list r) → found_in s names n r ≡ []
unfolding found_in
found_none s names zero r f = refl
found_none s names (suc n) r f = judge_faulty _ _ _ _ f

module _ {s names : List ℕ} {start count : ℕ} {places : List ℕ} {rows : List (List ℕ)} {at k : ℕ} {places' : List ℕ} {rows' : List (List ℕ)} (w : Found s names start count places rows at k places' rows') where
  module _ (x : Option ℕ) (row : List ℕ) (g : ListNoted s names at (replicate 128 0) x row) (h : k < count) where
    pub found_next : (e : ℕ) (places'' : List ℕ) (rows'' : List (List ℕ)) → x ≡ Some e → places'' ≡ set places' k at → rows'' ≡ set rows' k row → Found s names start count places rows e (k + 1) places'' rows''
    found_next e places'' rows'' q f f₂ =
        let o = section_ends s (list_good names) read_list (drop at s) x g.result list_ends (end_here s at w.within) e q in
        let some : 0 < count - k = omega arith in
        let left : count - k - 1 ≡ count - (k + 1) = omega arith in
        let one : found_in s names (count - k) (drop at s) ≡ at ∷ found_in s names (count - (k + 1)) (drop e s) =
        found_one s names (count - k) _ o.value _ some o.reads o.passes ∙ ap₂ (λ (n m : ℕ). n ∷ found_in s names m (drop e s)) (place_drop s at w.within) left in
        record {
          within = o.fits;
          is = w.is ∙ ends_one s names (count - k) _ o.value _ some o.reads o.passes ∙ ap (λ (n : ℕ). lists_end s names n (drop e s)) left;
          placed = w.placed ∙ ap (sets places' k) one ∙ ap₂ (λ (l : List ℕ) (v : ℕ). sets l v (found_in s names (count - (k + 1)) (drop e s))) (sym f) (sym (add-one k));
          noted = w.noted ∙ stored_next (row_at s) rows' k at _ _ one
              ∙ ap (λ (l : List (List ℕ)). sets l (k + 1) (map (row_at s) (found_in s names (count - (k + 1)) (drop e s)))) (sym (f₂ ∙ ap (set rows' k) (rw q at g.noted)));
        }

    pub found_fault : x ≡ None → ListsAre s names count start places rows (Err at) places' rows'
    found_fault q =
        let o = section_faulty s (list_good names) read_list (drop at s) x g.result q in
        let none = found_none s names (count - k) _ o in
        let some : 0 < count - k = omega arith in
        record {
          result = sym (w.is ∙ ends_none s names (count - k) _ some o ∙ ap Err (place_drop s at w.within));
          stored = record { placed = sym (w.placed ∙ ap (sets places' k) none); noted = sym (w.noted ∙ ap (λ (l : List ℕ). sets rows' k (map (row_at s) l)) none) };
        }

  pub found_done : count ≤ k → ListsAre s names count start places rows (Ok at) places' rows'
  unfolding lists_end found_in
  found_done h =
      let none : count - k ≡ 0 = omega arith in
      record {
        result = sym (w.is ∙ ap (λ (n : ℕ). lists_end s names n (drop at s)) none ∙ ap Ok (place_drop s at w.within));
        stored = record {
          placed = sym (w.placed ∙ ap (λ (n : ℕ). sets places' k (found_in s names n (drop at s))) none);
          noted = sym (w.noted ∙ ap (λ (n : ℕ). sets rows' k (map (row_at s) (found_in s names n (drop at s)))) none);
        };
      }

pub ruleset found_laws = (found_start, found_next, found_fault, found_done, rules)

-- where no list is found nothing is stored
none_stored : (s places : List ℕ) (rows : List (List ℕ)) (found : List ℕ) → found ≡ [] → Stored s places rows found places rows
none_stored s places rows found e = record { placed = sym (ap (sets places 0) e); noted = sym (ap (λ (l : List ℕ). sets rows 0 (map (row_at s) l)) e) }

-- ---- the list count, the lists and the end

module _ (s names : List ℕ) (n at : ℕ) (places : List ℕ) (rows : List (List ℕ)) where
  pub rest_none : length s ≤ at → at ≤ length s → RestIs s names n at places rows (Err at) places rows
  unfolding rest_of rest_places judge
  rest_none h w = record { result = rw (byte_none s at h) (ap Err (sym (place_drop s at w))); stored = none_stored s places rows _ (rw (byte_none s at h) refl) }

  module _ (k : ℕ) (h : at < length s) (b : ByteIs s at k) where
    byte_reads : read_byte (drop at s) ≡ got k (drop (at + 1) s)
    byte_reads = byte_some s at h ∙ ap (λ (x : ℕ). got x (drop (at + 1) s)) (sym b.is)

    pub rest_count : (k ≡ 3 * n + 2 → ⊥) → RestIs s names n at places rows (Err at) places rows
    unfolding rest_of rest_places list_count
    rest_count e =
        let f : Faulty (λ (c : ℕ). eqb c (3 * n + 2)) (read_byte (drop at s)) = fails k _ byte_reads (ne_eqb _ _ e) in
        let w : at ≤ length s = omega arith in
        record {
          result = sym (judge_faulty _ _ _ _ f ∙ ap Err (place_drop s at w));
          stored = none_stored s places rows _ (judge_faulty _ _ _ _ f);
        }

    module _ (e : k ≡ 3 * n + 2) (x : Result ℕ ℕ) (places' : List ℕ) (rows' : List (List ℕ)) (l : ListsAre s names k (at + 1) places rows x places' rows') where
      rest_by : (y : Result (Unit {0}) ℕ) → y ≡ ended s x → RestIs s names n at places rows y places' rows'
      unfolding rest_of rest_places list_count
      rest_by y q = record {
        result = q ∙ ap (ended s) l.result ∙ sym (judge_fine _ _ _ _ k _ byte_reads (eq-eqb _ _ e));
        stored = subst (λ (f : List ℕ). Stored s places rows f places' rows') (sym (judge_fine _ _ _ _ k _ byte_reads (eq-eqb _ _ e))) l.stored;
      }

      pub rest_fault : (p : ℕ) → x ≡ Err p → RestIs s names n at places rows (Err p) places' rows'
      unfolding ended
      rest_fault p q = rest_by _ (sym (ap (ended s) q))

      pub rest_ends : (p : ℕ) → x ≡ Ok p → p ≡ length s → RestIs s names n at places rows (Ok tt) places' rows'
      unfolding ended
      rest_ends p q f = rest_by _ (sym (ap (ended s) q ∙ pick_true _ _ _ (eq-eqb _ _ f)))

      pub rest_more : (p : ℕ) → x ≡ Ok p → (p ≡ length s → ⊥) → RestIs s names n at places rows (Err p) places' rows'
      unfolding ended
      rest_more p q f = rest_by _ (sym (ap (ended s) q ∙ pick_false _ _ _ (ne_eqb _ _ f)))

pub ruleset rest_laws = (rest_none, rest_count, rest_fault, rest_ends, rest_more, rules)

-- ---- the sections of the pack

pub section_is : {A : Type 0} (place : ℕ) (good : A → Bool) (rd : Read A) (k : A → List ℕ → Verdict) → section place good rd k ≡ judge (refused place) good rd k
unfolding section judge
section_is place good cut k = refl
section_is place good (got a r) k = refl

judge_map : {A R T : Type 0} (h : R → T) (bad : R) (good : A → Bool) (x : Read A) (k : A → List ℕ → R) → h (judge bad good x k) ≡ judge (h bad) good x (λ a r. h (k a r))
unfolding judge
judge_map h bad good cut k = refl
judge_map h bad good (got a r) k = pick_map h (good a) (k a r) bad

judge_cong : {A R : Type 0} (bad : R) (good : A → Bool) (x : Read A) (k j : A → List ℕ → R) → ((a : A) (r : List ℕ) → x ≡ got a r → k a r ≡ j a r) → judge bad good x k ≡ judge bad good x j
unfolding judge
judge_cong bad good cut k j e = refl
judge_cong bad good (got a r) k j e = ap (λ (y : _). pick (good a) y bad) (e a r refl)

-- the names are known, and the rest is judged
unfoldable told : List (List ℕ) → Result (Unit {0}) ℕ → Surveyed
told names (Ok u) = surveyed.Accepted (length names) (1 + strings_length names)
told names (Err n) = surveyed.Refused n

told_step : {A : Type 0} (names : List (List ℕ)) (place : ℕ) (good : A → Bool) (x : Read A) (k : A → List ℕ → Verdict) (j : A → List ℕ → Result (Unit {0}) ℕ)
    → ((a : A) (r : List ℕ) → x ≡ got a r → surveyed_of (k a r) ≡ told names (j a r)) → surveyed_of (section place good x k) ≡ told names (judge (Err place) good x j)
unfolding surveyed_of told
told_step names place good x k j e =
    ap surveyed_of (section_is place good x k) ∙ judge_map surveyed_of (refused place) good x k
    ∙ judge_cong _ good x _ _ e ∙ sym (judge_map (told names) (Err place) good x j)

nil_is : (s r : List ℕ) → EndOf s r → is_nil r ≡ eqb (place_in s r) (length s)
unfolding is_nil place_in
nil_is s [] v = sym (eq-eqb (length s - 0) (length s) (omega arith))
nil_is s (x ∷ r) v = sym (ne_eqb (length s - suc (length r)) (length s) (λ e. omega (arith, end_length v)))

end_by : (s : List ℕ) (names : List (List ℕ)) (e : ℕ) (p : Pack) (t : Bool) → p.names ≡ names → surveyed_of (pick t (accepted p) (refused e)) ≡ told names (pick t (Ok tt) (Err e))
unfolding surveyed_of told pick
end_by s names e p true h = ap (λ (n : List (List ℕ)). surveyed.Accepted (length n) (1 + strings_length n)) h
end_by s names e p false h = refl

end_told : (s : List ℕ) (names : List (List ℕ)) (r : List ℕ) (p : Pack) → EndOf s r → p.names ≡ names → surveyed_of (end_section s p r) ≡ told names (ended s (Ok (place_in s r)))
unfolding end_section ended
end_told s names r p v h = end_by s names (place_in s r) p (is_nil r) h ∙ ap (λ (t : Bool). told names (pick t (Ok tt) (Err (place_in s r)))) (nil_is s r v)

lists_told : (s nm : List ℕ) (names : List (List ℕ)) (n : ℕ) (r : List ℕ) (mk : List (List Rule) → Pack) → EndOf s r → ((ls : List (List Rule)) → (mk ls).names ≡ names)
    → surveyed_of (list_sections s nm n r (λ ls t. end_section s (mk ls) t)) ≡ told names (ended s (lists_end s nm n r))
unfolding list_sections lists_end ended
lists_told s nm names zero r mk v h = end_told s names r (mk []) v (h [])
lists_told s nm names (suc n) r mk v h =
    told_step names (place_in s r) (list_good nm) (read_list r) _ (λ rules q. ended s (lists_end s nm n q))
    (λ rules q e. lists_told s nm names n q (λ ls. mk (rules ∷ ls)) (end_then v (list_ends r rules q e)) (λ ls. h (rules ∷ ls)))
    ∙ sym (ap (told names) (judge_map (ended s) (Err (place_in s r)) (list_good nm) (read_list r) (λ rules q. lists_end s nm n q)))

-- ---- what the names tell

unfoldable pub written : List (List ℕ) → List ℕ
written [] = []
written (t ∷ ts) = length t ∷ (t ++ written ts)

written_by : (n : ℕ) (l t q : List ℕ) (b : Bool) → leb n (length l) ≡ b → pick b (got (take n l) (drop n l)) cut ≡ got t q → n ∷ l ≡ length t ∷ (t ++ q)
unfolding pick
written_by n l t q false p e = clash (cc)
written_by n l t q true p e =
    let text : take n l ≡ t = cc in
    let rest : drop n l ≡ q = cc in
    let size : n ≡ length t = sym (sym (ap length text) ∙ length-take-le n l (leb-true _ _ p)) in
    ap₂ (λ (x : ℕ) (y : List ℕ). x ∷ y) size (sym (take-append-drop n l) ∙ ap₂ (λ (x y : List ℕ). x ++ y) text rest)

text_written : (l t q : List ℕ) → read_text l ≡ got t q → l ≡ length t ∷ (t ++ q)
unfolding read_text
text_written [] t q e = clash (cc)
text_written (n ∷ l) t q e = written_by n l t q _ refl e

many_written : (n : ℕ) (l : List ℕ) (xs : List (List ℕ)) (r : List ℕ) → read_many read_text n l ≡ got xs r → l ≡ written xs ++ r
unfolding read_many written
many_written zero l xs r e = let none : [] ≡ xs = cc in let rest : l ≡ r = cc in rest ∙ ap (λ (x : List (List ℕ)). written x ++ r) none
many_written (suc n) l xs r e =
    let i = then_inv (read_text l) _ xs r e in
    let j = then_inv (read_many read_text n i.1) _ xs r i.3 in
    let whole : i.0 ∷ j.0 ≡ xs = cc in
    let rest : j.1 ≡ r = cc in
    text_written l i.0 i.1 i.2 ∙ ap (λ (x : List ℕ). length i.0 ∷ (i.0 ++ x)) (many_written n i.1 j.0 j.1 j.2)
    ∙ sym (ap (λ (x : List ℕ). length i.0 ∷ x) (append_assoc i.0 (written j.0) j.1))
    ∙ ap₂ (λ (x : List (List ℕ)) (y : List ℕ). written x ++ y) whole rest

pub written_length : (xs : List (List ℕ)) → length (written xs) ≡ strings_length xs
unfolding written strings_length
written_length [] = refl
written_length (t ∷ ts) = omega (arith, length-append t (written ts), written_length ts)

pub names_written : (s : List ℕ) (xs : List (List ℕ)) (r : List ℕ) → read_names s ≡ got xs r → drop 1 s ≡ written xs ++ r
unfolding read_names read_byte and_read
names_written [] xs r e = clash (cc)
names_written (b ∷ s) xs r e = many_written b s xs r e

pub names_count : (s : List ℕ) (xs : List (List ℕ)) (r : List ℕ) → read_names s ≡ got xs r → length xs ≡ get_or s 0 0
unfolding read_names read_byte and_read
names_count [] xs r e = clash (cc)
names_count (b ∷ s) xs r e = many_length read_text b s xs r e

pub names_bytes_lem : (s : List ℕ) (xs : List (List ℕ)) (r : List ℕ) → read_names s ≡ got xs r → length s ≡ 1 + strings_length xs + length r
unfolding read_names read_byte and_read
names_bytes_lem [] xs r e = clash (cc)
names_bytes_lem (b ∷ s) xs r e = omega (arith, ap length (many_written b s xs r e), length-append (written xs) r, written_length xs)

-- the names' section of s ends at g
module _ (s : List ℕ) (g : ℕ) (w : Ending s names_good (read_names s) g) where
  pub names_end : g ≡ 1 + strings_length w.value
  names_end = omega (arith, names_bytes_lem s w.value _ w.reads, length-drop g s)

  pub names_in_lem : names_in s (drop g s) ≡ take (g - 1) (drop 1 s)
  unfolding names_in
  names_in_lem = let e : length s - 1 - length (drop g s) ≡ g - 1 = omega (arith, length-drop g s, names_end) in ap (λ (n : ℕ). take n (drop 1 s)) e

  pub names_few : length w.value ≤ 32
  unfolding names_good
  names_few = leb-true _ _ (and_inv _ _ w.passes).0

  -- and the guessing section at c
  module _ (c : ℕ) (v : Ending s (guesses_good (length w.value)) (read_guesses (drop g s)) c) where
    pub rest_reads : pack_of s ≡ section (place_in s (drop c s)) (λ (n : ℕ). eqb n (list_count (length w.value))) (read_byte (drop c s))
        (λ n q. list_sections s (take (g - 1) (drop 1 s)) n q (λ ls d. end_section s (record { names = w.value; guesses = v.value; lists = ls }) d))
    unfolding pack_of
    rest_reads =
        section_is _ _ _ _ ∙ judge_fine _ _ _ _ w.value _ w.reads w.passes
        ∙ section_is _ _ _ _ ∙ judge_fine _ _ _ _ v.value _ v.reads v.passes
        ∙ ap (λ (nm : List ℕ). section (place_in s (drop c s)) (λ (n : ℕ). eqb n (list_count (length w.value))) (read_byte (drop c s))
        (λ n q. list_sections s nm n q (λ ls d. end_section s (record { names = w.value; guesses = v.value; lists = ls }) d))) names_in_lem

    rest_told : surveyed_of (pack_of s) ≡ told w.value (rest_of s (take (g - 1) (drop 1 s)) (length w.value) (drop c s))
    unfolding rest_of
    rest_told =
        ap surveyed_of rest_reads
        ∙ told_step w.value _ _ (read_byte (drop c s)) _ (λ n q. ended s (lists_end s (take (g - 1) (drop 1 s)) n q))
        (λ n q e. lists_told s (take (g - 1) (drop 1 s)) w.value n q (λ ls. record { names = w.value; guesses = v.value; lists = ls })
        (end_then (end_here s c v.fits) (byte_ends _ n q e)) (λ ls. refl))

    pub rest_places_lem : places_of s ≡ rest_places s (take (g - 1) (drop 1 s)) (length w.value) (drop c s)
    unfolding places_of rest_places
    rest_places_lem =
        judge_fine _ _ _ _ w.value _ w.reads w.passes
        ∙ judge_fine _ _ _ _ v.value _ v.reads v.passes
        ∙ ap (λ (nm : List ℕ). judge [] (λ (n : ℕ). eqb n (list_count (length w.value))) (read_byte (drop c s)) (λ n q. found_in s nm n q)) names_in_lem

-- ---- the survey

module _ (s places : List ℕ) (rows : List (List ℕ)) (x₁ : Option ℕ) (e₁ : x₁ ≡ end_in s names_good (read_names s)) where
  pub survey_names : x₁ ≡ None → SurveyIs s places rows (surveyed.Refused 0) places rows
  unfolding pack_of places_of surveyed_of
  survey_names q =
      let f = section_faulty s names_good read_names s x₁ e₁ q in
      record {
        result = surveyed_told _ _ (sym (ap surveyed_of (section_is _ _ _ _ ∙ judge_faulty _ _ _ _ f)));
        stored = none_stored s places rows _ (judge_faulty _ _ _ _ f);
      }

  module _ (g : ℕ) (q₁ : x₁ ≡ Some g) where
    front : Ending s names_good (read_names s) g
    front = section_ends s names_good read_names s x₁ e₁ names_ends (end_here s 0 zero-le) g q₁

    pub survey_first : 1 ≤ g
    survey_first = omega (arith, names_end s g front)

    pub survey_fits : g ≤ length s
    survey_fits = front.fits

    module _ (n : ℕ) (b : ByteIs s 0 n) where
      count : length front.value ≡ n
      count = names_count s front.value _ front.reads ∙ sym b.is

      pub survey_few : n ≤ 32
      survey_few = omega (arith, count, names_few s g front)

      module _ (x₂ : Option ℕ) (e₂ : x₂ ≡ end_in s (guesses_good n) (read_guesses (drop g s))) where
        e₂' : x₂ ≡ end_in s (guesses_good (length front.value)) (read_guesses (drop g s))
        e₂' = e₂ ∙ ap (λ (k : ℕ). end_in s (guesses_good k) (read_guesses (drop g s))) (sym count)

        pub survey_guesses : x₂ ≡ None → SurveyIs s places rows (surveyed.Refused g) places rows
        unfolding pack_of places_of surveyed_of
        survey_guesses q =
            let f = section_faulty s _ read_guesses (drop g s) x₂ e₂' q in
            record {
              result = surveyed_told _ _ (sym (ap surveyed_of (section_is _ _ _ _ ∙ judge_fine _ _ _ _ front.value _ front.reads front.passes ∙ section_is _ _ _ _ ∙ judge_faulty _ _ _ _ f)
                  ∙ ap surveyed.Refused (place_drop s g front.fits)));
              stored = none_stored s places rows _ (judge_fine _ _ _ _ front.value _ front.reads front.passes ∙ judge_faulty _ _ _ _ f);
            }

        module _ (c : ℕ) (q₂ : x₂ ≡ Some c) where
          middle : Ending s (guesses_good (length front.value)) (read_guesses (drop g s)) c
          middle = section_ends s _ read_guesses (drop g s) x₂ e₂' guesses_ends (end_here s g front.fits) c q₂

          pub survey_counted : c ≤ length s
          survey_counted = middle.fits

          module _ (x₃ : Result (Unit {0}) ℕ) (places' : List ℕ) (rows' : List (List ℕ)) (r : RestIs s (take (g - 1) (drop 1 s)) n c places rows x₃ places' rows') where
            survey_by : (y : Surveyed) → y ≡ told front.value x₃ → SurveyIs s places rows y places' rows'
            survey_by y f = record {
              result = surveyed_told _ _ (f ∙ sym (rest_told s g front c middle ∙ ap (told front.value) (ap (λ (k : ℕ). rest_of s (take (g - 1) (drop 1 s)) k (drop c s)) count ∙ sym r.result)));
              stored = subst (λ (f : List ℕ). Stored s places rows f places' rows') (sym (rest_places_lem s g front c middle ∙ ap (λ (k : ℕ). rest_places s (take (g - 1) (drop 1 s)) k (drop c s)) count)) r.stored;
            }

            pub survey_refused : (p : ℕ) → x₃ ≡ Err p → SurveyIs s places rows (surveyed.Refused p) places' rows'
            unfolding told
            survey_refused p q = survey_by _ (sym (ap (told front.value) q))

            pub survey_accepted : (u : Unit {0}) → x₃ ≡ Ok u → SurveyIs s places rows (surveyed.Accepted n g) places' rows'
            unfolding told
            survey_accepted u q = survey_by _ (sym (ap (told front.value) q ∙ ap₂ (λ (i j : ℕ). surveyed.Accepted i j) count (sym (names_end s g front))))

pub ruleset survey_laws = (survey_names, survey_first, survey_fits, survey_few, survey_guesses, survey_counted, survey_refused, survey_accepted, rules)

-- ---- the verdict alone

accepted_by : (v : Verdict) (n g : ℕ) → surveyed_of v ≡ surveyed.Accepted n g → checked.Accepted ≡ verdict_of v
unfolding surveyed_of verdict_of
accepted_by (accepted p) n g e = refl
accepted_by (refused k) n g e = clash (cc)

refused_by_lem : (v : Verdict) (p : ℕ) → surveyed_of v ≡ surveyed.Refused p → checked.Refused p ≡ verdict_of v
unfolding surveyed_of verdict_of
refused_by_lem (accepted k) p e = clash (cc)
refused_by_lem (refused k) p e = cc

module _ (s places : List ℕ) (rows : List (List ℕ)) (x : Surveyed) (places' : List ℕ) (rows' : List (List ℕ)) (w : SurveyIs s places rows x places' rows') where
  pub check_accepted : (n g : ℕ) → x ≡ surveyed.Accepted n g → checked.Accepted ≡ verdict_of (pack_of s)
  check_accepted n g q = accepted_by (pack_of s) n g (sym (surveyed_one _ _ w.result) ∙ q)

  pub check_refused : (p : ℕ) → x ≡ surveyed.Refused p → checked.Refused p ≡ verdict_of (pack_of s)
  check_refused p q = refused_by_lem (pack_of s) p (sym (surveyed_one _ _ w.result) ∙ q)

pub ruleset check_laws = (check_accepted, check_refused, rules)
