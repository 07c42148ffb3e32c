-- A file by its places, the loops over the files of a bundle, and what a file that is found tells. Assumes nothing.
use Rattle.bundles.specs.declared.FileAt.{FileAt}
use Rattle.strings.specs.declared.Number.{Number}
use Rattle.strings.specs.declared.Span.{Span}
use mathlib.Core.Path.{◌≡◌, refl, sym, ap, ap₂, ◌∙◌}
use mathlib.Core.Bool.{Bool, true, false}
use mathlib.Core.List.{List, [], ◌∷◌, map}
use Prim.Native.Nat.{ℕ, zero, suc, ◌+◌, ◌-◌, ◌≤◌, ◌<◌}
use native.Mathlib.Nat.{not-suc-le-zero, add-sub_cancel_left, sub-zero, lt_of_not-le}
use native.Mathlib.Decide.{dec_le}
use native.Mathlib.Numerals.{add-one}
use native.Mathlib.Omega.{arith}
use lib.Dec.{eqb, leb}
use lib.ListN.{length, take, drop, length-take, length-drop}
use lib.Seq.{drop-drop}
use borrow.Author.Tests.{le-leb, lt-leb, eq-eqb, ne_eqb}
use Rattle.base.specs.Pick.{pick, and}
use Rattle.refusals.specs.Numbers.{number_of}
use Rattle.letters.specs.Order.{same_text, increasing}
use Rattle.strings.specs.Reading.{Read, cut, got, and_read, read_number, read_many, is_nil}
use Rattle.strings.specs.InnerContracts.{number_at, string_at, behind, read_some}
use Rattle.strings.proofs.Readers.{count_of, count_cut, mask_of, mask_cut, text_is, text_cut, some_one}
use Rattle.base.proofs.Arms.{clash}
use Rattle.bundles.specs.Bundles.{File, file, read_content, read_file, read_bundle, file_name, well_formed, Found, missing, found, file_named}
use Rattle.bundles.specs.PlaceContracts.{FileNumbers, stands, nowhere, file_numbers, content_from, content_to, place_among, file_at, file_span}
use Rattle.bundles.specs.InnerContracts.{follows_in, Placed, EntryIs, Stands, files_of}
use Rattle.bundles.specs.declared.Entry.{Entry}
use Rattle.std.specs.Prelude.{Option, Some, None}
use Rattle.base.proofs.PickLaws.{pick_true, pick_false, and_assoc}
use borrow.Author.Rules.{rules}

-- ---- a file at a place

abbrev entry : ℕ → ℕ → ℕ → ℕ → Entry
entry a b c d = record { name = a; name_end = b; start = c; end = d }

module _ (s : List ℕ) (at : ℕ) (x : Option Span) (g : x ≡ string_at s at) where
  pub entry_cut_name : x ≡ None → EntryIs s at None
  unfolding EntryIs read_file and_read
  entry_cut_name q = rw (text_cut s at x g q) refl

  module _ (part : Span) (q : x ≡ Some part) (y : Option Number) (f : y ≡ number_at 4 s part.end) where
    pub entry_cut_size : y ≡ None → EntryIs s at None
    unfolding EntryIs read_file read_content and_read
    entry_cut_size p = rw ((text_is s at x g part q).reads, mask_cut s part.end y f p) refl

    module _ (told : Number) (p : y ≡ Some told) where
      pub entry_room : told.next ≤ length s
      entry_room = (mask_of s part.end y told f p).fits

      pub entry_cut_content : length s - told.next < told.value → EntryIs s at None
      unfolding EntryIs read_file read_content and_read
      entry_cut_content h =
          let short : leb told.value (length (drop told.next s)) ≡ false = ap (leb told.value) (length-drop told.next s) ∙ lt-leb _ _ h in
          rw ((text_is s at x g part q).reads, (mask_of s part.end y told f p).reads, short) (simp pick_false)

      pub entry_whole : told.value ≤ length s - told.next → EntryIs s at (Some (entry part.start part.end told.next (told.next + told.value)))
      unfolding EntryIs read_file read_content and_read pick
      entry_whole h =
          let w = text_is s at x g part q in
          let m = mask_of s part.end y told f p in
          let long : leb told.value (length (drop told.next s)) ≡ true = ap (leb told.value) (length-drop told.next s) ∙ le-leb _ _ h in
          let size : told.value ≡ told.next + told.value - told.next = sym (add-sub_cancel_left told.next told.value) in
          record {
            reads = rw (w.reads, m.reads, long)
                (ap₂ (λ (i : ℕ) (l : List ℕ). got (file (take (part.end - part.start) (drop part.start s)) (take i (drop told.next s))) l) size (drop-drop told.value told.next s));
            begins = w.begins;
            named = omega (arith, w.size);
            apart = m.ends;
            order = omega arith;
            within = omega (arith, m.fits);
          }

pub ruleset entry_laws = (entry_cut_name, entry_cut_size, entry_room, entry_cut_content, entry_whole, rules)

-- what an answer tells
module _ (s : List ℕ) (at : ℕ) (x : Option Entry) (g : EntryIs s at x) where
  cut_there : x ≡ None → read_file (drop at s) ≡ cut
  unfolding EntryIs
  cut_there q = rw q at g

  module _ (e : Entry) (q : x ≡ Some e) where
    placed : Placed s at e.name e.name_end e.start e.end
    unfolding EntryIs
    placed = rw q at g

    pub name_order : e.name ≤ e.name_end
    name_order = placed.named

    pub name_fits : e.name_end ≤ length s
    name_fits = omega (arith, placed.apart, placed.order, placed.within)

-- ---- the check: the files that are left, behind the name p unless they are the first

unfoldable pub names : Option (List ℕ) → List File → List (List ℕ)
names None fs = map file_name fs
names (Some p) fs = p ∷ map file_name fs

unfoldable pub well_from : Option (List ℕ) → Read (List File) → Bool
well_from before cut = false
well_from before (got fs r) = and (increasing (names before fs)) (is_nil r)

well_start : (x : Read (List File)) → well_formed x ≡ well_from None x
unfolding well_formed well_from names
well_start cut = refl
well_start (got fs r) = refl

names_one : (before : Option (List ℕ)) (f : File) (fs : List File) → increasing (names before (f ∷ fs)) ≡ and (follows_in before f.name) (increasing (names (Some f.name) fs))
unfolding names follows_in increasing and
names_one None f fs = refl
names_one (Some p) f fs = refl

and_false : (t : Bool) → false ≡ and t false
unfolding and
and_false true = refl
and_false false = refl

well_one : (before : Option (List ℕ)) (f : File) (x : Read (List File))
    → well_from before (and_read x (λ fs q. got (f ∷ fs) q)) ≡ and (follows_in before f.name) (well_from (Some f.name) x)
unfolding well_from and_read
well_one before f cut = and_false _
well_one before f (got fs q) = ap (λ (t : Bool). and t (is_nil q)) (names_one before f fs) ∙ and_assoc _ _ _

well_next : (before : Option (List ℕ)) (n : ℕ) (l : List ℕ) (f : File) (r : List ℕ) → 0 < n → read_file l ≡ got f r
    → well_from before (read_many read_file n l) ≡ and (follows_in before f.name) (well_from (Some f.name) (read_many read_file (n - 1) r))
unfolding read_many and_read
well_next before zero l f r h e = absurd (not-suc-le-zero h)
well_next before (suc n) l f r h e = let m : suc n - 1 ≡ n = omega arith in rw (e, m) (well_one before f (read_many read_file n r))

well_cut : (before : Option (List ℕ)) (n : ℕ) (l : List ℕ) → 0 < n → read_file l ≡ cut → well_from before (read_many read_file n l) ≡ false
unfolding read_many and_read well_from
well_cut before zero l h e = absurd (not-suc-le-zero h)
well_cut before (suc n) l h e = rw e refl

well_done : (before : Option (List ℕ)) (l : List ℕ) → well_from before (read_many read_file 0 l) ≡ is_nil l
unfolding read_many well_from names increasing and
well_done None l = refl
well_done (Some p) l = refl

nil_is : (l : List ℕ) (at n : ℕ) → at ≤ n → length l ≡ n - at → is_nil l ≡ eqb at n
unfolding is_nil
nil_is [] at n h e = sym (eq-eqb at n (omega arith))
nil_is (x ∷ l) at n h e = sym (ne_eqb at n (λ q. omega arith))

module _ (s : List ℕ) (r : Option Number) (p : r ≡ number_at 2 s 0) where
  pub check_cut : r ≡ None → false ≡ well_formed (read_bundle s)
  unfolding read_bundle and_read well_formed
  check_cut q = sym (ap (λ (x : Read ℕ). well_formed (and_read x (λ n l. read_many read_file n l))) (count_cut s 0 r p q))

-- i of n files are checked, the last of them named `before`
pub record Checking (s : List ℕ) (before : Option (List ℕ)) (at n i : ℕ) : Type 0 where
  pub within : at ≤ length s
  pub is : well_formed (read_bundle s) ≡ well_from before (read_many read_file (n - i) (drop at s))

pub checking_start : (s : List ℕ) (r : Option Number) (told : Number) → r ≡ number_at 2 s 0 → r ≡ Some told → Checking s None told.next told.value 0
unfolding read_bundle and_read
checking_start s r told p q =
    let w = count_of s 0 r told p q in
    record {
      within = w.fits;
      is = ap (λ (x : Read ℕ). well_formed (and_read x (λ k l. read_many read_file k l))) w.reads ∙ well_start _ ∙ simp sub-zero;
    }

module _ {s : List ℕ} {before : Option (List ℕ)} {at n i : ℕ} (w : Checking s before at n i) where
  module _ (h : i < n) (x : Option Entry) (g : EntryIs s at x) where
    pub checking_cut : x ≡ None → false ≡ well_formed (read_bundle s)
    checking_cut q = sym (w.is ∙ well_cut _ (n - i) _ (omega arith) (cut_there s at x g q))

    module _ (e : Entry) (q : x ≡ Some e) (t : Bool) (k : t ≡ follows_in before (take (e.name_end - e.name) (drop e.name s))) where
      step : well_formed (read_bundle s) ≡ and t (well_from (Some (take (e.name_end - e.name) (drop e.name s))) (read_many read_file (n - (i + 1)) (drop e.end s)))
      step =
          let m : n - i - 1 ≡ n - (i + 1) = omega arith in
          w.is ∙ well_next _ (n - i) _ _ _ (omega arith) (placed s at x g e q).reads ∙ rw (sym k, m) refl

      pub checking_bad : t ≡ false → false ≡ well_formed (read_bundle s)
      unfolding and
      checking_bad v = sym (step ∙ rw v refl)

      pub checking_next : t ≡ true → Checking s (Some (take (e.name_end - e.name) (drop e.name s))) e.end n (i + 1)
      unfolding and
      checking_next v = record { within = (placed s at x g e q).within; is = step ∙ rw v refl }

  pub checking_done : n ≤ i → eqb at (length s) ≡ well_formed (read_bundle s)
  checking_done h =
      let none : n - i ≡ 0 = omega arith in
      sym (w.is ∙ ap (λ (k : ℕ). well_from before (read_many read_file k (drop at s))) none ∙ well_done _ _ ∙ nil_is _ at _ w.within (length-drop at s))

pub ruleset check_laws = (name_order, name_fits, check_cut, checking_start, checking_cut, checking_bad, checking_next, checking_done, rules)

-- ---- the file of a name

some_cut : (n : ℕ) (l : List ℕ) → read_file l ≡ cut → read_some read_file n l ≡ []
unfolding read_some behind
some_cut zero l e = refl
some_cut (suc n) l e = rw e refl

-- i of n files have another name
pub record Seeking (s name : List ℕ) (at n i : ℕ) : Type 0 where
  pub is : file_at s name ≡ place_among name i at (read_some read_file (n - i) (drop at s))

module _ (s name : List ℕ) (r : Option Number) (p : r ≡ number_at 2 s 0) where
  pub seek_cut : r ≡ None → file_numbers None ≡ file_at s name
  unfolding file_at files_of behind place_among file_numbers
  seek_cut q = sym (ap (λ (x : Read ℕ). place_among name 0 2 (behind x (λ n l. read_some read_file n l))) (count_cut s 0 r p q))

  pub seeking_start : (told : Number) → r ≡ Some told → Seeking s name told.next told.value 0
  unfolding file_at files_of behind
  seeking_start told q =
      let w = count_of s 0 r told p q in
      record {
        is = ap (λ (x : Read ℕ). place_among name 0 2 (behind x (λ n l. read_some read_file n l))) w.reads
            ∙ ap₂ (λ (k m : ℕ). place_among name 0 m (read_some read_file k (drop told.next s))) (sym (sub-zero told.value)) (sym w.ends);
      }

-- where a file's content stands, by what it holds
module _ (s : List ℕ) (at a b c d : ℕ) (w : Placed s at a b c d) where
  abbrev here : File
  here = file (take (b - a) (drop a s)) (take (d - c) (drop c s))

  from_is : content_from at here ≡ c
  unfolding content_from
  from_is = omega (arith, length-take (b - a) (drop a s), length-drop a s, w)

  to_is : content_to at here ≡ d
  unfolding content_to
  to_is = omega (arith, from_is, length-take (d - c) (drop c s), length-drop c s, w)

  -- the first of the files from here on, and the others
  placed_one : (name : List ℕ) (k n : ℕ) → 0 < n
      → place_among name k at (read_some read_file n (drop at s)) ≡ pick (same_text here.name name) (stands k c d) (place_among name (suc k) d (read_some read_file (n - 1) (drop d s)))
  unfolding place_among
  placed_one name k n h =
      ap (place_among name k at) (some_one read_file n _ _ _ h w.reads)
      ∙ ap₂ (λ (i j : ℕ). pick (same_text here.name name) (stands k i j) (place_among name (suc k) j (read_some read_file (n - 1) (drop d s)))) from_is to_is

module _ {s name : List ℕ} {at n i : ℕ} (w : Seeking s name at n i) where
  module _ (x : Option Entry) (g : EntryIs s at x) where
    pub seeking_cut : x ≡ None → file_numbers None ≡ file_at s name
    unfolding place_among file_numbers
    seeking_cut q = sym (w.is ∙ ap (place_among name i at) (some_cut (n - i) _ (cut_there s at x g q)))

    module _ (h : i < n) (e : Entry) (q : x ≡ Some e) (t : Bool) (f : t ≡ same_text (take (e.name_end - e.name) (drop e.name s)) name) where
      step_file : file_at s name ≡ pick t (stands i e.start e.end) (place_among name (suc i) e.end (read_some read_file (n - (i + 1)) (drop e.end s)))
      step_file =
          let m : n - i - 1 ≡ n - (i + 1) = omega arith in
          w.is ∙ placed_one s at e.name e.name_end e.start e.end (placed s at x g e q) name i (n - i) (omega arith) ∙ rw (sym f, m) refl

      pub seeking_found : t ≡ true → file_numbers (Some (file_span i e.start e.end)) ≡ file_at s name
      unfolding file_numbers
      seeking_found v = sym (step_file ∙ pick_true _ _ _ v)

      pub seeking_next : t ≡ false → Seeking s name e.end n (i + 1)
      seeking_next v = record {
        is = step_file ∙ pick_false _ _ _ v ∙ ap (λ (m : ℕ). place_among name m e.end (read_some read_file (n - (i + 1)) (drop e.end s))) (sym (add-one i));
      }

  pub seeking_done : n ≤ i → file_numbers None ≡ file_at s name
  unfolding place_among read_some file_numbers
  seeking_done h = let none : n - i ≡ 0 = omega arith in sym (w.is ∙ ap (λ (k : ℕ). place_among name i at (read_some read_file k (drop at s))) none)

pub ruleset seek_laws = (name_order, name_fits, seek_cut, seeking_start, seeking_cut, seeking_found, seeking_next, seeking_done, rules)

-- ---- no two answers have the same numbers

pub numbers_one : (x y : Option FileAt) → file_numbers x ≡ file_numbers y → x ≡ y
unfolding file_numbers number_of
numbers_one (Some one) (Some other) e =
    let number : one.number ≡ other.number = ap (λ (n : FileNumbers). n.number) e in
    let start : one.start ≡ other.start = ap (λ (n : FileNumbers). n.start) e in
    let end : one.end ≡ other.end = ap (λ (n : FileNumbers). n.end) e in
    ap Some (λ i. record { number = number i; start = start i; end = end i })
numbers_one (Some whole) None e = let z : ◌≡◌ {A = ℕ} 0 11 = ap (λ (n : FileNumbers). n.code) e in absurd (omega arith)
numbers_one None (Some whole) e = let z : ◌≡◌ {A = ℕ} 11 0 = ap (λ (n : FileNumbers). n.code) e in absurd (omega arith)
numbers_one None None e = refl

-- ---- what an answer tells of the file that was asked for

-- at any place a file is read or the bytes run out
entry_at_all : (s : List ℕ) (at : ℕ) → (x : Option Entry) × EntryIs s at x
entry_at_all s at = by_name (string_at s at) refl
  where
    by_size : (part : Span) (told : Number) (y : Option Number) → string_at s at ≡ Some part → y ≡ number_at 4 s part.end → y ≡ Some told → (x : Option Entry) × EntryIs s at x
    by_size part told y q f p = elim (dec_le told.value (length s - told.next)) [
      | yes h ↦ (Some (entry part.start part.end told.next (told.next + told.value)), entry_whole s at _ refl part q y f told p h)
      | no h ↦ (None, entry_cut_content s at _ refl part q y f told p (lt_of_not-le h))
    ]

    by_number : (part : Span) (y : Option Number) → string_at s at ≡ Some part → y ≡ number_at 4 s part.end → (x : Option Entry) × EntryIs s at x
    by_number part (Some w) q f = by_size part w (Some w) q f refl
    by_number part None q f = (None, entry_cut_size s at _ refl part q None f refl)

    by_name : (x : Option Span) → string_at s at ≡ x → (x : Option Entry) × EntryIs s at x
    by_name (Some w) q = by_number w (number_at 4 s w.end) q refl
    by_name None q = (None, entry_cut_name s at _ refl q)

-- the file that is found, and where its content stands
unfoldable Finds : List ℕ → Found → FileNumbers → Type 0
Finds s missing n = n ≡ nowhere
Finds s (found k c) n = (a : ℕ) × (b : ℕ) × (n ≡ stands k a b) × Stands s a b c

finds_pick : (s : List ℕ) (t : Bool) (u v : Found) (m n : FileNumbers) → Finds s u m → Finds s v n → Finds s (pick t u v) (pick t m n)
unfolding pick
finds_pick s true u v m n x y = x
finds_pick s false u v m n x y = y

module _ (s name : List ℕ) (n : ℕ) (later : (k at : ℕ) → Finds s (file_named name k (read_some read_file n (drop at s))) (place_among name k at (read_some read_file n (drop at s)))) where
  finds_here : (k at : ℕ) (x : Option Entry) → EntryIs s at x → Finds s (file_named name k (read_some read_file (suc n) (drop at s))) (place_among name k at (read_some read_file (suc n) (drop at s)))
  unfolding Finds file_named place_among
  finds_here k at None g = rw (some_cut (suc n) (drop at s) (cut_there s at None g refl)) refl
  finds_here k at (Some e) g =
      let w = placed s at (Some e) g e refl in
      let one_less : suc n - 1 ≡ n = omega arith in
      let where_is = placed_one s at e.name e.name_end e.start e.end w name k (suc n) (omega arith) in
      let named = ap (file_named name k) (some_one read_file (suc n) _ _ _ (omega arith) w.reads) in
      rw (where_is, named, one_less)
      (finds_pick s _ _ _ _ _ (e.start, e.end, refl, record { is = refl; order = w.order; within = w.within }) (later (suc k) e.end))

finds_some : (n : ℕ) (s name : List ℕ) (k at : ℕ) → Finds s (file_named name k (read_some read_file n (drop at s))) (place_among name k at (read_some read_file n (drop at s)))
unfolding Finds file_named place_among read_some
finds_some zero s name k at = refl
finds_some (suc n) s name k at = let x = entry_at_all s at in finds_here s name n (finds_some n s name) k at x.0 x.1

finds_all : (s name : List ℕ) (y : Option Number) → y ≡ number_at 2 s 0 → Finds s (file_named name 0 (files_of s)) (file_at s name)
unfolding file_at files_of behind Finds file_named place_among
finds_all s name None p = rw (count_cut s 0 None p refl) refl
finds_all s name (Some told) p =
    let w = count_of s 0 (Some told) told p refl in
    let place : told.next ≡ 2 = w.ends in
    let is : read_number 2 s ≡ got told.value (drop 2 s) = w.reads ∙ ap (λ (m : ℕ). got told.value (drop m s)) place in
    rw is (finds_some told.value s name 0 2)

told_missing : (s : List ℕ) (x : Found) → Finds s x nowhere → x ≡ missing
unfolding Finds number_of
told_missing s missing w = refl
told_missing s (found k c) w = let z : ◌≡◌ {A = ℕ} 11 0 = ap (λ (n : FileNumbers). n.code) w.2 in absurd (omega arith)

told_found : (s : List ℕ) (x : Found) (k a b : ℕ) → Finds s x (stands k a b) → (c : List ℕ) × (x ≡ found k c) × Stands s a b c
unfolding Finds number_of
told_found s missing k a b w = let z : ◌≡◌ {A = ℕ} 0 11 = ap (λ (n : FileNumbers). n.code) w in absurd (omega arith)
told_found s (found m c) k a b w =
    let number : m ≡ k = sym (ap (λ (n : FileNumbers). n.number) w.2) in
    let start : w.0 ≡ a = sym (ap (λ (n : FileNumbers). n.start) w.2) in
    let end : w.1 ≡ b = sym (ap (λ (n : FileNumbers). n.end) w.2) in
    (c, ap (λ (i : ℕ). found i c) number, rw (start, end) at w.3)

module _ (s name : List ℕ) (r : Option FileAt) (w : file_numbers r ≡ file_at s name) where
  finds : (x : Option FileAt) → r ≡ x → Finds s (file_named name 0 (files_of s)) (file_numbers x)
  finds x q = rw (← q, w) (finds_all s name (number_at 2 s 0) refl)

  pub missing_is : r ≡ None → file_named name 0 (files_of s) ≡ missing
  unfolding file_numbers
  missing_is q = told_missing s _ (finds _ q)

  module _ (whole : FileAt) (q : r ≡ Some whole) where
    told : (c : List ℕ) × (file_named name 0 (files_of s) ≡ found whole.number c) × Stands s whole.start whole.end c
    unfolding file_numbers
    told = told_found s _ whole.number whole.start whole.end (finds _ q)

    pub found_is : file_named name 0 (files_of s) ≡ found whole.number (take (whole.end - whole.start) (drop whole.start s))
    found_is = told.1 ∙ ap (found whole.number) (sym told.2.is)

    pub found_order : whole.start ≤ whole.end
    found_order = told.2.order

    pub found_within : whole.end ≤ length s
    found_within = told.2.within

-- ---- the files of a bundle that can be read are those that are read

module _ (n : ℕ) (later : (l : List ℕ) (gs : List File) (q : List ℕ) → read_many read_file n l ≡ got gs q → read_some read_file n l ≡ gs) where
  rest_some : (a : File) (l : List ℕ) (y : Read (List File)) (fs : List File) (r : List ℕ) → read_many read_file n l ≡ y → and_read y (λ rest z. got (a ∷ rest) z) ≡ got fs r → a ∷ read_some read_file n l ≡ fs
  unfolding and_read
  rest_some a l cut fs r e h = clash (cc)
  rest_some a l (got gs q) fs r e h = ap (λ (t : List File). a ∷ t) (later l gs q e) ∙ cc

  first_some : (x : Read File) (fs : List File) (r : List ℕ) → and_read x (λ a q. and_read (read_many read_file n q) (λ rest z. got (a ∷ rest) z)) ≡ got fs r → behind x (λ a q. a ∷ read_some read_file n q) ≡ fs
  unfolding and_read behind
  first_some cut fs r h = clash (cc)
  first_some (got a q) fs r h = rest_some a q _ fs r refl h

some_many : (n : ℕ) (l : List ℕ) (fs : List File) (r : List ℕ) → read_many read_file n l ≡ got fs r → read_some read_file n l ≡ fs
unfolding read_many read_some
some_many zero l fs r h = cc
some_many (suc n) l fs r h = first_some n (some_many n) (read_file l) fs r h

files_by : (x : Read ℕ) (fs : List File) (r : List ℕ) → and_read x (λ n l. read_many read_file n l) ≡ got fs r → behind x (λ n l. read_some read_file n l) ≡ fs
unfolding and_read behind
files_by cut fs r h = clash (cc)
files_by (got n l) fs r h = some_many n l fs r h

pub files_read : (s : List ℕ) (fs : List File) (r : List ℕ) → read_bundle s ≡ got fs r → files_of s ≡ fs
unfolding read_bundle files_of
files_read s fs r h = files_by (read_number 2 s) fs r h
