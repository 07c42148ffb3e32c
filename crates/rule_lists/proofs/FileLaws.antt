-- The list of one file: a law for each way that `write_list` can go, and what every list has. Assumes nothing.
use Rattle.bundles.specs.declared.FileAt.{FileAt}
use mathlib.Core.Path.{◌≡◌, refl, sym, ap, ap₂, subst, ◌∙◌}
use mathlib.Core.Bool.{true}
use mathlib.Core.Logic.{⊎_elim}
use mathlib.Core.List.{List, [], ◌∷◌, ◌++◌}
use Prim.Native.Nat.{ℕ, ◌-◌, ◌%◌, ◌≤◌}
use native.Mathlib.Omega.{arith}
use borrow.Author.Rules.{rules}
use lib.ListN.{length, take, drop}
use borrow.Author.Tests.{leb-true, le-leb}
use Rattle.refusals.specs.declared.Refusal.TheVariants.{FileMissing, TooMuch}
use Rattle.base.proofs.Arms.{clash}
use Rattle.pack.specs.Packs.{ordered_by_code}
use Rattle.rule_lines.specs.Rules.{Rule}
use Rattle.pack_bytes.specs.Bytes.{text_bytes, count_bytes, rule_bytes, list_bytes}
use Rattle.pack_bytes.specs.InnerContracts as bytes
use Rattle.bundles.specs.Bundles.{File, Found, missing, found, file_named}
use Rattle.bundles.specs.PlaceContracts.{file_numbers, file_at}
use Rattle.bundles.proofs.Laws.{missing_is, found_is}
use Rattle.held.specs.Met.{Met, entries, finished, bytes_of_all}
use Rattle.held.specs.Files.{FileRead, was_read, read_listed}
use Rattle.held.specs.Files as files
use Rattle.held.specs.InnerContracts.{key_bytes, All}
use Rattle.held.proofs.Finished.{From, finished_from, finished_all, length_kept}
use Rattle.held.proofs.Keys.{finished_keys}
use Rattle.rule_lists.specs.Outcomes.{Loading, fine, not_loaded, and_load}
use Rattle.rule_lists.specs.Lines.{lines_of}
use Rattle.rule_lists.specs.declared.tables.Spot.{Spot}
use Rattle.rule_lists.specs.TableContracts.{KeptIs, keys_of}
use Rattle.rule_lists.specs.InnerContracts as collects
use Rattle.rule_lists.specs.InnerContracts.{refusal_at, read_from, kept_as, CollectIs, WritesTo}
use Rattle.rule_lists.specs.WritingContracts.{rule_put, SomeKept, RowsPut}
use Rattle.rule_lists.specs.Lists.{list_in, list_named, first_code_of, files_for, counted_rules}
use Rattle.std.specs.Prelude.{Result, Ok, Err, Option, Some, None}
use Rattle.rule_lists.specs.declared.refused.Refused as why
use Rattle.rule_lists.proofs.TableLaws.{kept_rows, keys_from_lem}
use Rattle.rule_lines.proofs.Laws.{good_short}
use Rattle.rule_lists.proofs.FollowLaws.{found_stands}
use Rattle.rule_lists.proofs.WalkLaws.{GoodRead, each_read, within_all}
use Rattle.base.proofs.PickLaws.{pick_inv, and_yes}
use Rattle.bundles.specs.InnerContracts.{files_of}
use Rattle.pack_bytes.specs.InnerContracts.{text_put}

-- ---- a good rule is written as a pack has it: its strings fit their length bytes

text_short : (t : List ℕ) → length t ≤ 255 → text_put t ≡ text_bytes t
unfolding text_put text_bytes
text_short t h = let e : length t % 256 ≡ length t = omega arith in ap (λ (n : ℕ). n ∷ t) e

rule_short : (names : List ℕ) (r : Rule) → GoodRead names r → rule_put r ≡ rule_bytes r
unfolding rule_put rule_bytes
rule_short names r g =
    let w = good_short names r g in
    ap₂ ◌++◌ (text_short r.pattern w.pattern) (ap₂ ◌++◌ (text_short r.left w.left) (ap₂ ◌++◌ (text_short r.right w.right) (text_short r.expression w.expression)))

rules_short : (names : List ℕ) (rs : List Rule) → bytes.Each (GoodRead names) rs → bytes_of_all rule_put rs ≡ bytes_of_all rule_bytes rs
unfolding bytes_of_all
rules_short names [] bytes.none = refl
rules_short names (r ∷ rs) (bytes.more h e) = ap₂ ◌++◌ (rule_short names r h) (rules_short names rs e)

each_all : {P : Rule → Type 0} (rs : List Rule) → All P rs → bytes.Each P rs
unfolding All
each_all [] a = bytes.none
each_all (r ∷ rs) a = bytes.more a.0 (each_all rs a.1)

-- ---- what is told of a file

counted_fine : (x : FileRead Rule) (t : Met Rule) → counted_rules x ≡ fine t → (x ≡ was_read t) × (length (finished first_code_of t) ≤ 4096)
unfolding counted_rules
counted_fine (was_read u) t e = ⊎_elim (λ w. let q : u ≡ t = cc w.1 in (ap was_read q, rw q at (leb-true (length (finished first_code_of u)) 4096 w.0))) (λ w. clash (cc w.1)) (pick_inv _ (fine u) (not_loaded TooMuch 0 0) (fine t) e)
counted_fine (files.not_read c l f) t e = clash (cc)

-- what was collected
pub record Collects (bundle : List ℕ) (x : Loading (Met Rule)) (rows : List Spot) (n : ℕ) : Type 0 where
  pub what : Met Rule
  pub is : x ≡ fine what
  pub short : entries what ≤ 256
  pub few : n ≤ 4096
  pub kept : KeptIs bundle rows n (kept_as what)

module _ {bundle : List ℕ} where
  collect_done : {x : Loading (Met Rule)} {g : Result ℕ why.Refused} {rows : List Spot} {n : ℕ} → CollectIs bundle x g rows → g ≡ Ok n → Collects bundle x rows n
  collect_done {n = n} (collects.all {t} {n = m} short few h) e = let q : m ≡ n = cc in record { what = t; is = refl; short = short; few = rw q at few; kept = rw q at h }
  collect_done collects.refused e = clash (cc)

  collect_stop : {x : Loading (Met Rule)} {g : Result ℕ why.Refused} {rows : List Spot} {r : why.Refused} → CollectIs bundle x g rows → g ≡ Err r → x ≡ not_loaded r.why r.line r.file
  collect_stop (collects.all short few h) e = clash (cc)
  collect_stop {r = r} (collects.refused {c} {l} {f}) e = let z : refusal_at c l f ≡ r = cc in ap (λ (r : why.Refused). not_loaded r.why r.line r.file) z

  module _ {x : Loading (Met Rule)} {g : Result ℕ why.Refused} {rows : List Spot} {n : ℕ} (v : CollectIs bundle x g rows) (e : g ≡ Ok n) where
    pub list_few : n ≤ 4096
    list_few = (collect_done v e).few

    pub list_kept : SomeKept bundle rows n
    list_kept = record { some = (_, (collect_done v e).kept) }

-- the list that was read
abbrev counted : List ℕ → List File → ℕ → List ℕ → Loading (Met Rule)
counted names fs k s = counted_rules (read_listed (files_for names fs) k (lines_of names s))

module _ (names : List ℕ) (fs : List File) (k : ℕ) (s : List ℕ) (t : Met Rule) (e : counted names fs k s ≡ fine t) where
  read : read_listed (files_for names fs) k (lines_of names s) ≡ was_read t
  read = (counted_fine _ t e).0

  few_finished : length (finished first_code_of t) ≤ 4096
  few_finished = (counted_fine _ t e).1

  good_finished : bytes.Each (GoodRead names) (finished first_code_of t)
  good_finished = each_all _ (finished_all first_code_of (GoodRead names) t (each_read names fs k s t read))

  -- rows that are kept, written by their keys, are the finished list
  list_bytes_lem : (bundle : List ℕ) (rows : List Spot) (n : ℕ) → entries t ≤ 256 → KeptIs bundle rows n (kept_as t) → count_bytes n ++ key_bytes rule_put (kept_as t) (keys_of rows n 0 []) ≡ list_bytes (finished first_code_of t)
  unfolding list_bytes kept_as
  list_bytes_lem bundle rows n short h =
      let all = length_kept first_code_of t short (within_all t) in
      let size : n ≡ length (finished first_code_of t) = omega (arith, h.count, all, few_finished) in
      let kept : length (kept_as t) ≡ n = all ∙ sym size in
      let few : n ≤ 4096 = omega (arith, few_finished) in
      ap₂ ◌++◌ (ap count_bytes size)
      (ap (key_bytes rule_put (kept_as t)) (ap (λ (m : ℕ). keys_of rows m 0 []) (sym kept) ∙ keys_from_lem bundle rows 0 [] (kept_as t) (kept_rows h few))
      ∙ finished_keys first_code_of rule_put t short (within_all t) (omega (arith, kept)) ∙ rules_short names (finished first_code_of t) good_finished)

module _ (bundle names wanted : List ℕ) (f : Option FileAt) (w : file_numbers f ≡ file_at bundle wanted) where
  pub list_missing : f ≡ None → (o : List ℕ) (at : ℕ) → WritesTo list_bytes (list_named names (files_of bundle) wanted) o o at (Err (refusal_at FileMissing 0 0))
  unfolding list_named list_in WritesTo
  list_missing q o at = rw (missing_is bundle wanted f w q) refl

  module _ (whole : FileAt) (q : f ≡ Some whole) where
    list_found : list_named names (files_of bundle) wanted ≡ and_load (counted names (files_of bundle) whole.number (take (whole.end - whole.start) (drop whole.start bundle))) (λ t. fine (finished first_code_of t))
    unfolding list_named list_in
    list_found = ap (list_in names (files_of bundle)) (found_is bundle wanted f w whole q)

    module _ (g : Result ℕ why.Refused) (rows : List Spot) (v : CollectIs bundle (counted_rules (read_from bundle names (record { file = whole.number; start = whole.start; end = whole.end; left = 8 }) 0)) g rows) where
      pub list_refused : (r : why.Refused) → g ≡ Err r → (o o' : List ℕ) (at : ℕ) → WritesTo list_bytes (list_named names (files_of bundle) wanted) o o' at (Err r)
      unfolding WritesTo and_load read_from read_listed
      list_refused r e o o' at = rw (list_found, collect_stop v e) refl

      pub list_told : (n : ℕ) → g ≡ Ok n → (o o' : List ℕ) (at p : ℕ) → RowsPut bundle rows n o at p o' → WritesTo list_bytes (list_named names (files_of bundle) wanted) o o' at (Ok p)
      unfolding WritesTo and_load read_from read_listed
      list_told n e o o' at p u =
          let w = collect_done v e in
          rw (list_found, w.is) (p, refl, rw (list_bytes_lem names (files_of bundle) whole.number _ w.what w.is bundle rows n w.short w.kept) at (u.is _ w.kept))

pub ruleset file_laws = (list_missing, found_stands, list_refused, list_kept, list_few, list_told, rules)

-- ---- what every list has

ordered_from : (c : ℕ) (rs : List Rule) → From first_code_of c rs → ordered_by_code rs ≡ true
unfolding ordered_by_code first_code_of
ordered_from c [] h = refl
ordered_from c (x ∷ []) h = refl
ordered_from c (x ∷ y ∷ l) h = let w = h.1 in and_yes _ _ (le-leb _ _ w.0) (ordered_from (first_code_of x) (y ∷ l) w)

pub record GoodList (names : List ℕ) (rs : List Rule) : Type 0 where
  pub each : bytes.Each (GoodRead names) rs
  pub few : length rs ≤ 4096
  pub order : ordered_by_code rs ≡ true

found_good : (names : List ℕ) (fs : List File) (k : ℕ) (s : List ℕ) (rs : List Rule) (x : Loading (Met Rule)) → counted names fs k s ≡ x → and_load x (λ t. fine (finished first_code_of t)) ≡ fine rs → GoodList names rs
unfolding and_load
found_good names fs k s rs (fine t) e h =
    let same : finished first_code_of t ≡ rs = cc in
    subst (GoodList names) same (record { each = good_finished names fs k s t e; few = few_finished names fs k s t e; order = ordered_from 0 _ (finished_from first_code_of t) })
found_good names fs k s rs (not_loaded c l f) e h = clash (cc)

good_in : (names : List ℕ) (fs : List File) (rs : List Rule) (x : Found) → list_in names fs x ≡ fine rs → GoodList names rs
unfolding list_in
good_in names fs rs missing h = clash (cc)
good_in names fs rs (found k s) h = found_good names fs k s rs _ refl h

pub list_good_lem : (names : List ℕ) (fs : List File) (w : List ℕ) (rs : List Rule) → list_named names fs w ≡ fine rs → GoodList names rs
unfolding list_named
list_good_lem names fs w rs h = good_in names fs rs (file_named w 0 fs) h
