-- What a walk over a rule file and its includes answers.
use Rattle.std.specs.Prelude.{◌≡◌, ℕ, ◌+◌, ◌-◌, ◌≤◌, ◌<◌, List, [], ◌∷◌, ◌++◌, length, take, drop, Result, Ok, Err, Option, None, Some}
use Rattle.base.specs.Pick.{pick}
use Rattle.refusals.specs.declared.Refusal.{Refusal}
use Rattle.refusals.specs.declared.Refusal.TheVariants.{LineUnreadable, TooMuch}
use Rattle.rule_lines.specs.Rules.{Rule, rule_fault}
use Rattle.bundles.specs.InnerContracts.{files_of}
use Rattle.held.specs.Met as met
use Rattle.held.specs.Files as files
use Rattle.held.specs.InnerContracts.{note_in, stays_in, noted, met_on, kept_rules}
use Rattle.rule_lists.specs.Outcomes.{Loading, fine, not_loaded}
use Rattle.rule_lists.specs.Lines.{lines_of, rule_in}
use Rattle.rule_lists.specs.TableContracts.{NotedIs, KeptIs, SpotIs}
use Rattle.rule_lists.specs.declared.tables.Spot.{Spot}
use Rattle.rule_lists.specs.declared.walk.Task.{Task}
use Rattle.rule_lists.specs.declared.walk.Task.TheVariants.{Survey, Collect}
use Rattle.rule_lists.specs.declared.walk.State.{State}
use Rattle.rule_lists.specs.declared.refused.Refused as why
use Rattle.rule_lists.specs.declared.walk.Source.{Source}
use Rattle.rule_lists.specs.declared.walk.IncludeAt.{IncludeAt}
use Rattle.rule_lists.specs.Lists.{files_for, first_code_of}
use Rattle.rule_lists.specs.declared.lines.Row.TheVariants as row
use Rattle.rules_parser.specs.declared.files.Item.TheVariants as item
use Rattle.rules_parser.specs.declared.lines.Clause.TheVariants as told
use Rattle.rule_lists.specs.declared.lines.Row.{Row}
use Rattle.rules_parser.specs.declared.fields.Text.{Text}
use Rattle.rule.specs.Matching.{first_code}
use Rattle.rules_parser.specs.Fields.{part_of}
use Rattle.rules_parser.specs.declared.files.Item.{Item}
use Rattle.rules_parser.specs.Files.{item_at}
use Rattle.rules_parser.specs.declared.lines.FileKind.TheVariants.{Rules}
use Rattle.rule_lists.specs.declared.list_writing.Written.{Written}
use Rattle.rule_lists.specs.declared.list_writing.Written.TheVariants.{Done, Refused}
use Rattle.writing.specs.InnerContracts.{Put}

-- why a part is not loaded
abbrev pub refusal_at : Refusal → ℕ → ℕ → why.Refused
refusal_at c l f = record { why = c; line = l; file = f }

-- the promise of a function that writes: o and o' are the buffer before and after, `at` the place, r the answer. A refusal says nothing
-- of the buffer: a caller writes into one of its own first
unfoldable pub WritesTo : {A : Type 0} → (A → List ℕ) → Loading A → List ℕ → List ℕ → ℕ → Result ℕ why.Refused → Type 0
WritesTo bytes (fine a) o o' at r = (p : ℕ) × (r ≡ Ok p) × Put o o' at p (bytes a)
WritesTo bytes (not_loaded c l f) o o' at r = r ≡ Err (refusal_at c l f)

-- the same of what the public function answers
unfoldable pub WrittenIs : {A : Type 0} → (A → List ℕ) → Loading A → List ℕ → List ℕ → ℕ → Written → Type 0
WrittenIs bytes (fine a) o o' at r = (p : ℕ) × (r ≡ Done p) × Put o o' at p (bytes a)
WrittenIs bytes (not_loaded c l f) o o' at r = r ≡ Refused c l f

unfoldable pub row_by : Option Refusal → ℕ → ℕ → Result Row Refusal
row_by None code next = Ok (row.Rule code next)
row_by (Some w) code next = Err w

unfoldable pub row_told : List ℕ → List ℕ → Text → Text → Text → Text → ℕ → Result Row Refusal
row_told names s a b c d next = row_by (rule_fault names (rule_in s a b c d)) (first_code (part_of s a)) next

unfoldable pub row_in : List ℕ → List ℕ → Item → Result Row Refusal
row_in names s (item.Passed k n) = Ok (row.Passed k n)
row_in names s (item.Tells (told.Rule a b c d) n) = row_told names s a b c d n
row_in names s (item.Tells (told.Include t) n) = Ok (row.Include t n)
row_in names s (item.Tells (told.Guess a b v) n) = Err LineUnreadable
row_in names s (item.Tells (told.Name t) n) = Err LineUnreadable
row_in names s item.Wrong = Err LineUnreadable

unfoldable pub row_at : List ℕ → List ℕ → ℕ → Result Row Refusal
row_at names s p = row_in names s (item_at Rules s p)

-- ---- what is known after a part of a walk: the last entries, and the rules that stay, all of them as far as is known

pub record Known : Type 0 where
  pub lasts : List ℕ
  pub rules : List Rule

abbrev pub known : List ℕ → List Rule → Known
known vs rs = record { lasts = vs; rules = rs }

-- a rule is met in a file whose entry is `own`, n includes having been followed
unfoldable pub ruled : Task → ℕ → ℕ → Known → Rule → Known
ruled Survey own n a r = known (note_in (first_code_of r) own a.lasts) (a.rules ++ (r ∷ []))
ruled Collect own n a r = known a.lasts (pick (stays_in (first_code_of r) n a.lasts) (a.rules ++ (r ∷ [])) a.rules)

-- all of t is met
unfoldable pub tally : Task → ℕ → ℕ → Known → met.Met Rule → Known
tally task own n a met.end = a
tally task own n a (met.rule r t) = tally task own n (ruled task own n a r) t
tally task own n a (met.file i t) = tally task own (n + 1 + met.entries i) (tally task (n + 1) (n + 1) a i) t

abbrev pub state_of : ℕ → ℕ → ℕ → State
state_of f n k = record { followed = f; noted = n; kept = k }

-- ---- the buffers

-- the buffers hold what is known
pub record StateHolds (bundle lasts : List ℕ) (rows : List Spot) (st : State) (a : Known) : Type 0 where
  pub noted : NotedIs lasts st.noted a.lasts
  pub kept : KeptIs bundle rows st.kept a.rules

-- what a walk needs: to keep rules, all first characters have to be noted
pub record Ready (bundle : List ℕ) (task : Task) (st : State) (lasts : List ℕ) (rows : List Spot) : Type 0 where
  pub some : (a : Known) × StateHolds bundle lasts rows st a
  pub followed : st.followed ≤ 256
  pub whole : task ≡ Collect → st.noted ≤ 4096

-- ---- a rule

pub record RuledIs (bundle : List ℕ) (task : Task) (own : ℕ) (st : State) (spot : Spot) (lasts : List ℕ) (rows : List Spot) (st' : State) (lasts' : List ℕ) (rows' : List Spot) : Type 0 where
  pub followed : st'.followed ≡ st.followed
  pub noted : task ≡ Collect → st'.noted ≡ st.noted
  pub holds : (a : Known) (r : Rule) → StateHolds bundle lasts rows st a → SpotIs bundle spot r → StateHolds bundle lasts' rows' st' (ruled task own st.followed a r)

-- ---- a walk

-- a file's content
abbrev pub content_of : List ℕ → Source → List ℕ
content_of bundle source = take (source.end - source.start) (drop source.start bundle)

-- it lies within the bundle
pub record InBundle (bundle : List ℕ) (source : Source) : Type 0 where
  pub order : source.start ≤ source.end
  pub within : source.end ≤ length bundle

-- reading it, n includes having been followed
unfoldable pub read_from : List ℕ → List ℕ → Source → ℕ → files.FileRead Rule
read_from bundle names source n = files.read_lines (files.follow (files_for names (files_of bundle)) source.left) source.file 1 n (lines_of names (content_of bundle source))

-- reading the file of an include
abbrev pub read_included : List ℕ → List ℕ → IncludeAt → List ℕ → ℕ → files.FileRead Rule
read_included bundle names at name n = files.follow (files_for names (files_of bundle)) at.left name at.file at.line n

-- one more include is followed
abbrev pub one_more : State → State
one_more st = state_of (st.followed + 1) st.noted st.kept

-- what a reading comes to from st on, in which a is known; a refusal says nothing of the buffers
pub data ComesTo (bundle : List ℕ) (task : Task) (own : ℕ) (st : State) (a : Known) : files.FileRead Rule → Result State why.Refused → List ℕ → List Spot → Type 0 where
  done : {t : met.Met Rule} {st' : State} {lasts : List ℕ} {rows : List Spot} → st'.followed ≡ st.followed + met.entries t → StateHolds bundle lasts rows st' (tally task own st.followed a t)
      → ComesTo bundle task own st a (files.was_read t) (Ok st') lasts rows
  stopped : {c : Refusal} {l f : ℕ} {lasts : List ℕ} {rows : List Spot} → ComesTo bundle task own st a (files.not_read c l f) (Err (refusal_at c l f)) lasts rows

pub record Walks (bundle : List ℕ) (task : Task) (st : State) (x : files.FileRead Rule) (lasts : List ℕ) (rows : List Spot) (r : Result State why.Refused) (lasts' : List ℕ) (rows' : List Spot) : Type 0 where
  pub told : (a : Known) → StateHolds bundle lasts rows st a → ComesTo bundle task st.followed st a x r lasts' rows'
  pub followed : (st' : State) → r ≡ Ok st' → st'.followed ≤ 256
  pub noted : (st' : State) → r ≡ Ok st' → task ≡ Collect → st'.noted ≡ st.noted

-- ---- a listed file

-- the rules that stay, in the order in which they are met
unfoldable pub kept_as : met.Met Rule → List Rule
kept_as t = kept_rules first_code_of t

-- a listed file was read: its last entries are noted, and all its rules kept
pub record Surveyed (bundle : List ℕ) (x : files.FileRead Rule) (st : State) (lasts : List ℕ) (rows : List Spot) : Type 0 where
  pub all : met.Met Rule
  pub is : x ≡ files.was_read all
  pub followed : st.followed ≡ met.entries all
  pub short : met.entries all ≤ 256
  pub noted : NotedIs lasts st.noted (noted first_code_of 0 0 [] all)
  pub kept : KeptIs bundle rows st.kept (met_on [] all)

pub record SurveyIs (bundle : List ℕ) (x : files.FileRead Rule) (r : Result State why.Refused) (lasts : List ℕ) (rows : List Spot) : Type 0 where
  pub done : (st : State) → r ≡ Ok st → Surveyed bundle x st lasts rows
  pub stop : (e : why.Refused) → r ≡ Err e → x ≡ files.not_read e.why e.line e.file

-- a list of n rules, or the refusal
pub data CountedAs (n : ℕ) : Result ℕ why.Refused → Type 0 where
  few : n ≤ 4096 → CountedAs n (Ok n)
  many : 4096 < n → CountedAs n (Err (refusal_at TooMuch 0 0))

pub data CollectIs (bundle : List ℕ) : Loading (met.Met Rule) → Result ℕ why.Refused → List Spot → Type 0 where
  all : {t : met.Met Rule} {n : ℕ} {rows : List Spot} → met.entries t ≤ 256 → n ≤ 4096 → KeptIs bundle rows n (kept_as t) → CollectIs bundle (fine t) (Ok n) rows
  refused : {c : Refusal} {l f : ℕ} {rows : List Spot} → CollectIs bundle (not_loaded c l f) (Err (refusal_at c l f)) rows
