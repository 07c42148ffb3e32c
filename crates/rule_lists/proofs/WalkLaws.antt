-- What a walk over a listed file leaves, and what holds of every rule that is read. Assumes nothing.
use mathlib.Core.Path.{◌≡◌, refl, ap, subst, ◌∙◌}
use mathlib.Core.Bool.{Bool, true, false}
use mathlib.Core.List.{List, [], ◌∷◌}
use Prim.Native.Nat.{ℕ, zero, suc, ◌+◌, ◌-◌, ◌≤◌, ◌<◌}
use native.Mathlib.Decide.{dec_lt}
use native.Mathlib.Omega.{arith}
use borrow.Author.Rules.{rules}
use lib.Dec.{leb}
use lib.ListN.{length}
use borrow.Author.Tests.{le-leb, lt-leb}
use Rattle.base.specs.Pick.{pick}
use Rattle.refusals.specs.declared.Refusal.{Refusal}
use Rattle.refusals.specs.declared.Refusal.TheVariants.{FileMissing, IncludeTooDeep, TooMuch}
use Rattle.rule_lines.specs.Rules.{Rule, rule_fault, rule_good}
use Rattle.rule_lines.proofs.Laws.{Texts, texts_good}
use Rattle.bundles.specs.Bundles.{File, Found, missing, found, file_named}
use Rattle.rules_parser.specs.declared.lines.FileKind.TheVariants.{Rules}
use Rattle.rules_parser.proofs.Laws.{items_start, items_end, rule_pattern, rule_left, rule_right, rule_expression}
use Rattle.held.specs.Met.{Met, end, rule, file, entries, codes, finished}
use Rattle.held.specs.Files.{Line, passed, is_rule, include, bad_line, FileRead, was_read, not_read, before, on_read, on_content, read_lines, follow, read_listed}
use Rattle.held.specs.InnerContracts.{noted, kept, met_on, Each, Within}
use Rattle.held.proofs.Finished.{length_kept, length_noted, kept_plain, each_of}
use Rattle.rule_lists.specs.Lines.{lines_of}
use Rattle.rule_lists.specs.TableContracts.{RowReads, KeptIs}
use Rattle.rule_lists.specs.InnerContracts.{refusal_at, Known, known, ruled, tally, state_of, StateHolds, Ready, Walks, kept_as, Surveyed, SurveyIs, CountedAs, few, many, CollectIs, all, refused, row_at}
use Rattle.rule_lists.proofs.CodeLaws.{first_under}
use Rattle.rule_lists.proofs.TableLaws.{noted_none, kept_none}
use Rattle.rule_lists.proofs.GoingLaws.{lines_at, Here, here, told_done, told_refused}
use Rattle.base.proofs.Arms.{clash}
use Rattle.rule_lists.specs.declared.lines.Row.{Row}
use Rattle.rule_lists.specs.declared.lines.Row.TheVariants as row
use Rattle.rule_lists.specs.declared.walk.Task.TheVariants.{Survey, Collect}
use Rattle.rule_lists.specs.declared.tables.Spot.{Spot}
use Rattle.rule_lists.specs.declared.walk.State.{State}
use Rattle.std.specs.Prelude.{Result, Ok, Err, None}
use Rattle.rule_lists.specs.declared.refused.Refused.{Refused}
use Rattle.rule_lists.specs.Lists.{first_code_of, content_in, files_for, counted_rules}

-- ---- every rule that is read

-- a pack may hold it
abbrev pub GoodRead : List ℕ → Rule → Type 0
GoodRead names r = rule_good names r ≡ true

reads_good : (names s : List ℕ) (p : ℕ) (r : Rule) → rule_fault names r ≡ None → RowReads s p r → GoodRead names r
reads_good names s p r e w = texts_good names r (subst Texts w.is (record {
  pattern = rule_pattern s p _ _ _ _ _ w.says;
  left = rule_left s p _ _ _ _ _ w.says;
  right = rule_right s p _ _ _ _ _ w.says;
  expression = rule_expression s p _ _ _ _ _ w.says;
})) e

-- the rules among lines, up to one that is refused
LinesGood : List ℕ → List (Line Rule) → Type 0
LinesGood names [] = Unit {0}
LinesGood names (passed k ∷ ls) = LinesGood names ls
LinesGood names (is_rule r ∷ ls) = GoodRead names r × LinesGood names ls
LinesGood names (include g ∷ ls) = LinesGood names ls
LinesGood names (bad_line k ∷ ls) = Unit {0}

lines_at_lem : (names s : List ℕ) (k p : ℕ) → length s - p ≤ k → LinesGood names (lines_at names s p)
unfolding LinesGood Here
lines_at_lem names s zero p h = rw (items_end Rules s p (omega arith)) tt
lines_at_lem names s (suc k) p h = elim (dec_lt p (length s)) [
  | yes l ↦ on (row_at names s p) (here names s p l _ refl) (λ n g. lines_at_lem names s k n (omega arith))
  | no l ↦ rw (items_end Rules s p (omega arith)) tt
]
  where
    on : (r : Result Row Refusal) → Here names s p r → ((n : ℕ) → p < n → LinesGood names (lines_at names s n)) → LinesGood names (lines_at names s p)
    on (Ok (row.Passed j n)) w ih = rw w.left (ih n w.ahead)
    on (Ok (row.Rule j n)) w ih = rw w.goes.left (reads_good names s p w.is w.sound w.reads, ih n w.goes.ahead)
    on (Ok (row.Include t n)) w ih = rw w.left (ih n w.ahead)
    on (Err j) w ih = rw w.1 tt

lines_good : (names s : List ℕ) → LinesGood names (lines_of names s)
unfolding lines_of
lines_good names s = rw (← items_start Rules s) (lines_at_lem names s (length s - 0) 0 (omega arith))

module _ (names : List ℕ) where
  Sound : FileRead Rule → Type 0
  Sound (was_read t) = Each (GoodRead names) t
  Sound (not_read c l f) = Unit {0}

  sound_before : (g : Met Rule → Met Rule) (x : FileRead Rule) → ((t : Met Rule) → Each (GoodRead names) t → Each (GoodRead names) (g t)) → Sound x → Sound (before g x)
  unfolding Sound before
  sound_before g (was_read t) h s = h t s
  sound_before g (not_read c l f) h s = tt

  sound_on : (x : FileRead Rule) (k : Met Rule → FileRead Rule) → Sound x → ((t : Met Rule) → Each (GoodRead names) t → Sound (k t)) → Sound (on_read x k)
  unfolding Sound on_read
  sound_on (was_read t) k s h = h t s
  sound_on (not_read c l f) k s h = tt

  sound_lines : (go : List ℕ → ℕ → ℕ → ℕ → FileRead Rule) → ((g : List ℕ) (f l n : ℕ) → Sound (go g f l n)) → (f l n : ℕ) (ls : List (Line Rule)) → LinesGood names ls → Sound (read_lines go f l n ls)
  unfolding Sound read_lines LinesGood Each
  sound_lines go h f l n [] g = tt
  sound_lines go h f l n (passed k ∷ ls) g = sound_lines go h f (l + k) n ls g
  sound_lines go h f l n (is_rule r ∷ ls) g = sound_before (rule r) _ (λ t e. (g.0, e)) (sound_lines go h f (l + 1) n ls g.1)
  sound_lines go h f l n (include i ∷ ls) g = sound_on (go i f l n) _ (h i f l n) (λ t e. sound_before (file t) _ (λ u d. (e, d)) (sound_lines go h f (l + 1) (n + 1 + entries t) ls g))
  sound_lines go h f l n (bad_line k ∷ ls) g = tt

  module _ (fs : List File) where
    sound_follow : (left : ℕ) (g : List ℕ) (f l n : ℕ) → Sound (follow (files_for names fs) left g f l n)
    unfolding Sound follow files_for content_in on_content pick
    sound_follow zero g f l n = tt
    sound_follow (suc left) g f l n = deep (leb 256 n) (file_named g 0 fs) (sound_follow left)
      where
        deep : (t : Bool) (x : Found) → ((g : List ℕ) (f l n : ℕ) → Sound (follow (files_for names fs) left g f l n))
            → Sound (pick t (not_read IncludeTooDeep l f) (on_content (content_in names x) (not_read FileMissing l f) (λ h ls. read_lines (follow (files_for names fs) left) h 1 (n + 1) ls)))
        deep true x ih = tt
        deep false missing ih = tt
        deep false (found k c) ih = sound_lines _ ih k 1 (n + 1) (lines_of names c) (lines_good names c)

    pub each_read : (f : ℕ) (s : List ℕ) (t : Met Rule) → read_listed (files_for names fs) f (lines_of names s) ≡ was_read t → Each (GoodRead names) t
    unfolding read_listed Sound
    each_read f s t e = subst Sound e (sound_lines _ (sound_follow 8) f 1 0 (lines_of names s) (lines_good names s))

-- ---- what two walks leave

tally_survey : (t : Met Rule) (own n : ℕ) (vs : List ℕ) (rs : List Rule) → tally Survey own n (known vs rs) t ≡ known (noted first_code_of own n vs t) (met_on rs t)
unfolding tally ruled noted met_on
tally_survey end own n vs rs = refl
tally_survey (rule r t) own n vs rs = tally_survey t own n _ _
tally_survey (file i t) own n vs rs = ap (λ (a : Known). tally Survey own (n + 1 + entries i) a t) (tally_survey i (n + 1) (n + 1) vs rs) ∙ tally_survey t own (n + 1 + entries i) _ _

tally_collect : (t : Met Rule) (own n : ℕ) (vs : List ℕ) (rs : List Rule) → tally Collect own n (known vs rs) t ≡ known vs (kept first_code_of vs n rs t)
unfolding tally ruled kept
tally_collect end own n vs rs = refl
tally_collect (rule r t) own n vs rs = tally_collect t own n vs _
tally_collect (file i t) own n vs rs = ap (λ (a : Known). tally Collect own (n + 1 + entries i) a t) (tally_collect i (n + 1) (n + 1) vs rs) ∙ tally_collect t own (n + 1 + entries i) vs _

pub within_all : (t : Met Rule) → Within first_code_of t
within_all t = each_of first_code_of (λ r. first_code_of r < codes) first_under t

abbrev lasts_of : Met Rule → List ℕ
lasts_of t = noted first_code_of 0 0 [] t

-- how many are noted and kept
sizes : (t : Met Rule) → entries t ≤ 256 → (length (lasts_of t) ≤ length (finished first_code_of t)) × (length (kept_as t) ≡ length (finished first_code_of t))
unfolding kept_as
sizes t short = (length_noted first_code_of t short (within_all t), length_kept first_code_of t short (within_all t))

module _ {bundle : List ℕ} where
  pub ready_survey : {lasts : List ℕ} {rows : List Spot} → length lasts ≡ 4096 → length rows ≡ 4096 → Ready bundle Survey (state_of 0 0 0) lasts rows
  ready_survey {lasts} {rows} l r = record {
    some = (known [] [], record { noted = noted_none lasts l; kept = kept_none bundle rows r });
    followed = omega arith;
    whole = λ e. clash (cc);
  }

  -- a refusal says nothing of the rows
  refuses : {x : FileRead Rule} (c : Refusal) (l g : ℕ) (rows' : List Spot) → x ≡ not_read c l g → CollectIs bundle (counted_rules x) (Err (refusal_at c l g)) rows'
  unfolding counted_rules
  refuses c l g rows' e = rw e refused

  too_many : {x : FileRead Rule} (t : Met Rule) (rows' : List Spot) → x ≡ was_read t → 4096 < length (finished first_code_of t) → CollectIs bundle (counted_rules x) (Err (refusal_at TooMuch 0 0)) rows'
  unfolding counted_rules pick
  too_many t rows' e h = rw (e, lt-leb _ 4096 h) refused

  -- the rules that stay are counted
  counts : {x : FileRead Rule} {n : ℕ} {rows : List Spot} {r : Result ℕ Refused} (t : Met Rule) → x ≡ was_read t → entries t ≤ 256 → KeptIs bundle rows n (kept_as t) → CountedAs n r → CollectIs bundle (counted_rules x) r rows
  unfolding counted_rules pick
  counts t e short k (few h) = let l : length (finished first_code_of t) ≤ 4096 = omega (arith, k.count, sizes t short) in rw (e, le-leb _ 4096 l) (all short h k)
  counts t e short k (many h) = too_many t _ e (omega (arith, k.count, sizes t short))

  -- the first walk
  pub survey_is : {x : FileRead Rule} {lasts : List ℕ} {rows : List Spot} {lasts₁ : List ℕ} {rows₁ : List Spot} {w : Result State Refused} → length lasts ≡ 4096 → length rows ≡ 4096 → Walks bundle Survey (state_of 0 0 0) x lasts rows w lasts₁ rows₁ → SurveyIs bundle x w lasts₁ rows₁
  unfolding ready_survey
  survey_is {w = w} l r one =
      let told = one.told (known [] []) (ready_survey l r).some.1 in
      record {
        done = λ st e.
            let t = told_done told e in
            let h = rw (tally_survey t.all 0 0 [] []) at t.holds in
            record { all = t.all; is = t.is; followed = omega (arith, t.followed); short = omega (arith, t.followed, one.followed st e); noted = h.noted; kept = h.kept };
        stop = λ c e. told_refused told e;
      }

  module _ {x : FileRead Rule} {lasts : List ℕ} {rows : List Spot} {w : Result State Refused} (v : SurveyIs bundle x w lasts rows) where
    pub stop_first : {c : Refused} {rows' : List Spot} → w ≡ Err c → CollectIs bundle (counted_rules x) (Err c) rows'
    stop_first {c} {rows'} e = refuses c.why c.line c.file rows' (v.stop c e)

    pub surveyed : {st : State} → w ≡ Ok st → Surveyed bundle x st lasts rows
    surveyed {st} e = v.done st e

  -- the second
  module _ {x : FileRead Rule} {st : State} {lasts : List ℕ} {rows : List Spot} (s : Surveyed bundle x st lasts rows) where
    pub stop_noted : {rows' : List Spot} → 4096 < st.noted → CollectIs bundle (counted_rules x) (Err (refusal_at TooMuch 0 0)) rows'
    stop_noted {rows'} h = too_many s.all rows' s.is (omega (arith, s.noted.count, sizes s.all s.short))

    -- no include was followed
    pub collects_plain : {r : Result ℕ Refused} → st.followed ≡ 0 → CountedAs st.kept r → CollectIs bundle (counted_rules x) r rows
    unfolding kept_as
    collects_plain z = counts s.all s.is s.short (rw (kept_plain first_code_of s.all (omega (arith, s.followed))) s.kept)

    module _ (l : st.noted ≤ 4096) where
      start_two : StateHolds bundle lasts rows (state_of 0 st.noted 0) (known (lasts_of s.all) [])
      start_two = record { noted = s.noted; kept = kept_none bundle rows s.kept.size }

      pub ready_collect : Ready bundle Collect (state_of 0 st.noted 0) lasts rows
      ready_collect = record { some = (_, start_two); followed = omega arith; whole = λ c. l }

      module _ {lasts' : List ℕ} {rows' : List Spot} {w : Result State Refused} (two : Walks bundle Collect (state_of 0 st.noted 0) x lasts rows w lasts' rows') where
        pub stop_second : {c : Refused} {rows₂ : List Spot} → w ≡ Err c → CollectIs bundle (counted_rules x) (Err c) rows₂
        stop_second {c} {rows₂} i = refuses c.why c.line c.file rows₂ (told_refused (two.told _ start_two) i)

        module _ {st₂ : State} (i : w ≡ Ok st₂) where
          kept_is : KeptIs bundle rows' st₂.kept (kept_as s.all)
          unfolding kept_as
          kept_is =
              let u = told_done (two.told _ start_two) i in
              let q : u.all ≡ s.all = cc (u.is, s.is) in
              (rw q at (rw (tally_collect u.all 0 0 (lasts_of s.all) []) at u.holds)).kept

          pub collects : {r : Result ℕ Refused} → CountedAs st₂.kept r → CollectIs bundle (counted_rules x) r rows'
          collects c = counts s.all s.is s.short kept_is c

pub ruleset collect_laws = (ready_survey, survey_is, stop_first, surveyed, rules)

pub ruleset staying_laws = (collects_plain, stop_noted, ready_collect, stop_second, collects, rules)
