-- Laws of reading an included file: one for each way out of `follow`. Assumes nothing.
use Rattle.bundles.specs.declared.FileAt.{FileAt}
use mathlib.Core.Path.{◌≡◌, refl, ap, ◌∙◌}
use mathlib.Core.List.{List}
use Prim.Native.Nat.{ℕ, suc, ◌+◌, ◌-◌, ◌*◌, ◌≤◌, ◌<◌}
use native.Mathlib.Omega.{arith}
use borrow.Author.Rules.{rules}
use borrow.Author.Tests.{le-leb, lt-leb}
use Rattle.base.proofs.Arms.{clash}
use Rattle.base.proofs.PickLaws.{pick_true, pick_false}
use Rattle.refusals.specs.declared.Refusal.{Refusal}
use Rattle.refusals.specs.declared.Refusal.TheVariants.{FileMissing, IncludeTooDeep}
use Rattle.rule_lines.specs.Rules.{Rule}
use Rattle.bundles.specs.Bundles.{file_named, Found}
use Rattle.bundles.specs.InnerContracts.{files_of}
use Rattle.bundles.specs.PlaceContracts.{file_numbers, file_at}
use Rattle.bundles.proofs.Laws.{missing_is, found_is, found_order, found_within}
use Rattle.held.specs.Files.{FileRead, not_read, on_content, read_lines, follow}
use Rattle.rule_lists.specs.Lists.{content_in, files_for}
use Rattle.rule_lists.specs.InnerContracts.{refusal_at, Ready, InBundle, read_from, read_included, one_more, stopped, Walks}
use Rattle.rule_lists.specs.declared.tables.Spot.{Spot}
use Rattle.rule_lists.specs.declared.walk.Task.{Task}
use Rattle.rule_lists.specs.declared.walk.State.{State}
use Rattle.std.specs.Prelude.{Result, Err, Option, Some, None}
use Rattle.rule_lists.specs.declared.refused.Refused.{Refused}
use Rattle.rule_lists.specs.declared.walk.IncludeAt.{IncludeAt}

refused : {bundle : List ℕ} {task : Task} {st : State} {x : FileRead Rule} {lasts : List ℕ} {rows : List Spot} {lasts' : List ℕ} {rows' : List Spot} (c : Refusal) (l f : ℕ) → x ≡ not_read c l f
    → Walks bundle task st x lasts rows (Err (refusal_at c l f)) lasts' rows'
refused c l f e = record { told = λ a h. rw e stopped; followed = λ st' q. clash (cc); noted = λ st' q i. clash (cc) }

-- where it may be nested
some_left : {n : ℕ} → (n ≡ 0 → ⊥) → n ≡ suc (n - 1)
some_left z = omega arith

pub follow_less : (n t : ℕ) → (n ≡ 0 → ⊥) → n * 2 ≡ t → (n - 1) * 2 + 1 < t
follow_less n t z e = omega arith

pub more_ready : {bundle : List ℕ} {task : Task} {st : State} {lasts : List ℕ} {rows : List Spot} → st.followed < 256 → Ready bundle task st lasts rows → Ready bundle task (one_more st) lasts rows
more_ready h y = let u = y.some.1 in record { some = (y.some.0, record { noted = u.noted; kept = u.kept }); followed = omega arith; whole = y.whole }

module _ (bundle names name : List ℕ) (at : IncludeAt) (task : Task) (st : State) (lasts : List ℕ) (rows : List Spot) where
  abbrev Reads : Result State Refused → List ℕ → List Spot → Type 0
  Reads w lasts' rows' = Walks bundle task (one_more st) (read_included bundle names at name st.followed) lasts rows w lasts' rows'

  pub follow_deep : at.left ≡ 0 → Reads (Err (refusal_at IncludeTooDeep at.line at.file)) lasts rows
  unfolding follow
  follow_deep z = refused _ _ _ (rw z refl)

  module _ (z : at.left ≡ 0 → ⊥) where
    pub follow_many : 256 ≤ st.followed → Reads (Err (refusal_at IncludeTooDeep at.line at.file)) lasts rows
    unfolding follow
    follow_many h = refused _ _ _ (rw (some_left z) (pick_true _ _ _ (le-leb 256 st.followed h)))

    module _ (h : st.followed < 256) (r : Option FileAt) (f : file_numbers r ≡ file_at bundle name) where
      -- what is read of the file that was found
      reads : (x : Found) → file_named name 0 (files_of bundle) ≡ x
          → read_included bundle names at name st.followed ≡ on_content (content_in names x) (not_read FileMissing at.line at.file) (λ k ls. read_lines (follow (files_for names (files_of bundle)) (at.left - 1)) k 1 (st.followed + 1) ls)
      unfolding follow files_for
      reads x e = rw (← e) (ap (λ (i : ℕ). follow (files_for names (files_of bundle)) i name at.file at.line st.followed) (some_left z) ∙ pick_false _ _ _ (lt-leb 256 st.followed h))

      pub follow_missing : r ≡ None → Reads (Err (refusal_at FileMissing at.line at.file)) lasts rows
      unfolding content_in on_content
      follow_missing e = refused _ _ _ (reads _ (missing_is bundle name r f e))

      pub follow_in : (whole : FileAt) → r ≡ Some whole → (w : Result State Refused) (lasts' : List ℕ) (rows' : List Spot)
          → Walks bundle task (one_more st) (read_from bundle names (record { file = whole.number; start = whole.start; end = whole.end; left = at.left - 1 }) (st.followed + 1)) lasts rows w lasts' rows' → Reads w lasts' rows'
      unfolding content_in on_content read_from
      follow_in whole e w lasts' rows' v = rw (reads _ (found_is bundle name r f whole e)) v

pub found_stands : (bundle name : List ℕ) (r : Option FileAt) → file_numbers r ≡ file_at bundle name → (whole : FileAt) (left : ℕ) → r ≡ Some whole → InBundle bundle (record { file = whole.number; start = whole.start; end = whole.end; left = left })
found_stands bundle name r f whole left e = record { order = found_order bundle name r f whole e; within = found_within bundle name r f whole e }

pub ruleset follow_laws = (follow_deep, follow_many, more_ready, follow_less, follow_missing, found_stands, follow_in, rules)
