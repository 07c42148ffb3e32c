-- Laws of the walk. The loop's invariant is an implication that is conserved: whatever is told of the lines that are left, from what is
-- known now on, is told of the whole file. Assumes nothing.
use mathlib.Core.Path.{◌≡◌, refl, sym, ap, subst, ◌∙◌}
use mathlib.Core.List.{List, [], ◌∷◌, map}
use Prim.Native.Nat.{ℕ, ◌+◌, ◌-◌, ◌*◌, ◌^◌, ◌≤◌, ◌<◌}
use native.Mathlib.Omega.{arith}
use borrow.Author.Rules.{rules}
use lib.ListN.{length, drop, length-take, length-drop}
use Rattle.base.specs.Pick.{pick}
use Rattle.refusals.specs.declared.Refusal.{Refusal}
use Rattle.rule.specs.Matching.{first_code}
use Rattle.rule_lines.specs.Rules.{Rule, rule_fault}
use Rattle.rules_parser.specs.Fields.{part_of}
use Rattle.rules_parser.specs.Files.{item_at}
use Rattle.rules_parser.specs.declared.fields.Text.{Text}
use Rattle.rules_parser.specs.declared.lines.FileKind.TheVariants.{Rules}
use Rattle.rules_parser.specs.declared.lines.Clause.{Clause}
use Rattle.rules_parser.specs.declared.lines.Clause.TheVariants as told
use Rattle.rules_parser.specs.declared.files.Item.{Item}
use Rattle.rules_parser.specs.declared.files.Item.TheVariants as item
use Rattle.rules_parser.proofs.Laws.{passed_goes, passed_in, passed_lines, tells_goes, tells_in, items_start, items_end, items_passed, items_tells, items_wrong}
use Rattle.held.specs.Met.{Met, end, rule, file, entries}
use Rattle.held.specs.Files.{Line, passed, is_rule, include, bad_line, FileRead, was_read, not_read, before, on_read, read_lines, follow}
use Rattle.rule_lists.specs.Lines.{rule_in, judged_rule, line_of, lines_of}
use Rattle.rule_lists.specs.TableContracts.{RowReads, SpotIs}
use Rattle.rule_lists.specs.InnerContracts.{refusal_at, Known, ruled, tally, StateHolds, Ready, RuledIs, content_of, InBundle, read_from, read_included, one_more, ComesTo, done, stopped, Walks, row_by, row_told, row_in, row_at}
use Rattle.rule_lists.specs.declared.lines.Row.{Row}
use Rattle.rule_lists.specs.declared.lines.Row.TheVariants as row
use Rattle.rule_lists.specs.declared.tables.Spot.{Spot}
use Rattle.rule_lists.specs.declared.walk.Task.{Task}
use Rattle.rule_lists.specs.declared.walk.Task.TheVariants.{Collect}
use Rattle.rule_lists.specs.declared.walk.State.{State}
use Rattle.std.specs.Prelude.{Result, Ok, Err, Option, Some, None}
use Rattle.rule_lists.specs.declared.refused.Refused.{Refused}
use Rattle.rule_lists.specs.declared.walk.Source.{Source}
use Rattle.rule_lists.specs.Lists.{files_for}
use Rattle.bundles.specs.InnerContracts.{files_of}
use Rattle.rules_parser.specs.InnerContracts.{items_at}
use Rattle.base.proofs.Arms.{clash}

-- ---- what a row tells of the lines that are left

abbrev pub lines_at : List ℕ → List ℕ → ℕ → List (Line Rule)
lines_at names s p = map (line_of names s) (items_at Rules s p)

-- a line goes on to the place n, and k lines are passed
pub record Goes (names s : List ℕ) (p k n : ℕ) (x : Line Rule) : Type 0 where
  pub left : lines_at names s p ≡ x ∷ lines_at names s n
  pub ahead : p < n
  pub inside : n ≤ length s
  pub lines : p + k ≤ n

pub record RuleRow (names s : List ℕ) (p k n : ℕ) : Type 0 where
  pub is : Rule
  pub first : k ≡ first_code is.pattern
  pub sound : rule_fault names is ≡ None
  pub reads : RowReads s p is
  pub goes : Goes names s p 1 n (is_rule is)

-- what a row tells of the lines from p on
unfoldable pub Here : (names s : List ℕ) (p : ℕ) → Result Row Refusal → Type 0
Here names s p (Ok (row.Passed k n)) = Goes names s p k n (passed k)
Here names s p (Ok (row.Rule k n)) = RuleRow names s p k n
Here names s p (Ok (row.Include t n)) = Goes names s p 1 n (include (part_of s t))
Here names s p (Err k) = (ls : List (Line Rule)) × (lines_at names s p ≡ bad_line k ∷ ls)

module _ (names s : List ℕ) (p : ℕ) (h : p < length s) where
  told_goes : (t : Clause) (n : ℕ) → item_at Rules s p ≡ item.Tells t n → Goes names s p 1 n (line_of names s (item.Tells t n))
  told_goes t n e =
      let a = tells_goes Rules s p t n e in
      record { left = ap (map (line_of names s)) (items_tells Rules s p t n e); ahead = a; inside = tells_in Rules s p t n e; lines = omega arith }

  here_by : (i : Item) → item_at Rules s p ≡ i → Here names s p (row_in names s i)
  unfolding Here row_in line_of row_told row_by judged_rule pick
  here_by (item.Passed k n) q =
      let a = passed_goes Rules s p k n q in
      let b = passed_lines Rules s p k n q in
      record { left = ap (map (line_of names s)) (items_passed Rules s p k n q); ahead = a; inside = passed_in Rules s p k n q; lines = omega arith }
  here_by (item.Tells (told.Rule a b c d) n) q = go (rule_fault names (rule_in s a b c d)) refl (told_goes _ n q)
    where
      go : (x : Option Refusal) → rule_fault names (rule_in s a b c d) ≡ x → Goes names s p 1 n (judged_rule x (rule_in s a b c d)) → Here names s p (row_by x (first_code (part_of s a)) n)
      go None e g = record { is = rule_in s a b c d; first = refl; sound = e; reads = record { a = a; b = b; c = c; d = d; next = n; says = q; is = refl }; goes = g }
      go (Some w) e g = (lines_at names s n, g.left)
  here_by (item.Tells (told.Include t) n) q = told_goes _ n q
  here_by (item.Tells (told.Guess a b v) n) q = (lines_at names s n, (told_goes _ n q).left)
  here_by (item.Tells (told.Name t) n) q = (lines_at names s n, (told_goes _ n q).left)
  here_by item.Wrong q = ([], ap (map (line_of names s)) (items_wrong Rules s p h q))

  pub here : (r : Result Row Refusal) → row_at names s p ≡ r → Here names s p r
  unfolding row_at
  here r e = subst (Here names s p) e (here_by (item_at Rules s p) refl)

-- ---- what is told of a reading

-- an answer tells what was read
pub record WasRead (bundle : List ℕ) (task : Task) (own : ℕ) (st : State) (a : Known) (lasts : List ℕ) (rows : List Spot) (x : FileRead Rule) (st' : State) : Type 0 where
  pub all : Met Rule
  pub is : x ≡ was_read all
  pub followed : st'.followed ≡ st.followed + entries all
  pub holds : StateHolds bundle lasts rows st' (tally task own st.followed a all)

module _ {bundle : List ℕ} {task : Task} {own : ℕ} {st : State} {a : Known} where
  pub told_done : {x : FileRead Rule} {w : Result State Refused} {st' : State} {lasts : List ℕ} {rows : List Spot} → ComesTo bundle task own st a x w lasts rows → w ≡ Ok st' → WasRead bundle task own st a lasts rows x st'
  told_done {st' = st'} (done {t} {st' = st''} p h) e = let q : st'' ≡ st' = cc in record { all = t; is = refl; followed = rw q at p; holds = rw q at h }
  told_done stopped e = clash (cc)

  pub told_refused : {x : FileRead Rule} {w : Result State Refused} {e : Refused} {lasts : List ℕ} {rows : List Spot} → ComesTo bundle task own st a x w lasts rows → w ≡ Err e → x ≡ not_read e.why e.line e.file
  told_refused (done p h) q = clash (cc)
  told_refused {e = e} (stopped {c} {l} {f}) q = let z : refusal_at c l f ≡ e = cc in ap (λ (r : Refused). not_read r.why r.line r.file) z

  -- what is told of the rest is told with what comes before it
  told_before : {st' : State} {b : Known} {x : FileRead Rule} {w : Result State Refused} {l : List ℕ} {m : List Spot} (g : Met Rule → Met Rule) → ((t : Met Rule) → st'.followed + entries t ≡ st.followed + entries (g t))
      → ((t : Met Rule) → tally task own st'.followed b t ≡ tally task own st.followed a (g t)) → ComesTo bundle task own st' b x w l m → ComesTo bundle task own st a (before g x) w l m
  unfolding before
  told_before g h k (done {t} p q) = done (p ∙ h t) (rw (k t) at q)
  told_before g h k stopped = stopped

  -- the same where the rest is read by how many includes were followed
  told_on : {st' : State} {b : Known} {w : Result State Refused} {l : List ℕ} {m : List Spot} (rest : ℕ → FileRead Rule) (g : Met Rule → Met Rule) {n : ℕ} → st'.followed ≡ n → ((t : Met Rule) → n + entries t ≡ st.followed + entries (g t))
      → ((t : Met Rule) → tally task own n b t ≡ tally task own st.followed a (g t)) → ComesTo bundle task own st' b (rest st'.followed) w l m → ComesTo bundle task own st a (before g (rest n)) w l m
  told_on {b = b} {w} {l} {m} rest g e h k t = subst (λ (i : ℕ). ComesTo bundle task own st a (before g (rest i)) w l m) e
      (told_before g (λ u. ap (λ (i : ℕ). i + entries u) e ∙ h u) (λ u. ap (λ (i : ℕ). tally task own i b u) e ∙ k u) t)

-- ---- what is left and the whole

-- a₀ being known at the start, so much is known now, and what is told of x from here on is told of x₀ from the start on
pub record Onwards (bundle lasts : List ℕ) (rows : List Spot) (task : Task) (own : ℕ) (st : State) (x : FileRead Rule) (st₀ : State) (a₀ : Known) (x₀ : FileRead Rule) : Type 0 where
  pub what : Known
  pub holds : StateHolds bundle lasts rows st what
  pub tells : (w : Result State Refused) (l : List ℕ) (m : List Spot) → ComesTo bundle task own st what x w l m → ComesTo bundle task own st₀ a₀ x₀ w l m

-- the lines from line l on, n includes having been followed
abbrev read_on : List ℕ → List ℕ → Source → ℕ → ℕ → List (Line Rule) → FileRead Rule
read_on bundle names source l n ls = read_lines (follow (files_for names (files_of bundle)) source.left) source.file l n ls

pub record Going (source : Source) (task : Task) (bundle names : List ℕ) (st₀ : State) (lasts₀ : List ℕ) (rows₀ : List Spot) (s lasts : List ℕ) (rows : List Spot) (st : State) (p line : ℕ) : Type 0 where
  pub part : s ≡ content_of bundle source
  pub stands : InBundle bundle source
  pub small : length bundle * 1 < 2 ^ 63
  pub long : length lasts ≡ length lasts₀
  pub wide : length rows ≡ length rows₀
  pub few : st₀.followed ≤ 256
  pub place : p ≤ length s
  pub count : line ≤ p + 1
  pub ready : Ready bundle task st lasts rows
  pub noted : task ≡ Collect → st.noted ≡ st₀.noted
  pub is : (a₀ : Known) → StateHolds bundle lasts₀ rows₀ st₀ a₀
      → Onwards bundle lasts rows task st₀.followed st (read_on bundle names source line st.followed (lines_at names s p)) st₀ a₀ (read_from bundle names source st₀.followed)

module _ (source : Source) (task : Task) (bundle names : List ℕ) (st₀ : State) (lasts₀ : List ℕ) (rows₀ : List Spot) (s : List ℕ) where
  abbrev Now : List ℕ → List Spot → State → ℕ → ℕ → Type 0
  Now lasts rows st p line = Going source task bundle names st₀ lasts₀ rows₀ s lasts rows st p line

  abbrev Answers : Result State Refused → List ℕ → List Spot → Type 0
  Answers w lasts rows = Walks bundle task st₀ (read_from bundle names source st₀.followed) lasts₀ rows₀ w lasts rows

  pub going_start : s ≡ content_of bundle source → InBundle bundle source → length bundle * 1 < 2 ^ 63 → Ready bundle task st₀ lasts₀ rows₀ → Now lasts₀ rows₀ st₀ 0 1
  unfolding read_from lines_of
  going_start e i b r = record {
    part = e;
    stands = i;
    small = b;
    long = refl;
    wide = refl;
    few = r.followed;
    place = omega arith;
    count = omega arith;
    ready = r;
    noted = λ c. refl;
    is = λ a₀ h. record { what = a₀; holds = h; tells = λ w l m t. rw e at (rw (items_start Rules s) at t) };
  }

  module _ (lasts : List ℕ) (rows : List Spot) (st : State) (p line : ℕ) (v : Now lasts rows st p line) where
    -- nothing is left
    pub going_done : length s ≤ p → Answers (Ok st) lasts rows
    unfolding read_lines entries tally
    going_done h = record {
      told = λ a h₀. let o = v.is a h₀ in o.tells _ lasts rows (rw (items_end Rules s p h) (done {t = end} {st' = st} (omega arith) o.holds));
      followed = λ st' e. let q : st ≡ st' = cc in rw (← q) v.ready.followed;
      noted = λ st' e c. let q : st ≡ st' = cc in rw (← q) (v.noted c);
    }

    -- line numbers stay small, and what is left falls
    room : (k n : ℕ) (x : Line Rule) → Goes names s p k n x → line + k < 2 ^ 64
    room k n x g =
        let e : length s ≤ length bundle = rw v.part (omega (arith, length-take (source.end - source.start) (drop source.start bundle), length-drop source.start bundle)) in
        omega (arith, v.count, v.small, g.lines, g.inside)

    less : (k n : ℕ) (x : Line Rule) → Goes names s p k n x → length s - n < length s - p
    less k n x g = omega (arith, g.ahead)

    -- a refusal says nothing of the buffers
    refuses : (c : Refusal) (l f : ℕ) (lasts' : List ℕ) (rows' : List Spot) → read_on bundle names source line st.followed (lines_at names s p) ≡ not_read c l f → Answers (Err (refusal_at c l f)) lasts' rows'
    refuses c l f lasts' rows' q = record { told = λ a h₀. (v.is a h₀).tells _ lasts' rows' (rw q stopped); followed = λ st' i. clash (cc); noted = λ st' i c. clash (cc) }

    -- the next line, where what is told of it is told of this one
    on : (k n : ℕ) (x : Line Rule) (lasts' : List ℕ) (rows' : List Spot) (st' : State) → Goes names s p k n x → st'.followed ≤ 256 → (task ≡ Collect → st'.noted ≡ st.noted)
        → ((a : Known) → StateHolds bundle lasts rows st a → Onwards bundle lasts' rows' task st₀.followed st' (read_on bundle names source (line + k) st'.followed (lines_at names s n)) st a (read_on bundle names source line st.followed (x ∷ lines_at names s n)))
        → Now lasts' rows' st' n (line + k)
    on k n x lasts' rows' st' g few c j =
        let y = v.ready in
        let o = j y.some.0 y.some.1 in
        record {
          part = v.part;
          stands = v.stands;
          small = v.small;
          long = o.holds.noted.size ∙ sym y.some.1.noted.size ∙ v.long;
          wide = o.holds.kept.size ∙ sym y.some.1.kept.size ∙ v.wide;
          few = v.few;
          place = g.inside;
          count = omega (arith, v.count, g.lines);
          ready = record { some = (o.what, o.holds); followed = few; whole = λ z. rw (c z) (y.whole z) };
          noted = λ z. c z ∙ v.noted z;
          is = λ a₀ h₀.
              let i = v.is a₀ h₀ in
              let u = j i.what i.holds in
              record { what = u.what; holds = u.holds; tells = λ w l m t. i.tells w l m (rw g.left (u.tells w l m t)) };
        }

    module _ (h : p < length s) (r : Result Row Refusal) (e : r ≡ row_at names s p) where
      pub stop_bad : (k : Refusal) (lasts' : List ℕ) (rows' : List Spot) → r ≡ Err k → Answers (Err (refusal_at k line source.file)) lasts' rows'
      unfolding read_lines Here
      stop_bad k lasts' rows' q = refuses k line source.file lasts' rows' (rw (here names s p h _ (sym e ∙ q)).1 refl)

      -- a line that is good
      module _ (found : Row) (g : r ≡ Ok found) where
        goes_passed : (k n : ℕ) → found ≡ row.Passed k n → Goes names s p k n (passed k)
        unfolding Here
        goes_passed k n q = here names s p h _ (sym e ∙ g ∙ ap (λ (x : Row). Ok x) q)

        goes_include : (t : Text) (n : ℕ) → found ≡ row.Include t n → Goes names s p 1 n (include (part_of s t))
        unfolding Here
        goes_include t n q = here names s p h _ (sym e ∙ g ∙ ap (λ (x : Row). Ok x) q)

        pub room_passed : (k n : ℕ) → found ≡ row.Passed k n → line + k < 2 ^ 64
        room_passed k n q = room k n _ (goes_passed k n q)

        pub less_passed : (k n : ℕ) → found ≡ row.Passed k n → length s - n < length s - p
        less_passed k n q = less k n _ (goes_passed k n q)

        pub room_include : (t : Text) (n : ℕ) → found ≡ row.Include t n → line + 1 < 2 ^ 64
        room_include t n q = room 1 n _ (goes_include t n q)

        pub less_include : (t : Text) (n : ℕ) → found ≡ row.Include t n → length s - n < length s - p
        less_include t n q = less 1 n _ (goes_include t n q)

        pub going_passed : (k n : ℕ) → found ≡ row.Passed k n → Now lasts rows st n (line + k)
        unfolding read_lines
        going_passed k n q = on k n (passed k) lasts rows st (goes_passed k n q) v.ready.followed (λ z. refl) (λ a i. record { what = a; holds = i; tells = λ w l m t. t })

        -- a rule
        abbrev spot_of : ℕ → Spot
        spot_of k = record { code = k; start = source.start; end = source.end; place = p }

        module _ (k n : ℕ) (q : found ≡ row.Rule k n) where
          this : RuleRow names s p k n
          unfolding Here
          this = here names s p h _ (sym e ∙ g ∙ ap (λ (x : Row). Ok x) q)

          pub room_rule : line + 1 < 2 ^ 64
          room_rule = room 1 n _ this.goes

          pub less_rule : length s - n < length s - p
          less_rule = less 1 n _ this.goes

          spot_is : SpotIs bundle (spot_of k) this.is
          spot_is = record { first = this.first; order = v.stands.order; within = v.stands.within; reads = subst (λ (x : List ℕ). RowReads x p this.is) v.part this.reads }

          pub going_rule : (lasts' : List ℕ) (rows' : List Spot) (st' : State) → RuledIs bundle task st₀.followed st (spot_of k) lasts rows st' lasts' rows' → Now lasts' rows' st' n (line + 1)
          unfolding read_lines entries tally
          going_rule lasts' rows' st' w = on 1 n (is_rule this.is) lasts' rows' st' this.goes (rw w.followed v.ready.followed) w.noted (λ a i. record {
            what = ruled task st₀.followed st.followed a this.is;
            holds = w.holds a this.is i spot_is;
            tells = λ z l m t. told_on (λ i. read_on bundle names source (line + 1) i (lines_at names s n)) (rule this.is) w.followed (λ u. refl) (λ u. refl) t;
          })

        -- an include, whose file was read
        abbrev included : List ℕ → FileRead Rule
        included g = read_included bundle names (record { file = source.file; line = line; left = source.left }) g st.followed

        module _ (t : Text) (n : ℕ) (q : found ≡ row.Include t n) (name : List ℕ) (gq : name ≡ part_of s t) (w : Result State Refused) (lasts' : List ℕ) (rows' : List Spot)
            (wq : Walks bundle task (one_more st) (included name) lasts rows w lasts' rows') where
          goes : Goes names s p 1 n (include name)
          goes = rw gq (goes_include t n q)

          inner : (a : Known) → StateHolds bundle lasts rows st a → ComesTo bundle task (st.followed + 1) (one_more st) a (included name) w lasts' rows'
          inner a i = wq.told a (record { noted = i.noted; kept = i.kept })

          pub stop_in : (c : Refused) (lasts₂ : List ℕ) (rows₂ : List Spot) → w ≡ Err c → Answers (Err c) lasts₂ rows₂
          unfolding read_lines on_read
          stop_in c lasts₂ rows₂ i = let y = v.ready.some in refuses c.why c.line c.file lasts₂ rows₂ (rw (goes.left, told_refused (inner y.0 y.1) i) refl)

          pub going_in : (st' : State) → w ≡ Ok st' → Now lasts' rows' st' n (line + 1)
          unfolding read_lines on_read entries tally
          going_in st' d = on 1 n (include name) lasts' rows' st' goes (wq.followed st' d) (wq.noted st' d) (λ a i.
              let x = told_done (inner a i) d in
              record {
                what = tally task (st.followed + 1) (st.followed + 1) a x.all;
                holds = x.holds;
                tells = λ z l m t. rw x.is (told_on (λ i. read_on bundle names source (line + 1) i (lines_at names s n)) (file x.all) x.followed (λ u. omega arith) (λ u. refl) t);
              })

pub ruleset going_laws = (going_start, going_done, room_passed, room_rule, room_include, less_passed, less_rule, less_include, stop_bad, going_passed, going_rule, stop_in, going_in, rules)
