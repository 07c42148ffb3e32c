-- The face for C, from the promises below it. Assumes nothing.
use mathlib.Core.Path.{◌≡◌, refl, sym, ap, ◌∙◌}
use mathlib.Core.Bool.{Bool, true, false}
use mathlib.Core.List.{List}
use Prim.Native.Nat.{ℕ, ◌≤◌, ◌<◌}
use lib.ListN.{length, get_or, set}
use borrow.Author.Tests.{lt-ltb, le-ltb}
use mir.Val.{bool_byte}
use Rattle.base.proofs.One.{one}
use Rattle.choices.specs.Texts.{Text}
use Rattle.refusals.specs.Numbers.{number_of}
use Rattle.pack.specs.Numbers.{checked_numbers}
use Rattle.pack.specs.Packs.{pack_of, verdict_of}
use Rattle.pack.specs.declared.sections.Checked.{Checked}
use Rattle.pack.specs.declared.sections.Checked.TheVariants as checked
use Rattle.refusals.specs.declared.Refusal.{Refusal}
use Rattle.rule_lists.specs.Outcomes as loading
use Rattle.loader.specs.Loading as load
use Rattle.loader.specs.Loading.{LoadNumbers, answer, AnswerIs}
use Rattle.loader.specs.declared.loading.Loaded.{Loaded}
use Rattle.loader.specs.declared.loading.Loaded.TheVariants as loaded
use Rattle.engine.specs.Calls as spelling
use Rattle.engine.specs.Calls.{CallOutcome, call_of, SpellIs, spelled_numbers}
use Rattle.engine.specs.Lines.{BlockNumbers, block_numbers, block_by, LinesIs}
use Rattle.engine.specs.declared.call.Settings.{Settings}
use Rattle.engine.specs.declared.call.Start.{Start}
use Rattle.engine.specs.declared.lines.Lines.{Lines}
use Rattle.engine.specs.declared.lines.Lines.TheVariants as lines
use Rattle.engine.specs.declared.spelling.Spelled.{Spelled}
use Rattle.engine.specs.declared.spelling.Spelled.TheVariants.{Done, Refused}
use Rattle.bm.specs.Flat.{flag_bit, numbered, SpellFlat, CheckFlat, blocked, LinesFlat, placed_tail, LoadFlat}
use Rattle.base.proofs.PickLaws.{pick_yes, pick_no}
use Rattle.bm.specs.InnerContracts.{TailIs}
use borrow.Author.Rules.{rules}

bit_is : (f : Bool) → bool_byte f ≡ flag_bit f
unfolding flag_bit
bit_is true = refl
bit_is false = refl

-- ---- the numbers of an answer

pub tail_done : (s : Spelled) (tail : List ℕ) (n : ℕ) (f : Bool) → s ≡ Done n f → TailIs s tail (set (set tail 0 n) 1 (bool_byte f)) 0
unfolding spelled_numbers numbered
tail_done s tail n f e = rw (e, bit_is f) (record { code = refl; numbers = refl })

pub tail_refused : (s : Spelled) (tail : List ℕ) (why : Refusal) (p k : ℕ) → s ≡ Refused why p → k ≡ number_of why → TailIs s tail (set (set tail 0 p) 1 0) k
unfolding spelled_numbers numbered flag_bit
tail_refused s tail why p k e h = rw e (record { code = h; numbers = refl })

-- ---- a name

pub spell_short : (x : CallOutcome) (out tail : List ℕ) → length tail < 2 → SpellFlat x out out tail tail 255
spell_short x out tail h =
    let t = lt-ltb (length tail) 2 h in
    record { code = pick_yes _ _ _ _ t refl; buffer = pick_yes _ _ _ _ t refl; numbers = pick_yes _ _ _ _ t refl }

pub spell_flat : (x : CallOutcome) (out out' tail tail' : List ℕ) (s : Spelled) (r : ℕ) → 2 ≤ length tail → SpellIs x out s out' → TailIs s tail tail' r → SpellFlat x out out' tail tail' r
spell_flat x out out' tail tail' s r h w q =
    let t = le-ltb (length tail) 2 h in
    record {
      code = pick_no _ _ _ _ t (q.code ∙ ap (λ (n : spelling.Numbers). n.code) w.result);
      buffer = pick_no _ _ _ _ t w.buffer;
      numbers = pick_no _ _ _ _ t (q.numbers ∙ ap (λ (n : spelling.Numbers). numbered n tail) w.result);
    }

-- ---- a pack

pub check_short : (s tail : List ℕ) → length tail < 1 → CheckFlat s tail tail 255
check_short s tail h = let t = lt-ltb (length tail) 1 h in record { code = pick_yes _ _ _ _ t refl; numbers = pick_yes _ _ _ _ t refl }

module _ (s tail : List ℕ) (a : Checked) (h : 1 ≤ length tail) (e : checked_numbers a ≡ checked_numbers (verdict_of (pack_of s))) where
  pub check_accepted : a ≡ checked.Accepted → CheckFlat s tail (set tail 0 0) 0
  unfolding checked_numbers number_of
  check_accepted q =
      let t = le-ltb (length tail) 1 h in
      let v = sym (ap checked_numbers q) ∙ e in
      record {
        code = pick_no _ _ _ _ t (ap (λ (l : List ℕ). get_or l 0 0) v);
        numbers = pick_no _ _ _ _ t (ap (λ (l : List ℕ). set tail 0 (get_or l 1 0)) v);
      }

  pub check_refused : (p : ℕ) → a ≡ checked.Refused p → CheckFlat s tail (set tail 0 p) 5
  unfolding checked_numbers number_of
  check_refused p q =
      let t = le-ltb (length tail) 1 h in
      let v = sym (ap checked_numbers q) ∙ e in
      record {
        code = pick_no _ _ _ _ t (ap (λ (l : List ℕ). get_or l 0 0) v);
        numbers = pick_no _ _ _ _ t (ap (λ (l : List ℕ). set tail 0 (get_or l 1 0)) v);
      }

-- ---- a block of names

pub lines_short : (call : Text → CallOutcome) (block out tail : List ℕ) → length tail < 2 → LinesFlat call block out out tail tail 255
lines_short call block out tail h =
    let t = lt-ltb (length tail) 2 h in
    record { code = pick_yes _ _ _ _ t refl; buffer = pick_yes _ _ _ _ t refl; numbers = pick_yes _ _ _ _ t refl }

module _ (c : Settings) (start start' : Start) (s block out out' tail : List ℕ) (a : Lines) (h : 2 ≤ length tail) (e : start ≡ start') (w : LinesIs (call_of c start s) block out a out') where
  lines_numbers : (n : BlockNumbers) → block_numbers a ≡ n → LinesFlat (call_of c start' s) block out out' tail (blocked n tail) n.code
  lines_numbers n q =
      let t = le-ltb (length tail) 2 h in
      let v : n ≡ block_by (call_of c start s) block (length out) = sym q ∙ w.result in
      rw (← e) (record {
        code = pick_no _ _ _ _ t (ap (λ (x : BlockNumbers). x.code) v);
        buffer = pick_no _ _ _ _ t w.buffer;
        numbers = pick_no _ _ _ _ t (ap (λ (x : BlockNumbers). blocked x tail) v);
      })

  pub lines_done : (read written : ℕ) → a ≡ lines.Done read written → LinesFlat (call_of c start' s) block out out' tail (set (set tail 0 read) 1 written) 0
  unfolding block_numbers blocked
  lines_done read written q = lines_numbers (record { code = 0; first = read; second = written }) (ap block_numbers q)

  pub lines_over : (n : ℕ) → a ≡ lines.NoRoom n → LinesFlat (call_of c start' s) block out out' tail (set (set tail 0 n) 1 0) 9
  unfolding block_numbers blocked
  lines_over n q = lines_numbers (record { code = 9; first = n; second = 0 }) (ap block_numbers q)

-- ---- a bundle

pub load_short : (x : loading.Loading (List ℕ)) (out tail : List ℕ) → length tail < 2 → LoadFlat x out out tail tail 255
load_short x out tail h =
    let t = lt-ltb (length tail) 2 h in
    record { code = pick_yes _ _ _ _ t refl; buffer = pick_yes _ _ _ _ t refl; numbers = pick_yes _ _ _ _ t refl }

module _ (x : loading.Loading (List ℕ)) (out out' tail : List ℕ) (s : Loaded) (h : 2 ≤ length tail) (w : AnswerIs x out s out') where
  load_numbers : (n : LoadNumbers) → load.loaded_numbers s ≡ n → LoadFlat x out out' tail (placed_tail n tail) n.code
  load_numbers n e =
      let t = le-ltb (length tail) 2 h in
      let v : n ≡ answer x (length out) = sym e ∙ w.result in
      record {
        code = pick_no _ _ _ _ t (ap (λ (a : LoadNumbers). a.code) v);
        buffer = pick_no _ _ _ _ t w.buffer;
        numbers = pick_no _ _ _ _ t (ap (λ (a : LoadNumbers). placed_tail a tail) v);
      }

  pub load_done : (n : ℕ) → s ≡ loaded.Done n → LoadFlat x out out' tail (set (set tail 0 n) 1 0) 0
  unfolding load.loaded_numbers placed_tail
  load_done n e = load_numbers (record { code = 0; place = n; file = 0 }) (ap load.loaded_numbers e)

  pub load_refused : (c : Refusal) (p f k : ℕ) → s ≡ loaded.Refused c p f → k ≡ number_of c → LoadFlat x out out' tail (set (set tail 0 p) 1 f) k
  unfolding load.loaded_numbers placed_tail
  load_refused c p f k e q = load_numbers (record { code = k; place = p; file = f }) (ap load.loaded_numbers e ∙ ap (λ (m : ℕ). record { code = m; place = p; file = f }) (sym q))

pub ruleset flat_laws = (load_short, load_done, load_refused, tail_done, tail_refused, spell_short, spell_flat, check_short, check_accepted, check_refused, lines_short, lines_done, lines_over, rules)

-- ---- one answer, one content of each lent buffer

pub spell_flat_one : {x : CallOutcome} {out tail o o' t t' : List ℕ} {r r' : ℕ} → SpellFlat x out o tail t r → SpellFlat x out o' tail t' r' → (r ≡ r') × (o ≡ o') × (t ≡ t')
spell_flat_one a b = (one a.code b.code, one a.buffer b.buffer, one a.numbers b.numbers)

pub check_flat_one : {s tail t t' : List ℕ} {r r' : ℕ} → CheckFlat s tail t r → CheckFlat s tail t' r' → (r ≡ r') × (t ≡ t')
check_flat_one a b = (one a.code b.code, one a.numbers b.numbers)

pub lines_flat_one : {call : Text → CallOutcome} {block out tail o o' t t' : List ℕ} {r r' : ℕ} → LinesFlat call block out o tail t r → LinesFlat call block out o' tail t' r' → (r ≡ r') × (o ≡ o') × (t ≡ t')
lines_flat_one a b = (one a.code b.code, one a.buffer b.buffer, one a.numbers b.numbers)

pub load_flat_one : {x : loading.Loading (List ℕ)} {out tail o o' t t' : List ℕ} {r r' : ℕ} → LoadFlat x out o tail t r → LoadFlat x out o' tail t' r' → (r ≡ r') × (o ≡ o') × (t ≡ t')
load_flat_one a b = (one a.code b.code, one a.buffer b.buffer, one a.numbers b.numbers)
