-- The lines of a block: one result and one content, in their bounds; and the loop over its names. Assumes nothing.
use mathlib.Core.Path.{◌≡◌, refl, sym, ap, ap₂, ◌∙◌}
use mathlib.Core.Bool.{Bool, true, false}
use mathlib.Core.List.{List, [], ◌∷◌, ◌++◌, append_assoc, append-nil}
use Prim.Native.Nat.{ℕ, zero, suc, ◌+◌, ◌-◌, ◌≤◌, ◌<◌, min, zero-le}
use native.Mathlib.Nat.{zero-add, sub-zero}
use native.Mathlib.Decide.{dec_le, ℕ_discrete}
use native.Mathlib.Omega.{arith}
use lib.Dec.{leb}
use lib.ListN.{length, take, drop, length-append, length-take, length-drop}
use lib.Seq.{sets, length-sets, drop-drop}
use borrow.Author.Tests.{lt-ltb, le-ltb, le-leb, lt-leb, eq-eqb, ne_eqb}
use Rattle.base.specs.Pick.{pick}
use Rattle.base.proofs.One.{one}
use Rattle.base.proofs.Stores.{sets_then, rest_is}
use Rattle.texts.specs.Parts.{place_of, has}
use Rattle.base.proofs.Arms.{clash}
use Rattle.choices.specs.Texts.{Text}
use Rattle.refusals.specs.Numbers.{number_of}
use Rattle.engine.specs.Calls.{CallOutcome, refused_by, key, refused_as}
use Rattle.engine.specs.Lines.{decimal, refusal_line, most, holds_line, needed, line_with, line_for, lines_from, whole_lines, Taken, and_taken, none_taken, take_lines, taken, BlockNumbers, block_numbers, took, no_room, numbers_by, block_by, LinesIs}
use Rattle.engine.specs.LineContracts.{SpaceOf, LineAt, LineFor, line_length, stopped_at}
use Rattle.engine.specs.declared.lines.Lines.{Lines}
use Rattle.engine.specs.declared.lines.Lines.TheVariants as lines
use Rattle.std.specs.Prelude.{Result, Ok, Err}
use Rattle.base.proofs.PickLaws.{pick_true, pick_false, pick_all}
use Rattle.engine.proofs.LineLaws.{answer_long}
use Rattle.engine.proofs.NameLineLaws.{line_answer, line_long, line_other}
use borrow.Author.Rules.{rules}

-- ---- the promise

-- no two answers have the same numbers
pub block_one : (r s : Lines) → block_numbers r ≡ block_numbers s → r ≡ s
unfolding block_numbers
block_one (lines.Done read written) (lines.Done read' written') e =
    ap₂ (λ (m n : ℕ). lines.Done m n) (ap (λ (x : BlockNumbers). x.first) e) (ap (λ (x : BlockNumbers). x.second) e)
block_one (lines.NoRoom n) (lines.NoRoom m) e = ap lines.NoRoom (ap (λ (x : BlockNumbers). x.first) e)
block_one (lines.Done read written) (lines.NoRoom n) e = clash (omega (arith, ap (λ (x : BlockNumbers). x.code) e))
block_one (lines.NoRoom n) (lines.Done read written) e = clash (omega (arith, ap (λ (x : BlockNumbers). x.code) e))

pub lines_one : {call : Text → CallOutcome} {block out : List ℕ} {r s : Lines} {o p : List ℕ} → LinesIs call block out r o
    → LinesIs call block out s p → (r ≡ s) × (o ≡ p)
lines_one x y = (block_one _ _ (one x.result y.result), one x.buffer y.buffer)

-- the first line of a text, and what is taken of it
pub lines_more : (n : ℕ) (s : List ℕ) → place_of 10 s < length s
    → lines_from (suc n) s ≡ take (place_of 10 s) s ∷ lines_from n (drop (suc (place_of 10 s)) s)
unfolding lines_from has
lines_more n s h = pick_true _ _ _ (lt-ltb _ _ h)

lines_none : (n : ℕ) (s : List ℕ) → length s ≤ place_of 10 s → lines_from n s ≡ []
unfolding lines_from has
lines_none zero s h = refl
lines_none (suc n) s h = pick_false _ _ _ (le-ltb _ _ h)

module _ (f : Text → Text) (size : ℕ) (name : Text) (names : List Text) where
  pub take_fits : length (f name) ≤ size
      → take_lines f size (name ∷ names) ≡ and_taken (suc (length name)) (f name) (take_lines f (size - length (f name)) names)
  unfolding take_lines
  take_fits h = pick_true _ _ _ (le-leb _ _ h)

  take_stop : size < length (f name) → take_lines f size (name ∷ names) ≡ none_taken
  unfolding take_lines
  take_stop h = pick_false _ _ _ (lt-leb _ _ h)

  take_read : (k : ℕ) → suc (length name) + (take_lines f (size - length (f name)) names).read ≤ k → (take_lines f size (name ∷ names)).read ≤ k
  unfolding take_lines and_taken
  take_read k h =
      pick_all (λ (r : Taken). r.read ≤ k) (leb (length (f name)) size)
      (and_taken (suc (length name)) (f name) (take_lines f (size - length (f name)) names)) none_taken h zero-le

taken_read : (f : Text → Text) (size n : ℕ) (s : List ℕ) → (take_lines f size (lines_from n s)).read ≤ length s
unfolding lines_from take_lines
taken_read f size zero s = zero-le
taken_read f size (suc n) s = elim (dec_le (length s) (place_of 10 s)) [
  | yes h ↦ rw (lines_none (suc n) s h) zero-le
  | no h ↦
      rw (lines_more n s (omega arith)) (take_read f size (take (place_of 10 s) s) (lines_from n (drop (suc (place_of 10 s)) s)) (length s) (omega (
        arith,
        taken_read f (size - length (f (take (place_of 10 s) s))) n (drop (suc (place_of 10 s)) s),
        length-drop (suc (place_of 10 s)) s,
        length-take (place_of 10 s) s,
      )))
]

taken_long : (f : Text → Text) (size : ℕ) (names : List Text) → length (take_lines f size names).text ≤ size
unfolding take_lines and_taken
taken_long f size [] = zero-le
taken_long f size (name ∷ names) = elim (dec_le (length (f name)) size) [
  | yes h ↦
      rw (take_fits f size name names h)
      (omega (arith, taken_long f (size - length (f name)) names, length-append (f name) (take_lines f (size - length (f name)) names).text))
  | no h ↦ rw (take_stop f size name names (omega arith)) zero-le
]

-- a block that is not refused: what was taken of it
took_first : (b : Bool) (x : BlockNumbers) (n : ℕ) → (pick b x (no_room n)).code ≡ 0 → pick b x (no_room n) ≡ x
unfolding pick
took_first true x n e = refl
took_first false x n e = clash (omega (arith, e))

took_by : (call : Text → CallOutcome) (size : ℕ) (names : List Text) (t : Taken) → (numbers_by call size names t).code ≡ 0
    → numbers_by call size names t ≡ took t
unfolding numbers_by
took_by call size [] t e = refl
took_by call size (name ∷ names) t e = took_first _ _ _ e

pub blocked_took : (call : Text → CallOutcome) (block : List ℕ) (size : ℕ) → (block_by call block size).code ≡ 0
    → block_by call block size ≡ took (taken call block size)
unfolding block_by
blocked_took call block size e = took_by call size (whole_lines block) (taken call block size) e

module _ {call : Text → CallOutcome} {block out o : List ℕ} {read written : ℕ} (x : LinesIs call block out (lines.Done read written) o) where
  taken_is : block_numbers (lines.Done read written) ≡ took (taken call block (length out))
  unfolding block_numbers
  taken_is = x.result ∙ blocked_took call block (length out) (sym (ap (λ (n : BlockNumbers). n.code) x.result))

  pub lines_read : read ≤ length block
  unfolding taken whole_lines block_numbers
  lines_read =
      omega (arith, ap (λ (n : BlockNumbers). n.first) taken_is, taken_read (line_for call (length out)) (min (length out) most) (length block) block)

  pub lines_written : written ≤ length out
  unfolding taken block_numbers
  lines_written =
      omega (arith, ap (λ (n : BlockNumbers). n.second) taken_is, taken_long (line_for call (length out)) (min (length out) most) (whole_lines block))

-- ---- the lines of a block

refusal_some : (code place : ℕ) → 0 < length (refusal_line (refused_as code place))
unfolding refusal_line
refusal_some code place = omega (arith, length-append (decimal code) ((32 ∷ []) ++ (decimal place ++ 10 ∷ [])))

line_some : (size : ℕ) (x : CallOutcome) → 0 < length (line_with size x)
line_some size (refused_by why place) = rw (line_other size why place) (refusal_some (number_of why) place)
line_some size (key t f) = elim (dec_le (length t + 5) (min size most)) [
  | yes h ↦ rw (line_answer size t f h) (omega (arith, answer_long (length t) f t))
  | no h ↦ rw (line_long size t f (omega arith)) (refusal_some 9 (line_length (length t)))
]

took_none : (call : Text → CallOutcome) (size : ℕ) (names : List Text) (t : Taken) → names ≡ [] → numbers_by call size names t ≡ took t
unfolding numbers_by
took_none call size names t e = ap (λ (ns : List Text). numbers_by call size ns t) e

-- what is read and written so far, and what is left to take
pub record Going (call : Text → CallOutcome) (block o₀ o : List ℕ) (size read written : ℕ) : Type 0 where
  pub fuel : ℕ
  pub enough : length block - read ≤ fuel
  pub read_in : read ≤ length block
  pub written_in : written ≤ size
  pub size_is : size ≡ min (length o₀) most
  pub text : Text
  pub long : length text ≡ written
  pub stands : o ≡ sets o₀ 0 text
  pub is : taken call block (length o₀) ≡ and_taken read text
      (take_lines (line_for call (length o₀)) (size - written) (lines_from fuel (drop read block)))
  pub first : written ≡ 0 → lines_from fuel (drop read block) ≡ whole_lines block
  pub later : (written ≡ 0 → ⊥) → block_by call block (length o₀) ≡ took (taken call block (length o₀))

and_none_taken : (x : Taken) → x ≡ and_taken 0 [] x
unfolding and_taken
and_none_taken x = ap (λ (n : ℕ). record { read = n; text = x.text }) (sym (zero-add x.read))

and_twice : (n m : ℕ) (t u : Text) (x : Taken) → and_taken n t (and_taken m u x) ≡ and_taken (n + m) (t ++ u) x
unfolding and_taken
and_twice n m t u x = ap₂ (λ (k : ℕ) (v : Text). record { read = k; text = v }) (omega arith) (sym (append_assoc t u x.text))

pub going_start : (call : Text → CallOutcome) (block o : List ℕ) (size : ℕ) → size ≡ min (length o) most → Going call block o o size 0 0
unfolding taken whole_lines
going_start call block o size e = record {
  fuel = length block;
  enough = omega arith;
  read_in = zero-le;
  written_in = zero-le;
  size_is = e;
  text = [];
  long = refl;
  stands = refl;
  is = rw (← e, sub-zero size) (and_none_taken _);
  first = λ _. refl;
  later = λ z. absurd (z refl);
}

module _ {call : Text → CallOutcome} {block o₀ o : List ℕ} {size read written : ℕ} (w : Going call block o₀ o size read written) where
  pub going_in : read ≤ length block
  going_in = w.read_in

  pub going_long : length o ≡ length o₀
  going_long = ap length w.stands ∙ length-sets o₀ 0 w.text

  pub going_stays : (o' : List ℕ) → length o' ≡ length o → length o' ≡ length o₀
  going_stays o' e = e ∙ going_long

  pub going_room : SpaceOf o (record { at = written; size = size })
  going_room = record { within = w.written_in; size_is = w.size_is ∙ ap (λ (n : ℕ). min n most) (sym going_long) }

  module _ (e : take_lines (line_for call (length o₀)) (size - written) (lines_from w.fuel (drop read block)) ≡ none_taken) where
    taken_here : taken call block (length o₀) ≡ record { read = read; text = w.text }
    unfolding and_taken
    taken_here =
        w.is ∙ ap (and_taken read w.text) e ∙ ap₂ (λ (k : ℕ) (v : Text). record { read = k; text = v }) (omega arith) (append-nil w.text)

    stands_here : o ≡ sets o₀ 0 (taken call block (length o₀)).text
    stands_here = w.stands ∙ ap (λ (x : Taken). sets o₀ 0 x.text) (sym taken_here)

    going_over : block_by call block (length o₀) ≡ took (taken call block (length o₀)) → LinesIs call block o₀ (lines.Done read written) o
    unfolding block_numbers
    going_over b = record {
      result = ap (λ (n : ℕ). record { code = 0; first = read; second = n }) (sym w.long) ∙ ap took (sym taken_here) ∙ sym b;
      buffer = stands_here;
    }

  -- the part of the block that is left
  abbrev left_over_lem : List ℕ
  left_over_lem = take (length block - read) (drop read block)

  took_block : whole_lines block ≡ [] → block_by call block (length o₀) ≡ took (taken call block (length o₀))
  unfolding block_by
  took_block e = took_none call (length o₀) _ _ e

  pub going_end : (n : ℕ) → n ≡ place_of 10 left_over_lem → length left_over_lem ≤ n → LinesIs call block o₀ (lines.Done read written) o
  unfolding take_lines
  going_end n e h =
      let past : length (drop read block) ≤ place_of 10 (drop read block) = rw (rest_is block read) at (rw e at h) in
      let none = lines_none w.fuel _ past in
      going_over (ap (take_lines (line_for call (length o₀)) (size - written)) none) (elim (ℕ_discrete written 0) [
        | yes z ↦ took_block (sym (w.first z) ∙ none)
        | no z ↦ w.later z
      ])

  pub going_most : (n : ℕ) → n < length left_over_lem → read + n < length block
  going_most n h = omega (arith, ap length (rest_is block read), length-drop read block)

  pub going_less : (n read' : ℕ) → n < length left_over_lem → read' ≡ read + n + 1 → length block - read' < length block - read
  going_less n read' h e = omega (arith, e, going_most n h)

  module _ (n : ℕ) (e : n ≡ place_of 10 left_over_lem) (h : n < length left_over_lem) (o' : List ℕ) (next : Result ℕ ℕ)
      (l : LineFor (call (take (n - 0) left_over_lem)) o o' (record { at = written; size = size }) next) where
    abbrev name : Text
    name = take n (drop read block)

    abbrev line : Text
    line = line_for call (length o₀) name

    line_at : LineAt line (needed (call name)) o o' (record { at = written; size = size }) next
    unfolding line_for
    line_at = rw (going_long, rest_is block read, sub-zero n) at l

    -- the next name, and those behind it
    names_are : lines_from w.fuel (drop read block) ≡ name ∷ lines_from (w.fuel - 1) (drop (read + n + 1) block)
    names_are =
        let place : n ≡ place_of 10 (drop read block) = rw (rest_is block read) at e in
        let inside : n < length (drop read block) = rw (rest_is block read) at h in
        let more : w.fuel ≡ suc (w.fuel - 1) = omega (arith, w.enough, length-drop read block) in
        let behind : read + suc n ≡ read + n + 1 = omega arith in
        ap (λ (f : ℕ). lines_from f (drop read block)) more ∙ lines_more _ _ (omega arith)
        ∙ ap (λ (k : ℕ). take k (drop read block) ∷ lines_from (w.fuel - 1) (drop (suc k) (drop read block))) (sym place)
        ∙ ap (λ (s : List ℕ). name ∷ lines_from (w.fuel - 1) s) (drop-drop (suc n) read block ∙ ap (λ (k : ℕ). drop k block) behind)

    none_fits : size - written < length line
        → take_lines (line_for call (length o₀)) (size - written) (lines_from w.fuel (drop read block)) ≡ none_taken
    none_fits k = ap (take_lines (line_for call (length o₀)) (size - written)) names_are ∙ take_stop _ _ _ _ k

    -- whether the buffer holds the first line
    first_by : (b : Bool) → written ≡ 0 → leb (length line) size ≡ b
        → block_by call block (length o₀) ≡ pick b (took (taken call block (length o₀))) (no_room (needed (call name)))
    unfolding block_by numbers_by holds_line
    first_by b z k =
        ap (λ (ns : List Text). numbers_by call (length o₀) ns (taken call block (length o₀))) (sym (w.first z) ∙ names_are)
        ∙ ap (λ (t : Bool). pick t (took (taken call block (length o₀))) (no_room (needed (call name))))
        (ap (leb (length line)) (sym w.size_is) ∙ k)

    going_narrow : written ≡ 0 → size - written < length line → LinesIs call block o₀ (lines.NoRoom (needed (call name))) o
    unfolding block_numbers
    going_narrow y over = record {
      result = sym (first_by false y (lt-leb (length line) size (omega arith)) ∙ pick_false _ _ _ refl);
      buffer = stands_here (none_fits over);
    }

    some_line : 0 < length line
    unfolding line_for
    some_line = line_some (length o₀) (call name)

    pub going_stop : (told : ℕ) (r : Lines) → next ≡ Err told → r ≡ stopped_at read written told → LinesIs call block o₀ r o'
    unfolding stopped_at
    going_stop told r z e = elim (dec_le (length line) (size - written)) [
      | yes k ↦ clash (cc (line_at.fits k).0)
      | no k ↦
          let over : size - written < length line = omega arith in
          let stop = line_at.stops over in
          let told_is : told ≡ needed (call name) = cc stop.0 in
          rw stop.1 (elim (ℕ_discrete written 0) [
            | yes y ↦ rw (e ∙ pick_true _ _ _ (eq-eqb _ _ y) ∙ ap lines.NoRoom told_is) (going_narrow y over)
            | no y ↦ rw (e ∙ pick_false _ _ _ (ne_eqb _ _ y)) (going_over (none_fits over) (w.later y))
          ])
    ]

    module _ (at : ℕ) (z : next ≡ Ok at) where
      going_fits : length line ≤ size - written
      going_fits = elim (dec_le (length line) (size - written)) [
        | yes k ↦ k
        | no k ↦ clash (cc (line_at.stops (omega arith)).0)
      ]

      going_at : at ≡ written + length line
      going_at = cc (line_at.fits going_fits).0

      going_on : Going call block o₀ o' size (read + n + 1) at
      going_on =
          let put = line_at.fits going_fits in
          let left : size - written - length line ≡ size - at = omega (arith, going_at) in
          let read_is : read + suc (length name) ≡ read + n + 1 =
          omega (arith, going_most n h, length-take n (drop read block), length-drop read block) in
          record {
            fuel = w.fuel - 1;
            enough = omega (arith, w.enough);
            read_in = omega (arith, going_most n h);
            written_in = omega (arith, going_at, going_fits, w.written_in);
            size_is = w.size_is;
            text = w.text ++ line;
            long = omega (arith, length-append w.text line, w.long, going_at);
            stands =
                put.1 ∙ ap₂ (λ (l : List ℕ) (k : ℕ). sets l k line) w.stands (sym w.long ∙ sym (zero-add _)) ∙ sets_then o₀ 0 w.text line;
            is =
                w.is ∙ ap (λ (ns : List Text). and_taken read w.text (take_lines (line_for call (length o₀)) (size - written) ns)) names_are
                ∙ ap (and_taken read w.text) (take_fits _ _ _ _ going_fits)
                ∙ and_twice read (suc (length name)) w.text line _
                ∙ ap₂ (λ (k m : ℕ). and_taken k (w.text ++ line) (take_lines (line_for call (length o₀)) m
                (lines_from (w.fuel - 1) (drop (read + n + 1) block)))) read_is left;
            first = λ y. absurd (omega (arith, going_at, some_line));
            later = λ _. elim (ℕ_discrete written 0) [
              | yes y ↦ first_by true y (le-leb (length line) size (omega (arith, going_fits))) ∙ pick_true _ _ _ refl
              | no y ↦ w.later y
            ];
          }

      pub going_next : (read' : ℕ) → read' ≡ read + n + 1 → Going call block o₀ o' size read' at
      going_next read' er = rw er going_on

pub ruleset going_laws = (going_in, going_start, going_long, going_stays, going_room, going_end, going_most, going_less, going_stop, going_next, rules)
