-- An item ends behind its beginning and within the file, and takes no more lines than bytes. Assumes nothing.
use mathlib.Core.Path.{◌≡◌, refl}
use mathlib.Core.Bool.{Bool, true, false, false≢true}
use mathlib.Core.List.{List, [], ◌∷◌}
use Prim.Native.Nat.{ℕ, ◌+◌, ◌≤◌, ◌<◌}
use native.Mathlib.Nat.{lt_of_not-le}
use native.Mathlib.Omega.{arith}
use lib.ListN.{length, get_or, take, drop, length-drop, get_or-eq_default}
use borrow.Author.Tests.{ltb-true, ltb-false, leb-false, eqb-true}
use Rattle.base.specs.Pick.{pick}
use Rattle.rules_parser.specs as specs
use specs.Fields.{span_end, pair_at, Kind, Blank, NotLf}
use specs.Lines.{line_at}
use specs.Files.{counted_of, close_in, close_at, text_end, next_line, on_close, comment_at, on_line, item_at}
use Rattle.rules_parser.proofs.FileLaws.{run_high, counted_high}
use specs.declared.lines.FileKind.{FileKind}
use specs.declared.lines.Line.{Line}
use specs.declared.lines.Line.TheVariants as line
use specs.declared.files.Close.{Close}
use Rattle.std.specs.Prelude.{Option, Some, None}
use specs.declared.files.Item.{Item}
use specs.declared.files.Item.TheVariants.{Passed, Tells, Wrong}

-- what holds of both arms, each under its test
pub pick_where : {A : Type 0} (P : A → Type 0) (t : Bool) (a b : A) → (t ≡ true → P a) → (t ≡ false → P b) → P (pick t a b)
unfolding pick
pick_where P true a b f g = f refl
pick_where P false a b f g = g refl

pub span_in : (k : Kind) (s : List ℕ) (p : ℕ) → p ≤ length s → (p ≤ span_end k s p) × (span_end k s p ≤ length s)
unfolding span_end
span_in k s p h = omega (arith, run_high k (drop p s), length-drop p s)

-- the next line is at least one byte on, unless p is the end
next_in : (s : List ℕ) (p : ℕ) → p ≤ length s → (p ≤ next_line s p) × (next_line s p ≤ length s) × (p < length s → p < next_line s p)
unfolding next_line
next_in s p h =
    let w = span_in NotLf s p h in
    pick_where (λ (n : ℕ). (p ≤ n) × (n ≤ length s) × (p < length s → p < n)) _ _ _
    (λ e. let l : span_end NotLf s p < length s = ltb-true _ _ e in omega arith)
    (λ e. let l : length s ≤ span_end NotLf s p = ltb-false _ _ e in omega arith)

both_true : (a b : Bool) → pick a b false ≡ true → b ≡ true
unfolding pick
both_true true b e = e
both_true false b e = absurd (false≢true e)

-- two bytes that are not 0 end within the list
pair_in : (s : List ℕ) (p : ℕ) → pair_at s p 42 47 ≡ true → p + 2 ≤ length s
unfolding pair_at
pair_in s p e =
    let b : get_or s (p + 1) 0 ≡ 47 = eqb-true _ _ (both_true _ _ (both_true _ _ e)) in
    let l : p + 1 < length s = lt_of_not-le (λ h. omega (arith, get_or-eq_default s 0 h, b)) in
    omega arith

-- where a comment ends, i and n being place and line ends passed
unfoldable Closing : List ℕ → ℕ → ℕ → Option Close → Type 0
Closing s i n (Some c) = (i + 2 ≤ c.next) × (c.next ≤ length s) × (1 ≤ c.lines) × (c.lines + i + 1 ≤ n + c.next)
Closing s i n None = Unit {0}

closing_on : (s : List ℕ) (i n m : ℕ) (c : Option Close) → m ≤ n + 1 → Closing s (i + 1) m c → Closing s i n c
unfolding Closing
closing_on s i n m (Some c) h w = omega (arith, w.0, w.1, w.2, w.3)
closing_on s i n m None h w = tt

close_in_lem : (s t : List ℕ) (i n : ℕ) → Closing s i n (close_in s t i n)
unfolding close_in Closing
close_in_lem s [] i n = tt
close_in_lem s (b ∷ t) i n =
    pick_where (Closing s i n) _ _ _
    (λ e. (omega arith, pair_in s i e, omega arith, omega arith))
    (λ e. closing_on s i n (counted_of n b) (close_in s t (i + 1) (counted_of n b)) (counted_high n n (counted_of n b) b (omega arith) refl) (close_in_lem s t (i + 1) (counted_of n b)))

-- an item, by its case
unfoldable pub Ahead : List ℕ → ℕ → Item → Type 0
Ahead s p (Passed l n) = (p < n) × (n ≤ length s) × (1 ≤ l) × (p + l ≤ n)
Ahead s p (Tells t n) = (p < n) × (n ≤ length s)
Ahead s p Wrong = Unit {0}

comment_ahead : (s : List ℕ) (p : ℕ) → p < length s → Ahead s p (comment_at s p)
unfolding comment_at close_at Ahead Closing on_close
comment_ahead s p h =
    pick_where (Ahead s p) _ _ _ (λ e. tt) (λ e. on (close_at s (span_end Blank s p + 2)) (close_in_lem s (drop (span_end Blank s p + 2) s) (span_end Blank s p + 2) 0))
  where
    on : (c : Option Close) → Closing s (span_end Blank s p + 2) 0 c → Ahead s p (on_close c s)
    on (Some c) w =
        let v = next_in s c.next w.1 in
        let u = span_in Blank s p (omega arith) in
        pick_where (Ahead s p) _ _ _ (λ b. (omega (arith, w.0, v.0, u.0), v.1, w.2, omega (arith, w.3, v.0, u.0))) (λ b. tt)
    on None w = tt

pub item_ahead : (k : FileKind) (s : List ℕ) (p : ℕ) → Ahead s p (item_at k s p)
unfolding item_at on_line Ahead
item_ahead k s p = pick_where (Ahead s p) _ _ _ (λ e. tt) (λ e. go (leb-false _ _ e) (line_at k (take (text_end s p) s) p))
  where
    go : p < length s → (l : Option Line) → Ahead s p (on_line l s p)
    go h (Some line.Blank) = let w = next_in s p (omega arith) in let n = w.2 h in omega (arith, w.1)
    go h (Some line.Comment) = let w = next_in s p (omega arith) in let n = w.2 h in omega (arith, w.1)
    go h (Some line.Opens) = comment_ahead s p h
    go h (Some (line.Tells t)) = let w = next_in s p (omega arith) in (w.2 h, w.1)
    go h None = tt
