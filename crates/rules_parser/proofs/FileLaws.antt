-- Laws of `Files`, as `search` applies them. Assumes nothing.
use mathlib.Core.Path.{◌≡◌, refl, sym, ap, ◌∙◌}
use mathlib.Core.Bool.{Bool, true, false}
use mathlib.Core.List.{List, [], ◌∷◌}
use Prim.Native.Nat.{ℕ, suc, ◌+◌, ◌-◌, ◌≤◌, ◌<◌, zero-le, suc-le-suc}
use native.Mathlib.Numerals.{add-one}
use native.Mathlib.Omega.{arith}
use lib.Dec.{leb, ltb, eqb}
use lib.ListN.{length, get_or, take, drop, drop_of_length-le, length-drop}
use lib.Seq.{drop-cons}
use borrow.Author.Tests.{lt-ltb, le-ltb, le-leb, lt-leb, eq-eqb, ne_eqb}
use Rattle.base.specs.Pick.{pick}
use Rattle.rules_parser.specs as specs
use specs.Fields.{passes_of, span_of, span_end, pair_at, Kind, Blank as blanks, NotLf}
use specs.Lines.{line_at}
use specs.InnerContracts.{behind_line}
use specs.Files.{close, counted_of, close_in, close_at, text_end, next_line, rest_blank, on_close, comment_at, on_line, item_at}
use specs.declared.lines.FileKind.{FileKind}
use specs.declared.lines.Clause.{Clause}
use specs.declared.lines.Line.{Line}
use specs.declared.lines.Line.TheVariants as line
use specs.declared.files.Close.{Close}
use Rattle.std.specs.Prelude.{Option, Some, None}
use specs.declared.files.Item.{Item}
use specs.declared.files.Item.TheVariants.{Passed, Tells, Wrong}
use Rattle.base.proofs.PickLaws.{pick_true, pick_false, pick_all}

-- ---- the end of a comment, x being the answer
pub close_step : (s : List ℕ) (i n : ℕ) → i < length s
    → close_in s (drop i s) i n ≡ pick (pair_at s i 42 47) (Some (close (i + 2) (n + 1))) (close_in s (drop (i + 1) s) (i + 1) (counted_of n (get_or s i 0)))
unfolding close_in
close_step s i n h =
    rw (drop-cons s i 0 h) (ap (λ (k : ℕ). pick (pair_at s i 42 47) (Some (close (i + 2) (n + 1))) (close_in s (drop k s) (i + 1) (counted_of n (get_or s i 0)))) (sym (add-one i)))

pub close_start : (s : List ℕ) (p : ℕ) → close_at s p ≡ close_in s (drop p s) p 0
unfolding close_at
close_start s p = refl

pub close_found : (s : List ℕ) (i n : ℕ) (x : Option Close) (t : Bool) → i < length s → t ≡ pair_at s i 42 47 → t ≡ true → x ≡ close_in s (drop i s) i n
    → Some (close (i + 2) (n + 1)) ≡ x
close_found s i n x t h e p inv = sym (inv ∙ close_step s i n h ∙ pick_true _ _ _ (sym e ∙ p))

pub close_more : (s : List ℕ) (i n m : ℕ) (x : Option Close) (t : Bool) → i < length s → t ≡ pair_at s i 42 47 → t ≡ false → m ≡ counted_of n (get_or s i 0)
    → x ≡ close_in s (drop i s) i n → x ≡ close_in s (drop (i + 1) s) (i + 1) m
close_more s i n m x t h e p f inv = inv ∙ close_step s i n h ∙ pick_false _ _ _ (sym e ∙ p) ∙ rw f refl

pub close_none : (s : List ℕ) (i n : ℕ) (x : Option Close) → length s ≤ i → x ≡ close_in s (drop i s) i n → None ≡ x
unfolding close_in
close_none s i n x h inv = sym (inv ∙ rw (drop_of_length-le s h) refl)

pub counted_high : (i n m b : ℕ) → n ≤ i → m ≡ counted_of n b → m ≤ i + 1
unfolding counted_of
counted_high i n m b h e = rw e (pick_all (λ (x : ℕ). x ≤ i + 1) (eqb b 10) _ _ (omega arith) (omega arith))

-- a line end more, or none
pub counted_lf : (n m b : ℕ) → b ≡ 10 → m ≡ n + 1 → m ≡ counted_of n b
unfolding counted_of
counted_lf n m b e f = f ∙ sym (pick_true _ _ _ (eq-eqb _ _ e))

pub counted_other : (n m b : ℕ) → (b ≡ 10 → ⊥) → m ≡ n → m ≡ counted_of n b
unfolding counted_of
counted_other n m b e f = f ∙ sym (pick_false _ _ _ (ne_eqb _ _ e))

pub ruleset closes = (counted_lf, counted_other, counted_high, close_start, close_found, close_more, close_none)

-- ---- the ends of lines, e being the place of the LF, or the end
module _ (s : List ℕ) (p e : ℕ) (q : e ≡ span_end NotLf s p) where
  pub behind_is : (m : ℕ) → m ≡ behind_line s e → m ≡ next_line s p
  unfolding next_line behind_line
  behind_is m h = h ∙ rw q refl

  pub next_more : e < length s → e + 1 ≡ next_line s p
  unfolding next_line
  next_more h = rw (← q) (sym (pick_true _ _ _ (lt-ltb _ _ h)))

  pub next_none : length s ≤ e → e ≡ next_line s p
  unfolding next_line
  next_none h = sym (rw (← q) (pick_false _ _ _ (le-ltb _ _ h)))

  pub text_cr : e < length s → p < e → get_or s (e - 1) 0 ≡ 13 → e - 1 ≡ text_end s p
  unfolding text_end
  text_cr h k b = rw (← q) (sym (pick_true _ _ _ (lt-ltb _ _ h) ∙ pick_true _ _ _ (lt-ltb _ _ k) ∙ pick_true _ _ _ (eq-eqb _ _ b)))

  pub text_lf : e < length s → p < e → (get_or s (e - 1) 0 ≡ 13 → ⊥) → e ≡ text_end s p
  unfolding text_end
  text_lf h k b = sym (rw (← q) (pick_true _ _ _ (lt-ltb _ _ h) ∙ pick_true _ _ _ (lt-ltb _ _ k) ∙ pick_false _ _ _ (ne_eqb _ _ b)))

  pub text_empty : e < length s → e ≤ p → e ≡ text_end s p
  unfolding text_end
  text_empty h k = sym (rw (← q) (pick_true _ _ _ (lt-ltb _ _ h) ∙ pick_false _ _ _ (le-ltb _ _ k)))

  pub text_last : length s ≤ e → e ≡ text_end s p
  unfolding text_end
  text_last h = sym (rw (← q) (pick_false _ _ _ (le-ltb _ _ h)))

pub rest_is : (s : List ℕ) (p e b : ℕ) → e ≡ text_end s p → b ≡ span_end blanks s p → leb e b ≡ rest_blank s p
unfolding rest_blank
rest_is s p e b x y = rw (x, y) refl

pub ruleset ends = (text_cr, text_lf, text_empty, text_last, rest_is)

-- ---- a comment, q being the first place from p on that is no blank
module _ (s : List ℕ) (p q : ℕ) (sk : q ≡ span_end blanks s p) where
  pub comment_past : length s ≤ q → Wrong ≡ comment_at s p
  unfolding comment_at
  comment_past h = rw (← sk) (sym (pick_true _ _ _ (le-leb _ _ h)))

  comment_in : (r : Option Close) → q < length s → r ≡ close_at s (q + 2) → comment_at s p ≡ on_close r s
  unfolding comment_at
  comment_in r h e = rw (← sk) (pick_false _ _ _ (lt-leb _ _ h) ∙ rw (← e) refl)

  pub comment_open : q < length s → None ≡ close_at s (q + 2) → Wrong ≡ comment_at s p
  unfolding on_close
  comment_open h e = sym (comment_in None h e)

  pub comment_text : (r : Close) (t : Bool) → q < length s → Some r ≡ close_at s (q + 2) → t ≡ rest_blank s r.next → t ≡ false → Wrong ≡ comment_at s p
  unfolding on_close
  comment_text r t h e g i = sym (comment_in (Some r) h e ∙ pick_false _ _ _ (sym g ∙ i))

  pub comment_ends : (r : Close) (m : ℕ) (t : Bool) → q < length s → Some r ≡ close_at s (q + 2) → t ≡ rest_blank s r.next → t ≡ true → m ≡ next_line s r.next
      → Passed r.lines m ≡ comment_at s p
  unfolding on_close
  comment_ends r m t h e g i j = sym (comment_in (Some r) h e ∙ pick_true _ _ _ (sym g ∙ i) ∙ rw (← j) refl)

pub ruleset comments = (behind_is, comment_past, comment_open, comment_text, comment_ends)

pub run_high : (k : Kind) (t : List ℕ) → span_of k t ≤ length t
unfolding span_of
run_high k [] = zero-le
run_high k (b ∷ t) = pick_all (λ (n : ℕ). n ≤ suc (length t)) (passes_of k b) _ _ (suc-le-suc (run_high k t)) zero-le

cut_high : (a b c : Bool) (e : ℕ) → pick a (pick b (pick c (e - 1) e) e) e ≤ e
unfolding pick
cut_high true true true e = omega arith
cut_high true true false e = omega arith
cut_high true false c e = omega arith
cut_high false b c e = omega arith

pub text_in_lem : (s : List ℕ) (p e : ℕ) → p < length s → e ≡ text_end s p → e ≤ length s
unfolding text_end span_end
text_in_lem s p e h q =
    omega (arith, q, cut_high (ltb (span_end NotLf s p) (length s)) (ltb p (span_end NotLf s p)) (eqb (get_or s (span_end NotLf s p - 1) 0) 13) (span_end NotLf s p), run_high NotLf (drop p s), length-drop p s)

-- ---- an item
pub item_past : (k : FileKind) (s : List ℕ) (p : ℕ) → length s ≤ p → Wrong ≡ item_at k s p
unfolding item_at
item_past k s p h = sym (pick_true _ _ _ (le-leb _ _ h))

-- the line's own slice, from 0 to the end of its text
module _ (k : FileKind) (s : List ℕ) (p e : ℕ) (l : p < length s) (q : e ≡ text_end s p) where
  item_by_lem : (r : Option Line) → r ≡ line_at k (take (e - 0) (drop 0 s)) p → item_at k s p ≡ on_line r s p
  unfolding item_at
  item_by_lem r g =
      let z : e ≡ e - 0 = omega arith in
      pick_false _ _ _ (lt-leb _ _ l) ∙ ap (λ (x : Option Line). on_line x s p) (sym (g ∙ ap (λ (n : ℕ). line_at k (take n s) p) (sym z ∙ q)))

  pub item_blank : (m : ℕ) → Some line.Blank ≡ line_at k (take (e - 0) (drop 0 s)) p → m ≡ next_line s p → Passed 1 m ≡ item_at k s p
  unfolding on_line
  item_blank m g h = sym (item_by_lem _ g ∙ rw h refl)

  pub item_comment : (m : ℕ) → Some line.Comment ≡ line_at k (take (e - 0) (drop 0 s)) p → m ≡ next_line s p → Passed 1 m ≡ item_at k s p
  unfolding on_line
  item_comment m g h = sym (item_by_lem _ g ∙ rw h refl)

  pub item_opens : (x : Item) → Some line.Opens ≡ line_at k (take (e - 0) (drop 0 s)) p → x ≡ comment_at s p → x ≡ item_at k s p
  unfolding on_line
  item_opens x g h = h ∙ sym (item_by_lem _ g)

  pub item_tells : (t : Clause) (m : ℕ) → Some (line.Tells t) ≡ line_at k (take (e - 0) (drop 0 s)) p → m ≡ next_line s p → Tells t m ≡ item_at k s p
  unfolding on_line
  item_tells t m g h = sym (item_by_lem _ g ∙ rw h refl)

  pub item_bad : None ≡ line_at k (take (e - 0) (drop 0 s)) p → Wrong ≡ item_at k s p
  unfolding on_line
  item_bad g = sym (item_by_lem _ g)

pub ruleset items = (behind_is, item_past, item_blank, item_comment, item_opens, item_tells, item_bad)
