-- The ends of lines and of comments over lines, by places and by the grammar. Assumes nothing.
use mathlib.Core.Path.{◌≡◌, refl, sym, ap, ◌∙◌}
use mathlib.Core.Bool.{Bool, true, false, false≢true}
use mathlib.Core.List.{List, [], ◌∷◌, ◌++◌, append_assoc, append-nil, nil≢cons, head-eq_of_cons-eq, tail-eq_of_cons-eq}
use Prim.Native.Nat.{ℕ, suc, ◌+◌, ◌-◌, ◌≤◌, ◌<◌}
use native.Mathlib.Omega.{arith}
use lib.Dec.{eqb}
use lib.ListN.{length, get_or, take, drop, length-append, length-drop}
use lib.Seq.{take-add, drop_at, length-take-le, take-append_seam}
use borrow.Author.Tests.{eqb-true, eqb-false, not-false, leb-true, le-leb}
use Rattle.base.specs.Pick.{pick}
use Rattle.texts.specs.Parts.{last_is}
use Rattle.rules_parser.specs as specs
use specs.Fields.{passes_of, span_end, pair_at, Blank, NotLf}
use specs.Files.{close, counted_of, close_in, text_end, next_line, rest_blank}
use specs.Grammar.{Every, Other, Blanks, FirstLine, at_end, at_lf, at_cr_lf, Unclosed, line_ends}
use Rattle.rules_parser.proofs as own
use own.FileLaws.{close_step, next_more, next_none, text_cr, text_lf, text_empty, text_last}
use own.Ahead.{pick_where}
use own.GrammarFields.{Of, Stops, split, spanned, span_is, span_least, place_in_lem, place_more, byte_is, next_is, pair_is, pair_told}
use specs.declared.files.Close.{Close}
use Rattle.std.specs.Prelude.{Option, Some, None}
use Rattle.base.proofs.PickLaws.{pick_true, pick_false}

-- ---- lists

-- the last of a list
data Last (w : List ℕ) : Type 0 where
  none : w ≡ [] → Last w
  some : (v : List ℕ) (b : ℕ) → w ≡ v ++ b ∷ [] → Last w

last_more : (a : ℕ) (w : List ℕ) → Last w → Last (a ∷ w)
last_more a w (none e) = some [] a (ap (λ (l : List ℕ). a ∷ l) e)
last_more a w (some v b e) = some (a ∷ v) b (ap (λ (l : List ℕ). a ∷ l) e)

last_of : (w : List ℕ) → Last w
last_of [] = none refl
last_of (a ∷ w) = last_more a w (last_of w)

last_is_lem : (c b : ℕ) (v : List ℕ) → last_is c (v ++ b ∷ []) ≡ eqb b c
unfolding last_is
last_is_lem c b [] = refl
last_is_lem c b (x ∷ []) = refl
last_is_lem c b (x ∷ y ∷ v) = last_is_lem c b (y ∷ v)

every_front : (P : ℕ → Type 0) (v r : List ℕ) → Every P (v ++ r) → Every P v
unfolding Every
every_front P [] r h = tt
every_front P (b ∷ v) r h = (h.0, every_front P v r h.1)

pub every_both : (P : ℕ → Type 0) (v r : List ℕ) → Every P v → Every P r → Every P (v ++ r)
unfolding Every
every_both P [] r h g = g
every_both P (b ∷ v) r h g = (h.0, every_both P v r h.1 g)

-- of two beginnings of a list the shorter
every_shorter : (P : ℕ → Type 0) (l a f b : List ℕ) → l ++ a ≡ f ++ b → length l ≤ length f → Every P f → Every P l
unfolding Every
every_shorter P [] a f b e h g = tt
every_shorter P (x ∷ l) a [] b e h g = absurd (omega arith)
every_shorter P (x ∷ l) a (y ∷ f) b e h g =
    let c : x ≡ y = head-eq_of_cons-eq e in
    (rw c g.0, every_shorter P l a f b (tail-eq_of_cons-eq e) (omega arith) g.1)

-- ---- a line's end

pub record Cut (s : List ℕ) (p : ℕ) (l left : List ℕ) : Type 0 where
  pub end : text_end s p ≡ p + length l
  pub next : drop (next_line s p) s ≡ left
  pub rest : List ℕ
  pub whole : drop p s ≡ l ++ rest

-- at an LF, whichever byte stands before it
lf_end : (s : List ℕ) (p : ℕ) (l left : List ℕ) → Last l → last_is 13 l ≡ false → drop p s ≡ l ++ 10 ∷ left → p + length l ≡ span_end NotLf s p
    → p + length l < length s → text_end s p ≡ p + length l
lf_end s p l left (none z) c e q o = sym (text_empty s p (p + length l) q o (omega (arith, ap length z)))
lf_end s p l left (some v b z) c e q o =
    let n : length l ≡ length v + 1 = ap length z ∙ length-append v (b ∷ []) in
    let d : drop p s ≡ v ++ b ∷ 10 ∷ left = e ∙ ap (λ (w : List ℕ). w ++ 10 ∷ left) z ∙ append_assoc v (b ∷ []) (10 ∷ left) in
    let m : p + length l - 1 ≡ p + length v = omega arith in
    let g : get_or s (p + length l - 1) 0 ≡ b = rw m (byte_is s (p + length v) b (10 ∷ left) (place_more s p v (b ∷ 10 ∷ left) d)) in
    let k : eqb b 13 ≡ false = sym (last_is_lem 13 b v) ∙ ap (last_is 13) (sym z) ∙ c in
    sym (text_lf s p (p + length l) q o (omega arith) (λ x. eqb-false _ _ k (sym g ∙ x)))

pub cut : (s : List ℕ) (p : ℕ) (l left : List ℕ) → FirstLine (drop p s) l left → Cut s p l left
unfolding Stops passes_of Of Every
cut s p l left (at_end h e f) =
    let w : drop p s ≡ l ++ [] = e ∙ sym (append-nil l) in
    let q : p + length l ≡ span_end NotLf s p = sym (span_is s p NotLf l [] w h tt) in
    let o : length s ≤ p + length l = omega (arith, length-drop p s, ap length e) in
    record { end = sym (text_last s p (p + length l) q o); next = rw (← next_none s p (p + length l) q o) (place_more s p l [] w ∙ sym f); rest = []; whole = w }
cut s p l left (at_lf h c e) =
    let q : p + length l ≡ span_end NotLf s p = sym (span_is s p NotLf l (10 ∷ left) e h refl) in
    let d = place_more s p l (10 ∷ left) e in
    let o = place_in_lem s (p + length l) 10 left d in
    record { end = lf_end s p l left (last_of l) c e q o; next = rw (← next_more s p (p + length l) q o) (next_is s (p + length l) 10 left d); rest = 10 ∷ left; whole = e }
cut s p l left (at_cr_lf h e) =
    let m : List ℕ = l ++ 13 ∷ [] in
    let w : drop p s ≡ m ++ 10 ∷ left = e ∙ sym (append_assoc l (13 ∷ []) (10 ∷ left)) in
    let q : p + length m ≡ span_end NotLf s p = sym (span_is s p NotLf m (10 ∷ left) w (every_both (Other 10) l (13 ∷ []) h ((λ x. omega arith), tt)) refl) in
    let d = place_more s p m (10 ∷ left) w in
    let o = place_in_lem s (p + length m) 10 left d in
    let n : p + length m - 1 ≡ p + length l = omega (arith, length-append l (13 ∷ [])) in
    let g : get_or s (p + length m - 1) 0 ≡ 13 = rw n (byte_is s (p + length l) 13 (10 ∷ left) (place_more s p l (13 ∷ 10 ∷ left) e)) in
    record { end = sym (text_cr s p (p + length m) q o (omega (arith, length-append l (13 ∷ []))) g) ∙ n; next = rw (← next_more s p (p + length m) q o) (next_is s (p + length m) 10 left d); rest = 13 ∷ 10 ∷ left; whole = e }

-- each text has a first line
pub record Lined (r : List ℕ) : Type 0 where
  pub text : List ℕ
  pub left : List ℕ
  pub line : FirstLine r text left

stop_lf : (b : ℕ) (r : List ℕ) → Stops NotLf (b ∷ r) → b ≡ 10
unfolding Stops passes_of
stop_lf b r h = eqb-true _ _ (not-false _ h)

lined_lf : (r w t : List ℕ) → r ≡ w ++ 10 ∷ t → Every (Other 10) w → Last w → Lined r
unfolding Every last_is
lined_lf r w t e h (none z) = record { text = []; left = t; line = at_lf tt refl (e ∙ ap (λ (l : List ℕ). l ++ 10 ∷ t) z) }
lined_lf r w t e h (some v b z) = go (eqb b 13) refl
  where
    go : (x : Bool) → eqb b 13 ≡ x → Lined r
    go true f =
        let c : b ≡ 13 = eqb-true _ _ f in
        let g : w ≡ v ++ 13 ∷ [] = z ∙ ap (λ (n : ℕ). v ++ n ∷ []) c in
        record { text = v; left = t; line = at_cr_lf (every_front (Other 10) v (b ∷ []) (rw z at h)) (e ∙ ap (λ (l : List ℕ). l ++ 10 ∷ t) g ∙ append_assoc v (13 ∷ []) (10 ∷ t)) }
    go false f = record { text = w; left = t; line = at_lf h (ap (last_is 13) z ∙ last_is_lem 13 b v ∙ f) e }

lined_by : (r w t : List ℕ) → r ≡ w ++ t → Every (Of NotLf) w → Stops NotLf t → Lined r
unfolding Of
lined_by r w [] e h s = record { text = w; left = []; line = at_end h (e ∙ append-nil w) refl }
lined_by r w (b ∷ t) e h s = lined_lf r w t (e ∙ ap (λ (n : ℕ). w ++ n ∷ t) (stop_lf b t s)) h (last_of w)

pub lined : (r : List ℕ) → Lined r
lined r = let w = split NotLf r in lined_by r w.front w.rest w.whole w.every w.stops

-- the line's text, cut off its file
pub line_text : (s : List ℕ) (p : ℕ) (l r : List ℕ) → p ≤ length s → drop p s ≡ l ++ r → drop p (take (p + length l) s) ≡ l
line_text s p l r h e =
    rw (take-add p (length l) s) (drop_at (take p s) (take (length l) (drop p s)) p (length-take-le p s h) ∙ ap (take (length l)) e ∙ take-append_seam l r)

-- ---- the end of a comment is the last text of its line

pub rest_complete : (s : List ℕ) (q : ℕ) (l left : List ℕ) → FirstLine (drop q s) l left → Blanks l → rest_blank s q ≡ true
unfolding rest_blank Of
rest_complete s q l left f h =
    let c = cut s q l left f in
    le-leb (text_end s q) (span_end Blank s q) (omega (arith, c.end, span_least s q Blank l c.rest c.whole h))

pub rest_sound : (s : List ℕ) (q : ℕ) (l left : List ℕ) → FirstLine (drop q s) l left → rest_blank s q ≡ true → Blanks l
unfolding rest_blank Of
rest_sound s q l left f h =
    let c = cut s q l left f in
    let w = spanned Blank s q in
    let o : text_end s q ≤ span_end Blank s q = leb-true _ _ h in
    every_shorter (Of Blank) l c.rest w.front (drop (span_end Blank s q) s) (sym c.whole ∙ w.place) (omega (arith, c.end, w.end)) w.every

-- ---- the first `*/`

unclosed_none : Unclosed []
unclosed_none [] y e = nil≢cons e
unclosed_none (c ∷ x) y e = nil≢cons e

-- a line end more or not
counts : (t : Bool) (n m : ℕ) → pick t (n + 1) n + m ≡ n + pick t (suc m) m
unfolding pick
counts true n m = omega arith
counts false n m = omega arith

counted_ends : (n b : ℕ) (l : List ℕ) → counted_of n b + line_ends l ≡ n + line_ends (b ∷ l)
unfolding counted_of line_ends
counted_ends n b l = counts (eqb b 10) n (line_ends l)

module _ (s : List ℕ) (i b : ℕ) (body rest : List ℕ) (e : drop i s ≡ b ∷ (body ++ 42 ∷ 47 ∷ rest)) where
  -- no `*/` at i
  not_here : Unclosed (b ∷ body) → (t : Bool) → pair_at s i 42 47 ≡ t → t ≡ false
  not_here u false f = refl
  not_here u true f = absurd (go body (sym e ∙ pair_told s i 42 47 (omega arith) f) u)
    where
      go : (l : List ℕ) → b ∷ (l ++ 42 ∷ 47 ∷ rest) ≡ 42 ∷ 47 ∷ drop (i + 2) s → Unclosed (b ∷ l) → ⊥
      go [] g v = let no_way : ◌≡◌ {A = ℕ} 42 47 = cc in omega arith
      go (c ∷ l) g v = v [] l (cc)

  unclosed_more : pair_at s i 42 47 ≡ false → Unclosed body → Unclosed (b ∷ body)
  unclosed_more f u [] y g =
      false≢true (sym f ∙ pair_is s i 42 47 (y ++ 42 ∷ 47 ∷ rest) (e ∙ ap (λ (l : List ℕ). l ++ 42 ∷ 47 ∷ rest) g))
  unclosed_more f u (c ∷ x) y g = u x y (tail-eq_of_cons-eq g)

pub close_complete : (s : List ℕ) (i n : ℕ) (body rest : List ℕ) (q m : ℕ) → drop i s ≡ body ++ 42 ∷ 47 ∷ rest → Unclosed body
    → q ≡ i + length body + 2 → m ≡ n + line_ends body + 1 → close_in s (drop i s) i n ≡ Some (close q m)
unfolding line_ends
close_complete s i n [] rest q m e u f g =
    let a : i + 2 ≡ q = omega arith in
    let b : n + 1 ≡ m = omega arith in
    close_step s i n (place_in_lem s i 42 (47 ∷ rest) e) ∙ pick_true _ _ _ (pair_is s i 42 47 rest e) ∙ (cc)
close_complete s i n (b ∷ body) rest q m e u f g =
    let c = counted_ends n b body in
    let d : get_or s i 0 ≡ b = byte_is s i b (body ++ 42 ∷ 47 ∷ rest) e in
    close_step s i n (place_in_lem s i b (body ++ 42 ∷ 47 ∷ rest) e) ∙ pick_false _ _ _ (not_here s i b body rest e u _ refl)
    ∙ rw d (close_complete s (i + 1) (counted_of n b) body rest q m (next_is s i b (body ++ 42 ∷ 47 ∷ rest) e) (λ x y h. u (b ∷ x) y (ap (λ (l : List ℕ). b ∷ l) h)) (omega arith) (omega (arith, c)))

pub record Closed (s t : List ℕ) (i n q m : ℕ) : Type 0 where
  pub body : List ℕ
  pub rest : List ℕ
  pub whole : t ≡ body ++ 42 ∷ 47 ∷ rest
  pub unclosed : Unclosed body
  pub next : drop q s ≡ rest
  pub lines : m ≡ n + line_ends body + 1

unfoldable pub Closes : List ℕ → List ℕ → ℕ → ℕ → Option Close → Type 0
Closes s t i n (Some c) = Closed s t i n c.next c.lines
Closes s t i n None = Unit {0}

pub close_sound : (s t : List ℕ) (i n : ℕ) → drop i s ≡ t → Closes s t i n (close_in s t i n)
unfolding close_in Closes line_ends
close_sound s [] i n e = tt
close_sound s (b ∷ t) i n e =
    pick_where (Closes s (b ∷ t) i n) _ _ _
    (λ h. record { body = []; rest = drop (i + 2) s; whole = sym e ∙ pair_told s i 42 47 (omega arith) h; unclosed = unclosed_none; next = refl; lines = omega arith })
    (λ h. more h (close_in s t (i + 1) (counted_of n b)) (close_sound s t (i + 1) (counted_of n b) (next_is s i b t e)))
  where
    more : pair_at s i 42 47 ≡ false → (c : Option Close) → Closes s t (i + 1) (counted_of n b) c → Closes s (b ∷ t) i n c
    more h (Some c) w =
        let g : drop i s ≡ b ∷ (w.body ++ 42 ∷ 47 ∷ w.rest) = e ∙ ap (λ (l : List ℕ). b ∷ l) w.whole in
        record {
          body = b ∷ w.body;
          rest = w.rest;
          whole = ap (λ (l : List ℕ). b ∷ l) w.whole;
          unclosed = unclosed_more s i b w.body w.rest g h w.unclosed;
          next = w.next;
          lines = omega (arith, w.lines, counted_ends n b w.body);
        }
    more h None w = tt
