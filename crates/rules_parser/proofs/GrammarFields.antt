-- The runs and fields of a line, by places and by the grammar's shapes. Assumes nothing.
use mathlib.Core.Path.{◌≡◌, refl, sym, ap, ◌∙◌}
use mathlib.Core.Bool.{Bool, true, false, not, false≢true}
use mathlib.Core.List.{List, [], ◌∷◌, ◌++◌, append_assoc, append-nil}
use mathlib.Core.Logic.{◌⊎◌, inl, inr}
use Prim.Native.Nat.{ℕ, suc, ◌+◌, ◌-◌, ◌≤◌, ◌<◌, zero-le, suc-le-suc}
use native.Mathlib.Numerals.{add-one}
use native.Mathlib.Nat.{lt_of_not-le}
use native.Mathlib.Omega.{arith}
use lib.Dec.{eqb, ltb}
use lib.ListN.{length, get_or, drop, length-drop, length-append, get_or-eq_default, drop_of_length-le}
use lib.Seq.{drop-cons, drop-drop, drop-append_seam, drop-append-le, take-append_seam}
use borrow.Author.Tests.{lt-ltb, le-ltb, le-leb, ltb-true, ltb-false, eq-eqb, ne_eqb, eqb-true, eqb-false, not-true, not-false}
use Rattle.base.specs.Pick.{pick}
use Rattle.rules_parser.specs as specs
use specs.Fields.{part_of, passes_of, span_of, span_end, pair_at, text, field, quoted_at, bare_at, field_at, parted_at, ends_at, tail_ok, Kind, Blank, NotBlank, NotQuote, NotLf, FieldKind, Quoted, Plain}
use specs.Grammar.{Shape, Every, BlankByte, NoBlank, Other, Blanks, Gap, Word, InQuotes, CommentLine, Just, Anything, ◌⨾◌}
use Rattle.rules_parser.proofs.Ahead.{pick_where}
use specs.declared.fields.Text.{Text}
use specs.declared.fields.Field.{Field}
use Rattle.std.specs.Prelude.{Option, Some, None}
use Rattle.base.proofs.PickLaws.{pick_true, pick_false, pick_inv}

-- ---- kinds of bytes

-- the bytes of a kind
unfoldable pub Of : Kind → ℕ → Type 0
Of Blank = BlankByte
Of NotBlank = NoBlank
Of NotQuote = Other 34
Of NotLf = Other 10

pub passes_of_lem : (k : Kind) (b : ℕ) → Of k b → passes_of k b ≡ true
unfolding Of passes_of pick
passes_of_lem Blank b (inl e) = rw e refl
passes_of_lem Blank b (inr e) = rw e refl
passes_of_lem NotBlank b h = pick_false _ _ _ (ne_eqb b 32 (λ e. h (inl e))) ∙ ap not (ne_eqb b 9 (λ e. h (inr e)))
passes_of_lem NotQuote b h = ap not (ne_eqb b 34 h)
passes_of_lem NotLf b h = ap not (ne_eqb b 10 h)

pub of_passes : (k : Kind) (b : ℕ) → passes_of k b ≡ true → Of k b
unfolding Of passes_of
of_passes Blank b e = go (pick_inv _ _ _ _ e)
  where
    go : ((eqb b 32 ≡ true) × (true ≡ true)) ⊎ ((eqb b 32 ≡ false) × (eqb b 9 ≡ true)) → BlankByte b
    go (inl u) = inl (eqb-true _ _ u.0)
    go (inr u) = inr (eqb-true _ _ u.1)
of_passes NotBlank b e = go (pick_inv _ _ _ _ e)
  where
    go : ((eqb b 32 ≡ true) × (false ≡ true)) ⊎ ((eqb b 32 ≡ false) × (not (eqb b 9) ≡ true)) → BlankByte b → ⊥
    go (inl u) x = absurd (false≢true u.1)
    go (inr u) (inl x) = eqb-false _ _ u.0 x
    go (inr u) (inr x) = eqb-false _ _ (not-true _ u.1) x
of_passes NotQuote b e = eqb-false _ _ (not-true _ e)
of_passes NotLf b e = eqb-false _ _ (not-true _ e)

-- a blank ends a word
pub blank_ends : (b : ℕ) → BlankByte b → passes_of NotBlank b ≡ false
unfolding passes_of pick
blank_ends b (inl e) = rw e refl
blank_ends b (inr e) = rw e refl

-- what is no blank ends blanks
pub text_ends : (b : ℕ) → NoBlank b → passes_of Blank b ≡ false
unfolding passes_of
text_ends b h = pick_false _ _ _ (ne_eqb b 32 (λ e. h (inl e))) ∙ ne_eqb b 9 (λ e. h (inr e))

-- a character above the space is no blank
pub plain : (b : ℕ) → 32 < b → BlankByte b → ⊥
plain b h (inl e) = omega arith
plain b h (inr e) = omega arith

-- ---- a run

-- no byte of the kind in front
unfoldable pub Stops : Kind → Shape
Stops k [] = Unit {0}
Stops k (b ∷ r) = passes_of k b ≡ false

run_is : (k : Kind) (w r : List ℕ) → Every (Of k) w → Stops k r → span_of k (w ++ r) ≡ length w
unfolding Every Stops span_of
run_is k [] [] e h = refl
run_is k [] (b ∷ r) e h = pick_false _ _ _ h
run_is k (b ∷ w) r e h = pick_true _ _ _ (passes_of_lem k b e.0) ∙ ap suc (run_is k w r e.1 h)

run_least : (k : Kind) (w r : List ℕ) → Every (Of k) w → length w ≤ span_of k (w ++ r)
unfolding Every span_of
run_least k [] r e = zero-le
run_least k (b ∷ w) r e = rw (pick_true (passes_of k b) (suc (span_of k (w ++ r))) 0 (passes_of_lem k b e.0)) (suc-le-suc (run_least k w r e.1))

pub record Split (k : Kind) (l : List ℕ) : Type 0 where
  pub front : List ℕ
  pub rest : List ℕ
  pub whole : l ≡ front ++ rest
  pub every : Every (Of k) front
  pub stops : Stops k rest

split_more : (k : Kind) (b : ℕ) (r : List ℕ) (t : Bool) → passes_of k b ≡ t → Split k r → Split k (b ∷ r)
unfolding Every Stops
split_more k b r true e w =
    record { front = b ∷ w.front; rest = w.rest; whole = ap (λ (l : List ℕ). b ∷ l) w.whole; every = (of_passes k b e, w.every); stops = w.stops }
split_more k b r false e w = record { front = []; rest = b ∷ r; whole = refl; every = tt; stops = e }

pub split : (k : Kind) (l : List ℕ) → Split k l
unfolding Every Stops
split k [] = record { front = []; rest = []; whole = refl; every = tt; stops = tt }
split k (b ∷ r) = split_more k b r (passes_of k b) refl (split k r)

-- ---- places: what stands from p on

module _ (s : List ℕ) (p : ℕ) where
  pub place_in_lem : (b : ℕ) (r : List ℕ) → drop p s ≡ b ∷ r → p < length s
  place_in_lem b r e = omega (arith, length-drop p s, ap length e)

  pub byte_is : (b : ℕ) (r : List ℕ) → drop p s ≡ b ∷ r → get_or s p 0 ≡ b
  byte_is b r e = cc (drop-cons s p 0 (place_in_lem b r e))

  pub next_is : (b : ℕ) (r : List ℕ) → drop p s ≡ b ∷ r → drop (p + 1) s ≡ r
  next_is b r e = rw add-one (cc (drop-cons s p 0 (place_in_lem b r e)))

  pub place_more : (w r : List ℕ) → drop p s ≡ w ++ r → drop (p + length w) s ≡ r
  place_more w r e = sym (drop-drop (length w) p s) ∙ ap (drop (length w)) e ∙ drop-append_seam w r

  pub place_some : p < length s → drop p s ≡ get_or s p 0 ∷ drop (p + 1) s
  place_some h = rw add-one (drop-cons s p 0 h)

  pub span_is : (k : Kind) (w r : List ℕ) → drop p s ≡ w ++ r → Every (Of k) w → Stops k r → span_end k s p ≡ p + length w
  unfolding span_end
  span_is k w r e h g = rw e (ap (λ (n : ℕ). p + n) (run_is k w r h g))

  pub span_least : (k : Kind) (w r : List ℕ) → drop p s ≡ w ++ r → Every (Of k) w → p + length w ≤ span_end k s p
  unfolding span_end
  span_least k w r e h = rw e (omega (arith, run_least k w r h))

  -- the text of n bytes, in a longer list too
  pub part_is : (w r z : List ℕ) → p ≤ length s → drop p s ≡ w ++ r → part_of (s ++ z) (text p (length w)) ≡ w
  unfolding part_of
  part_is w r z h e = rw (drop-append-le p s z h, e, append_assoc w r z) (take-append_seam w (r ++ z))

  pub part_here : (w r : List ℕ) → drop p s ≡ w ++ r → part_of s (text p (length w)) ≡ w
  unfolding part_of
  part_here w r e = rw e (take-append_seam w r)

-- the run from p on
pub record Spanned (k : Kind) (s : List ℕ) (p : ℕ) : Type 0 where
  pub front : List ℕ
  pub place : drop p s ≡ front ++ drop (span_end k s p) s
  pub every : Every (Of k) front
  pub stops : Stops k (drop (span_end k s p) s)
  pub end : span_end k s p ≡ p + length front

pub spanned : (k : Kind) (s : List ℕ) (p : ℕ) → Spanned k s p
spanned k s p = go (split k (drop p s))
  where
    go : Split k (drop p s) → Spanned k s p
    go w =
        let e = span_is s p k w.front w.rest w.whole w.every w.stops in
        let d : drop (span_end k s p) s ≡ w.rest = rw e (place_more s p w.front w.rest w.whole) in
        record { front = w.front; place = rw d w.whole; every = w.every; stops = rw d w.stops; end = e }

-- ---- two bytes

pub pair_is : (s : List ℕ) (p a b : ℕ) (t : List ℕ) → drop p s ≡ a ∷ b ∷ t → pair_at s p a b ≡ true
unfolding pair_at
pair_is s p a b t e =
    pick_true _ _ _ (lt-ltb _ _ (place_in_lem s p a (b ∷ t) e)) ∙ pick_true _ _ _ (eq-eqb _ _ (byte_is s p a (b ∷ t) e))
    ∙ eq-eqb _ _ (byte_is s (p + 1) b t (next_is s p a (b ∷ t) e))

-- where the first is another byte
pub pair_not : (s : List ℕ) (p a b c : ℕ) (t : List ℕ) → drop p s ≡ c ∷ t → (c ≡ a → ⊥) → pair_at s p a b ≡ false
unfolding pair_at
pair_not s p a b c t e n = pick_true _ _ _ (lt-ltb _ _ (place_in_lem s p c t e)) ∙ pick_false _ _ _ (ne_eqb _ _ (λ x. n (sym (byte_is s p c t e) ∙ x)))

pick_first : {A : Type 0} (t : Bool) (a b x : A) → (b ≡ x → ⊥) → pick t a b ≡ x → (t ≡ true) × (a ≡ x)
unfolding pick
pick_first true a b x n e = (refl, e)
pick_first false a b x n e = absurd (n e)

-- a second byte that is not 0 stands in the list
pub pair_told : (s : List ℕ) (p a b : ℕ) → 0 < b → pair_at s p a b ≡ true → drop p s ≡ a ∷ b ∷ drop (p + 2) s
unfolding pair_at
pair_told s p a b n e =
    let f = pick_first _ _ _ _ false≢true e in
    let g = pick_first _ _ _ _ false≢true f.1 in
    let h : get_or s (p + 1) 0 ≡ b = eqb-true _ _ g.1 in
    let i : get_or s p 0 ≡ a = eqb-true _ _ g.0 in
    let l : p + 1 < length s = lt_of_not-le (λ o. omega (arith, get_or-eq_default s 0 o, h)) in
    let q : p + 1 + 1 ≡ p + 2 = omega arith in
    place_some s p (ltb-true _ _ f.0) ∙ rw (i, place_some s (p + 1) l, h, q) refl

-- ---- fields

unfoldable pub Written : FieldKind → List ℕ → Shape
Written Quoted = InQuotes
Written Plain = Word

-- a field that is told
pub record Met (k : FieldKind) (s : List ℕ) (p : ℕ) (t : Text) (q : ℕ) : Type 0 where
  pub written : List ℕ
  pub place : drop p s ≡ written ++ drop q s
  pub shape : Written k (part_of s t) written
  pub same : (z : List ℕ) → part_of (s ++ z) t ≡ part_of s t

-- a P, where there is a field
unfoldable pub Where : (Text → ℕ → Type 0) → Option Field → Type 0
Where P (Some f) = P f.text f.next
Where P None = Unit {0}

-- the text of w bytes from p on
met : (k : FieldKind) (s : List ℕ) (p q n : ℕ) (w x r : List ℕ) → drop p s ≡ x ++ drop q s → (a : ℕ) → a ≤ length s → drop a s ≡ w ++ r → n ≡ length w
    → Written k w x → Met k s p (text a n) q
met k s p q n w x r e a h d m f =
    let here : part_of s (text a n) ≡ w = rw m (part_here s a w r d) in
    record { written = x; place = e; shape = rw here f; same = λ z. rw here (rw m (part_is s a w r z h d)) }

pub stop_quote : (b : ℕ) (r l : List ℕ) → l ≡ b ∷ r → Stops NotQuote l → b ≡ 34
unfolding Stops passes_of
stop_quote b r l e h = eqb-true _ _ (not-false _ (rw e at h))

quoted_in : (s : List ℕ) (p : ℕ) → p < length s → get_or s p 0 ≡ 34 → span_end NotQuote s (p + 1) < length s
    → Met Quoted s p (text (p + 1) (span_end NotQuote s (p + 1) - (p + 1))) (span_end NotQuote s (p + 1) + 1)
unfolding Written Of
quoted_in s p h b l =
    let e : ℕ = span_end NotQuote s (p + 1) in
    let w = spanned NotQuote s (p + 1) in
    let f : List ℕ = w.front in
    let i : drop e s ≡ get_or s e 0 ∷ drop (e + 1) s = place_some s e l in
    let j : get_or s e 0 ≡ 34 = stop_quote _ _ _ i w.stops in
    let m : drop p s ≡ 34 ∷ f ++ 34 ∷ [] ++ drop (e + 1) s = place_some s p h ∙ rw (b, append_assoc f (34 ∷ []) (drop (e + 1) s), w.place, i, j) refl in
    met Quoted s p (e + 1) (e - (p + 1)) f (34 ∷ f ++ 34 ∷ []) (drop e s) m (p + 1) (omega arith) w.place (omega (arith, w.end)) (refl, w.every)

quoted_met : (s : List ℕ) (p : ℕ) → Where (Met Quoted s p) (quoted_at s p)
unfolding quoted_at Where
quoted_met s p =
    pick_where (Where (Met Quoted s p)) _ _ _
    (λ h. pick_where (Where (Met Quoted s p)) _ _ _
    (λ b. pick_where (Where (Met Quoted s p)) _ _ _ (λ l. quoted_in s p (ltb-true _ _ h) (eqb-true _ _ b) (ltb-true _ _ l)) (λ l. tt)) (λ b. tt)) (λ h. tt)

word_in : (s : List ℕ) (p : ℕ) → p < span_end NotBlank s p → Met Plain s p (text p (span_end NotBlank s p - p)) (span_end NotBlank s p)
unfolding Written Of
word_in s p h =
    let w = spanned NotBlank s p in
    let f : List ℕ = w.front in
    let some : 0 < length f = omega (arith, w.end) in
    let inside : p ≤ length s = omega (arith, length-drop p s, ap length w.place, length-append f (drop (span_end NotBlank s p) s)) in
    met Plain s p (span_end NotBlank s p) (span_end NotBlank s p - p) f f (drop (span_end NotBlank s p) s) w.place p inside w.place (omega (arith, w.end))
    (refl, (λ z. omega (arith, some, ap length z)), w.every)

word_met : (s : List ℕ) (p : ℕ) → Where (Met Plain s p) (bare_at s p)
unfolding bare_at Where
word_met s p = pick_where (Where (Met Plain s p)) _ _ _ (λ h. word_in s p (ltb-true _ _ h)) (λ h. tt)

pub field_met : (k : FieldKind) (s : List ℕ) (p : ℕ) → Where (Met k s p) (field_at k s p)
unfolding field_at
field_met Quoted s p = quoted_met s p
field_met Plain s p = word_met s p

-- blanks, one or more, and then the field
pub record Parted (k : FieldKind) (s : List ℕ) (p : ℕ) (t : Text) (q : ℕ) : Type 0 where
  pub from : ℕ
  pub gap : List ℕ
  pub place : drop p s ≡ gap ++ drop from s
  pub blanks : Gap gap
  pub field : Met k s from t q

pub parted_met : (k : FieldKind) (s : List ℕ) (p : ℕ) → Where (Parted k s p) (parted_at k s p)
unfolding parted_at Where Of
parted_met k s p =
    pick_where (Where (Parted k s p)) _ _ _ (λ h. on (ltb-true _ _ h) (field_at k s (span_end Blank s p)) (field_met k s (span_end Blank s p))) (λ h. tt)
  where
    on : p < span_end Blank s p → (x : Option Field) → Where (Met k s (span_end Blank s p)) x → Where (Parted k s p) x
    on h (Some f) m =
        let w = spanned Blank s p in
        record { from = span_end Blank s p; gap = w.front; place = w.place; blanks = (w.every, λ z. omega (arith, w.end, ap length z)); field = m }
    on h None m = tt

-- ---- a field that stands there is told

-- x is what the reader gave for a field whose text is w, with r behind it
pub record Given (s : List ℕ) (x : Option Field) (w r : List ℕ) : Type 0 where
  pub part : Text
  pub next : ℕ
  pub is : x ≡ Some (field part next)
  pub here : part_of s part ≡ w
  pub there : (z : List ℕ) → part_of (s ++ z) part ≡ w
  pub place : drop next s ≡ r

-- what must follow: a word goes on to the next blank
unfoldable pub Follows : FieldKind → Shape
Follows Quoted r = Unit {0}
Follows Plain r = Stops NotBlank r

quoted_given : (s : List ℕ) (p : ℕ) (w r : List ℕ) → drop p s ≡ 34 ∷ w ++ 34 ∷ r → Every (Other 34) w → Given s (quoted_at s p) w r
unfolding quoted_at Stops passes_of Of
quoted_given s p w r e h =
    let l : p < length s = place_in_lem s p 34 (w ++ 34 ∷ r) e in
    let f : drop (p + 1) s ≡ w ++ 34 ∷ r = next_is s p 34 (w ++ 34 ∷ r) e in
    let g : span_end NotQuote s (p + 1) ≡ p + 1 + length w = span_is s (p + 1) NotQuote w (34 ∷ r) f h refl in
    let d : drop (p + 1 + length w) s ≡ 34 ∷ r = place_more s (p + 1) w (34 ∷ r) f in
    let m : p + 1 + length w - (p + 1) ≡ length w = omega arith in
    record {
      part = text (p + 1) (length w);
      next = p + 1 + length w + 1;
      is =
          pick_true _ _ _ (lt-ltb _ _ l) ∙ pick_true _ _ _ (eq-eqb _ _ (byte_is s p 34 (w ++ 34 ∷ r) e))
          ∙ rw g (pick_true _ _ _ (lt-ltb _ _ (place_in_lem s _ 34 r d)) ∙ rw m refl);
      here = part_here s (p + 1) w (34 ∷ r) f;
      there = λ z. part_is s (p + 1) w (34 ∷ r) z (omega arith) f;
      place = next_is s (p + 1 + length w) 34 r d;
    }

word_given : (s : List ℕ) (p : ℕ) (w r : List ℕ) → drop p s ≡ w ++ r → (w ≡ [] → ⊥) → Every NoBlank w → Stops NotBlank r → Given s (bare_at s p) w r
unfolding bare_at Of
word_given s p [] r e n h g = absurd (n refl)
word_given s p (b ∷ w) r e n h g =
    let l : p < length s = place_in_lem s p b (w ++ r) e in
    let f : span_end NotBlank s p ≡ p + length (b ∷ w) = span_is s p NotBlank (b ∷ w) r e h g in
    let m : p + length (b ∷ w) - p ≡ length (b ∷ w) = omega arith in
    let o : p < p + length (b ∷ w) = omega arith in
    record {
      part = text p (length (b ∷ w));
      next = p + length (b ∷ w);
      is = rw f (pick_true _ _ _ (lt-ltb _ _ o) ∙ rw m refl);
      here = part_here s p (b ∷ w) r e;
      there = λ z. part_is s p (b ∷ w) r z (omega arith) e;
      place = place_more s p (b ∷ w) r e;
    }

pub field_given : (k : FieldKind) (s : List ℕ) (p : ℕ) (w x r : List ℕ) → drop p s ≡ x ++ r → Written k w x → Follows k r
    → Given s (field_at k s p) w r
unfolding field_at Written Follows
field_given Quoted s p w x r e h g = quoted_given s p w r (e ∙ rw (h.0, append_assoc w (34 ∷ []) r) refl) h.1
field_given Plain s p w x r e h g = word_given s p w r (e ∙ rw h.0 refl) h.1 h.2 g

-- a field begins with no blank
written_stops : (k : FieldKind) (w x r : List ℕ) → Written k w x → Stops Blank (x ++ r)
unfolding Written Stops Every
written_stops Quoted w x r (e, h) = rw e (text_ends 34 (plain 34 (omega arith)))
written_stops Plain [] x r (e, n, h) = absurd (n refl)
written_stops Plain (b ∷ w) x r (e, n, h) = rw e (text_ends b h.0)

pub parted_given : (k : FieldKind) (s : List ℕ) (p : ℕ) (g y w x r : List ℕ) → drop p s ≡ g ++ y → Gap g → y ≡ x ++ r → Written k w x → Follows k r
    → Given s (parted_at k s p) w r
unfolding parted_at Of
parted_given k s p [] y w x r e h f i j = absurd (h.1 refl)
parted_given k s p (b ∷ g) y w x r e h f i j =
    let q : span_end Blank s p ≡ p + length (b ∷ g) = span_is s p Blank (b ∷ g) y e h.0 (rw f (written_stops k w x r i)) in
    let o : p < p + length (b ∷ g) = omega arith in
    let m = field_given k s (p + length (b ∷ g)) w x r (place_more s p (b ∷ g) y e ∙ f) i j in
    record { part = m.part; next = m.next; is = rw q (pick_true _ _ _ (lt-ltb _ _ o) ∙ m.is); here = m.here; there = m.there; place = m.place }

-- ---- the end of a line

pub blanks_follow : (l : List ℕ) → Blanks l → Follows Plain l
unfolding Follows Stops Every
blanks_follow [] h = tt
blanks_follow (b ∷ l) h = blank_ends b h.0

pub gap_follows : (g y l : List ℕ) → l ≡ g ++ y → Gap g → Follows Plain l
unfolding Follows Stops Every
gap_follows [] y l e (h, n) = absurd (n refl)
gap_follows (b ∷ g) y l e (h, n) = rw e (blank_ends b h.0)

pub ends_in : (s : List ℕ) (p : ℕ) → Blanks (drop p s) → length s ≤ span_end Blank s p
unfolding Of Stops
ends_in s p h =
    let e : span_end Blank s p ≡ p + length (drop p s) = span_is s p Blank (drop p s) [] (sym (append-nil (drop p s))) h tt in
    omega (arith, e, length-drop p s)

pub ends_is : (s : List ℕ) (p : ℕ) → Blanks (drop p s) → ends_at s p ≡ true
unfolding ends_at
ends_is s p h = le-leb _ _ (ends_in s p h)

-- the blanks from p on reach the end
pub ends_told : (s : List ℕ) (p : ℕ) → length s ≤ span_end Blank s p → Blanks (drop p s)
unfolding Of
ends_told s p h =
    let w = spanned Blank s p in
    let e : drop p s ≡ w.front = w.place ∙ ap (λ (l : List ℕ). w.front ++ l) (drop_of_length-le s h) ∙ append-nil w.front in
    rw e w.every

-- blanks, and then the bytes a and b
pub pair_behind : (s : List ℕ) (p a b : ℕ) (x y : List ℕ) → drop p s ≡ x ++ a ∷ b ∷ y → Blanks x → NoBlank a
    → (span_end Blank s p < length s) × (pair_at s (span_end Blank s p) a b ≡ true)
unfolding Of Stops
pair_behind s p a b x y e h n =
    let f : span_end Blank s p ≡ p + length x = span_is s p Blank x (a ∷ b ∷ y) e h (text_ends a n) in
    let d = place_more s p x (a ∷ b ∷ y) e in
    (rw f (place_in_lem s (p + length x) a (b ∷ y) d), rw f (pair_is s (p + length x) a b y d))

pub tail_is : (s : List ℕ) (p : ℕ) → Blanks (drop p s) ⊎ CommentLine (drop p s) → tail_ok s p ≡ true
unfolding tail_ok
tail_is s p (inl h) = pick_false _ _ _ (le-ltb _ _ (ends_in s p h))
tail_is s p (inr (x, y, e, h, (u, v, f, g, o))) =
    let d : drop p s ≡ x ++ 47 ∷ 47 ∷ v = e ∙ rw (f, g) refl in
    let w = pair_behind s p 47 47 x v d h (plain 47 (omega arith)) in
    pick_true _ _ _ (lt-ltb _ _ w.0) ∙ w.1

-- what stands behind blanks
pub lead : (s : List ℕ) (p a b : ℕ) → 0 < b → pair_at s (span_end Blank s p) a b ≡ true → (Blanks ⨾ Just (a ∷ b ∷ []) ⨾ Anything) (drop p s)
unfolding Of
lead s p a b n e =
    let w = spanned Blank s p in
    (w.front, drop (span_end Blank s p) s, w.place, w.every, (a ∷ b ∷ [], drop (span_end Blank s p + 2) s, pair_told s (span_end Blank s p) a b n e, refl, tt))

pub tail_told : (s : List ℕ) (p : ℕ) → tail_ok s p ≡ true → Blanks (drop p s) ⊎ CommentLine (drop p s)
unfolding tail_ok
tail_told s p e = go (pick_inv _ _ _ _ e)
  where
    go : ((ltb (span_end Blank s p) (length s) ≡ true) × (pair_at s (span_end Blank s p) 47 47 ≡ true)) ⊎ ((ltb (span_end Blank s p) (length s) ≡ false) × (true ≡ true)) → Blanks (drop p s) ⊎ CommentLine (drop p s)
    go (inl u) = inr (lead s p 47 47 (omega arith) u.1)
    go (inr u) = inl (ends_told s p (ltb-false _ _ u.0))
