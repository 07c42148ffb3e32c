-- An item is given as the grammar says: what is given begins there (sound), and what begins there is given (complete). Assumes nothing.
use mathlib.Core.Path.{◌≡◌, refl, sym, ap, ◌∙◌}
use mathlib.Core.List.{List, [], ◌∷◌, ◌++◌, append_assoc, head-eq_of_cons-eq, tail-eq_of_cons-eq}
use mathlib.Core.Logic.{inl, inr}
use Prim.Native.Nat.{ℕ, ◌+◌, ◌<◌}
use native.Mathlib.Omega.{arith}
use lib.ListN.{length, take, drop, take-append-drop}
use borrow.Author.Tests.{lt-leb}
use Rattle.rules_parser.specs as specs
use specs.Fields.{span_end, Blank as blanks}
use specs.Lines.{line_at}
use specs.Files.{close, close_at, next_line, on_close, comment_at, on_line, item_at}
use specs.Grammar.{Every, Other, BlankByte, Blanks, OpeningLine, CommentLine, FirstLine, at_end, at_lf, at_cr_lf, Said, said_of, FoundItem, passed, said, found_of, Block, Begins, blank, comment, block, says}
use Rattle.rules_parser.proofs as own
use own.Ahead.{pick_where}
use own.GrammarFields.{Of, Stops, span_is, place_in_lem, place_more, text_ends, plain}
use own.GrammarLaws.{Means, line_sound, Tells-as, blank_complete, comment_complete, opening_complete, says_complete}
use own.GrammarEnds.{every_both, cut, lined, line_text, rest_complete, rest_sound, Closes, close_complete, close_sound}
use specs.declared.lines.FileKind.{FileKind}
use specs.declared.lines.Line.{Line}
use specs.declared.lines.Line.TheVariants as line
use specs.declared.files.Close.{Close}
use Rattle.std.specs.Prelude.{Option, Some, None}
use specs.declared.files.Item.{Item}
use specs.declared.files.Item.TheVariants.{Passed, Tells, Wrong}
use Rattle.base.proofs.PickLaws.{pick_true, pick_false}

-- ---- a line keeps what it begins with

blank_other : (a : ℕ) (l : List ℕ) → (32 ≡ a → ⊥) → (9 ≡ a → ⊥) → Blanks l → Every (Other a) l
unfolding Every
blank_other a [] m n h = tt
blank_other a (b ∷ l) m n h = (go h.0, blank_other a l m n h.1)
  where
    go : BlankByte b → b ≡ a → ⊥
    go (inl e) f = m (sym e ∙ f)
    go (inr e) f = n (sym e ∙ f)

keeps : (a : ℕ) (l left w rest : List ℕ) → l ++ a ∷ left ≡ w ++ rest → Every (Other a) w → (v : List ℕ) × (l ≡ w ++ v)
unfolding Every
keeps a l left [] rest e h = (l, refl)
keeps a [] left (c ∷ w) rest e h = absurd (h.0 (sym (head-eq_of_cons-eq e)))
keeps a (d ∷ l) left (c ∷ w) rest e h =
    let v = keeps a l left w rest (tail-eq_of_cons-eq e) h.1 in
    let f : d ≡ c = head-eq_of_cons-eq e in
    let g = v.1 in
    (v.0, (cc))

line_keeps : (r l left w rest : List ℕ) → FirstLine r l left → r ≡ w ++ rest → Every (Other 10) w → Every (Other 13) w → (v : List ℕ) × (l ≡ w ++ v)
line_keeps r l left w rest (at_end h e f) g i j = (rest, sym e ∙ g)
line_keeps r l left w rest (at_lf h c e) g i j = keeps 10 l left w rest (sym e ∙ g) i
line_keeps r l left w rest (at_cr_lf h e) g i j = keeps 13 l (10 ∷ left) w rest (sym e ∙ g) j

-- ---- an item

-- what the reader gave for what stands there, and that it goes on at what is left
unfoldable pub More : List ℕ → List ℕ → Item → Type 0
More s left (Passed n q) = drop q s ≡ left
More s left (Tells t q) = drop q s ≡ left
More s left Wrong = ⊥

pub record Item-as (s : List ℕ) (i : Item) (x : FoundItem) (left : List ℕ) : Type 0 where
  pub found : found_of s i ≡ x
  pub more : More s left i

-- the line l at p of the file s
module _ (k : FileKind) (s : List ℕ) (p : ℕ) (o : p < length s) (l left : List ℕ) (f : FirstLine (drop p s) l left) where
  abbrev up_to : List ℕ
  up_to = take (p + length l) s

  abbrev beyond : List ℕ
  beyond = drop (p + length l) s

  here : drop p up_to ≡ l
  here = let w = cut s p l left f in line_text s p l w.rest (omega arith) w.whole

  joined : up_to ++ beyond ≡ s
  joined = take-append-drop (p + length l) s

  item_line : item_at k s p ≡ on_line (line_at k up_to p) s p
  unfolding item_at
  item_line = pick_false _ _ _ (lt-leb _ _ o) ∙ ap (λ (n : ℕ). on_line (line_at k (take n s) p) s p) (cut s p l left f).end

  goes : drop (next_line s p) s ≡ left
  goes = (cut s p l left f).next

  blank_item : Blanks l → Item-as s (item_at k s p) (passed 1) left
  unfolding on_line found_of More
  blank_item h = rw (item_line, blank_complete k up_to p (rw here h)) (record { found = refl; more = goes })

  comment_item : CommentLine l → Item-as s (item_at k s p) (passed 1) left
  unfolding on_line found_of More
  comment_item h = rw (item_line, comment_complete k up_to p (rw here h)) (record { found = refl; more = goes })

  opening_item : OpeningLine l → item_at k s p ≡ comment_at s p
  unfolding on_line
  opening_item h = rw (item_line, opening_complete k up_to p (rw here h)) refl

  says_item : (x : Said) → (Tells-as (up_to ++ beyond) (line_at k up_to p) x) → Item-as s (item_at k s p) (said x) left
  unfolding on_line found_of More
  says_item x w =
      let m : said_of s w.told ≡ x = ap (λ (v : List ℕ). said_of v w.told) (sym joined) ∙ w.same in
      rw (item_line, w.is) (record { found = ap said m; more = goes })

-- a comment over lines
module _ (k : FileKind) (s : List ℕ) (p : ℕ) (o : p < length s) (n : ℕ) (left : List ℕ) (b : Block (drop p s) n left) where
  -- the line that opens it
  opens : (l w : List ℕ) → FirstLine (drop p s) l w → OpeningLine l
  unfolding Every
  opens l w f =
      let a : List ℕ = b.lead ++ 47 ∷ 42 ∷ [] in
      let r : List ℕ = b.body ++ 42 ∷ 47 ∷ b.behind in
      let e : drop p s ≡ a ++ r = b.whole ∙ sym (append_assoc b.lead (47 ∷ 42 ∷ []) r) in
      let v = line_keeps (drop p s) l w a r f e
      (every_both (Other 10) b.lead (47 ∷ 42 ∷ []) (blank_other 10 b.lead (λ x. omega arith) (λ x. omega arith) b.leads) ((λ x. omega arith), ((λ x. omega arith), tt)))
      (every_both (Other 13) b.lead (47 ∷ 42 ∷ []) (blank_other 13 b.lead (λ x. omega arith) (λ x. omega arith) b.leads) ((λ x. omega arith), ((λ x. omega arith), tt))) in
      (b.lead, 47 ∷ 42 ∷ v.0, v.1 ∙ append_assoc b.lead (47 ∷ 42 ∷ []) v.0, b.leads, (47 ∷ 42 ∷ [], v.0, refl, refl, tt))

  block_item : Item-as s (item_at k s p) (passed n) left
  unfolding comment_at close_at on_close found_of More Of Stops
  block_item =
      let h = lined (drop p s) in
      let r : List ℕ = b.body ++ 42 ∷ 47 ∷ b.behind in
      let a : ℕ = p + length b.lead in
      let q : span_end blanks s p ≡ a = span_is s p blanks b.lead (47 ∷ 42 ∷ r) b.whole b.leads (text_ends 47 (plain 47 (omega arith))) in
      let d : drop a s ≡ 47 ∷ 42 ∷ r = place_more s p b.lead (47 ∷ 42 ∷ r) b.whole in
      let e : drop (a + 2) s ≡ r = place_more s a (47 ∷ 42 ∷ []) r d in
      let m : ℕ = a + 2 + length b.body + 2 in
      let g : close_at s (a + 2) ≡ Some (close m n) = close_complete s (a + 2) 0 b.body b.behind m n e b.closes refl (omega (arith, b.counts)) in
      let i : drop m s ≡ b.behind = place_more s (a + 2 + length b.body) (42 ∷ 47 ∷ []) b.behind (place_more s (a + 2) b.body (42 ∷ 47 ∷ b.behind) e) in
      let j : FirstLine (drop m s) b.trail left = rw i b.ends in
      rw (opening_item k s p o h.text h.left h.line (opens h.text h.left h.line), q, pick_false _ _ _ (lt-leb _ _ (place_in_lem s a 47 (42 ∷ r) d)), g, pick_true _ _ _ (rest_complete s m b.trail left j b.trails))
      (record { found = refl; more = (cut s m b.trail left j).next })

-- what begins at p is given so
pub item_complete : (k : FileKind) (s : List ℕ) (p : ℕ) → p < length s → {x : FoundItem} {left : List ℕ} → Begins k (drop p s) x left
    → Item-as s (item_at k s p) x left
item_complete k s p o (blank {l} {left} f h) = blank_item k s p o l left f h
item_complete k s p o (comment {l} {left} f h) = comment_item k s p o l left f h
item_complete k s p o (block {n} {left} b) = block_item k s p o n left b
item_complete k s p o (says {l} {left} {x} f w) =
    says_item k s p o l left f x (says_complete (take (p + length l) s) (drop (p + length l) s) p l (here k s p o l left f) w)

-- an item that is given is what begins at p
unfoldable pub Begun : FileKind → List ℕ → ℕ → Item → Type 0
Begun k s p (Passed n q) = Begins k (drop p s) (passed n) (drop q s)
Begun k s p (Tells t q) = Begins k (drop p s) (said (said_of s t)) (drop q s)
Begun k s p Wrong = Unit {0}

module _ (k : FileKind) (s : List ℕ) (p : ℕ) (l rest : List ℕ) (e : drop p s ≡ l ++ rest) where
  comment_sound : OpeningLine l → Begun k s p (comment_at s p)
  unfolding comment_at close_at on_close Begun Closes Of Stops
  comment_sound (x, y, d, h, (u, v, f, g, t)) =
      pick_where (Begun k s p) _ _ _ (λ i. tt) (λ i. on (close_at s (span_end blanks s p + 2)) (close_sound s (drop (span_end blanks s p + 2) s) (span_end blanks s p + 2) 0 refl))
    where
      w : drop p s ≡ x ++ 47 ∷ 42 ∷ (v ++ rest)
      w = e ∙ ap (λ (a : List ℕ). a ++ rest) (d ∙ ap (λ (a : List ℕ). x ++ a) (f ∙ ap (λ (a : List ℕ). a ++ v) g)) ∙ append_assoc x (47 ∷ 42 ∷ v) rest

      q : span_end blanks s p ≡ p + length x
      q = span_is s p blanks x (47 ∷ 42 ∷ (v ++ rest)) w h (text_ends 47 (plain 47 (omega arith)))

      m : drop (span_end blanks s p + 2) s ≡ v ++ rest
      m = rw q (place_more s (p + length x) (47 ∷ 42 ∷ []) (v ++ rest) (place_more s p x (47 ∷ 42 ∷ (v ++ rest)) w))

      on : (c : Option Close) → Closes s (drop (span_end blanks s p + 2) s) (span_end blanks s p + 2) 0 c → Begun k s p (on_close c s)
      on (Some e) c =
          let r : ℕ = e.next in
          let j = lined (drop r s) in
          pick_where (Begun k s p) _ _ _
          (λ a. block (record {
            lead = x;
            body = c.body;
            behind = drop r s;
            trail = j.text;
            whole = w ∙ ap (λ (b : List ℕ). x ++ 47 ∷ 42 ∷ b) (sym m ∙ c.whole ∙ ap (λ (b : List ℕ). c.body ++ 42 ∷ 47 ∷ b) (sym c.next));
            leads = h;
            closes = c.unclosed;
            counts = omega (arith, c.lines);
            ends = rw (cut s r j.text j.left j.line).next j.line;
            trails = rest_sound s r j.text j.left j.line a;
          }))
          (λ a. tt)
      on None c = tt

pub item_sound : (k : FileKind) (s : List ℕ) (p : ℕ) → p < length s → Begun k s p (item_at k s p)
unfolding on_line Begun Means
item_sound k s p o = rw (item_line k s p o l left f) (go (line_at k (take (p + length l) s) p) m)
  where
    l : List ℕ
    l = (lined (drop p s)).text

    left : List ℕ
    left = (lined (drop p s)).left

    f : FirstLine (drop p s) l left
    f = (lined (drop p s)).line

    f' : FirstLine (drop p s) l (drop (next_line s p) s)
    f' = rw (cut s p l left f).next f

    m : Means k s l (line_at k (take (p + length l) s) p)
    m = rw (here k s p o l left f, joined k s p o l left f) at (line_sound k (take (p + length l) s) (drop (p + length l) s) p)

    go : (v : Option Line) → Means k s l v → Begun k s p (on_line v s p)
    go (Some line.Blank) h = blank f' h
    go (Some line.Comment) h = comment f' h
    go (Some line.Opens) h = comment_sound k s p l (cut s p l left f).rest (cut s p l left f).whole h
    go (Some (line.Tells t)) h = says f' h
    go None h = tt
