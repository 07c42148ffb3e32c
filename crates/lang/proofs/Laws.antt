-- What a match is, in words (01, Guessing lines); the patterns without a piece; what a pattern within the forms is made of. Assumes nothing.
use mathlib.Core.Path.{◌≡◌, refl, sym, ap, ap₂, ◌∙◌}
use mathlib.Core.Bool.{Bool, true, false, not, false≢true}
use mathlib.Core.List.{List, [], ◌∷◌, ◌++◌, append-nil}
use mathlib.Core.Logic.{⊎_elim, ◌↔◌}
use Prim.Native.Nat.{ℕ, zero, suc, ◌+◌, ◌≤◌}
use native.Mathlib.Numerals.{add-one}
use lib.Dec.{eqb}
use lib.ListN.{length, take, drop, take-append-drop, length-drop}
use borrow.Author.Tests.{eqb-true}
use native.Mathlib.Omega.{arith}
use Rattle.base.specs.Pick.{pick, and}
use Rattle.letters.specs.Reading.{codes_of}
use Rattle.texts.specs.Parts.{first_is, last_is, place_of, has, caret, dollar, opening, closing, without_caret, without_dollar, tail, front}
use Rattle.letters.specs.Utf8.{encode, decode_at}
use Rattle.letters.specs.declared.utf8.Step.{Step}
use Rattle.letters.specs.declared.utf8.Step.TheVariants.{Char, Ill, End}
use Rattle.letters.proofs.Utf8Laws.{char_at}
use Rattle.lang.specs.Patterns.{Piece, exactly, box, stray, middle, inside_of, box_length, box_piece, char_piece, char_length, piece_at, length_at, listed_box, good_piece, pattern_pieces_in, pattern_pieces, all_good, framed, in_forms, takes, fits_at, fits_anywhere, matches_in, matches_of}
use Rattle.lang.proofs
use proofs.PieceLaws.{piece_bytes, pieces_cons}
use proofs.FormLaws.{listed_none}
use proofs.Fits.{anywhere_here}
use Rattle.texts.proofs.Chars.{has_nil, has_cons}
use Rattle.base.proofs.PickLaws.{pick_true, pick_false, pick_inv, pick_all, and_yes, and_inv}
use Rattle.base.proofs.Arms.{clash}

-- the pieces take these characters, one each
pub data Taken : List Piece → List ℕ → Type 0 where
  none : Taken [] []
  one : {x : Piece} {c : ℕ} {xs : List Piece} {cs : List ℕ} → takes x c ≡ true → Taken xs cs → Taken (x ∷ xs) (c ∷ cs)

-- the characters are those before, those that the pieces take, and those after: none before where `^` stands, none after where `$` does
pub record Match (start : Bool) (xs : List Piece) (end : Bool) (cs : List ℕ) : Type 0 where
  pub before : List ℕ
  pub hit : List ℕ
  pub after : List ℕ
  pub whole : cs ≡ before ++ (hit ++ after)
  pub taken : Taken xs hit
  pub first : start ≡ true → before ≡ []
  pub to_end : end ≡ true → after ≡ []

-- ---- from a place on

fits_none : (end : Bool) (after : List ℕ) → (end ≡ true → after ≡ []) → fits_at [] end after ≡ true
unfolding fits_at
fits_none end [] h = refl
fits_none false (c ∷ cs) h = refl
fits_none true (c ∷ cs) h = let e = h refl in clash (cc)

fits_taken : {xs : List Piece} {hit : List ℕ} (end : Bool) (after : List ℕ) → Taken xs hit → (end ≡ true → after ≡ []) → fits_at xs end (hit ++ after) ≡ true
unfolding fits_at
fits_taken end after none h = fits_none end after h
fits_taken end after (one t r) h = and_yes _ _ t (fits_taken end after r h)

none_left : (end : Bool) (cs : List ℕ) → fits_at [] end cs ≡ true → end ≡ true → cs ≡ []
unfolding fits_at
none_left end [] e p = refl
none_left end (c ∷ cs) e p = absurd (false≢true (sym (ap not p) ∙ e))

record Front (xs : List Piece) (end : Bool) (cs : List ℕ) : Type 0 where
  hit : List ℕ
  after : List ℕ
  whole : cs ≡ hit ++ after
  taken : Taken xs hit
  to_end : end ≡ true → after ≡ []

taken_first : (xs : List Piece) (end : Bool) (cs : List ℕ) → fits_at xs end cs ≡ true → Front xs end cs
unfolding fits_at
taken_first [] end cs e = record { hit = []; after = cs; whole = refl; taken = none; to_end = none_left end cs e }
taken_first (x ∷ xs) end [] e = absurd (false≢true e)
taken_first (x ∷ xs) end (c ∷ cs) e =
    let w = and_inv (takes x c) (fits_at xs end cs) e in
    let r = taken_first xs end cs w.1 in
    record { hit = c ∷ r.hit; after = r.after; whole = ap (λ (l : List ℕ). c ∷ l) r.whole; taken = one w.0 r.taken; to_end = r.to_end }

-- ---- from any place on

place : (xs : List Piece) (end : Bool) (cs : List ℕ) → fits_anywhere xs end cs ≡ true → (before after : List ℕ) × (cs ≡ before ++ after) × (fits_at xs end after ≡ true)
unfolding fits_anywhere
place xs end [] e = ([], [], refl, e)
place xs end (c ∷ cs) e = ⊎_elim (λ w. ([], c ∷ cs, refl, w.0)) (λ w. later (place xs end cs w.1)) (pick_inv _ _ _ _ e)
  where
    later : (before after : List ℕ) × (cs ≡ before ++ after) × (fits_at xs end after ≡ true) → (before after : List ℕ) × (c ∷ cs ≡ before ++ after) × (fits_at xs end after ≡ true)
    later r = (c ∷ r.0, r.1, ap (λ (l : List ℕ). c ∷ l) r.2, r.3)

anywhere : (xs : List Piece) (end : Bool) (before after : List ℕ) → fits_at xs end after ≡ true → fits_anywhere xs end (before ++ after) ≡ true
unfolding fits_anywhere
anywhere xs end [] after e = anywhere_here xs end after e
anywhere xs end (c ∷ cs) after e = pick_all (λ (b : Bool). b ≡ true) _ _ _ refl (anywhere xs end cs after e)

-- ---- a match, both ways

at_start : (xs : List Piece) (end : Bool) (cs : List ℕ) → fits_at xs end cs ≡ true → Match true xs end cs
at_start xs end cs e =
    let f = taken_first xs end cs e in
    record { before = []; hit = f.hit; after = f.after; whole = f.whole; taken = f.taken; first = λ _. refl; to_end = f.to_end }

at_any : (xs : List Piece) (end : Bool) (cs : List ℕ) → fits_anywhere xs end cs ≡ true → Match false xs end cs
at_any xs end cs e =
    let w = place xs end cs e in
    let f = taken_first xs end w.1 w.3 in
    record { before = w.0; hit = f.hit; after = f.after; whole = w.2 ∙ ap (λ (l : List ℕ). w.0 ++ l) f.whole; taken = f.taken; first = λ q. absurd (false≢true q); to_end = f.to_end }

pub found : (start : Bool) (xs : List Piece) (end : Bool) (cs : List ℕ) → matches_in start xs end cs ≡ true → Match start xs end cs
unfolding matches_in pick
found true xs end cs e = at_start xs end cs e
found false xs end cs e = at_any xs end cs e

pub finds : (start : Bool) (xs : List Piece) (end : Bool) (cs : List ℕ) → Match start xs end cs → matches_in start xs end cs ≡ true
unfolding matches_in pick
finds true xs end cs m = rw (m.whole, m.first refl) (fits_taken end m.after m.taken m.to_end)
finds false xs end cs m = rw m.whole (anywhere xs end m.before (m.hit ++ m.after) (fits_taken end m.after m.taken m.to_end))

-- a pattern matches a name exactly when there is such a match
abbrev pub Matches : List ℕ → List ℕ → Type 0
Matches p name = Match (first_is caret p) (pattern_pieces (middle p)) (last_is dollar p) (codes_of name)

pub matches_means : (p name : List ℕ) → matches_of p name ≡ true → Matches p name
unfolding matches_of
matches_means p name e = found _ _ _ _ e

pub means_matches : (p name : List ℕ) → Matches p name → matches_of p name ≡ true
unfolding matches_of
means_matches p name m = finds _ _ _ _ m

-- ---- the patterns without a piece: `^` and `$` fit every name, `^$` the empty one alone

computing : Unit {0}
unfolding matches_of matches_in in_forms framed all_good pattern_pieces pattern_pieces_in middle without_caret without_dollar tail front first_is last_is has place_of pick and
computing = tt

module _ (name : List ℕ) where
  pub caret_alone : matches_of (caret ∷ []) name ≡ true
  unfolding computing
  caret_alone = fits_none false (codes_of name) (λ q. absurd (false≢true q))

  pub dollar_alone : matches_of (dollar ∷ []) name ≡ true
  unfolding computing
  dollar_alone = rw (← append-nil (codes_of name)) (anywhere [] true (codes_of name) [] (fits_none true [] (λ q. refl)))

  pub both_alone : matches_of (caret ∷ dollar ∷ []) name ≡ true ↔ codes_of name ≡ []
  unfolding computing
  both_alone = (λ e. none_left true (codes_of name) e refl, λ e. fits_none true (codes_of name) (λ q. e))

-- ---- a pattern within the forms is an optional `^`, the bytes of its pieces, an optional `$`

pub bytes_of : Piece → List ℕ
bytes_of (exactly k) = encode k
bytes_of (box negated l) = opening ∷ pick negated (caret ∷ []) [] ++ l ++ (closing ∷ [])
bytes_of stray = []

pub bytes_of_all : List Piece → List ℕ
bytes_of_all [] = []
bytes_of_all (x ∷ xs) = bytes_of x ++ bytes_of_all xs

place_step : (b x : ℕ) (xs : List ℕ) (t : Bool) → eqb x b ≡ t → has b (x ∷ xs) ≡ true
    → (has b xs ≡ true → take (place_of b xs + 1) xs ≡ take (place_of b xs) xs ++ (b ∷ []))
    → take (place_of b (x ∷ xs) + 1) (x ∷ xs) ≡ take (place_of b (x ∷ xs)) (x ∷ xs) ++ (b ∷ [])
unfolding place_of pick
place_step b x xs true q e ih = rw q (ap (λ (y : ℕ). y ∷ []) (eqb-true x b q))
place_step b x xs false q e ih =
    rw (q, add-one) (ap (λ (l : List ℕ). x ∷ l) (rw add-one at (ih (sym (has_cons b x xs ∙ pick_false _ _ _ q) ∙ e))))

place_is : (b : ℕ) (s : List ℕ) → has b s ≡ true → take (place_of b s + 1) s ≡ take (place_of b s) s ++ (b ∷ [])
place_is b [] e = absurd (false≢true (sym (has_nil b) ∙ e))
place_is b (x ∷ xs) e = place_step b x xs (eqb x b) refl e (λ h. place_is b xs h)

caret_step : (x : ℕ) (xs : List ℕ) (t : Bool) → eqb x caret ≡ t → pick t (caret ∷ []) [] ++ pick t xs (x ∷ xs) ≡ x ∷ xs
unfolding pick
caret_step x xs true q = ap (λ (y : ℕ). y ∷ xs) (sym (eqb-true x caret q))
caret_step x xs false q = refl

caret_back : (s : List ℕ) → pick (first_is caret s) (caret ∷ []) [] ++ without_caret s ≡ s
unfolding first_is without_caret tail pick
caret_back [] = refl
caret_back (x ∷ xs) = caret_step x xs (eqb x caret) refl

last_back : (b : ℕ) (s : List ℕ) → last_is b s ≡ true → front s ++ (b ∷ []) ≡ s
unfolding last_is front
last_back b [] e = absurd (false≢true e)
last_back b (x ∷ []) e = ap (λ (y : ℕ). y ∷ []) (sym (eqb-true x b e))
last_back b (x ∷ y ∷ l) e = ap (λ (m : List ℕ). x ∷ m) (last_back b (y ∷ l) e)

dollar_step : (s : List ℕ) (t : Bool) → last_is dollar s ≡ t → pick t (front s) s ++ pick t (dollar ∷ []) [] ≡ s
unfolding pick
dollar_step s true e = last_back dollar s e
dollar_step s false e = append-nil s

dollar_back : (s : List ℕ) → without_dollar s ++ pick (last_is dollar s) (dollar ∷ []) [] ≡ s
unfolding without_dollar
dollar_back s = dollar_step s (last_is dollar s) refl

-- the anchor at the end is the same once the first is taken off
last_step : (x : ℕ) (xs : List ℕ) (t : Bool) → eqb x caret ≡ t → last_is dollar (pick t xs (x ∷ xs)) ≡ last_is dollar (x ∷ xs)
unfolding last_is pick
last_step x xs false e = refl
last_step x [] true e = rw (eqb-true x caret e) refl
last_step x (y ∷ l) true e = refl

last_same : (p : List ℕ) → last_is dollar (without_caret p) ≡ last_is dollar p
unfolding without_caret first_is tail pick
last_same [] = refl
last_same (x ∷ xs) = last_step x xs (eqb x caret) refl

empty_box_lem : listed_box (without_caret []) ≡ false
unfolding without_caret first_is pick
empty_box_lem = sym (listed_none [] refl)

box_by : (t : List ℕ) (b : Bool) → has closing t ≡ b → listed_box (without_caret (inside_of t)) ≡ true → inside_of t ++ (closing ∷ []) ≡ take (box_length t) t
unfolding inside_of box_length
box_by t true q e = rw (pick_true _ (take (place_of closing t) t) [] q, pick_true _ (place_of closing t + 1) (length t) q) (sym (place_is closing t q))
box_by t false q e = absurd (false≢true (sym (ap (λ (l : List ℕ). listed_box (without_caret l)) (pick_false _ _ _ q) ∙ empty_box_lem) ∙ e))

box_back : (t : List ℕ) → listed_box (without_caret (inside_of t)) ≡ true → bytes_of (box_piece (inside_of t)) ≡ take (1 + box_length t) (opening ∷ t)
unfolding box_piece bytes_of
box_back t e =
    let z : 1 + box_length t ≡ suc (box_length t) = omega arith in
    ap (λ (l : List ℕ). opening ∷ (l ++ (closing ∷ []))) (caret_back (inside_of t)) ∙ ap (λ (l : List ℕ). opening ∷ l) (box_by t (has closing t) refl e)
    ∙ ap (λ (n : ℕ). take n (opening ∷ t)) (sym z)

char_back : (l : List ℕ) (r : Step) → decode_at l 0 ≡ r → good_piece (char_piece r) ≡ true → bytes_of (char_piece r) ≡ take (char_length r) l
unfolding good_piece char_piece char_length bytes_of
char_back l (Char k n) q e = (char_at l 0 k n q).bytes
char_back l Ill q e = absurd (false≢true e)
char_back l End q e = absurd (false≢true e)

first_back : (b : ℕ) (l : List ℕ) → first_is b l ≡ true → b ∷ drop 1 l ≡ l
unfolding first_is
first_back b [] q = absurd (false≢true q)
first_back b (x ∷ l) q = ap (λ (y : ℕ). y ∷ l) (sym (eqb-true x b q))

piece_by : (l : List ℕ) (b : Bool) → first_is opening l ≡ b → good_piece (piece_at l) ≡ true → bytes_of (piece_at l) ≡ take (length_at l) l
unfolding piece_at length_at good_piece box_piece
piece_by l true q e =
    let p = pick_true (first_is opening l) (box_piece (inside_of (drop 1 l))) (char_piece (decode_at l 0)) q in
    ap bytes_of p ∙ box_back (drop 1 l) (sym (ap good_piece p) ∙ e) ∙ ap₂ (λ (n : ℕ) (m : List ℕ). take n m) (sym (pick_true _ _ _ q)) (first_back opening l q)
piece_by l false q e =
    let p = pick_false (first_is opening l) (box_piece (inside_of (drop 1 l))) (char_piece (decode_at l 0)) q in
    ap bytes_of p ∙ char_back l (decode_at l 0) refl (sym (ap good_piece p) ∙ e) ∙ ap (λ (n : ℕ). take n l) (sym (pick_false _ _ _ q))

none_back : bytes_of_all (pattern_pieces []) ≡ []
unfolding bytes_of_all pattern_pieces pattern_pieces_in
none_back = refl

all_back : (f : ℕ) (l : List ℕ) → length l ≤ f → all_good (pattern_pieces l) ≡ true → bytes_of_all (pattern_pieces l) ≡ l
unfolding all_good bytes_of_all
all_back zero [] h e = none_back
all_back zero (x ∷ l) h e = absurd (omega arith)
all_back (suc f) [] h e = none_back
all_back (suc f) (x ∷ l) h e =
    let n = length_at (x ∷ l) in
    let b = piece_bytes (x ∷ l) (omega arith) in
    let less = length-drop n (x ∷ l) in
    let cons = pieces_cons (x ∷ l) (omega arith) in
    let w = and_inv _ _ (sym (ap all_good cons) ∙ e) in
    ap bytes_of_all cons
    ∙ ap₂ (λ (u v : List ℕ). u ++ v) (piece_by (x ∷ l) (first_is opening (x ∷ l)) refl w.0) (all_back f (drop n (x ∷ l)) (omega arith) w.1)
    ∙ take-append-drop n (x ∷ l)

pub forms_back : (p : List ℕ) → in_forms p ≡ true → pick (first_is caret p) (caret ∷ []) [] ++ (bytes_of_all (pattern_pieces (middle p)) ++ pick (last_is dollar p) (dollar ∷ []) []) ≡ p
unfolding in_forms middle
forms_back p e =
    let w = and_inv (framed p) (all_good (pattern_pieces (middle p))) e in
    rw (all_back (length (middle p)) (middle p) (omega arith) w.1, ← last_same p, dollar_back (without_caret p), caret_back p)
