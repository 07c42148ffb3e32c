-- What the crates above use of names, without the definitions. Assumes nothing.
use mathlib.Core.Path.{◌≡◌, refl, sym, ap, ap₂, ◌∙◌}
use mathlib.Core.Bool.{Bool, true, false, not}
use mathlib.Core.List.{List, [], ◌∷◌}
use Prim.Native.Nat.{ℕ, zero, suc, ◌+◌, ◌-◌, ◌≤◌, ◌<◌, zero-le, suc-le-suc}
use native.Mathlib.Nat.{add-sub_cancel_left, le_trans}
use native.Mathlib.Decide.{dec_le}
use native.Mathlib.Omega.{arith}
use lib.Dec.{eqb}
use lib.ListN.{length, take, drop, length-append, length-drop, length-take, length-map}
use lib.Seq.{take-length, drop-length, drop-drop, length-take-le}
use borrow.Author.Tests.{eqb-true, not-true, not-false}
use Rattle.base.specs.Pick.{pick}
use Rattle.base.proofs.Arms.{clash}
use Rattle.letters.specs.Order.{same_text}
use Rattle.texts.specs.Parts.{has}
use Rattle.texts.proofs.Laws.{prefix_within}
use Rattle.name_parts.specs.Words.{goes_on, led, words_of, spaces, letters, word_start, word_end, past_word, stretch, word_at, one_word}
use Rattle.prefixes.specs.Prefixes.{prefixes_of, among, split_of, is_prefix}
use Rattle.prefixes.proofs.Longest.{split_all}
use Rattle.prefixes.proofs.PrefixLaws.{fits_within}
use Rattle.name_parts.specs.Joining.{spaced, joined_name, after_apostrophe, kept_of, drops_out, remaining, joined_by_space, joined_words}
use Rattle.prefixes.specs.declared.prefixes.NameType.{NameType}
use Rattle.prefixes.specs.declared.prefixes.NameType.TheVariants.{Ashkenazi, Generic, Sephardic}
use Rattle.prefixes.specs.declared.prefixes.Prefix.{Prefix}
use Rattle.prefixes.specs.declared.prefixes.Prefix.TheVariants.{Leads}
use Rattle.base.proofs.PickLaws.{pick_true, pick_false, pick_all}

-- ---- the first word of a text, and what follows it

-- what follows the spaces in front
abbrev body : List ℕ → List ℕ
body l = drop (spaces l) l

stops : (l : List ℕ) → goes_on l ≡ false → letters l ≡ 0
unfolding goes_on letters
stops [] e = refl
stops (b ∷ l) e = pick_true _ _ _ (not-false _ e)

alone : (b : ℕ) (ws : List (List ℕ)) → led b false ws ≡ (b ∷ []) ∷ ws
unfolding led pick
alone b [] = refl
alone b (w ∷ ws) = refl

led_by_lem : (b : ℕ) (l : List ℕ) (more : Bool) → goes_on l ≡ more → (goes_on l ≡ true → words_of l ≡ take (letters l) l ∷ words_of (drop (letters l) l))
    → led b more (words_of l) ≡ (b ∷ take (letters l) l) ∷ words_of (drop (letters l) l)
unfolding led pick
led_by_lem b l true e ih = ap (led b true) (ih e)
led_by_lem b l false e ih = alone b (words_of l) ∙ rw (stops l e) refl

-- a text that starts with a word
words_go : (l : List ℕ) → goes_on l ≡ true → words_of l ≡ take (letters l) l ∷ words_of (drop (letters l) l)
unfolding goes_on letters words_of
words_go [] e = clash (cc)
words_go (b ∷ l) e =
    let n = not-true _ e in
    pick_false _ _ _ n ∙ led_by_lem b l (goes_on l) refl (words_go l) ∙ rw (pick_false _ 0 (suc (letters l)) n) refl

-- a text that is one word
words_one : (w : List ℕ) → goes_on w ≡ true → letters w ≡ length w → words_of w ≡ w ∷ []
unfolding words_of
words_one w e n = words_go w e ∙ rw (n, take-length w, drop-length w) refl

skip_by : (b : ℕ) (l : List ℕ) (t : Bool) → eqb b 32 ≡ t → words_of l ≡ words_of (body l) → words_of (b ∷ l) ≡ words_of (body (b ∷ l))
unfolding words_of spaces
skip_by b l true e ih = pick_true _ _ _ e ∙ ih ∙ sym (ap (λ (n : ℕ). words_of (drop n (b ∷ l))) (pick_true _ _ _ e))
skip_by b l false e ih = sym (ap (λ (n : ℕ). words_of (drop n (b ∷ l))) (pick_false _ _ _ e))

-- spaces in front are passed
words_skip : (l : List ℕ) → words_of l ≡ words_of (body l)
unfolding spaces
words_skip [] = refl
words_skip (b ∷ l) = skip_by b l _ refl (words_skip l)

end_by : (b : ℕ) (l : List ℕ) (t : Bool) → eqb b 32 ≡ t → (goes_on (body l) ≡ false → body l ≡ []) → goes_on (body (b ∷ l)) ≡ false → body (b ∷ l) ≡ []
unfolding spaces goes_on pick
end_by b l true e ih = rw e ih
end_by b l false e ih = rw e (λ n. clash (cc))

body_end : (l : List ℕ) → goes_on (body l) ≡ false → body l ≡ []
unfolding spaces
body_end [] e = refl
body_end (b ∷ l) e = end_by b l _ refl (body_end l) e

spaces_within : (l : List ℕ) → spaces l ≤ length l
unfolding spaces
spaces_within [] = zero-le
spaces_within (b ∷ l) = pick_all (λ (n : ℕ). n ≤ suc (length l)) (eqb b 32) _ _ (suc-le-suc (spaces_within l)) zero-le

pub letters_within : (l : List ℕ) → letters l ≤ length l
unfolding letters
letters_within [] = zero-le
letters_within (b ∷ l) = pick_all (λ (n : ℕ). n ≤ suc (length l)) (eqb b 32) _ _ zero-le (suc-le-suc (letters_within l))

goes_some : (l : List ℕ) → goes_on l ≡ true → 1 ≤ letters l
unfolding goes_on letters
goes_some [] e = clash (cc)
goes_some (b ∷ l) e = rw (pick_false _ 0 (suc (letters l)) (not-true _ e)) (omega arith)

cut_by : (b : ℕ) (l : List ℕ) (t : Bool) → eqb b 32 ≡ t → letters (take (letters l) l) ≡ letters l
    → (letters (take (letters (b ∷ l)) (b ∷ l)) ≡ letters (b ∷ l)) × (goes_on (take (letters (b ∷ l)) (b ∷ l)) ≡ goes_on (b ∷ l))
unfolding letters goes_on pick
cut_by b l true e ih = rw e (refl, refl)
cut_by b l false e ih = rw e (rw e (ap suc ih, refl))

-- a word goes on as far as the text from which it is cut
letters_cut : (l : List ℕ) → letters (take (letters l) l) ≡ letters l
unfolding letters
letters_cut [] = refl
letters_cut (b ∷ l) = (cut_by b l _ refl (letters_cut l)).0

goes_cut : (l : List ℕ) → goes_on (take (letters l) l) ≡ goes_on l
unfolding letters
goes_cut [] = refl
goes_cut (b ∷ l) = (cut_by b l _ refl (letters_cut l)).1

none_goes : (l : List ℕ) (t : Bool) → goes_on l ≡ t → letters l ≡ 0 → goes_on l ≡ false
none_goes l true e n = absurd (omega (arith, goes_some l e))
none_goes l false e n = e

some_goes : (l : List ℕ) (t : Bool) → goes_on l ≡ t → (letters l ≡ 0 → ⊥) → goes_on l ≡ true
some_goes l true e n = e
some_goes l false e n = absurd (n (stops l e))

words_by : (l : List ℕ) (t : Bool) → goes_on (body l) ≡ t → words_of l ≡ pick t (take (letters (body l)) (body l) ∷ words_of (drop (letters (body l)) (body l))) []
unfolding pick words_of
words_by l true e = words_skip l ∙ words_go (body l) e
words_by l false e = words_skip l ∙ ap words_of (body_end l e)

-- the first of some words, or the empty text
unfoldable pub first_of : List (List ℕ) → List ℕ
first_of [] = []
first_of (w ∷ ws) = w

first_by : (l : List ℕ) (t : Bool) → goes_on (body l) ≡ t → first_of (words_of l) ≡ take (letters (body l)) (body l)
unfolding pick first_of
first_by l true e = ap first_of (words_by l true e)
first_by l false e = ap first_of (words_by l false e) ∙ rw (stops (body l) e) refl

module _ (s : List ℕ) (p : ℕ) where
  -- what the word is cut from
  abbrev from : List ℕ
  from = body (drop p s)

  pub word_is : word_at s p ≡ take (letters from) from
  unfolding word_at stretch past_word word_end word_start
  word_is =
      let start : drop (p + spaces (drop p s)) s ≡ from = sym (drop-drop (spaces (drop p s)) p s) in
      ap (λ (n : ℕ). take n (drop (p + spaces (drop p s)) s)) (add-sub_cancel_left (p + spaces (drop p s)) (letters (drop (p + spaces (drop p s)) s)))
      ∙ ap (λ (l : List ℕ). take (letters l) l) start

  -- the bytes that stand there are the first of the words that are left
  pub word_first : word_at s p ≡ first_of (words_of (drop p s))
  word_first = word_is ∙ sym (first_by (drop p s) _ refl)

  word_long : length (word_at s p) ≡ letters from
  word_long = ap length word_is ∙ length-take-le _ _ (letters_within from)

  past_is : past_word s p ≡ p + spaces (drop p s) + letters from
  unfolding past_word word_end word_start
  past_is = ap (λ (l : List ℕ). p + spaces (drop p s) + letters l) (sym (drop-drop (spaces (drop p s)) p s))

  past_drop : drop (letters from) from ≡ drop (past_word s p) s
  past_drop = ap (drop (letters from)) (drop-drop (spaces (drop p s)) p s) ∙ drop-drop (letters from) (p + spaces (drop p s)) s ∙ ap (λ (n : ℕ). drop n s) (sym past_is)

  -- what the word and the spaces before it take
  within : spaces (drop p s) + letters from ≤ length s - p
  within = omega (arith, spaces_within (drop p s), letters_within from, length-drop (spaces (drop p s)) (drop p s), length-drop p s)

  pub words_none : length (word_at s p) ≡ 0 → words_of (drop p s) ≡ []
  unfolding pick
  words_none h = words_by (drop p s) false (none_goes from _ refl (sym word_long ∙ h))

  pub word_within_lem : p + length (word_at s p) ≤ past_word s p
  word_within_lem = omega (arith, word_long, past_is)

  pub word_part : length (word_at s p) ≤ length s - p
  word_part = omega (arith, word_long, within)

  module _ (h : length (word_at s p) ≡ 0 → ⊥) where
    goes : goes_on from ≡ true
    goes = some_goes from _ refl (λ z. h (word_long ∙ z))

    pub words_next : words_of (drop p s) ≡ word_at s p ∷ words_of (drop (past_word s p) s)
    unfolding pick
    words_next = words_by (drop p s) true goes ∙ ap₂ ◌∷◌ (sym word_is) (ap words_of past_drop)

    pub word_later : p < past_word s p
    word_later = omega (arith, past_is, goes_some from goes)

    pub past_within : past_word s p ≤ length s
    past_within = omega (arith, past_is, within, goes_some from goes)

    -- a word is its own only word
    words_again : words_of (word_at s p) ≡ word_at s p ∷ []
    words_again = rw word_is (words_one _ (goes_cut from ∙ goes) (letters_cut from ∙ sym (length-take-le _ _ (letters_within from))))

    pub one_again : one_word (word_at s p) ≡ true
    unfolding one_word
    one_again = ap (λ (ws : List (List ℕ)). eqb (length ws) 1) words_again

pub word_again : (s : List ℕ) (p : ℕ) → (length (word_at s p) ≡ 0 → ⊥) → word_at (word_at s p) 0 ≡ word_at s p
unfolding first_of
word_again s p h = word_first (word_at s p) 0 ∙ ap first_of (words_again s p h)

only : (ws : List (List ℕ)) → length ws ≡ 1 → ws ≡ first_of ws ∷ []
unfolding first_of
only [] e = clash e
only (w ∷ []) e = refl
only (w ∷ v ∷ ws) e = absurd (omega arith)

pub one_is : (s : List ℕ) → one_word s ≡ true → words_of s ≡ word_at s 0 ∷ []
unfolding one_word
one_is s e = only (words_of s) (eqb-true _ _ e) ∙ ap (λ (w : List ℕ). w ∷ []) (sym (word_first s 0))

-- a name that is its own first word
one_whole : (s : List ℕ) → spaces s ≡ 0 → letters (body s) ≡ length s → goes_on (body s) ≡ true → one_word s ≡ true
unfolding one_word
one_whole s z n e =
    let b : body s ≡ s = ap (λ (k : ℕ). drop k s) z in
    ap (λ (ws : List (List ℕ)). eqb (length ws) 1) (words_one s (rw b at e) (rw b at n))

-- the words of a name with more than one are shorter
pub word_shorter : (s : List ℕ) (p : ℕ) → one_word s ≡ false → (length (word_at s p) ≡ 0 → ⊥) → length (word_at s p) < length s
word_shorter s (suc p) o h = omega (arith, word_part s (suc p), word_long s (suc p), goes_some _ (goes s (suc p) h))
word_shorter s zero o h = elim (dec_le (length s) (length (word_at s 0))) [
  | yes k ↦ let e = one_whole s (omega (arith, within s 0, word_long s 0)) (omega (arith, within s 0, word_long s 0)) (goes s 0 h) in clash (cc)
  | no k ↦ omega arith
]

-- ---- where a name is parted

-- no prefix is empty
prefix_some : (p : List ℕ) → is_prefix Generic p ≡ true → 1 ≤ length p
unfolding is_prefix prefixes_of among same_text pick
prefix_some [] e = clash (cc)
prefix_some (b ∷ p) e = omega arith

module _ (s : List ℕ) (size rest : ℕ) (e : split_of s ≡ Leads size rest) where
  -- the prefix is not empty, the remainder stands behind it, and both within the name
  pub split_within : (size < rest) × (rest ≤ length s) × (1 ≤ size)
  split_within =
      split_all s (λ (x : Prefix). x ≡ Leads size rest → (size < rest) × (rest ≤ length s) × (1 ≤ size))
      (λ f q. let k : 1 ≡ size = cc in let l : 2 ≡ rest = cc in let m = prefix_within (100 ∷ 39 ∷ []) s f in (omega arith, omega arith, omega arith))
      (λ p f q.
      let k : length p ≡ size = cc in
      let l : suc (length p) ≡ rest = cc in
      let m = fits_within p s f.fits in
      let n = prefix_some p f.listed in
      (omega arith, omega arith, omega arith))
      (λ q. clash (cc)) e

  pub rest_shorter : length (drop rest s) < length s
  rest_shorter = let w = split_within in omega (arith, length-drop rest s)

  pub joined_shorter : length (joined_name size rest s) < length s
  unfolding joined_name
  joined_shorter = let w = split_within in omega (arith, length-append (take size s) (drop rest s), length-take size s, length-drop rest s)

-- ---- joined words are no longer than their name

-- the bytes of some words, with a space behind each
unfoldable room : List (List ℕ) → ℕ
room [] = 0
room (w ∷ ws) = suc (length w + room ws)

after_short : (w : List ℕ) → length (after_apostrophe w) ≤ length w
unfolding after_apostrophe
after_short [] = zero-le
after_short (b ∷ w) =
    pick_all (λ (l : List ℕ). length l ≤ suc (length w)) (has 39 w) _ _ (omega (arith, after_short w))
    (pick_all (λ (l : List ℕ). length l ≤ suc (length w)) (eqb b 39) _ _ (omega arith) (omega arith))

kept_short : (kind : NameType) (w : List ℕ) → length (kept_of kind w) ≤ length w
unfolding kept_of
kept_short Ashkenazi w = omega arith
kept_short Generic w = omega arith
kept_short Sephardic w = after_short w

remaining_room : (kind : NameType) (ws : List (List ℕ)) → room (remaining kind ws) ≤ room ws
unfolding remaining room
remaining_room kind [] = zero-le
remaining_room kind (w ∷ ws) =
    pick_all (λ (l : List (List ℕ)). room l ≤ suc (length w + room ws)) (drops_out kind (kept_of kind w)) _ _ (omega (arith, remaining_room kind ws))
    (omega (arith, remaining_room kind ws, kept_short kind w))

joined_room : (ws : List (List ℕ)) → length (joined_by_space ws) ≤ room ws - 1
unfolding joined_by_space room
joined_room [] = zero-le
joined_room (t ∷ []) = omega arith
joined_room (t ∷ u ∷ l) = omega (arith, joined_room (u ∷ l), length-append t (32 ∷ joined_by_space (u ∷ l)))

led_room : (b n : ℕ) (more : Bool) (ws : List (List ℕ)) → room ws ≤ pick more (suc n) n → room (led b more ws) ≤ suc (suc n)
unfolding led room pick
led_room b n more [] h = omega arith
led_room b n true (w ∷ ws) h = omega arith
led_room b n false (w ∷ ws) h = omega arith

most : (n : ℕ) (t : Bool) → pick t (suc n) n ≤ suc n
most n t = pick_all (λ (m : ℕ). m ≤ suc n) t _ _ (omega arith) (omega arith)

room_by : (b : ℕ) (s : List ℕ) (t : Bool) → room (words_of s) ≤ pick (goes_on s) (suc (length s)) (length s)
    → room (pick t (words_of s) (led b (goes_on s) (words_of s))) ≤ pick (not t) (suc (suc (length s))) (suc (length s))
unfolding pick
room_by b s true h = le_trans h (most (length s) (goes_on s))
room_by b s false h = led_room b (length s) (goes_on s) (words_of s) h

-- a text that starts with no word leaves a byte over
words_room : (s : List ℕ) → room (words_of s) ≤ pick (goes_on s) (suc (length s)) (length s)
unfolding words_of room goes_on pick
words_room [] = zero-le
words_room (b ∷ s) = room_by b s (eqb b 32) (words_room s)

pub joined_short : (kind : NameType) (s : List ℕ) → length (joined_words kind s) ≤ length s
unfolding joined_words
joined_short kind s = omega (arith, joined_room (remaining kind (words_of s)), remaining_room kind (words_of s), words_room s, most (length s) (goes_on s))

pub spaced_long : (s : List ℕ) → length (spaced s) ≡ length s
unfolding spaced
spaced_long s = length-map s _

pub ruleset names_laws = (words_none, words_next, word_later, past_within, word_within_lem, word_part, word_shorter, one_is, one_again, word_again, rest_shorter, joined_shorter, joined_short, spaced_long)
