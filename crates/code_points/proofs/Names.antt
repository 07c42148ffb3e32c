-- The words of a well-formed name are well formed: lower case, hyphens, prefixes, words, apostrophes. Assumes nothing.
use Rattle.std.specs.Prelude.{None}
use mathlib.Core.Path.{◌≡◌, refl, sym, ap, ◌∙◌}
use mathlib.Core.Bool.{Bool, true, false, not}
use mathlib.Core.List.{List, [], ◌∷◌}
use mathlib.Core.Logic.{⊎_elim}
use Prim.Native.Nat.{ℕ, zero, suc, ◌-◌, ◌<◌}
use native.Mathlib.Decide.{dec_lt}
use native.Mathlib.Numerals.{add-one}
use native.Mathlib.Omega.{arith}
use lib.Dec.{T, leb, eqb}
use lib.ListN.{length, get_or, take, drop, length-drop}
use lib.Seq.{drop-drop, take-append_seam, take_all, split_at}
use borrow.Author.Tests.{eqb-true, eqb-false}
use Rattle.base.specs.Pick.{pick, and}
use Rattle.base.proofs.Table.{at}
use Rattle.letters.specs.Utf8.{within, low_second, high_second, decode_at, encode}
use Rattle.letters.specs.Reading.{Symbol, ill_in, first_ill}
use Rattle.letters.specs.declared.utf8.Step.TheVariants.{Char}
use Rattle.letters.proofs.Utf8Laws.{char_at}
use Rattle.letters.proofs.ReadingLaws.{Pieces, end, one, bad, pieces_of}
use Rattle.lower_case.specs.Lower.{lower_table, lower_of, lower_in, lower_text}
use Rattle.lower_case.proofs.LowerLaws.{lower_in_lem, lower_past}
use Rattle.languages.specs.declared.sets.LanguageSet.{LanguageSet}
use Rattle.texts.specs.Parts.{tail}
use Rattle.texts.proofs.Laws.{prefix_split}
use Rattle.prefixes.specs.Prefixes.{generic, prefixes_of, prefix_fits, among, split_of, is_prefix}
use Rattle.prefixes.proofs.Longest.{among_cases, split_all}
use Rattle.prefixes.specs.declared.prefixes.NameType.{NameType}
use Rattle.prefixes.specs.declared.prefixes.NameType.TheVariants.{Ashkenazi, Generic, Sephardic}
use Rattle.prefixes.specs.declared.prefixes.Prefix.{Prefix}
use Rattle.prefixes.specs.declared.prefixes.Prefix.TheVariants.{Leads, Whole}
use Rattle.name_parts.specs.Words.{goes_on, led, words_of}
use Rattle.name_parts.specs.Joining.{spaced, joined_name, after_apostrophe, kept_of, drops_out, remaining, joined_by_space, joined_words}
use Rattle.name_parts.proofs.Laws.{one_is}
use Rattle.name_parts.proofs.JoinLaws.{Free, free_start, free_here, free_next, free_end}
use Rattle.pack.specs.Packs.{all}
use Rattle.choices.specs.Texts.{Text}
use Rattle.base.proofs.Arms.{clash}
use Rattle.engine.specs.Spelling.{Steps, parted_as}
use Rattle.answers.specs.Answers.{WordOf, all_joined, only_word, of_word, of_remainder, of_joined}
use Rattle.code_points.proofs.Bytes.{State, border, needs, lost, plain, next, high, step, after, Formed, after_append, formed_append, sign_border, char_formed}
use Rattle.code_points.proofs.Cuts.{Every, none, more, every_at, tail_formed, behind_formed}
use Rattle.base.proofs.PickLaws.{pick_all, and_inv}

-- ---- by a test that antt computes

is_border : State → Bool
is_border border = true
is_border (needs n lo hi) = false
is_border lost = false

is_border_lem : (q : State) → T (is_border q) → q ≡ border
unfolding is_border
is_border_lem border t = refl
is_border_lem (needs n lo hi) t = absurd t
is_border_lem lost t = absurd t

-- ---- lower case

lowered : ℕ → ℕ → Bool
lowered k x = is_border (after border (encode x))

entry_formed : (k : ℕ) → k < 384 → Formed (encode (get_or lower_table k 0))
unfolding lowered lower_table is_border after step plain next high within low_second high_second encode pick and
entry_formed k h = is_border_lem (after border (encode (get_or lower_table k 0))) (at lowered lower_table tt k h)

lower_formed : (s : Text) (p k n : ℕ) → decode_at s p ≡ Char k n → Formed (encode (lower_of k))
lower_formed s p k n e = elim (dec_lt k 384) [
  | yes h ↦ rw (← lower_in_lem k h) (entry_formed k h)
  | no g ↦ rw (← lower_past k (omega arith), (char_at s p k n e).bytes) (char_formed s p k n e)
]

pieces_lowered : {s : Text} {p : ℕ} {l : List Symbol} → Pieces s p l → ill_in l ≡ None → Formed (lower_in l)
unfolding ill_in lower_in after
pieces_lowered (end e) h = refl
pieces_lowered {s} {p} (one {k = k} {n = n} e r) h = formed_append border (encode (lower_of k)) _ (lower_formed s p k n e) (pieces_lowered r h)
pieces_lowered (bad e r) h = clash (cc)

pub lower_text_formed : (s : Text) → first_ill s ≡ None → Formed (lower_text s)
unfolding lower_text first_ill
lower_text_formed s h = pieces_lowered (pieces_of s) h

-- ---- hyphens

hyphen_by : (q : State) (x : ℕ) (t : Bool) → eqb x 45 ≡ t → step q (pick t 32 x) ≡ step q x
unfolding pick step
hyphen_by q x true e = rw (eqb-true x 45 e) refl
hyphen_by q x false e = refl

after_spaced : (q : State) (s : Text) → after q (spaced s) ≡ after q s
unfolding spaced after
after_spaced q [] = refl
after_spaced q (x ∷ s) = ap (λ (r : State). after r (spaced s)) (hyphen_by q x (eqb x 45) refl) ∙ after_spaced (step q x) s

pub spaced_formed : (s : Text) → Formed s → Formed (spaced s)
spaced_formed s f = after_spaced border s ∙ f

-- ---- words

-- the words from q on: the first goes on from it, or there is none under way
data WordsFrom (q : State) : Bool → List Text → Type 0 where
  going : {w : Text} {ws : List Text} → after q w ≡ border → Every Formed ws → WordsFrom q true (w ∷ ws)
  between : {ws : List Text} → q ≡ border → Every Formed ws → WordsFrom q false ws

words_all : {more : Bool} {ws : List Text} → WordsFrom border more ws → Every Formed ws
words_all (going f e) = more f e
words_all (between q e) = e

led_words : (q : State) (x : ℕ) {on : Bool} {ws : List Text} → WordsFrom (step q x) on ws → WordsFrom q true (led x on ws)
unfolding led pick after
led_words q x (going f e) = going f e
led_words q x (between {ws = []} f e) = going f none
led_words q x (between {ws = w ∷ ws} f e) = going f e

words_by : (q : State) (x : ℕ) (s : Text) (t : Bool) → eqb x 32 ≡ t → ((r : State) → after r s ≡ border → WordsFrom r (goes_on s) (words_of s)) → after q (x ∷ s) ≡ border
    → WordsFrom q (not t) (pick t (words_of s) (led x (goes_on s) (words_of s)))
unfolding pick after
words_by q x s true e ih f =
    let w = sign_border q x s (ap (λ (n : ℕ). leb n 0x7F) (eqb-true x 32 e)) f in
    between w.0 (words_all (ih border w.1))
words_by q x s false e ih f = led_words q x (ih (step q x) f)

words_from : (q : State) (s : Text) → after q s ≡ border → WordsFrom q (goes_on s) (words_of s)
unfolding words_of goes_on after
words_from q [] f = between f none
words_from q (x ∷ s) f = words_by q x s (eqb x 32) refl (λ r g. words_from r s g) f

words_formed : (s : Text) → Formed s → Every Formed (words_of s)
words_formed s f = words_all (words_from border s f)

first_formed : {w : Text} {ws : List Text} → Every Formed (w ∷ ws) → Formed w
first_formed (more f e) = f

-- ---- apostrophes

-- what follows a byte below 80 at a place
behind_sign : (s : Text) (i : ℕ) → i < length s → leb (get_or s i 0) 0x7F ≡ true → Formed s → Formed (drop (suc i) s)
behind_sign s i h b f =
    (sign_border (after border (take i s)) (get_or s i 0) (drop (suc i) s) b (sym (after_append border (take i s) _) ∙ ap (after border) (sym (split_at s i 0 h)) ∙ f)).1

module _ (w : Text) (f : Formed w) where
  after_by : (i : ℕ) (t : Bool) → Free w (suc i) → eqb (get_or w i 0) 39 ≡ t → (Free w i → Formed (after_apostrophe w)) → Formed (after_apostrophe w)
  after_by i true r e ih =
      let n : suc i - 1 ≡ i = omega arith in
      let sign : get_or w i 0 ≡ 39 = eqb-true (get_or w i 0) 39 e in
      let here : take (length w - suc i) (drop (suc i) w) ≡ after_apostrophe w = free_here w (suc i) r (omega arith) (rw n sign) in
      let all : take (length w - suc i) (drop (suc i) w) ≡ drop (suc i) w = take_all (length w - suc i) (drop (suc i) w) (omega (arith, length-drop (suc i) w)) in
      ap (after border) (sym here ∙ all) ∙ behind_sign w i (omega (arith, r.within)) (ap (λ (b : ℕ). leb b 0x7F) sign) f
  after_by i false r e ih =
      let n : suc i - 1 ≡ i = omega arith in
      ih (rw n at (free_next w (suc i) r (omega arith) (rw n (eqb-false _ _ e))))

  after_formed : (i : ℕ) → Free w i → Formed (after_apostrophe w)
  after_formed zero r = ap (after border) (sym (free_end w 0 r (omega arith))) ∙ f
  after_formed (suc i) r = after_by i (eqb (get_or w i 0) 39) r refl (after_formed i)

kept_formed : (kind : NameType) (w : Text) → Formed w → Formed (kept_of kind w)
unfolding kept_of
kept_formed Ashkenazi w f = f
kept_formed Generic w f = f
kept_formed Sephardic w f = after_formed w f (length w) (free_start w)

remaining_formed : (kind : NameType) {ws : List Text} → Every Formed ws → Every Formed (remaining kind ws)
unfolding remaining
remaining_formed kind none = none
remaining_formed kind (more {x = w} f e) = pick_all (Every Formed) (drops_out kind (kept_of kind w)) _ _ (remaining_formed kind e) (more (kept_formed kind w f) (remaining_formed kind e))

space_formed : {ws : List Text} → Every Formed ws → Formed (joined_by_space ws)
unfolding joined_by_space after step plain pick
space_formed none = refl
space_formed (more f none) = f
space_formed (more {x = w} f (more g e)) = formed_append border w _ f (space_formed (more g e))

-- ---- prefixes

every_by : (ps : List Text) → all (λ (p : Text). is_border (after border p)) ps ≡ true → Every Formed ps
unfolding all
every_by [] e = none
every_by (p ∷ ps) e = let w = and_inv _ _ e in more (is_border_lem (after border p) (rw w.0 tt)) (every_by ps w.1)

PartsFormed : Prefix → Text → Type 0
PartsFormed (Leads size rest) s = Formed (take size s) × Formed (drop rest s)
PartsFormed Whole s = Unit {0}

tail_drop : (s : Text) → tail s ≡ drop 1 s
unfolding tail
tail_drop [] = refl
tail_drop (x ∷ s) = refl

fit_formed : (p s : Text) → prefix_fits p s ≡ true → Formed p → Formed s → PartsFormed (Leads (length p) (suc (length p))) s
unfolding prefix_fits PartsFormed
fit_formed p s e f g =
    let w = and_inv _ _ e in
    let split = prefix_split p s w.0 in
    let front : take (length p) s ≡ p = ap (take (length p)) (sym split) ∙ take-append_seam p (drop (length p) s) in
    let rest : tail (drop (length p) s) ≡ drop (suc (length p)) s = tail_drop (drop (length p) s) ∙ drop-drop 1 (length p) s ∙ ap (λ (n : ℕ). drop n s) (add-one (length p)) in
    (rw front f, rw rest at (tail_formed 32 refl (drop (length p) s) w.1 (behind_formed p s w.0 f g)))

generic_formed : Every Formed (prefixes_of Generic)
unfolding prefixes_of all is_border after step plain pick and
generic_formed = every_by generic refl

prefix_formed : (p : Text) {ps : List Text} → Every Formed ps → among ps p ≡ true → Formed p
unfolding among
prefix_formed p none m = clash (cc)
prefix_formed p (more {x = q} {l = ps} f e) m = ⊎_elim (λ k. rw k at f) (λ k. prefix_formed p e k) (among_cases q p ps m)

split_formed : (s : Text) → Formed s → PartsFormed (split_of s) s
unfolding pick PartsFormed after step plain is_prefix
split_formed s f =
    split_all s (λ (x : Prefix). PartsFormed x s)
    (λ e. (ap (λ (t : Text). after border (take 1 t)) (sym (prefix_split (100 ∷ 39 ∷ []) s e)), behind_formed (100 ∷ 39 ∷ []) s e refl f))
    (λ p g. fit_formed p s g.fits (prefix_formed p generic_formed g.listed) f)
    tt

parted_formed : (kind : NameType) (s : Text) → Formed s → PartsFormed (parted_as kind s) s
unfolding parted_as PartsFormed
parted_formed Ashkenazi s f = tt
parted_formed Generic s f = split_formed s f
parted_formed Sephardic s f = tt

-- ---- the words of a name

pub word_formed : {c : Steps} {g h : LanguageSet} {s w : Text} → WordOf c g s h w → Formed s → Formed w
unfolding joined_words joined_name PartsFormed
word_formed {c} (all_joined {s = s} p q) f = space_formed (remaining_formed c.kind (words_formed s f))
word_formed (only_word {s = s} p q o) f = first_formed (rw (one_is s o) at (words_formed s f))
word_formed (of_word {s = s} {t = t} p q o m d) f = word_formed d (every_at (words_formed s f) t m)
word_formed {c} (of_remainder {s = s} p d) f = word_formed d (rw p at (parted_formed c.kind s f)).1
word_formed {c} (of_joined {s = s} {size = size} {rest = rest} p d) f =
    let w = rw p at (parted_formed c.kind s f) in
    word_formed d (formed_append border (take size s) (drop rest s) w.0 w.1)
