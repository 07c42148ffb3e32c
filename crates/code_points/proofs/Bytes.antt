-- Reading a text byte by byte: after each byte it stands between two characters, within one, or is lost. A text is well formed where
-- its end stands between two. So cutting and joining texts needs no look at whole characters. Assumes nothing.
use Rattle.std.specs.Prelude.{None}
use mathlib.Core.Path.{◌≡◌, refl, sym, ap, ◌∙◌}
use mathlib.Core.Bool.{Bool, true, false}
use mathlib.Core.List.{List, [], ◌∷◌, ◌++◌}
use Prim.Native.Nat.{ℕ, zero, suc, ◌+◌, ◌≤◌}
use native.Mathlib.Omega.{arith}
use lib.Dec.{leb}
use lib.ListN.{length, get_or, take, drop, take-append-drop, drop_of_length-le}
use lib.Seq.{drop-drop, get_or-drop}
use borrow.Author.Tests.{leb-true, lt-leb, lt-ltb}
use Rattle.base.specs.Pick.{pick, and}
use Rattle.letters.specs.Utf8.{within, low_second, high_second, decode2, decode3, decode4, decode_bytes, decode_at}
use Rattle.letters.specs.Reading.{Symbol, ill_in, first_ill}
use Rattle.letters.specs.declared.utf8.Step.{Step}
use Rattle.letters.specs.declared.utf8.Step.TheVariants.{Char, Ill, End}
use Rattle.letters.proofs.Utf8Laws.{end_at}
use Rattle.letters.proofs.CodesLaws.{decode_drop}
use Rattle.letters.proofs.ReadingLaws.{Pieces, end, one, bad, pieces_of}
use Rattle.choices.specs.Texts.{Text}
use Rattle.base.proofs.Arms.{clash}
use Rattle.base.proofs.PickLaws.{pick_all, and_inv, pick_and}

-- between two characters; within one, where so many bytes follow the next one, which lies within two bounds; or lost
pub data State : Type 0 where
  border : State
  needs : ℕ → ℕ → ℕ → State
  lost : State

-- a byte below 80 is a character of its own
unfoldable pub plain : State → State
plain border = border
plain (needs n lo hi) = lost
plain lost = lost

-- where so many bytes are still to come
unfoldable pub next : ℕ → State
next zero = border
next (suc n) = needs n 0x80 0xBF

unfoldable pub high : State → ℕ → State
high border a =
    pick (within 0xC2 0xDF a) (needs 0 0x80 0xBF)
    (pick (within 0xE0 0xEF a) (needs 1 (low_second a) (high_second a)) (pick (within 0xF0 0xF4 a) (needs 2 (low_second a) (high_second a)) lost))
high (needs n lo hi) b = pick (within lo hi b) (next n) lost
high lost b = lost

unfoldable pub step : State → ℕ → State
step q b = pick (leb b 0x7F) (plain q) (high q b)

unfoldable pub after : State → Text → State
after q [] = q
after q (x ∷ s) = after (step q x) s

abbrev pub Formed : Text → Type 0
Formed t = after border t ≡ border

-- ---- joining and cutting

pub after_append : (q : State) (s t : Text) → after q (s ++ t) ≡ after (after q s) t
unfolding after
after_append q [] t = refl
after_append q (x ∷ s) t = after_append (step q x) s t

pub formed_append : (q : State) (s t : Text) → after q s ≡ border → Formed t → after q (s ++ t) ≡ border
formed_append q s t e f = after_append q s t ∙ ap (λ (r : State). after r t) e ∙ f

-- what follows a well-formed beginning
pub formed_rest : (s t : Text) → Formed s → Formed (s ++ t) → Formed t
formed_rest s t e f = ap (λ (r : State). after r t) (sym e) ∙ sym (after_append border s t) ∙ f

lost_stays : (s : Text) → after lost s ≡ border → ⊥
unfolding after step plain high
lost_stays [] e = clash (cc)
lost_stays (x ∷ s) e = lost_stays s (ap (λ (r : State). after r s) (sym (pick_all (λ (r : State). r ≡ lost) (leb x 0x7F) lost lost refl refl)) ∙ e)

-- around a byte below 80 the text stands between two characters
plain_border : (q : State) (s : Text) → after (plain q) s ≡ border → (q ≡ border) × Formed s
unfolding plain
plain_border border s e = (refl, e)
plain_border (needs n lo hi) s e = absurd (lost_stays s e)
plain_border lost s e = absurd (lost_stays s e)

pub sign_border : (q : State) (x : ℕ) (s : Text) → leb x 0x7F ≡ true → after q (x ∷ s) ≡ border → (q ≡ border) × Formed s
unfolding after step pick
sign_border q x s h e = plain_border q s (rw h at e)

-- ---- bytes that end a character

-- one more byte than n, the first within two bounds
tails : ℕ → ℕ → ℕ → Text → Bool
tails zero lo hi s = within lo hi (get_or s 0 0)
tails (suc n) lo hi s = and (within lo hi (get_or s 0 0)) (tails n 0x80 0xBF (drop 1 s))

within_low : (lo hi b : ℕ) → 0x80 ≤ lo → within lo hi b ≡ true → 0x80 ≤ b
unfolding within
within_low lo hi b h e = omega (arith, leb-true lo b (and_inv _ _ e).0)

module _ (n lo hi b : ℕ) where
  step_in : 0x80 ≤ lo → within lo hi b ≡ true → step (needs n lo hi) b ≡ next n
  unfolding step high pick
  step_in h e = rw (lt-leb b 0x7F (omega (arith, within_low lo hi b h e)), e) refl

  step_out : within lo hi b ≡ false → step (needs n lo hi) b ≡ lost
  unfolding step plain high pick
  step_out e = rw e (pick_all (λ (r : State). r ≡ lost) (leb b 0x7F) lost lost refl refl)

enough : (n lo hi : ℕ) (s : Text) → 0x80 ≤ lo → tails n lo hi s ≡ true → after (needs n lo hi) (take (suc n) s) ≡ border
unfolding after tails next
enough zero lo hi [] h e = absurd (omega (arith, within_low lo hi 0 h e))
enough (suc n) lo hi [] h e = absurd (omega (arith, within_low lo hi 0 h (and_inv _ _ e).0))
enough zero lo hi (b ∷ s) h e = step_in 0 lo hi b h e
enough (suc n) lo hi (b ∷ s) h e =
    ap (λ (q : State). after q (take (suc n) s)) (step_in (suc n) lo hi b h (and_inv _ _ e).0) ∙ enough n 0x80 0xBF s (omega arith) (and_inv _ _ e).1

lost_at : (n lo hi b : ℕ) (s : Text) → within lo hi b ≡ false → after (needs n lo hi) (b ∷ s) ≡ border → ⊥
unfolding after
lost_at n lo hi b s e f = lost_stays s (ap (λ (q : State). after q s) (sym (step_out n lo hi b e)) ∙ f)

short_by : (n lo hi b : ℕ) (s : Text) (t : Bool) → (after (needs n 0x80 0xBF) s ≡ border → tails n 0x80 0xBF s ≡ false → ⊥) → 0x80 ≤ lo → within lo hi b ≡ t
    → and t (tails n 0x80 0xBF s) ≡ false → after (needs (suc n) lo hi) (b ∷ s) ≡ border → ⊥
unfolding after and next
short_by n lo hi b s true ih h w e f = ih (ap (λ (q : State). after q s) (sym (step_in (suc n) lo hi b h w)) ∙ f) e
short_by n lo hi b s false ih h w e f = lost_at (suc n) lo hi b s w f

short : (n lo hi : ℕ) (s : Text) → 0x80 ≤ lo → tails n lo hi s ≡ false → after (needs n lo hi) s ≡ border → ⊥
unfolding after tails
short n lo hi [] h e f = clash (cc)
short zero lo hi (b ∷ s) h e f = lost_at zero lo hi b s e f
short (suc n) lo hi (b ∷ s) h e f = short_by n lo hi b s (within lo hi b) (λ g d. short n 0x80 0xBF s (omega arith) d g) h refl e f

-- ---- what is read at the front of a text

-- a character is well formed, a text that begins with none is not
Reads : Step → Text → Type 0
Reads (Char k n) s = Formed (take n s)
Reads Ill s = Formed s → ⊥
Reads End s = s ≡ []

module _ (a : ℕ) (s : Text) where
  reads_by : (n lo hi k : ℕ) (t : Bool) → step border a ≡ needs n lo hi → 0x80 ≤ lo → tails n lo hi s ≡ t → Reads (pick t (Char k (suc (suc n))) Ill) (a ∷ s)
  unfolding Reads pick after
  reads_by n lo hi k true q h e = ap (λ (r : State). after r (take (suc n) s)) q ∙ enough n lo hi s h e
  reads_by n lo hi k false q h e = λ f. short n lo hi s h e (ap (λ (r : State). after r s) (sym q) ∙ f)

low_second_lem : (a : ℕ) → 0x80 ≤ low_second a
unfolding low_second
low_second_lem a = pick_all (λ (n : ℕ). 0x80 ≤ n) _ _ _ (omega arith) (pick_all (λ (n : ℕ). 0x80 ≤ n) _ _ _ (omega arith) (omega arith))

module _ (a : ℕ) (s : Text) where
  reads_3 : step border a ≡ needs 1 (low_second a) (high_second a) → Reads (decode3 a (get_or s 0 0) (get_or s 1 0)) (a ∷ s)
  unfolding decode3 tails
  reads_3 q = rw (← get_or-drop 1 s 0 0, ← pick_and) (reads_by a s 1 _ _ _ _ q (low_second_lem a) refl)

  reads_4 : step border a ≡ needs 2 (low_second a) (high_second a) → Reads (decode4 a (get_or s 0 0) (get_or s 1 0) (get_or s 2 0)) (a ∷ s)
  unfolding decode4 tails
  reads_4 q =
      rw (← get_or-drop 1 s 1 0, ← get_or-drop 1 (drop 1 s) 0 0, ← get_or-drop 1 s 0 0, ← pick_and (within 0x80 0xBF (get_or (drop 1 s) 0 0)), ← pick_and)
      (reads_by a s 2 _ _ _ _ q (low_second_lem a) refl)

  reads_first : (t u v w : Bool) → leb a 0x7F ≡ t → within 0xC2 0xDF a ≡ u → within 0xE0 0xEF a ≡ v → within 0xF0 0xF4 a ≡ w
      → Reads (pick t (Char a 1) (pick u (decode2 a (get_or s 0 0)) (pick v (decode3 a (get_or s 0 0) (get_or s 1 0)) (pick w (decode4 a (get_or s 0 0) (get_or s 1 0) (get_or s 2 0)) Ill)))) (a ∷ s)
  unfolding pick Reads after step plain high decode2 tails
  reads_first true u v w e f g h = rw e refl
  reads_first false true v w e f g h = reads_by a s 0 _ _ _ _ (rw (e, f) refl) (omega arith) refl
  reads_first false false true w e f g h = reads_3 (rw (e, f, g) refl)
  reads_first false false false true e f g h = reads_4 (rw (e, f, g, h) refl)
  reads_first false false false false e f g h = λ q. lost_stays s (rw (e, f, g, h) at q)

reads : (s : Text) → Reads (decode_at s 0) s
unfolding decode_at decode_bytes pick Reads
reads [] = refl
reads (a ∷ s) = rw (lt-ltb 0 (suc (length s)) (omega arith)) (reads_first a s _ _ _ _ refl refl refl refl)

module _ (s : Text) (p : ℕ) where
  reads_at : Reads (decode_at s p) (drop p s)
  reads_at =
      let here : p + 0 ≡ p = omega arith in
      rw (decode_drop s p 0 ∙ ap (decode_at s) here) at (reads (drop p s))

  module _ (k n : ℕ) (e : decode_at s p ≡ Char k n) where
    pub char_formed : Formed (take n (drop p s))
    unfolding Reads
    char_formed = rw e at reads_at

    split : take n (drop p s) ++ drop (p + n) s ≡ drop p s
    split = ap (λ (r : Text). take n (drop p s) ++ r) (sym (drop-drop n p s)) ∙ take-append-drop n (drop p s)

    pub char_rest : Formed (drop p s) → Formed (drop (p + n) s)
    char_rest f = formed_rest (take n (drop p s)) (drop (p + n) s) char_formed (rw split f)

    char_whole : Formed (drop (p + n) s) → Formed (drop p s)
    char_whole f = rw split at (formed_append border (take n (drop p s)) (drop (p + n) s) char_formed f)

  pub ill_not : decode_at s p ≡ Ill → Formed (drop p s) → ⊥
  unfolding Reads
  ill_not e = rw e at reads_at

-- ---- the two ways to say it

formed_by : {s : Text} {p : ℕ} {l : List Symbol} → Pieces s p l → ill_in l ≡ None → Formed (drop p s)
unfolding ill_in after
formed_by {s} {p} (end e) h = rw (drop_of_length-le s (end_at s p e)) refl
formed_by {s} {p} (one {k = k} {n = n} e r) h = char_whole s p k n e (formed_by r h)
formed_by (bad e r) h = clash (cc)

ill_by : {s : Text} {p : ℕ} {l : List Symbol} → Pieces s p l → Formed (drop p s) → ill_in l ≡ None
unfolding ill_in
ill_by (end e) f = refl
ill_by {s} {p} (one {k = k} {n = n} e r) f = ill_by r (char_rest s p k n e f)
ill_by {s} {p} (bad e r) f = absurd (ill_not s p e f)

pub formed_of : (s : Text) → first_ill s ≡ None → Formed s
unfolding first_ill
formed_of s h = formed_by (pieces_of s) h

pub never_ill : (s : Text) → Formed s → first_ill s ≡ None
unfolding first_ill
never_ill s f = ill_by (pieces_of s) f
