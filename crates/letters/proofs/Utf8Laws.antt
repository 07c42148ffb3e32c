-- What stands at a place: the four shapes of a character, that it ends within the slice, that its bytes are its encoding, and that an encoding reads back.
-- Assumes nothing.
use mathlib.Core.Path.{◌≡◌, refl, sym, ap, ap₂, ◌∙◌}
use mathlib.Core.Bool.{Bool, true, false}
use mathlib.Core.List.{List, [], ◌∷◌, ◌++◌}
use mathlib.Core.Logic.{◌⊎◌, inl, inr, ⊎_elim}
use Prim.Native.Nat.{ℕ, zero, suc, ◌+◌, ◌*◌, ◌/◌, ◌%◌, ◌≤◌, ◌<◌}
use native.Mathlib.Nat.{lt_of_not-le}
use native.Mathlib.Decide.{dec_lt}
use native.Mathlib.Omega.{arith}
use lib.Dec.{leb, eqb}
use lib.ListN.{length, get_or, take, drop, get_or-eq_default, take-append-drop, length-drop}
use lib.Seq.{drop-drop, ext_get_or, length-take-le, get_or-take, get_or-drop}
use borrow.Author.Rules.{rules}
use borrow.Author.Tests.{leb-true, ltb-true, ltb-false, eqb-true, eqb-false, lt-ltb, le-ltb, le-leb, lt-leb}
use Rattle.base.specs.Pick.{pick}
use Rattle.letters.specs.Utf8.{within, low_second, high_second, code2, code3, code4, decode2, decode3, decode4, decode_bytes, decode_at, encode}
use Rattle.letters.specs.declared.utf8.Step.{Step}
use Rattle.letters.specs.declared.utf8.Step.TheVariants.{Char, Ill, End}
use Rattle.base.proofs.PickLaws.{pick_inv, pick_all, and_inv, and_yes, and_first, and_no, pick_yes, pick_no, pick_true, pick_false}

-- ---- as the code goes

pub char_of : {k k' n : ℕ} → k ≡ k' → Char k n ≡ Char k' n
char_of {n = n} e = ap (λ (x : ℕ). Char x n) e

-- the second byte's test, where its bounds are what two calls returned
pub second_by : (a b l h : ℕ) (t v : Bool) → l ≡ low_second a → h ≡ high_second a → t ≡ within l h b → t ≡ v → within (low_second a) (high_second a) b ≡ v
second_by a b l h t v p q e f = rw (← p, ← q, ← e) f

pub decode_at_in : (s : List ℕ) (p a b c d : ℕ) (r : Step) → p < length s → a ≡ get_or s p 0 → b ≡ get_or s (p + 1) 0 → c ≡ get_or s (p + 2) 0 → d ≡ get_or s (p + 3) 0
    → r ≡ decode_bytes a b c d → r ≡ decode_at s p
unfolding decode_at
decode_at_in s p a b c d r h ea eb ec ed e = rw (← ea, ← eb, ← ec, ← ed) (pick_yes _ _ _ _ (lt-ltb p (length s) h) e)

pub decode_one : (s : List ℕ) (p : ℕ) → p < length s → get_or s p 0 ≤ 0x7F → Char (get_or s p 0) 1 ≡ decode_at s p
unfolding decode_bytes
decode_one s p h l = decode_at_in s p _ _ _ _ _ h refl refl refl refl (pick_yes _ _ _ _ (le-leb _ _ l) refl)

pub decode_none : (s : List ℕ) (p : ℕ) → length s ≤ p → End ≡ decode_at s p
unfolding decode_at
decode_none s p h = pick_no _ _ _ _ (le-ltb _ _ h) refl

pub decode_two : (s : List ℕ) (p a b : ℕ) (t : Bool) (r : Step) → p < length s → a ≡ get_or s p 0 → 0x7F < a → t ≡ within 0xC2 0xDF a → t ≡ true → b ≡ get_or s (p + 1) 0 → r ≡ decode2 a b → r ≡ decode_at s p
unfolding decode_bytes
decode_two s p a b t r h e l w q f g =
    g ∙ decode_at_in s p a b _ _ _ h e f refl refl (sym (pick_false _ _ _ (lt-leb _ _ l) ∙ pick_true _ _ _ (sym w ∙ q)))

pub ruleset decode_laws = (decode_one, decode_two, decode_none, rules)

-- ---- the shapes

pub record Within (lo hi b : ℕ) : Type 0 where
  pub low : lo ≤ b
  pub high : b ≤ hi

within_is : (lo hi b : ℕ) → within lo hi b ≡ true → Within lo hi b
unfolding within
within_is lo hi b e = let w = and_inv (leb lo b) (leb b hi) e in record { low = leb-true lo b w.0; high = leb-true b hi w.1 }

-- a character of n bytes, the first of a, b, c, d, whose code point is k
pub data Shape (a b c d k : ℕ) : ℕ → Type 0 where
  of_one : a ≤ 0x7F → k ≡ a → Shape a b c d k 1
  of_two : Within 0xC2 0xDF a → Within 0x80 0xBF b → k ≡ a % 32 * 64 + b % 64 → Shape a b c d k 2
  of_three : Within 0xE0 0xEF a → Within 0x80 0xBF b → Within 0x80 0xBF c → 0x800 ≤ k → k ≡ a % 16 * 4096 + b % 64 * 64 + c % 64 → Shape a b c d k 3
  of_four : Within 0xF0 0xF4 a → Within 0x80 0xBF b → Within 0x80 0xBF c → Within 0x80 0xBF d → 0x10000 ≤ k → k ≡ a % 8 * 262144 + b % 64 * 4096 + c % 64 * 64 + d % 64 → Shape a b c d k 4

-- what the second byte's range says: within 80 and BF, and the code point is not overlong
record Second (a b : ℕ) : Type 0 where
  tail : Within 0x80 0xBF b
  three : (0xA0 ≤ b) ⊎ (a ≡ 0xE0 → ⊥)
  four : (0x90 ≤ b) ⊎ (a ≡ 0xF0 → ⊥)

low_by : (a b : ℕ) (t u : Bool) → eqb a 0xE0 ≡ t → eqb a 0xF0 ≡ u → pick t 0xA0 (pick u 0x90 0x80) ≤ b
    → (0x80 ≤ b) × ((0xA0 ≤ b) ⊎ (a ≡ 0xE0 → ⊥)) × ((0x90 ≤ b) ⊎ (a ≡ 0xF0 → ⊥))
unfolding pick
low_by a b true u p q h = (omega arith, inl h, inl (omega arith))
low_by a b false true p q h = (omega arith, inr (eqb-false a 0xE0 p), inl h)
low_by a b false false p q h = (h, inr (eqb-false a 0xE0 p), inr (eqb-false a 0xF0 q))

high_by : (b : ℕ) (t u : Bool) → b ≤ pick t 0x9F (pick u 0x8F 0xBF) → b ≤ 0xBF
unfolding pick
high_by b true u h = omega arith
high_by b false true h = omega arith
high_by b false false h = h

second_is : (a b : ℕ) → within (low_second a) (high_second a) b ≡ true → Second a b
unfolding low_second high_second
second_is a b e =
    let w = within_is (low_second a) (high_second a) b e in
    let l = low_by a b (eqb a 0xE0) (eqb a 0xF0) refl refl w.low in
    record { tail = record { low = l.0; high = high_by b _ _ w.high }; three = l.1; four = l.2 }

-- two steps that differ
differ : {A : Type 0} {k n : ℕ} → Ill ≡ Char k n → A
differ e = let z : ◌≡◌ {A = ℕ} 0 1 = cc in absurd (omega arith)

module _ (a b c d k n : ℕ) where
  shape_one : a ≤ 0x7F → Char a 1 ≡ Char k n → Shape a b c d k n
  shape_one h e = let m : n ≡ 1 = cc in rw m (of_one h (cc))

  shape_two : Within 0xC2 0xDF a → decode2 a b ≡ Char k n → Shape a b c d k n
  unfolding decode2 code2
  shape_two h e = ⊎_elim (λ w. let v = w.1 in let m : n ≡ 2 = cc in rw m (of_two h (within_is _ _ b w.0) (cc))) (λ w. differ w.1) (pick_inv _ _ _ _ e)

  shape_three : Within 0xE0 0xEF a → decode3 a b c ≡ Char k n → Shape a b c d k n
  unfolding decode3 code3
  shape_three h e = ⊎_elim (λ w. ⊎_elim (λ v. let q = second_is a b w.0 in let u = v.1 in
      let m : n ≡ 3 = cc in
      let kk : k ≡ a % 16 * 4096 + b % 64 * 64 + c % 64 = cc in
      let big : 0x800 ≤ k = ⊎_elim (λ x. let t = q.tail in omega arith) (λ x. let t = q.tail in omega arith) q.three in
      rw m (of_three h q.tail (within_is _ _ c v.0) big kk)) (λ v. differ v.1) (pick_inv _ _ _ _ w.1)) (λ w. differ w.1) (pick_inv _ _ _ _ e)

  shape_four : Within 0xF0 0xF4 a → decode4 a b c d ≡ Char k n → Shape a b c d k n
  unfolding decode4 code4
  shape_four h e = ⊎_elim (λ w. ⊎_elim (λ v. ⊎_elim (λ y. let q = second_is a b w.0 in let u = y.1 in
      let m : n ≡ 4 = cc in
      let kk : k ≡ a % 8 * 262144 + b % 64 * 4096 + c % 64 * 64 + d % 64 = cc in
      let big : 0x10000 ≤ k = ⊎_elim (λ x. let t = q.tail in omega arith) (λ x. let t = q.tail in omega arith) q.four in
      rw m (of_four h q.tail (within_is _ _ c v.0) (within_is _ _ d y.0) big kk)) (λ y. differ y.1) (pick_inv _ _ _ _ v.1)) (λ v. differ v.1) (pick_inv _ _ _ _ w.1)) (λ w. differ w.1) (pick_inv _ _ _ _ e)

  pub shape_of : decode_bytes a b c d ≡ Char k n → Shape a b c d k n
  unfolding decode_bytes
  shape_of e =
      ⊎_elim (λ w. shape_one (leb-true a 0x7F w.0) w.1)
      (λ w. ⊎_elim (λ v. shape_two (within_is _ _ a v.0) v.1)
      (λ v. ⊎_elim (λ x. shape_three (within_is _ _ a x.0) x.1)
      (λ x. ⊎_elim (λ y. shape_four (within_is _ _ a y.0) y.1) (λ y. differ y.1) (pick_inv _ _ _ _ x.1))
      (pick_inv _ _ _ _ v.1)) (pick_inv _ _ _ _ w.1)) (pick_inv _ _ _ _ e)

-- ---- what the shapes give

-- the bytes of a character are its encoding
pub encode_one : (k : ℕ) → k < 0x80 → encode k ≡ k ∷ []
unfolding encode pick
encode_one k h = rw (lt-ltb k 0x80 h) refl

pub encode_two : (k : ℕ) → 0x80 ≤ k → k < 0x800 → encode k ≡ (0xC0 + k / 64) ∷ (0x80 + k % 64) ∷ []
unfolding encode pick
encode_two k l h = rw (le-ltb k 0x80 l, lt-ltb k 0x800 h) refl

pub encode_three : (k : ℕ) → 0x800 ≤ k → k < 0x10000 → encode k ≡ (0xE0 + k / 4096) ∷ (0x80 + k / 64 % 64) ∷ (0x80 + k % 64) ∷ []
unfolding encode pick
encode_three k l h = let m : 0x80 ≤ k = omega arith in rw (le-ltb k 0x80 m, le-ltb k 0x800 l, lt-ltb k 0x10000 h) refl

pub encode_four : (k : ℕ) → 0x10000 ≤ k → encode k ≡ (0xF0 + k / 262144) ∷ (0x80 + k / 4096 % 64) ∷ (0x80 + k / 64 % 64) ∷ (0x80 + k % 64) ∷ []
unfolding encode pick
encode_four k l = let m : 0x80 ≤ k = omega arith in let o : 0x800 ≤ k = omega arith in rw (le-ltb k 0x80 m, le-ltb k 0x800 o, le-ltb k 0x10000 l) refl

bytes_2 : {a a' b b' : ℕ} → a ≡ a' → b ≡ b' → ◌≡◌ {A = List ℕ} (a ∷ b ∷ []) (a' ∷ b' ∷ [])
bytes_2 p q = cc

bytes_3 : {a a' b b' c c' : ℕ} → a ≡ a' → b ≡ b' → c ≡ c' → ◌≡◌ {A = List ℕ} (a ∷ b ∷ c ∷ []) (a' ∷ b' ∷ c' ∷ [])
bytes_3 p q r = cc

bytes_4 : {a a' b b' c c' d d' : ℕ} → a ≡ a' → b ≡ b' → c ≡ c' → d ≡ d' → ◌≡◌ {A = List ℕ} (a ∷ b ∷ c ∷ d ∷ []) (a' ∷ b' ∷ c' ∷ d' ∷ [])
bytes_4 p q r s = cc

shape_bytes : {a b c d k n : ℕ} → Shape a b c d k n → encode k ≡ take n (a ∷ b ∷ c ∷ d ∷ [])
shape_bytes {a} {k = k} (of_one h e) = encode_one k (omega arith) ∙ ap (λ (x : ℕ). x ∷ []) e
shape_bytes {k = k} (of_two g h e) = encode_two k (omega arith) (omega arith) ∙ bytes_2 (omega arith) (omega arith)
shape_bytes {k = k} (of_three g h i l e) = encode_three k l (omega arith) ∙ bytes_3 (omega arith) (omega arith) (omega arith)
shape_bytes {k = k} (of_four g h i j l e) = encode_four k l ∙ bytes_4 (omega arith) (omega arith) (omega arith) (omega arith)

shape_sizes : {a b c d k n : ℕ} → Shape a b c d k n → (k < 0x200000) × (1 ≤ n) × (n ≤ 4) × (2 ≤ n → 1 ≤ b) × (3 ≤ n → 1 ≤ c) × (4 ≤ n → 1 ≤ d)
shape_sizes (of_one h e) = omega arith
shape_sizes (of_two g h e) = omega arith
shape_sizes (of_three g h i l e) = omega arith
shape_sizes (of_four g h i j l e) = omega arith

-- ---- at a place

-- what is at least 1 is no byte past the end
in_by_byte : (s : List ℕ) (i : ℕ) → 1 ≤ get_or s i 0 → i < length s
in_by_byte s i h = lt_of_not-le (λ l. omega (arith, get_or-eq_default s 0 l))

-- the character that stands at p of s: it ends within s
pub record CharAt (s : List ℕ) (p k n : ℕ) : Type 0 where
  pub start : p < length s
  pub some : 1 ≤ n
  pub few : n ≤ 4
  pub four : k < 0x200000
  pub end : p + n ≤ length s
  pub bytes : encode k ≡ take n (drop p s)

-- the four bytes from p on, of which n that lie within s are its part
four_at_lem : (s : List ℕ) (p i : ℕ) → i < 4 → get_or (get_or s p 0 ∷ get_or s (p + 1) 0 ∷ get_or s (p + 2) 0 ∷ get_or s (p + 3) 0 ∷ []) i 0 ≡ get_or s (p + i) 0
four_at_lem s p zero h = ap (λ (m : ℕ). get_or s m 0) (omega arith)
four_at_lem s p (suc zero) h = refl
four_at_lem s p (suc (suc zero)) h = refl
four_at_lem s p (suc (suc (suc zero))) h = refl
four_at_lem s p (suc (suc (suc (suc i)))) h = absurd (omega arith)

four_part : (s : List ℕ) (p n : ℕ) → n ≤ 4 → p + n ≤ length s
    → take n (get_or s p 0 ∷ get_or s (p + 1) 0 ∷ get_or s (p + 2) 0 ∷ get_or s (p + 3) 0 ∷ []) ≡ take n (drop p s)
four_part s p n h e =
    let four : List ℕ = get_or s p 0 ∷ get_or s (p + 1) 0 ∷ get_or s (p + 2) 0 ∷ get_or s (p + 3) 0 ∷ [] in
    let long : length (take n four) ≡ n = length-take-le n four h in
    ext_get_or 0 (take n four) (take n (drop p s))
    (long ∙ sym (length-take-le n (drop p s) (rw length-drop (omega arith))))
    (λ i l. get_or-take n four i 0 (omega arith) ∙ four_at_lem s p i (omega arith) ∙ sym (get_or-take n (drop p s) i 0 (omega arith) ∙ get_or-drop p s i 0))

differ_end : {A : Type 0} {k n : ℕ} → End ≡ Char k n → A
differ_end e = let z : ◌≡◌ {A = ℕ} 0 1 = cc in absurd (omega arith)

pub shape_at : (s : List ℕ) (p k n : ℕ) → decode_at s p ≡ Char k n → (p < length s) × Shape (get_or s p 0) (get_or s (p + 1) 0) (get_or s (p + 2) 0) (get_or s (p + 3) 0) k n
unfolding decode_at
shape_at s p k n e = ⊎_elim (λ w. (ltb-true p (length s) w.0, shape_of _ _ _ _ k n w.1)) (λ w. differ_end w.1) (pick_inv _ _ _ _ e)

pub char_at : (s : List ℕ) (p k n : ℕ) → decode_at s p ≡ Char k n → CharAt s p k n
char_at s p k n e = let w = shape_at s p k n e in here w.0 w.1
  where
    here : p < length s → Shape (get_or s p 0) (get_or s (p + 1) 0) (get_or s (p + 2) 0) (get_or s (p + 3) 0) k n → CharAt s p k n
    here i h =
        let t = shape_sizes h in
        let end : p + n ≤ length s = elim (dec_lt 3 n) [
          | yes h ↦ omega (arith, in_by_byte s (p + 3) (t.5 h))
          | no g ↦ elim (dec_lt 2 n) [
            | yes h ↦ omega (arith, in_by_byte s (p + 2) (t.4 h))
            | no f ↦ elim (dec_lt 1 n) [ yes h ↦ omega (arith, in_by_byte s (p + 1) (t.3 h)) | no e ↦ omega arith ]
          ]
        ] in
        record { start = i; some = t.1; few = t.2; four = t.0; end = end; bytes = shape_bytes h ∙ four_part s p n t.2 end }

-- the rest of s from a character on is its encoding and what follows it
pub char_drop : (s : List ℕ) (p k n : ℕ) → decode_at s p ≡ Char k n → drop p s ≡ encode k ++ drop (p + n) s
char_drop s p k n e = sym (take-append-drop n (drop p s)) ∙ ap₂ (λ (x y : List ℕ). x ++ y) (sym (char_at s p k n e).bytes) (drop-drop n p s)

pub char_length_lem : (s : List ℕ) (p k n : ℕ) → decode_at s p ≡ Char k n → length (encode k) ≡ n
char_length_lem s p k n e = let w = char_at s p k n e in ap length w.bytes ∙ length-take-le n (drop p s) (rw length-drop (omega arith))

-- ---- and back: what is written reads as the character, whatever follows it

-- a scalar value: a code point that is no surrogate (RFC 3629, section 3)
pub record Scalar (k : ℕ) : Type 0 where
  pub most : k < 0x110000
  pub apart : (k < 0xD800) ⊎ (0xDFFF < k)

is_within : {lo hi b : ℕ} → Within lo hi b → within lo hi b ≡ true
unfolding within
is_within {lo} {hi} {b} w = and_yes _ _ (le-leb lo b w.low) (le-leb b hi w.high)

past_within : (lo hi b : ℕ) → hi < b → within lo hi b ≡ false
unfolding within
past_within lo hi b h = sym (and_no (leb lo b) (leb b hi) (sym (lt-leb b hi h)))

under_within : (lo hi b : ℕ) → b < lo → within lo hi b ≡ false
unfolding within
under_within lo hi b h = and_first _ _ (lt-leb lo b h)

low_up : (a b : ℕ) (t u : Bool) → eqb a 0xE0 ≡ t → eqb a 0xF0 ≡ u → 0x80 ≤ b → (a ≡ 0xE0 → 0xA0 ≤ b) → (a ≡ 0xF0 → 0x90 ≤ b) → pick t 0xA0 (pick u 0x90 0x80) ≤ b
unfolding pick
low_up a b true u p q h f g = f (eqb-true a 0xE0 p)
low_up a b false true p q h f g = g (eqb-true a 0xF0 q)
low_up a b false false p q h f g = h

high_up : (a b : ℕ) (t u : Bool) → eqb a 0xED ≡ t → eqb a 0xF4 ≡ u → b ≤ 0xBF → (a ≡ 0xED → b ≤ 0x9F) → (a ≡ 0xF4 → b ≤ 0x8F) → b ≤ pick t 0x9F (pick u 0x8F 0xBF)
unfolding pick
high_up a b true u p q h f g = f (eqb-true a 0xED p)
high_up a b false true p q h f g = g (eqb-true a 0xF4 q)
high_up a b false false p q h f g = h

second_in : (a b : ℕ) → Within 0x80 0xBF b → (a ≡ 0xE0 → 0xA0 ≤ b) → (a ≡ 0xF0 → 0x90 ≤ b) → (a ≡ 0xED → b ≤ 0x9F) → (a ≡ 0xF4 → b ≤ 0x8F) → Within (low_second a) (high_second a) b
unfolding low_second high_second
second_in a b w f g h i = record { low = low_up a b _ _ refl refl w.low f g; high = high_up a b _ _ refl refl w.high h i }

decode_front : (a : ℕ) (l : List ℕ) → decode_at (a ∷ l) 0 ≡ decode_bytes a (get_or l 0 0) (get_or l 1 0) (get_or l 2 0)
decode_front a l = sym (decode_at_in (a ∷ l) 0 a (get_or l 0 0) (get_or l 1 0) (get_or l 2 0) _ (omega arith) refl refl refl refl refl)

module _ (a b c d : ℕ) where
  is_one : a ≤ 0x7F → decode_bytes a b c d ≡ Char a 1
  unfolding decode_bytes
  is_one h = pick_true _ _ _ (le-leb a 0x7F h)

  is_two : Within 0xC2 0xDF a → decode_bytes a b c d ≡ decode2 a b
  unfolding decode_bytes
  is_two v = pick_false _ _ _ (lt-leb a 0x7F (omega arith)) ∙ pick_true _ _ _ (is_within v)

  is_three : Within 0xE0 0xEF a → decode_bytes a b c d ≡ decode3 a b c
  unfolding decode_bytes
  is_three v = pick_false _ _ _ (lt-leb a 0x7F (omega arith)) ∙ pick_false _ _ _ (past_within _ _ a (omega arith)) ∙ pick_true _ _ _ (is_within v)

  -- a byte that goes on within a character begins none
  is_tail : Within 0x80 0xBF a → decode_bytes a b c d ≡ Ill
  unfolding decode_bytes
  is_tail v =
      pick_false _ _ _ (lt-leb a 0x7F (omega arith)) ∙ pick_false _ _ _ (under_within _ _ a (omega arith)) ∙ pick_false _ _ _ (under_within _ _ a (omega arith))
      ∙ pick_false _ _ _ (under_within _ _ a (omega arith))

  read_two : Within 0xC2 0xDF a → Within 0x80 0xBF b → decode_bytes a b c d ≡ Char (code2 a b) 2
  unfolding decode2
  read_two v w = is_two v ∙ pick_true _ _ _ (is_within w)

  read_three : Within 0xE0 0xEF a → Within (low_second a) (high_second a) b → Within 0x80 0xBF c → decode_bytes a b c d ≡ Char (code3 a b c) 3
  unfolding decode3
  read_three v w x = is_three v ∙ pick_true _ _ _ (is_within w) ∙ pick_true _ _ _ (is_within x)

  read_four : Within 0xF0 0xF4 a → Within (low_second a) (high_second a) b → Within 0x80 0xBF c → Within 0x80 0xBF d → decode_bytes a b c d ≡ Char (code4 a b c d) 4
  unfolding decode_bytes decode4
  read_four v w x y =
      pick_false _ _ _ (lt-leb a 0x7F (omega arith)) ∙ pick_false _ _ _ (past_within _ _ a (omega arith)) ∙ pick_false _ _ _ (past_within _ _ a (omega arith)) ∙ pick_true _ _ _ (is_within v)
      ∙ pick_true _ _ _ (is_within w) ∙ pick_true _ _ _ (is_within x) ∙ pick_true _ _ _ (is_within y)

-- the last six bits, and any six
tail_in : (k : ℕ) → Within 0x80 0xBF (0x80 + k % 64)
tail_in k = record { low = omega arith; high = omega arith }

six_bits : (x : ℕ) → (0x80 + x % 64) % 64 ≡ x % 64
six_bits x = omega arith

by_64 : (x y : ℕ) → y ≡ x / 64 → x ≡ y * 64 + x % 64
by_64 x y e = omega arith

-- four bytes' bits, joined again
four_joined : (k : ℕ) → k < 0x110000 → (0xF0 + k / 262144) % 8 * 262144 + (0x80 + k / 4096 % 64) % 64 * 4096 + (0x80 + k / 64 % 64) % 64 * 64 + (0x80 + k % 64) % 64 ≡ k
four_joined k h =
    let top : (0xF0 + k / 262144) % 8 ≡ k / 262144 = omega arith in
    let a : k ≡ k / 64 * 64 + k % 64 = by_64 k (k / 64) refl in
    let b : k / 64 ≡ k / 4096 * 64 + k / 64 % 64 = by_64 (k / 64) (k / 4096) (omega arith) in
    let c : k / 4096 ≡ k / 262144 * 64 + k / 4096 % 64 = by_64 (k / 4096) (k / 262144) (omega arith) in
    rw (top, six_bits (k / 4096), six_bits (k / 64), six_bits k) (joined (k / 262144) (k / 4096) (k / 64) k (k / 4096 % 64) (k / 64 % 64) (k % 64) a b c)
  where
    joined : (t u v w x y z : ℕ) → w ≡ v * 64 + z → v ≡ u * 64 + y → u ≡ t * 64 + x → t * 262144 + x * 4096 + y * 64 + z ≡ w
    joined t u v w x y z a b c = omega arith

module _ (k : ℕ) (l : List ℕ) where
  back_one : k < 0x80 → decode_at (encode k ++ l) 0 ≡ Char k (length (encode k))
  unfolding decode_bytes
  back_one h = rw (encode_one k h) (decode_front k l ∙ pick_true _ _ _ (le-leb k 0x7F (omega arith)))

  back_two : 0x80 ≤ k → k < 0x800 → decode_at (encode k ++ l) 0 ≡ Char k (length (encode k))
  unfolding code2
  back_two g h = rw (encode_two k g h) (decode_front _ _ ∙ read_two _ _ _ _ (record { low = omega arith; high = omega arith }) (tail_in k) ∙ char_of (omega arith))

  back_three : 0x800 ≤ k → k < 0x10000 → (k < 0xD800) ⊎ (0xDFFF < k) → decode_at (encode k ++ l) 0 ≡ Char k (length (encode k))
  unfolding code3
  back_three g h s =
      let high : 0xE0 + k / 4096 ≡ 0xED → 0x80 + k / 64 % 64 ≤ 0x9F = λ e. ⊎_elim (λ x. omega arith) (λ x. omega arith) s in
      rw (encode_three k g h)
      (decode_front _ _
      ∙ read_three _ _ _ _ (record { low = omega arith; high = omega arith }) (second_in _ _ (tail_in (k / 64)) (λ e. omega arith) (λ e. omega arith) high (λ e. omega arith)) (tail_in k)
      ∙ char_of (omega arith))

  back_four : 0x10000 ≤ k → k < 0x110000 → decode_at (encode k ++ l) 0 ≡ Char k (length (encode k))
  unfolding code4
  back_four g h =
      rw (encode_four k g)
      (decode_front _ _
      ∙ read_four _ _ _ _ (record { low = omega arith; high = omega arith }) (second_in _ _ (tail_in (k / 4096)) (λ e. omega arith) (λ e. omega arith) (λ e. omega arith) (λ e. omega arith)) (tail_in (k / 64)) (tail_in k)
      ∙ char_of (four_joined k h))

  pub encode_decode : Scalar k → decode_at (encode k ++ l) 0 ≡ Char k (length (encode k))
  encode_decode s = elim (dec_lt k 0x80) [
    | yes h ↦ back_one h
    | no g ↦ elim (dec_lt k 0x800) [
      | yes h ↦ back_two (omega arith) h
      | no f ↦ elim (dec_lt k 0x10000) [ yes h ↦ back_three (omega arith) h s.apart | no e ↦ back_four (omega arith) s.most ]
    ]
  ]

pub tail_ill : (s : List ℕ) (p : ℕ) → p < length s → Within 0x80 0xBF (get_or s p 0) → decode_at s p ≡ Ill
tail_ill s p h w = sym (decode_at_in s p _ _ _ _ Ill h refl refl refl refl (sym (is_tail _ _ _ _ w)))

-- a character needs no byte behind its own
part_by : {a b c d k n : ℕ} (x y z : ℕ) → (2 ≤ n → x ≡ b) → (3 ≤ n → y ≡ c) → (4 ≤ n → z ≡ d) → Shape a b c d k n → decode_bytes a x y z ≡ decode_bytes a b c d
part_by {a} {b} {c} {d} x y z p q r (of_one h e) = is_one a x y z h ∙ sym (is_one a b c d h)
part_by {a} {b} {c} {d} x y z p q r (of_two g h e) = is_two a x y z g ∙ ap (decode2 a) (p (omega arith)) ∙ sym (is_two a b c d g)
part_by {a} {b} {c} {d} x y z p q r (of_three g h i l e) = is_three a x y z g ∙ ap₂ (decode3 a) (p (omega arith)) (q (omega arith)) ∙ sym (is_three a b c d g)
part_by {a} {b} {c} {d} x y z p q r (of_four g h i j l e) = rw (p (omega arith), q (omega arith), r (omega arith)) refl

pub decode_part : (s : List ℕ) (k n : ℕ) → decode_at s 0 ≡ Char k n → decode_at (take n s) 0 ≡ Char k n
decode_part s k n e =
    let w = shape_at s 0 k n e in
    let c = char_at s 0 k n e in
    let long : length (take n s) ≡ n = length-take-le n s (omega (arith, c.end)) in
    sym (decode_at_in (take n s) 0 (get_or s 0 0) _ _ _ _ (rw long c.some) (sym (get_or-take n s 0 0 c.some)) refl refl refl
    (sym (part_by _ _ _ (λ h. get_or-take n s 1 0 h) (λ h. get_or-take n s 2 0 h) (λ h. get_or-take n s 3 0 h) w.1)))
    ∙ decode_at_in s 0 _ _ _ _ _ w.0 refl refl refl refl refl ∙ e

pub ill_in_lem : (s : List ℕ) (p : ℕ) → decode_at s p ≡ Ill → p < length s
unfolding decode_at
ill_in_lem s p e = ⊎_elim (λ w. ltb-true p (length s) w.0) (λ w. let z : ◌≡◌ {A = ℕ} 0 1 = cc w.1 in absurd (omega arith)) (pick_inv _ _ _ _ e)

-- at a byte there is a character or none, and so the end is past them
NotEnd : Step → Type 0
NotEnd x = x ≡ End → ⊥

char_not : (k n : ℕ) → NotEnd (Char k n)
unfolding NotEnd
char_not k n e = let z : ◌≡◌ {A = ℕ} 0 1 = cc in omega arith

ill_not : NotEnd Ill
unfolding NotEnd
ill_not e = let z : ◌≡◌ {A = ℕ} 0 1 = cc in omega arith

bytes_not : (a b c d : ℕ) → NotEnd (decode_bytes a b c d)
unfolding decode_bytes decode2 decode3 decode4
bytes_not a b c d =
    pick_all NotEnd _ _ _ (char_not a 1)
    (pick_all NotEnd _ _ _ (pick_all NotEnd _ _ _ (char_not _ 2) ill_not)
    (pick_all NotEnd _ _ _ (pick_all NotEnd _ _ _ (pick_all NotEnd _ _ _ (char_not _ 3) ill_not) ill_not)
    (pick_all NotEnd _ _ _ (pick_all NotEnd _ _ _ (pick_all NotEnd _ _ _ (pick_all NotEnd _ _ _ (char_not _ 4) ill_not) ill_not) ill_not) ill_not)))

pub end_at : (s : List ℕ) (p : ℕ) → decode_at s p ≡ End → length s ≤ p
unfolding decode_at NotEnd
end_at s p e = ⊎_elim (λ w. absurd (bytes_not _ _ _ _ w.1)) (λ w. ltb-false p (length s) w.0) (pick_inv _ _ _ _ e)
