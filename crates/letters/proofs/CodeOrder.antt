-- On well-formed texts the order of the bytes is the order of the code points. Assumes nothing.
use Rattle.std.specs.Prelude.{None}
use mathlib.Core.Path.{◌≡◌, refl, sym, ap, ◌∙◌}
use mathlib.Core.List.{List, [], ◌∷◌, ◌++◌}
use Prim.Native.Nat.{ℕ, ◌+◌, ◌/◌, ◌%◌, ◌<◌, ◌≤◌}
use native.Mathlib.Decide.{dec_lt}
use native.Mathlib.Omega.{arith}
use lib.Dec.{ltb}
use lib.ListN.{drop, drop_of_length-le}
use borrow.Author.Tests.{lt-ltb, le-ltb}
use Rattle.base.specs.Pick.{pick}
use Rattle.letters.specs.Utf8.{encode}
use Rattle.letters.specs.Reading.{Symbol, codes_in, codes_of, ill_in, first_ill}
use Rattle.letters.specs.Order.{order_of}
use Rattle.std.specs.declared.cmp.Ordering.{Ordering}
use Rattle.std.specs.declared.cmp.Ordering.TheVariants.{Less, Greater}
use Rattle.letters.proofs.Utf8Laws.{char_at, char_drop, end_at, encode_one, encode_two, encode_three, encode_four}
use Rattle.letters.proofs.ReadingLaws.{Pieces, end, one, bad, pieces_of}
use Rattle.base.proofs.PickLaws.{pick_true, pick_false}

-- ---- bytes that decide

-- at the first place where xs and ys differ, xs is below
data Before : List ℕ → List ℕ → Type 0 where
  here : {x y : ℕ} {xs ys : List ℕ} → x < y → Before (x ∷ xs) (y ∷ ys)
  there : {x y : ℕ} {xs ys : List ℕ} → x ≡ y → Before xs ys → Before (x ∷ xs) (y ∷ ys)

before_less : {xs ys : List ℕ} → Before xs ys → (s t : List ℕ) → order_of (xs ++ s) (ys ++ t) ≡ Less
unfolding order_of pick
before_less (here h) s t = simp (lt-ltb _ _ h)
before_less (there {x} {y} e b) s t = simp (le-ltb y x (omega arith), le-ltb x y (omega arith)) (before_less b s t)

before_greater : {xs ys : List ℕ} → Before xs ys → (s t : List ℕ) → order_of (ys ++ t) (xs ++ s) ≡ Greater
unfolding order_of pick
before_greater (here {x} {y} h) s t = simp (le-ltb y x (omega arith), lt-ltb x y h)
before_greater (there {x} {y} e b) s t = simp (le-ltb y x (omega arith), le-ltb x y (omega arith)) (before_greater b s t)

prefix_same : (xs s t : List ℕ) → order_of (xs ++ s) (xs ++ t) ≡ order_of s t
unfolding order_of pick
prefix_same [] s t = refl
prefix_same (x ∷ xs) s t = simp (le-ltb x x (omega arith)) (prefix_same xs s t)

-- ---- encodings

-- the bytes of k, by its size
data Encoded (k : ℕ) : List ℕ → Type 0 where
  by_one : k < 0x80 → Encoded k (k ∷ [])
  by_two : 0x80 ≤ k → k < 0x800 → Encoded k ((0xC0 + k / 64) ∷ (0x80 + k % 64) ∷ [])
  by_three : 0x800 ≤ k → k < 0x10000 → Encoded k ((0xE0 + k / 4096) ∷ (0x80 + k / 64 % 64) ∷ (0x80 + k % 64) ∷ [])
  by_four : 0x10000 ≤ k → k < 0x200000 → Encoded k ((0xF0 + k / 262144) ∷ (0x80 + k / 4096 % 64) ∷ (0x80 + k / 64 % 64) ∷ (0x80 + k % 64) ∷ [])

encoded : (k : ℕ) → k < 0x200000 → Encoded k (encode k)
encoded k l = elim (dec_lt k 0x80) [
  | yes h ↦ rw (encode_one k h) (by_one h)
  | no f ↦ elim (dec_lt k 0x800) [
    | yes h ↦ rw (encode_two k (omega arith) h) (by_two (omega arith) h)
    | no g ↦ elim (dec_lt k 0x10000) [
      | yes h ↦ rw (encode_three k (omega arith) h) (by_three (omega arith) h)
      | no h ↦ rw (encode_four k (omega arith)) (by_four (omega arith) l)
    ]
  ]
]

-- a digit decides, or is equal and the rest decides
digit : (x y : ℕ) {xs ys : List ℕ} → x ≤ y → (x ≡ y → Before xs ys) → Before (x ∷ xs) (y ∷ ys)
digit x y h r = elim (dec_lt x y) [ yes l ↦ here l | no n ↦ let e : x ≡ y = omega arith in there e (r e) ]

decided : (x y : ℕ) {xs ys : List ℕ} → x < y → Before (x ∷ xs) (y ∷ ys)
decided x y h = here h

-- a digit of six bits, where the digits above it are equal; and the last
next_digit : (x y : ℕ) {xs ys : List ℕ} → x ≤ y → x / 64 ≡ y / 64 → (x ≡ y → Before xs ys) → Before ((0x80 + x % 64) ∷ xs) ((0x80 + y % 64) ∷ ys)
next_digit x y h e r = digit _ _ (omega arith) (λ d. r (omega arith))

last_digit : (x y : ℕ) {xs ys : List ℕ} → x < y → x / 64 ≡ y / 64 → Before ((0x80 + x % 64) ∷ xs) ((0x80 + y % 64) ∷ ys)
last_digit x y h e = decided _ _ (omega arith)

third : (k : ℕ) → k / 64 / 64 ≡ k / 4096
third k = omega arith

fourth : (k : ℕ) → k / 4096 / 64 ≡ k / 262144
fourth k = omega arith

encoded_before : {k j : ℕ} {xs ys : List ℕ} → Encoded k xs → Encoded j ys → k < j → Before xs ys
encoded_before (by_one a) (by_one b) h = here h
encoded_before (by_one a) (by_two b c) h = decided _ _ (omega arith)
encoded_before (by_one a) (by_three b c) h = decided _ _ (omega arith)
encoded_before (by_one a) (by_four b c) h = decided _ _ (omega arith)
encoded_before (by_two a d) (by_one b) h = absurd (omega arith)
encoded_before {k} {j} (by_two a d) (by_two b c) h = digit _ _ (omega arith) (λ e. last_digit k j h (omega arith))
encoded_before (by_two a d) (by_three b c) h = decided _ _ (omega arith)
encoded_before (by_two a d) (by_four b c) h = decided _ _ (omega arith)
encoded_before (by_three a d) (by_one b) h = absurd (omega arith)
encoded_before (by_three a d) (by_two b c) h = absurd (omega arith)
encoded_before {k} {j} (by_three a d) (by_three b c) h =
    digit _ _ (omega arith) (λ e. next_digit (k / 64) (j / 64) (omega arith) (omega (arith, third k, third j)) (λ f. last_digit k j h f))
encoded_before (by_three a d) (by_four b c) h = decided _ _ (omega arith)
encoded_before (by_four a d) (by_one b) h = absurd (omega arith)
encoded_before (by_four a d) (by_two b c) h = absurd (omega arith)
encoded_before (by_four a d) (by_three b c) h = absurd (omega arith)
encoded_before {k} {j} (by_four a d) (by_four b c) h =
    digit _ _ (omega arith) (λ e. next_digit (k / 4096) (j / 4096) (omega arith) (omega (arith, fourth k, fourth j))
    (λ f. next_digit (k / 64) (j / 64) (omega arith) (omega (arith, third k, third j)) (λ g. last_digit k j h g)))

-- one character against another
char_order : (k j : ℕ) (s t : List ℕ) → k < 0x200000 → j < 0x200000 → order_of (encode k ++ s) (encode j ++ t) ≡ pick (ltb k j) Less (pick (ltb j k) Greater (order_of s t))
char_order k j s t a b = elim (dec_lt k j) [
  | yes h ↦ before_less (encoded_before (encoded k a) (encoded j b) h) s t ∙ sym (pick_true _ _ _ (lt-ltb k j h))
  | no n ↦ elim (dec_lt j k) [
    | yes h ↦ before_greater (encoded_before (encoded j b) (encoded k a) h) t s ∙ sym (pick_false _ _ _ (le-ltb k j (omega arith)) ∙ pick_true _ _ _ (lt-ltb j k h))
    | no m ↦
        let e : j ≡ k = omega arith in
        rw e (prefix_same (encode k) s t ∙ sym (pick_false _ _ _ (le-ltb k k (omega arith)) ∙ pick_false _ _ _ (le-ltb k k (omega arith))))
  ]
]

-- ---- texts

-- the bytes s spell the code points cs
data Spells : List ℕ → List ℕ → Type 0 where
  none : Spells [] []
  more : {k : ℕ} {s cs : List ℕ} → k < 0x200000 → Spells s cs → Spells (encode k ++ s) (k ∷ cs)

spells : {s : List ℕ} {p : ℕ} {l : List Symbol} → Pieces s p l → ill_in l ≡ None → Spells (drop p s) (codes_in l)
unfolding ill_in codes_in
spells {s} {p} (end e) h = rw (drop_of_length-le s (end_at s p e)) none
spells {s} {p} (one {k = k} {n = n} e r) h = rw (char_drop s p k n e) (more (char_at s p k n e).four (spells r h))
spells (bad e r) h = let z : ◌≡◌ {A = ℕ} 0 1 = cc in absurd (omega arith)

encoded_some : {k : ℕ} {xs : List ℕ} → Encoded k xs → (s : List ℕ) → (order_of [] (xs ++ s) ≡ Less) × (order_of (xs ++ s) [] ≡ Greater)
unfolding order_of
encoded_some (by_one a) s = (refl, refl)
encoded_some (by_two a b) s = (refl, refl)
encoded_some (by_three a b) s = (refl, refl)
encoded_some (by_four a b) s = (refl, refl)

spells_order : {s cs t ds : List ℕ} → Spells s cs → Spells t ds → order_of s t ≡ order_of cs ds
unfolding order_of
spells_order none none = refl
spells_order none (more {k = k} {s = s} h r) = (encoded_some (encoded k h) s).0
spells_order (more {k = k} {s = s} h r) none = (encoded_some (encoded k h) s).1
spells_order (more {k = k} {s = s} h r) (more {k = j} {s = t} g q) = char_order k j s t h g ∙ ap (λ (o : Ordering). pick (ltb k j) Less (pick (ltb j k) Greater o)) (spells_order r q)

-- 01, Spelling a name: "Texts compare by code points, shorter first"
pub order_by_codes : (a b : List ℕ) → first_ill a ≡ None → first_ill b ≡ None → order_of a b ≡ order_of (codes_of a) (codes_of b)
unfolding first_ill codes_of
order_by_codes a b p q = spells_order (spells (pieces_of a) p) (spells (pieces_of b) q)
