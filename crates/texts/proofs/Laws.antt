-- What callers use of the parts of texts, and a law for each library method that the code calls. Assumes nothing.
use mathlib.Core.Path.{◌≡◌, refl, sym, ap, ap₂, ◌∙◌}
use mathlib.Core.Bool.{Bool, true, false, cond, ◌&&◌}
use mathlib.Core.List.{List, [], ◌∷◌, ◌++◌}
use Prim.Native.Nat.{ℕ, zero, suc, ◌+◌, ◌-◌, ◌≤◌, ◌<◌, zero-le}
use native.Mathlib.Decide.{dec_le, dec_lt}
use native.Mathlib.Omega.{arith}
use lib.Dec.{eqb, ltb}
use lib.ListN.{length, get_or, take, drop, length-drop}
use lib.Seq.{take_all}
use borrow.Author.Rules.{rules}
use borrow.Author.Tests.{lt-ltb, le-ltb, eq-eqb, eqb-true}
use denote.Ref.{Bor}
use Rattle.std.specs.Prelude.{Option, Some, None}
use Rattle.std.specs.Option.{unwrap_or, MatchOption}
use Rattle.std.specs.List.{position, position_or_len}
use Rattle.std.specs.Cmp.Lexicographic.{pointwise}
use Rattle.std.proofs.lemmas.List.Recursion.{is_position_or_len}
use Rattle.std.proofs.lemmas.Bool.Decides.{nat_tests}
use Rattle.std.proofs.Math.Bool.{and-true, and-false}
use Rattle.base.specs.Pick.{pick, and}
use Rattle.texts.specs.Parts.{tail, front, first_is, last_is, place_of, prefix_of, suffix_of, caret, dollar, without_caret, without_dollar}
use Rattle.base.proofs.Arms.{clash}
use Rattle.base.proofs.PickLaws.{pick_yes, pick_no, and_yes, and_no, and_inv}

-- ---- the first and the last byte

pub first_some : (s : List ℕ) (b : ℕ) → 0 < length s → eqb (get_or s 0 0) b ≡ first_is b s
unfolding first_is
first_some [] b h = absurd (omega arith)
first_some (x ∷ xs) b h = refl

pub first_none : (s : List ℕ) (b : ℕ) → length s ≤ 0 → false ≡ first_is b s
unfolding first_is
first_none [] b h = refl
first_none (x ∷ xs) b h = absurd (omega arith)

pub last_some : (s : List ℕ) (b : ℕ) → 0 < length s → eqb (get_or s (length s - 1) 0) b ≡ last_is b s
unfolding last_is
last_some [] b h = absurd (omega arith)
last_some (x ∷ []) b h = refl
last_some (x ∷ y ∷ l) b h = let e : suc (suc (length l)) - 1 ≡ suc (suc (length l) - 1) = omega arith in ap (λ (i : ℕ). eqb (get_or (x ∷ y ∷ l) i 0) b) e ∙ last_some (y ∷ l) b (omega arith)

pub last_none : (s : List ℕ) (b : ℕ) → length s ≤ 0 → false ≡ last_is b s
unfolding last_is
last_none [] b h = refl
last_none (x ∷ []) b h = absurd (omega arith)
last_none (x ∷ y ∷ l) b h = absurd (omega arith)

-- ---- what is left without the first or the last byte

first_long : (b : ℕ) (c : List ℕ) → first_is b c ≡ true → 0 < length c
unfolding first_is
first_long b [] e = clash (cc)
first_long b (x ∷ c) e = omega arith

last_long : (b : ℕ) (c : List ℕ) → last_is b c ≡ true → 0 < length c
unfolding last_is
last_long b [] e = clash (cc)
last_long b (x ∷ []) e = omega arith
last_long b (x ∷ y ∷ l) e = omega arith

-- the part that leaves off the last byte
pub front_is : (c : List ℕ) → take (length c - 1) c ≡ front c
unfolding front
front_is [] = refl
front_is (x ∷ []) = refl
front_is (x ∷ y ∷ l) = let e : suc (suc (length l)) - 1 ≡ suc (suc (length l) - 1) = omega arith in ap (λ (n : ℕ). take n (x ∷ y ∷ l)) e ∙ ap (λ (t : List ℕ). x ∷ t) (front_is (y ∷ l))

module _ (b : ℕ) (c : List ℕ) (t : Bool) where
  pub first_some_by : t ≡ first_is b c → t ≡ true → 1 ≤ length c
  first_some_by e q = first_long b c (sym e ∙ q)

  pub last_some_by : t ≡ last_is b c → t ≡ true → 1 ≤ length c
  last_some_by e q = last_long b c (sym e ∙ q)

-- ---- without the anchors

drop_tail : (c : List ℕ) → drop 1 c ≡ tail c
unfolding tail
drop_tail [] = refl
drop_tail (x ∷ c) = refl

-- what the test of the code says
caret_test : (c : List ℕ) → pointwise eqb (take 1 c) (caret ∷ []) ≡ first_is caret c
unfolding first_is
caret_test [] = refl
caret_test (x ∷ c) = and-true (eqb x caret)

dollar_test : (c : List ℕ) → pointwise eqb (drop (length c - 1) c) (dollar ∷ []) ≡ last_is dollar c
unfolding last_is
dollar_test [] = refl
dollar_test (x ∷ []) = and-true (eqb x dollar)
dollar_test (x ∷ y ∷ l) = let e : suc (suc (length l)) - 1 ≡ suc (suc (length l) - 1) = omega arith in ap (λ (n : ℕ). pointwise eqb (drop n (x ∷ y ∷ l)) (dollar ∷ [])) e ∙ dollar_test (y ∷ l)

module _ (c : List ℕ) where
  pub caret_off : (o : Option (Bor (List ℕ))) (d r : Bor (List ℕ)) → d.now ≡ c → r ≡ unwrap_or o d
      → MatchOption o (pointwise eqb (take 1 c) (caret ∷ []) ≡ false) (λ x. (pointwise eqb (take 1 c) (caret ∷ []) ≡ true) × (x.now ≡ drop 1 c) × (length x.now + 1 ≡ length c))
      → r.now ≡ without_caret c
  unfolding without_caret
  caret_off None d r e q m = pick_no _ _ _ _ (sym (caret_test c) ∙ m) (ap (λ (x : Bor (List ℕ)). x.now) q ∙ e)
  caret_off (Some x) d r e q m = pick_yes _ _ _ _ (sym (caret_test c) ∙ m.0) (ap (λ (x : Bor (List ℕ)). x.now) q ∙ m.1 ∙ drop_tail c)

  pub dollar_off : (o : Option (Bor (List ℕ))) (d r : Bor (List ℕ)) → d.now ≡ c → r ≡ unwrap_or o d
      → MatchOption o (pointwise eqb (drop (length c - 1) c) (dollar ∷ []) ≡ false) (λ x. (pointwise eqb (drop (length c - 1) c) (dollar ∷ []) ≡ true) × (x.now ≡ take (length c - 1) c) × (length x.now + 1 ≡ length c))
      → r.now ≡ without_dollar c
  unfolding without_dollar
  dollar_off None d r e q m = pick_no _ _ _ _ (sym (dollar_test c) ∙ m) (ap (λ (x : Bor (List ℕ)). x.now) q ∙ e)
  dollar_off (Some x) d r e q m = pick_yes _ _ _ _ (sym (dollar_test c) ∙ m.0) (ap (λ (x : Bor (List ℕ)). x.now) q ∙ m.1 ∙ front_is c)

-- ---- where a byte stands

pick_most : (t : Bool) (n m : ℕ) → n ≤ m → pick t 0 (suc n) ≤ suc m
unfolding pick
pick_most true n m h = zero-le
pick_most false n m h = omega arith

pub place_most : (b : ℕ) (s : List ℕ) → place_of b s ≤ length s
unfolding place_of
place_most b [] = zero-le
place_most b (x ∷ xs) = pick_most (eqb x b) (place_of b xs) (length xs) (place_most b xs)

place_is : (b : ℕ) (s : List ℕ) → place_of b s ≡ position_or_len (λ x. eqb x b) s
unfolding place_of pick
place_is b = is_position_or_len (place_of b) (λ x. eqb x b) refl (λ x xs. search rules)

at_or_len : (n m k : ℕ) → n ≡ m → n ≤ k → unwrap_or (cond (ltb m k) (Some m) None) k ≡ n
at_or_len n m k e h = elim (dec_lt m k) [
  | yes l ↦ rw (lt-ltb m k l) (sym e)
  | no l ↦ let g : k ≤ m = omega arith in rw (le-ltb m k g) (omega arith)
]

-- where a search for it ends
pub place_by : (b : ℕ) (s : List ℕ) (o : Option ℕ) (r : ℕ) → r ≡ unwrap_or o (length s) → o ≡ position (λ x. eqb x b) s → r ≡ place_of b s
place_by b s o r q e = q ∙ ap (λ (x : Option ℕ). unwrap_or x (length s)) e ∙ at_or_len (place_of b s) _ _ (place_is b s) (place_most b s)

-- ---- beginnings and ends

pub prefix_short : (t s : List ℕ) → length s < length t → false ≡ prefix_of t s
unfolding prefix_of
prefix_short [] s h = absurd (omega arith)
prefix_short (x ∷ t) [] h = refl
prefix_short (x ∷ t) (y ∷ s) h = and_no (eqb y x) (prefix_of t s) (prefix_short t s (omega arith))

pub prefix_within : (t s : List ℕ) → prefix_of t s ≡ true → length t ≤ length s
prefix_within t s e = elim (dec_le (length t) (length s)) [
  | yes k ↦ k
  | no k ↦ let n = prefix_short t s (omega arith) in clash (cc)
]

-- what a text begins with has its bytes
pub prefix_byte : (t s : List ℕ) → prefix_of t s ≡ true → (i : ℕ) → i < length t → get_or s i 0 ≡ get_or t i 0
unfolding prefix_of
prefix_byte [] s e i h = absurd (omega arith)
prefix_byte (x ∷ t) [] e i h = clash (cc)
prefix_byte (x ∷ t) (y ∷ s) e zero h = eqb-true y x (and_inv _ _ e).0
prefix_byte (x ∷ t) (y ∷ s) e (suc i) h = prefix_byte t s (and_inv _ _ e).1 i (omega arith)

pub prefix_split : (t s : List ℕ) → prefix_of t s ≡ true → t ++ drop (length t) s ≡ s
unfolding prefix_of
prefix_split [] s e = refl
prefix_split (x ∷ t) [] e = clash (cc)
prefix_split (x ∷ t) (y ∷ s) e =
    let w = and_inv _ _ e in
    ap (λ (n : ℕ). n ∷ (t ++ drop (length t) s)) (sym (eqb-true y x w.0)) ∙ ap (λ (l : List ℕ). y ∷ l) (prefix_split t s w.1)

-- of two beginnings of a text the shorter begins the other
pub prefix_nested : (t u s : List ℕ) → prefix_of t s ≡ true → prefix_of u s ≡ true → length t ≤ length u → prefix_of t u ≡ true
unfolding prefix_of
prefix_nested [] u s e f h = refl
prefix_nested (x ∷ t) [] s e f h = absurd (omega arith)
prefix_nested (x ∷ t) (y ∷ u) [] e f h = clash (cc)
prefix_nested (x ∷ t) (y ∷ u) (z ∷ s) e f h =
    let a = and_inv (eqb z x) _ e in
    let b = and_inv (eqb z y) _ f in
    and_yes _ _ (eq-eqb y x (sym (eqb-true z y b.0) ∙ eqb-true z x a.0)) (prefix_nested t u s a.1 b.1 (omega arith))

-- the library's words for it
and_is : (t u : Bool) → (t && u) ≡ and t u
unfolding and
and_is true u = refl
and_is false u = refl

eqb_swap : (x y : ℕ) → eqb x y ≡ eqb y x
eqb_swap x y = grind (arith, nat_tests)

pub starts_prefix : (t s : List ℕ) → pointwise eqb t (take (length t) s) ≡ prefix_of t s
unfolding prefix_of
starts_prefix [] s = refl
starts_prefix (x ∷ t) [] = refl
starts_prefix (x ∷ t) (y ∷ s) = and_is (eqb x y) _ ∙ ap₂ and (eqb_swap x y) (starts_prefix t s)

other_length : (t s : List ℕ) → (length t ≡ length s → ⊥) → pointwise eqb t s ≡ false
other_length [] [] h = absurd (h refl)
other_length [] (y ∷ s) h = refl
other_length (x ∷ t) [] h = refl
other_length (x ∷ t) (y ∷ s) h = rw (other_length t s (λ e. h (ap suc e))) (and-false (eqb x y))

pub ends_suffix : (t s : List ℕ) → pointwise eqb t (drop (length s - length t) s) ≡ suffix_of t s
unfolding suffix_of
ends_suffix t s = elim (dec_lt (length s) (length t)) [
  | yes h ↦ pick_yes _ _ _ _ (lt-ltb _ _ h) (other_length t (drop (length s - length t) s) (omega (arith, length-drop (length s - length t) s)))
  | no h ↦
      let size : length (drop (length s - length t) s) ≡ length t = omega (arith, length-drop (length s - length t) s) in
      pick_no _ _ _ _ (le-ltb _ _ (omega arith)) (sym (ap (pointwise eqb t) (take_all (length t) (drop (length s - length t) s) (omega arith))) ∙ starts_prefix t (drop (length s - length t) s))
]

pub ruleset parts_laws = (first_some, first_none, last_some, last_none, starts_prefix, ends_suffix, rules)
