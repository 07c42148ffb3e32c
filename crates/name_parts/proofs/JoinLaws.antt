-- A law for each way that the loops and branches of `joining` can go. Assumes nothing.
use mathlib.Core.Path.{◌≡◌, refl, sym, ap, ◌∙◌}
use mathlib.Core.Bool.{Bool, true, false}
use mathlib.Core.List.{List, [], ◌∷◌, ◌++◌, append-nil, append_assoc}
use Prim.Native.Nat.{ℕ, zero, suc, ◌+◌, ◌-◌, ◌≤◌, ◌<◌, min, zero-le}
use native.Mathlib.Decide.{dec_le}
use native.Mathlib.Numerals.{add-one}
use native.Mathlib.Omega.{arith}
use lib.Dec.{eqb, leb-suc-suc}
use lib.ListN.{length, get_or, take, drop, set, length-set, length-drop, drop_of_length-le}
use lib.Seq.{take_all, drop-cons, drop-length, get_or-drop}
use borrow.Author.Rules.{rules}
use borrow.Author.Tests.{lt-ltb, le-ltb, eq-eqb, ne_eqb}
use Rattle.base.specs.Pick.{pick}
use Rattle.texts.specs.Parts.{has, place_of}
use Rattle.writing.specs.InnerContracts.{Put, cap}
use Rattle.name_parts.specs.Words.{words_of, word_at, past_word}
use Rattle.prefixes.specs.Prefixes.{is_prefix}
use Rattle.name_parts.specs.InnerContracts.{joined_behind}
use Rattle.name_parts.specs.Joining.{spaced, joined_name, after_apostrophe, kept_of, drops_out, remaining, joined_by_space, joined_words}
use Rattle.prefixes.specs.declared.prefixes.NameType.{NameType}
use Rattle.name_parts.proofs.Laws.{words_none, words_next, word_later, past_within}
use Rattle.writing.proofs.Laws.{slice_room, put_none, put_then, put_long, put_place}
use Rattle.base.proofs.Arms.{clash}
use Rattle.base.proofs.PickLaws.{pick_yes, pick_no, pick_true, pick_false, pick_all}
use Rattle.base.proofs.Stores.{rest_is}

-- ---- hyphens: the bytes before i are parted
unfoldable pub parted_to : ℕ → List ℕ → List ℕ
parted_to zero s = s
parted_to (suc i) [] = []
parted_to (suc i) (b ∷ s) = pick (eqb b 45) 32 b ∷ parted_to i s

parted_step : (i : ℕ) (s : List ℕ) → i < length s → set (parted_to i s) i (pick (eqb (get_or (parted_to i s) i 0) 45) 32 (get_or (parted_to i s) i 0)) ≡ parted_to (suc i) s
unfolding parted_to
parted_step zero [] h = absurd (omega arith)
parted_step zero (b ∷ s) h = refl
parted_step (suc i) [] h = absurd (omega arith)
parted_step (suc i) (b ∷ s) h = ap (λ (l : List ℕ). pick (eqb b 45) 32 b ∷ l) (parted_step i s (omega arith))

parted_all : (i : ℕ) (s : List ℕ) → length s ≤ i → parted_to i s ≡ spaced s
unfolding parted_to spaced
parted_all zero [] h = refl
parted_all zero (b ∷ s) h = absurd (omega arith)
parted_all (suc i) [] h = refl
parted_all (suc i) (b ∷ s) h = ap (λ (l : List ℕ). pick (eqb b 45) 32 b ∷ l) (parted_all i s (omega arith))

pub record Parting (s t : List ℕ) (i : ℕ) : Type 0 where
  pub is : t ≡ parted_to i s
  pub long : length t ≡ length s

pub part_start : (s : List ℕ) → Parting s s 0
unfolding parted_to
part_start s = record { is = refl; long = refl }

module _ (s t : List ℕ) (i : ℕ) (w : Parting s t i) where
  pub part_next : (b : ℕ) → i < length t → b ≡ pick (eqb (get_or t i 0) 45) 32 (get_or t i 0) → Parting s (set t i b) (i + 1)
  part_next b h q = record {
    is = rw (q, w.is, add-one) (parted_step i s (omega (arith, w.long)));
    long = length-set t i b ∙ w.long;
  }

  pub part_all : length t ≤ i → t ≡ spaced s
  part_all h = w.is ∙ parted_all i s (omega (arith, w.long))

-- ---- the last apostrophe
has_by : (x : ℕ) (w : List ℕ) (t : Bool) → eqb x 39 ≡ t → has 39 (x ∷ w) ≡ pick t true (has 39 w)
unfolding has place_of pick
has_by x w true e = rw e (lt-ltb 0 (suc (length w)) (omega arith))
has_by x w false e = rw e (leb-suc-suc (suc (place_of 39 w)) (length w))

has_at : (w : List ℕ) (i : ℕ) → i < length w → get_or w i 0 ≡ 39 → has 39 w ≡ true
has_at [] i h e = absurd (omega arith)
has_at (x ∷ w) zero h e = has_by x w _ refl ∙ pick_true _ _ _ (eq-eqb _ _ e)
has_at (x ∷ w) (suc i) h e = has_by x w _ refl ∙ pick_all (λ (t : Bool). t ≡ true) (eqb x 39) _ _ refl (has_at w i (omega arith) e)

none_by : (x : ℕ) (w : List ℕ) (t : Bool) → eqb x 39 ≡ t → pick t true (has 39 w) ≡ false → x ∷ w ≡ after_apostrophe (x ∷ w)
unfolding after_apostrophe pick
none_by x w true e h = clash (cc)
none_by x w false e h = pick_no _ _ _ _ h (pick_no _ _ _ _ e refl)

after_none : (w : List ℕ) → has 39 w ≡ false → w ≡ after_apostrophe w
unfolding after_apostrophe
after_none [] h = refl
after_none (x ∷ w) h = none_by x w _ refl (sym (has_by x w _ refl) ∙ h)

after_at : (w : List ℕ) (i : ℕ) → i < length w → get_or w i 0 ≡ 39 → has 39 (drop (suc i) w) ≡ false → drop (suc i) w ≡ after_apostrophe w
unfolding after_apostrophe
after_at [] i h e f = absurd (omega arith)
after_at (x ∷ w) zero h e f = pick_no _ _ _ _ f (pick_yes _ _ _ _ (eq-eqb _ _ e) refl)
after_at (x ∷ w) (suc i) h e f = pick_yes _ _ _ _ (has_at w i (omega arith) e) (after_at w i (omega arith) e f)

-- no apostrophe stands at i or behind it
pub record Free (w : List ℕ) (i : ℕ) : Type 0 where
  pub within : i ≤ length w
  pub none : has 39 (drop i w) ≡ false

pub free_start : (w : List ℕ) → Free w (length w)
unfolding has
free_start w = record { within = omega arith; none = rw (drop-length w) (le-ltb (place_of 39 []) 0 zero-le) }

module _ (w : List ℕ) (i : ℕ) (f : Free w i) where
  pub free_in : 0 < i → i - 1 < length w
  free_in h = omega (arith, f.within)

  pub free_here : 0 < i → get_or w (i - 1) 0 ≡ 39 → take (length w - i) (drop i w) ≡ after_apostrophe w
  free_here h e =
      let n : suc (i - 1) ≡ i = omega arith in
      rest_is w i ∙ ap (λ (k : ℕ). drop k w) (sym n) ∙ after_at w (i - 1) (free_in h) e (rw n f.none)

  pub free_next : 0 < i → (get_or w (i - 1) 0 ≡ 39 → ⊥) → Free w (i - 1)
  free_next h e =
      let n : suc (i - 1) ≡ i = omega arith in
      record { within = omega (arith, f.within); none = ap (has 39) (drop-cons w (i - 1) 0 (free_in h)) ∙ has_by _ _ _ refl ∙ pick_false _ _ _ (ne_eqb _ _ e) ∙ rw n f.none }

  pub free_end : i ≤ 0 → w ≡ after_apostrophe w
  free_end h = let z : i ≡ 0 = omega arith in after_none w (rw z at f.none)

-- by the place of the last
no_has : (w : List ℕ) → ((k : ℕ) → k < length w → get_or w k 0 ≡ 39 → ⊥) → has 39 w ≡ false
no_has [] h = (free_start []).none
no_has (x ∷ w) h = has_by x w _ refl ∙ pick_false _ _ _ (ne_eqb _ _ (h 0 (omega arith))) ∙ no_has w (λ k l. h (suc k) (omega arith))

pub last_none : (w : List ℕ) → ((k : ℕ) → k < length w → get_or w k 0 ≡ 39 → ⊥) → w ≡ after_apostrophe w
last_none w h = after_none w (no_has w h)

pub last_here : (w : List ℕ) (i : ℕ) → i < length w → get_or w i 0 ≡ 39 → ((k : ℕ) → i < k → k < length w → get_or w k 0 ≡ 39 → ⊥) → take (length w - (i + 1)) (drop (i + 1) w) ≡ after_apostrophe w
last_here w i h e f =
    rest_is w (i + 1) ∙ ap (λ (k : ℕ). drop k w) (add-one i)
    ∙ after_at w i h e (no_has (drop (suc i) w) (λ k l q. f (suc i + k) (omega arith) (omega (arith, length-drop (suc i) w)) (sym (get_or-drop (suc i) w k 0) ∙ q)))

-- ---- what is kept of a word, and whether it drops out
module _ (kind k : NameType) (w : List ℕ) (e : kind ≡ k) where
  pub kept_by : (x : List ℕ) → x ≡ kept_of k w → x ≡ kept_of kind w
  kept_by x p = rw e p

  pub drops_by : (x : Bool) → x ≡ drops_out k w → x ≡ drops_out kind w
  drops_by x p = rw e p

  pub prefix_of_kind : (x : Bool) → x ≡ is_prefix kind w → x ≡ is_prefix k w
  prefix_of_kind x p = rw e at p

-- ---- the prefix and the remainder
take_to : (s : List ℕ) (i k : ℕ) → k ≡ min i (length s) → take k s ≡ take i s
take_to s i k e = elim (dec_le i (length s)) [
  | yes h ↦ let z : k ≡ i = omega arith in rw z refl
  | no h ↦ take_all k s (omega arith) ∙ sym (take_all i s (omega arith))
]

drop_from : (s : List ℕ) (i r : ℕ) → r ≡ min i (length s) → take (length s - r) (drop r s) ≡ drop i s
drop_from s i r e = rest_is s r ∙ elim (dec_le i (length s)) [
  | yes h ↦ let z : r ≡ i = omega arith in rw z refl
  | no h ↦ let past : length s ≤ i = omega arith in
      let end : length s ≤ r = omega arith in
      drop_of_length-le s end ∙ sym (drop_of_length-le s past)
]

pub name_joined : (s o o₁ o₂ : List ℕ) (size rest k r p q : ℕ) → k ≡ min size (length s) → r ≡ min rest (length s)
    → Put o o₁ 0 p (take k s) → Put o₁ o₂ p q (take (length s - r) (drop r s)) → Put o o₂ 0 q (joined_name size rest s)
unfolding joined_name
name_joined s o o₁ o₂ size rest k r p q ek er x y =
    rw (take_to s size k ek, drop_from s rest r er) at (put_then x y)

-- ---- a word and the place behind it
module _ (s : List ℕ) (p : ℕ) (w : List ℕ) (ew : w ≡ word_at s p) (h : length w ≡ 0 → ⊥) (q : ℕ) (eq : q ≡ past_word s p) where
  some : length (word_at s p) ≡ 0 → ⊥
  some z = h (ap length ew ∙ z)

  next : words_of (drop p s) ≡ w ∷ words_of (drop q s)
  next = words_next s p some ∙ rw (ew, eq) refl

  pub word_less : length s - q < length s - p
  word_less = omega (arith, word_later s p some, past_within s p some)

-- ---- words joined: what is behind words that stand already
join_led : (t : List ℕ) (ts : List (List ℕ)) → joined_by_space (t ∷ ts) ≡ t ++ joined_by_space ([] ∷ ts)
unfolding joined_by_space
join_led t [] = sym (append-nil t)
join_led t (u ∷ ts) = refl

module _ (kind : NameType) (w k : List ℕ) (ek : k ≡ kept_of kind w) (d : Bool) (ed : d ≡ drops_out kind k) (ws : List (List ℕ)) where
  remains : remaining kind (w ∷ ws) ≡ pick d (remaining kind ws) (k ∷ remaining kind ws)
  unfolding remaining
  remains = rw (ed, ek) refl

  behind_out : d ≡ true → joined_behind kind (w ∷ ws) ≡ joined_behind kind ws
  behind_out z = ap (λ (ts : List (List ℕ)). joined_by_space ([] ∷ ts)) (remains ∙ pick_true _ _ _ z)

  behind_in : d ≡ false → joined_behind kind (w ∷ ws) ≡ 32 ∷ (k ++ joined_behind kind ws)
  unfolding joined_by_space
  behind_in z = ap (λ (ts : List (List ℕ)). joined_by_space ([] ∷ ts)) (remains ∙ pick_false _ _ _ z) ∙ ap (λ (l : List ℕ). 32 ∷ l) (join_led k (remaining kind ws))

one_by : (kind : NameType) (w : List ℕ) (d : Bool) → d ≡ drops_out kind (kept_of kind w) → (ws : List (List ℕ)) → joined_behind kind (w ∷ []) ++ joined_behind kind ws ≡ joined_behind kind (w ∷ ws)
unfolding joined_by_space remaining
one_by kind w true e ws = ap (λ (l : List ℕ). l ++ joined_behind kind ws) (behind_out kind w _ refl true e [] refl) ∙ sym (behind_out kind w _ refl true e ws refl)
one_by kind w false e ws =
    ap (λ (l : List ℕ). l ++ joined_behind kind ws) (behind_in kind w _ refl false e [] refl ∙ ap (λ (l : List ℕ). 32 ∷ l) (append-nil (kept_of kind w))) ∙ sym (behind_in kind w _ refl false e ws refl)

-- one word
module _ (kind : NameType) (w k : List ℕ) (ek : k ≡ kept_of kind w) (d : Bool) (ed : d ≡ drops_out kind k) (o : List ℕ) (at : ℕ) where
  pub word_out : d ≡ true → length o < cap → at ≤ cap → Put o o at at (joined_behind kind (w ∷ []))
  unfolding joined_by_space remaining
  word_out z r h = rw (behind_out kind w k ek d ed [] z) (put_none o at r h)

  pub word_in : (o₁ o₂ : List ℕ) (p q : ℕ) → d ≡ false → Put o o₁ at p (32 ∷ []) → Put o₁ o₂ p q k → Put o o₂ at q (joined_behind kind (w ∷ []))
  unfolding joined_by_space remaining
  word_in o₁ o₂ p q z x y = rw (behind_in kind w k ek d ed [] z, append-nil) (put_then x y)

-- the words from p on, of those from `from` on
pub record Adding (kind : NameType) (s o₀ o : List ℕ) (from at p n : ℕ) : Type 0 where
  pub so_far : List ℕ
  pub wrote : Put o₀ o at n so_far
  pub left : so_far ++ joined_behind kind (words_of (drop p s)) ≡ joined_behind kind (words_of (drop from s))

pub add_start : (kind : NameType) (s o : List ℕ) (from at : ℕ) → length o < cap → at ≤ cap → Adding kind s o o from at from at
add_start kind s o from at r h = record { so_far = []; wrote = put_none o at r h; left = refl }

module _ (kind : NameType) (s o₀ o : List ℕ) (from at p n : ℕ) (a : Adding kind s o₀ o from at p n) where
  pub add_next : (w : List ℕ) (ew : w ≡ word_at s p) → (length w ≡ 0 → ⊥) → (q : ℕ) → q ≡ past_word s p → (o₁ : List ℕ) (m : ℕ) → Put o o₁ n m (joined_behind kind (w ∷ [])) → Adding kind s o₀ o₁ from at q m
  add_next w ew h q eq o₁ m y = record {
    so_far = a.so_far ++ joined_behind kind (w ∷ []);
    wrote = put_then a.wrote y;
    left =
        append_assoc a.so_far (joined_behind kind (w ∷ [])) (joined_behind kind (words_of (drop q s))) ∙ ap (λ (l : List ℕ). a.so_far ++ l) (one_by kind w _ refl _ ∙ ap (joined_behind kind) (sym (next s p w ew h q eq))) ∙ a.left;
  }

  pub add_end : length (word_at s p) ≡ 0 → Put o₀ o at n (joined_behind kind (words_of (drop from s)))
  unfolding joined_by_space remaining
  add_end z = rw (← a.left, words_none s p z, append-nil) a.wrote

-- the first word that remains; nothing is written yet
pub record Joining (kind : NameType) (s o₀ o : List ℕ) (p : ℕ) : Type 0 where
  pub same : o ≡ o₀
  pub is : joined_words kind s ≡ joined_by_space (remaining kind (words_of (drop p s)))

pub join_start : (kind : NameType) (s o : List ℕ) → Joining kind s o o 0
unfolding joined_words
join_start kind s o = record { same = refl; is = refl }

module _ (kind : NameType) (s o₀ o : List ℕ) (p : ℕ) (j : Joining kind s o₀ o p) where
  pub join_long : length o ≡ length o₀
  join_long = ap length j.same

  pub join_kept : (o₁ o₂ : List ℕ) (n r : ℕ) (t u : List ℕ) → Put o o₁ 0 n t → Put o₁ o₂ n r u → length o₂ ≡ length o₀
  join_kept o₁ o₂ n r t u x y = put_long _ _ _ _ _ y ∙ put_long _ _ _ _ _ x ∙ join_long

  pub join_none : length (word_at s p) ≡ 0 → length o₀ < cap → Put o₀ o 0 0 (joined_words kind s)
  unfolding joined_by_space remaining
  join_none z r = rw (j.same, j.is, words_none s p z) (put_none o₀ 0 r zero-le)

  module _ (w : List ℕ) (ew : w ≡ word_at s p) where
    module _ (h : length w ≡ 0 → ⊥) (q : ℕ) (eq : q ≡ past_word s p) (k : List ℕ) (ek : k ≡ kept_of kind w) (d : Bool) (ed : d ≡ drops_out kind k) where
      now_is : joined_words kind s ≡ joined_by_space (pick d (remaining kind (words_of (drop q s))) (k ∷ remaining kind (words_of (drop q s))))
      now_is = j.is ∙ ap (λ (ws : List (List ℕ)). joined_by_space (remaining kind ws)) (next s p w ew h q eq) ∙ ap joined_by_space (remains kind w k ek d ed _)

      pub join_next : d ≡ true → Joining kind s o₀ o q
      join_next z = record { same = j.same; is = now_is ∙ ap joined_by_space (pick_true _ _ _ z) }

      pub join_here : d ≡ false → (o₁ o₂ : List ℕ) (n r : ℕ) → Put o o₁ 0 n k → Put o₁ o₂ n r (joined_behind kind (words_of (drop q s))) → Put o₀ o₂ 0 r (joined_words kind s)
      join_here z o₁ o₂ n r x y = rw (now_is ∙ ap joined_by_space (pick_false _ _ _ z) ∙ join_led k _, ← j.same) (put_then x y)

pub ruleset join_laws = (slice_room, put_long, put_place, part_start, part_next, part_all, last_none, last_here, kept_by, drops_by, prefix_of_kind, name_joined, word_less, word_out, word_in, add_start, add_next, add_end, join_start, join_long, join_none, join_next, join_here, rules)
