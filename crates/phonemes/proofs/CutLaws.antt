-- A text that is cut at each b, one part after the other; and the loops of the code over its parts. Assumes nothing.
use Rattle.phonemes.specs.declared.answers.ExpressionFault.TheVariants.{Malformed}
use Rattle.phonemes.specs.declared.answers.ExpressionFault.{ExpressionFault}
use Rattle.std.specs.Prelude.{Option, Some, None, Result, Err}
use mathlib.Core.Path.{◌≡◌, refl, sym, ap, subst, ◌∙◌}
use mathlib.Core.Bool.{Bool, true, false, cond, ◌&&◌}
use mathlib.Core.List.{List, [], ◌∷◌}
use Prim.Native.Nat.{ℕ, suc, ◌+◌, ◌-◌, ◌^◌, ◌≤◌, ◌<◌}
use native.Mathlib.Numerals.{add-one}
use native.Mathlib.Omega.{arith}
use lib.Bits.{bit_or, or_zero_l, or_zero_r}
use lib.Dec.{eqb}
use lib.ListN.{length, get_or, take, drop, length-drop, drop_of_length-le}
use lib.Seq.{drop-cons, drop-drop, length-take-le, take_all}
use mir.Syntax.{w64}
use mir.Val.{Fits}
use borrow.Author.Rules.{rules}
use Rattle.std.specs.List.{slice_split, onto_first}
use Rattle.std.proofs.lemmas.List.Splits.{length-slice_split}
use Rattle.std.proofs.lemmas.List.Sums.{count_by-le-length}
use Rattle.base.specs.Pick.{pick, and}
use Rattle.base.proofs.Bits.{or_assoc}
use Rattle.languages.specs.Names.{language_bit}
use Rattle.texts.specs.Parts.{place_of}
use Rattle.texts.proofs.Laws.{place_most}
use Rattle.phonemes.specs
use specs.Expressions.{bar, plus, on_first, cut_at, with_bits, names_mask, formed_piece}
use specs.InnerContracts.{cut_end, listed_piece, expression_told, judged_pieces}
use Rattle.base.proofs.PickLaws.{pick_true, pick_false}

-- ---- one step of a cut

-- the parts behind the first b
unfoldable pub rest_of : ℕ → List ℕ → List (List ℕ)
rest_of b [] = []
rest_of b (x ∷ xs) = pick (eqb x b) (cut_at b xs) (rest_of b xs)

-- the first part of a text is what stands before its first b
first_by : (b x : ℕ) (xs : List ℕ) (t : Bool) → cut_at b xs ≡ take (place_of b xs) xs ∷ rest_of b xs
    → pick t ([] ∷ cut_at b xs) (on_first x (cut_at b xs)) ≡ take (pick t 0 (suc (place_of b xs))) (x ∷ xs) ∷ pick t (cut_at b xs) (rest_of b xs)
unfolding pick on_first
first_by b x xs true ih = refl
first_by b x xs false ih = ap (on_first x) ih

first_part : (b : ℕ) (s : List ℕ) → cut_at b s ≡ take (place_of b s) s ∷ rest_of b s
unfolding cut_at place_of rest_of
first_part b [] = refl
first_part b (x ∷ xs) = first_by b x xs (eqb x b) (first_part b xs)

some_by : (b : ℕ) (xs : List ℕ) (t : Bool) → (place_of b xs < length xs → rest_of b xs ≡ cut_at b (drop (suc (place_of b xs)) xs))
    → pick t 0 (suc (place_of b xs)) < suc (length xs) → pick t (cut_at b xs) (rest_of b xs) ≡ cut_at b (drop (pick t 0 (suc (place_of b xs))) xs)
unfolding pick
some_by b xs true ih h = refl
some_by b xs false ih h = ih (omega arith)

rest_some : (b : ℕ) (s : List ℕ) → place_of b s < length s → rest_of b s ≡ cut_at b (drop (suc (place_of b s)) s)
unfolding place_of rest_of
rest_some b [] h = absurd (omega arith)
rest_some b (x ∷ xs) h = some_by b xs (eqb x b) (rest_some b xs) h

none_by : (b : ℕ) (xs : List ℕ) (t : Bool) → (length xs ≤ place_of b xs → rest_of b xs ≡ [])
    → suc (length xs) ≤ pick t 0 (suc (place_of b xs)) → pick t (cut_at b xs) (rest_of b xs) ≡ []
unfolding pick
none_by b xs true ih h = absurd (omega arith)
none_by b xs false ih h = ih (omega arith)

rest_none : (b : ℕ) (s : List ℕ) → length s ≤ place_of b s → rest_of b s ≡ []
unfolding place_of rest_of
rest_none b [] h = refl
rest_none b (x ∷ xs) h = none_by b xs (eqb x b) (rest_none b xs) h

module _ (b : ℕ) (t : List ℕ) (from : ℕ) (h : from ≤ length t) where
  whole_rest : take (length t - from) (drop from t) ≡ drop from t
  whole_rest = take_all (length t - from) (drop from t) (rw length-drop (omega arith))

  end_most : cut_end b t from ≤ length t
  unfolding cut_end
  end_most = omega (arith, place_most b (drop from t), length-drop from t)

  pub end_is : (n : ℕ) → n ≡ place_of b (take (length t - from) (drop from t)) → from + n ≡ cut_end b t from
  unfolding cut_end
  end_is n e = ap (λ (k : ℕ). from + k) (e ∙ ap (place_of b) whole_rest)

  pub end_fits : (n : ℕ) → n ≡ place_of b (take (length t - from) (drop from t)) → length t < 2 ^ 64 → Fits w64 (from + n)
  end_fits n e g = record { fits = let m = end_most in omega (arith, end_is n e) }

  module _ (to : ℕ) (e : to ≡ cut_end b t from) where
    pub cut_order : from ≤ to
    unfolding cut_end
    cut_order = omega arith

    pub cut_fits : to ≤ length t
    cut_fits = rw e end_most

    place : place_of b (drop from t) ≡ to - from
    unfolding cut_end
    place = omega arith

    -- the part from a place on is the first of what is left, and behind its end comes what is left then
    pub cut_one : cut_at b (drop from t) ≡ take (to - from) (drop from t) ∷ rest_of b (drop from t)
    cut_one = first_part b (drop from t) ∙ ap (λ (n : ℕ). take n (drop from t) ∷ rest_of b (drop from t)) place

    behind : drop (suc (to - from)) (drop from t) ≡ drop (to + 1) t
    behind =
        let o = cut_order in
        let n : from + suc (to - from) ≡ to + 1 = omega arith in
        drop-drop (suc (to - from)) from t ∙ ap (λ (k : ℕ). drop k t) n

    pub cut_more : to < length t → cut_at b (drop from t) ≡ take (to - from) (drop from t) ∷ cut_at b (drop (to + 1) t)
    cut_more g =
        let p = place in
        let o = cut_order in
        let rest : rest_of b (drop from t) ≡ cut_at b (drop (suc (place_of b (drop from t))) (drop from t)) = rest_some b (drop from t) (rw length-drop (omega arith)) in
        cut_one ∙ ap (λ (l : List (List ℕ)). take (to - from) (drop from t) ∷ l)
        (rest ∙ ap (λ (n : ℕ). cut_at b (drop (suc n) (drop from t))) p ∙ ap (cut_at b) behind)

    -- its bytes
    pub cut_long : from + length (take (to - from) (drop from t)) ≡ to
    cut_long =
        let o = cut_order in
        let m = cut_fits in
        omega (arith, length-take-le (to - from) (drop from t) (rw length-drop (omega arith)))

    pub cut_last : length t ≤ to → cut_at b (drop from t) ≡ take (to - from) (drop from t) ∷ []
    cut_last g =
        let p = place in
        cut_one ∙ ap (λ (l : List (List ℕ)). take (to - from) (drop from t) ∷ l) (rest_none b (drop from t) (rw length-drop (omega arith)))

pub ruleset cut_laws = (end_is, end_fits, cut_order, cut_fits, rules)

-- ---- the names between two brackets, as far as place from: mask has the bits of those before

with_start_lem : (x : Option ℕ) → x ≡ with_bits (Some 0) x
unfolding with_bits
with_start_lem (Some a) = ap Some (sym (or_zero_l a))
with_start_lem None = refl

with_next : (m b : ℕ) (x : Option ℕ) → with_bits (Some m) (with_bits (Some b) x) ≡ with_bits (Some (bit_or m b)) x
unfolding with_bits
with_next m b (Some a) = ap Some (sym (or_assoc m b a))
with_next m b None = refl

on_is : (x : ℕ) (ps : List (List ℕ)) → onto_first x ps ≡ on_first x ps
unfolding on_first
on_is x [] = refl
on_is x (p ∷ ps) = refl

cut_step : (t : Bool) (x : ℕ) (ps : List (List ℕ)) → cond t ([] ∷ ps) (onto_first x ps) ≡ pick t ([] ∷ ps) (on_first x ps)
unfolding pick
cut_step true x ps = refl
cut_step false x ps = on_is x ps

-- the parts are those of the slice's own `split`
cut_is : (b : ℕ) (s : List ℕ) → slice_split (λ x. eqb x b) s ≡ cut_at b s
unfolding cut_at
cut_is b [] = refl
cut_is b (x ∷ s) = cut_step (eqb x b) x _ ∙ ap (λ (ps : List (List ℕ)). pick (eqb x b) ([] ∷ ps) (on_first x ps)) (cut_is b s)

-- the part at k, and none behind the last
part_here : (b : ℕ) (s : List ℕ) (k : ℕ) (x : List ℕ) → k < length (slice_split (λ y. eqb y b) s) → x ≡ get_or (slice_split (λ y. eqb y b) s) k x → drop k (cut_at b s) ≡ x ∷ drop (k + 1) (cut_at b s)
part_here b s k x h g =
    let all = slice_split (λ (y : ℕ). eqb y b) s in
    let one : drop k all ≡ x ∷ drop (k + 1) all = rw add-one (drop-cons all k x h ∙ ap (λ (y : List ℕ). y ∷ drop (suc k) all) (sym g)) in
    subst (λ (ps : List (List ℕ)). drop k ps ≡ x ∷ drop (k + 1) ps) (cut_is b s) one

part_none : (b : ℕ) (s : List ℕ) (k : ℕ) → k ≡ length (slice_split (λ y. eqb y b) s) → drop k (cut_at b s) ≡ []
part_none b s k h = drop_of_length-le (cut_at b s) (omega (arith, ap length (cut_is b s)))

-- the first k names have the bits of mask
pub record Naming (names joined : List ℕ) (k mask : ℕ) : Type 0 where
  pub is : names_mask names (cut_at plus joined) ≡ with_bits (Some mask) (names_mask names (drop k (cut_at plus joined)))

pub naming_start : (names joined : List ℕ) → Naming names joined 0 0
naming_start names joined = record { is = with_start_lem _ }

module _ {names joined : List ℕ} {k mask : ℕ} (w : Naming names joined k mask) where
  module _ (x : List ℕ) (h : k < length (slice_split (λ b. eqb b plus) joined)) (g : x ≡ get_or (slice_split (λ b. eqb b plus) joined) k x) (r : Option ℕ) (f : r ≡ language_bit names x) where
    name_by_lem : (y : Option ℕ) → r ≡ y → names_mask names (cut_at plus joined) ≡ with_bits (Some mask) (with_bits y (names_mask names (drop (k + 1) (cut_at plus joined))))
    unfolding names_mask
    name_by_lem y q =
        w.is ∙ ap (λ (p : List (List ℕ)). with_bits (Some mask) (names_mask names p)) (part_here plus joined k x h g)
        ∙ ap (λ (z : Option ℕ). with_bits (Some mask) (with_bits z (names_mask names (drop (k + 1) (cut_at plus joined))))) (sym f ∙ q)

    pub naming_next : (b : ℕ) → r ≡ Some b → Naming names joined (k + 1) (bit_or mask b)
    naming_next b q = record { is = name_by_lem (Some b) q ∙ with_next mask b _ }

    pub naming_stop : r ≡ None → None ≡ names_mask names (cut_at plus joined)
    unfolding with_bits
    naming_stop q = sym (name_by_lem None q)

  pub naming_done : k ≡ length (slice_split (λ b. eqb b plus) joined) → Some mask ≡ names_mask names (cut_at plus joined)
  unfolding names_mask with_bits
  naming_done h =
      sym (w.is ∙ ap (λ (p : List (List ℕ)). with_bits (Some mask) (names_mask names p)) (part_none plus joined k h) ∙ ap Some (or_zero_r mask))

pub ruleset naming_laws = (naming_start, naming_next, naming_done, naming_stop, rules)

-- ---- the parts of an expression, as far as place from: count and known tell of those before

pub record Judging (names t : List ℕ) (more k count : ℕ) (known : Bool) : Type 0 where
  pub counted : count ≡ more + k
  pub is : judged_pieces names more true (cut_at bar t) ≡ judged_pieces names count known (drop k (cut_at bar t))

pub judging_start : (names t : List ℕ) (more : ℕ) → Judging names t more 0 more true
judging_start names t more = record { counted = omega arith; is = refl }

and_by : (t u : Bool) → (t && u) ≡ and t u
unfolding and
and_by true u = refl
and_by false u = refl

module _ {names t : List ℕ} {more k count : ℕ} {known : Bool} (w : Judging names t more k count known) where
  module _ (x : List ℕ) (h : k < length (slice_split (λ b. eqb b bar) t)) (g : x ≡ get_or (slice_split (λ b. eqb b bar) t) k x) where
    pub judging_fits : more ≤ 1 → length t < 2 ^ 63 → Fits w64 (count + 1)
    judging_fits m l = record { fits = omega (arith, w.counted, length-slice_split (λ (b : ℕ). eqb b bar) t, count_by-le-length (λ (b : ℕ). eqb b bar) t) }

    module _ (f : Bool) (p : f ≡ formed_piece x) where
      pub judging_stop : f ≡ false → (Err Malformed) ≡ judged_pieces names more true (cut_at bar t)
      unfolding judged_pieces
      judging_stop q = sym (w.is ∙ ap (judged_pieces names count known) (part_here bar t k x h g) ∙ pick_false _ _ _ (sym p ∙ q))

      pub judging_next : f ≡ true → (u : Bool) → u ≡ listed_piece names x → Judging names t more (k + 1) (count + 1) (known && u)
      unfolding judged_pieces
      judging_next q u e = record {
        counted = omega (arith, w.counted);
        is = w.is ∙ ap (judged_pieces names count known) (part_here bar t k x h g) ∙ pick_true _ _ _ (sym p ∙ q)
            ∙ ap (λ (b : Bool). judged_pieces names (count + 1) b (drop (k + 1) (cut_at bar t))) (ap (and known) (sym e) ∙ sym (and_by known u));
      }

  pub judging_done : k ≡ length (slice_split (λ b. eqb b bar) t) → (r : Result ℕ ExpressionFault) → r ≡ expression_told count known → r ≡ judged_pieces names more true (cut_at bar t)
  unfolding judged_pieces
  judging_done h r e = e ∙ sym (w.is ∙ ap (judged_pieces names count known) (part_none bar t k h))

pub ruleset judging_laws = (judging_start, judging_stop, judging_next, judging_done, rules)
