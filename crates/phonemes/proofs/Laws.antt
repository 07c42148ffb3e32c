-- What the crates above use of expressions and of a rule's match. Assumes nothing.
use Rattle.std.specs.Prelude.{Option, Some, None}
use Prim.{Unit}
use mathlib.Core.Path.{◌≡◌, refl, sym, ap, ap₂, ◌∙◌}
use mathlib.Core.Bool.{Bool, true, false}
use mathlib.Core.List.{List, [], ◌∷◌, ◌++◌}
use mathlib.Core.Logic.{⊎_elim}
use Prim.Native.Nat.{ℕ, zero, suc, ◌+◌, ◌-◌, ◌^◌, ◌≤◌, ◌<◌, zero-le}
use native.Mathlib.Nat.{sub-zero}
use native.Mathlib.Decide.{dec_lt}
use native.Mathlib.Omega.{arith}
use lib.Bits.{or_lt}
use lib.Dec.{eqb}
use lib.ListN.{length, take, drop, length-take, length-drop, length-append}
use lib.Pow.{pow_pos}
use lib.Seq.{take-nil, take-length, take-take, drop-drop}
use borrow.Author.Tests.{ltb-false, eq-eqb, ne_eqb}
use Rattle.languages.specs.Names.{language_bit}
use Rattle.languages.specs.declared.sets.LanguageSet.{LanguageSet}
use Rattle.languages.proofs.Laws.{any_below, mask_below, bit_below}
use Rattle.texts.specs.Parts.{tail, front, first_is, last_is, place_of}
use Rattle.texts.proofs.Laws.{front_is, place_most, first_some_by, last_some_by, prefix_within}
use Rattle.rule.specs.Matching.{rule_matches}
use Rattle.phonemes.specs
use specs.Expressions.{round, bar, opening, on_first, cut_at, inside, extra, pieces_in, with_bits, names_mask, piece_mask, text_of, mask_set, set_of}
use specs.InnerContracts.{cut_end, has_extra, parts_from, pieces_from, piece_from, first_from, alternative_from}
use specs.declared
use declared.answers.Alternative.{Alternative}
use declared.answers.Alternative.TheVariants.{At, Nothing}
use Rattle.phonemes.proofs
use proofs.CutLaws.{cut_order, cut_fits, cut_more, cut_last}
use proofs.ExprLaws.{text_long, extra_yes, pieces_single, pieces_round}
use proofs.AltLaws.{parts_in, parts_behind, parts_past, part_in, part_past, part_none, part_extra, alt_round, alt_single, alt_past}
use Rattle.base.proofs.PickLaws.{pick_true, pick_false, pick_inv, pick_all, and_inv}
use Rattle.languages.specs.InnerContracts.{BitsBelow}
use Rattle.base.proofs.Arms.{clash}

-- ---- an alternative's bytes are a part of the expression

drop_take : (s m : ℕ) (l : List ℕ) → drop s (take m l) ≡ take (m - s) (drop s l)
drop_take zero m l = ap (λ (k : ℕ). take k l) (sym (sub-zero m))
drop_take (suc s) zero l = let e : 0 ≡ 0 - suc s = omega arith in ap (λ (k : ℕ). take k (drop (suc s) l)) e
drop_take (suc s) (suc m) [] = sym (take-nil (suc m - suc s))
drop_take (suc s) (suc m) (x ∷ l) = let e : m - s ≡ suc m - suc s = omega arith in drop_take s m l ∙ ap (λ (k : ℕ). take k (drop s l)) e

inside_is : (e : List ℕ) → inside e ≡ take (length e - 2) (drop 1 e)
unfolding inside tail front
inside_is [] = sym (take-nil (0 - 2))
inside_is (x ∷ e) = let n : length e - 1 ≡ suc (length e) - 2 = omega arith in sym (front_is e) ∙ ap (λ (k : ℕ). take k e) n

inside_long : (e : List ℕ) → length (inside e) ≡ length e - 2
inside_long e = ap length (inside_is e) ∙ omega (arith, length-take (length e - 2) (drop 1 e), length-drop 1 e)

inside_part : (e : List ℕ) (s z : ℕ) → z ≤ length (inside e) → take (z - s) (drop s (inside e)) ≡ take (z - s) (drop (s + 1) e)
inside_part e s z h =
    let n : z - s ≤ length e - 2 - s = omega (arith, inside_long e) in
    let m : 1 + s ≡ s + 1 = omega arith in
    ap (λ (t : List ℕ). take (z - s) (drop s t)) (inside_is e) ∙ ap (take (z - s)) (drop_take s (length e - 2) (drop 1 e))
    ∙ take-take (z - s) (length e - 2 - s) (drop s (drop 1 e)) n ∙ ap (take (z - s)) (drop-drop s 1 e ∙ ap (λ (k : ℕ). drop k e) m)

-- ---- a piece's set has only bits of listed names

-- m is below 2 ^ k, where every listed name's bit is
Under : ℕ → Option ℕ → Type 0
Under k (Some m) = m < 2 ^ k
Under k None = Unit {0}

under_with : (k : ℕ) (a b : Option ℕ) → Under k a → Under k b → Under k (with_bits a b)
unfolding Under with_bits
under_with k (Some a) (Some b) p q = or_lt k a b p q
under_with k (Some a) None p q = tt
under_with k None b p q = tt

under_set : (k : ℕ) (m : Option ℕ) → Under k m → BitsBelow k (mask_set m)
unfolding Under mask_set
under_set k (Some m) p = mask_below k m p
under_set k None p = mask_below k 0 (pow_pos k)

module _ (names : List ℕ) (k : ℕ) (h : (name : List ℕ) → Under k (language_bit names name)) where
  under_names : (ns : List (List ℕ)) → Under k (names_mask names ns)
  unfolding names_mask Under
  under_names [] = pow_pos k
  under_names (n ∷ ns) = under_with k _ _ (h n) (under_names ns)

  under_piece : (a : List ℕ) → Under k (piece_mask names a)
  unfolding piece_mask Under
  under_piece a = pick_all (Under k) _ _ _ (under_names _) (pow_pos k)

  set_below : (a : List ℕ) → BitsBelow k (set_of names a)
  unfolding set_of
  set_below a = pick_all (BitsBelow k) _ _ _ (under_set k _ (under_piece a)) (any_below k)

bit_under : (names name : List ℕ) (x : Option ℕ) → language_bit names name ≡ x → Under 32 x
unfolding Under
bit_under names name (Some b) e = bit_below names name b _ refl e
bit_under names name None e = tt

set_small : (names a : List ℕ) → BitsBelow 32 (set_of names a)
set_small names a = set_below names 32 (λ name. bit_under names name _ refl) a

-- ---- the alternative from a place on

-- it is the first of the pieces from there on, and the others stand from `next` on: its text is the expression's part, and its set the piece's
pub record IsAlternative (names e : List ℕ) (from start end : ℕ) (set : LanguageSet) (next : ℕ) : Type 0 where
  pub piece : List ℕ
  pub are : pieces_from e from ≡ piece ∷ pieces_from e next
  pub order : start ≤ end
  pub fits : end ≤ length e
  pub text : take (end - start) (drop start e) ≡ text_of piece
  pub held : set ≡ set_of names piece
  pub below : BitsBelow 32 set

-- a piece of n bytes that starts at k
is_piece : (names e a : List ℕ) (from k n start end : ℕ) (set : LanguageSet) (m next : ℕ) → piece_from names a k m ≡ At start end set next
    → a ≡ take n (drop k e) → k + n ≤ length e → pieces_from e from ≡ a ∷ pieces_from e m → IsAlternative names e from start end set next
unfolding piece_from text_of
is_piece names e a from k n start end set m next q w h l =
    let p : k ≡ start = cc in
    let z : k + length (text_of a) ≡ end = cc in
    let y : m ≡ next = cc in
    let u : length a ≤ n = omega (arith, ap length w, length-take n (drop k e)) in
    let o : length (text_of a) ≤ n = omega (arith, text_long a, place_most opening a) in
    let d : end - start ≡ place_of opening a = omega (arith, text_long a) in
    let x : set ≡ set_of names a = cc in
    record {
      piece = a;
      are = l ∙ ap (λ (i : ℕ). a ∷ pieces_from e i) y;
      order = omega arith;
      fits = omega arith;
      text =
          ap₂ (λ (j i : ℕ). take j (drop i e)) d (sym p) ∙ sym (take-take (place_of opening a) n (drop k e) (omega (arith, place_most opening a)))
          ∙ ap (take (place_of opening a)) (sym w);
      held = x;
      below = rw x (set_small names a);
    }

-- with one more empty piece there is something between the brackets
extra_some : (t : List ℕ) → has_extra t ≡ true → 1 ≤ length t
unfolding has_extra
extra_some t y = ⊎_elim (λ v. first_some_by bar t _ refl v.0) (λ v. last_some_by bar t _ refl v.1) (pick_inv _ _ _ _ y)

-- between round brackets the pieces are the parts
round_from : (e : List ℕ) (from : ℕ) → first_is round e ≡ true → pieces_from e from ≡ parts_from (inside e) from
unfolding pieces_from
round_from e from f = pick_true _ _ _ f

single_from : (e : List ℕ) (from : ℕ) → first_is round e ≡ false → from ≡ 0 → pieces_from e from ≡ e ∷ []
unfolding pieces_from
single_from e from f z = pick_false _ _ _ f ∙ pick_true _ _ _ (eq-eqb from 0 z)

single_past : (e : List ℕ) (from : ℕ) → first_is round e ≡ false → (from ≡ 0 → ⊥) → pieces_from e from ≡ []
unfolding pieces_from
single_past e from f z = pick_false _ _ _ f ∙ pick_false _ _ _ (ne_eqb from 0 z)

module _ (names e : List ℕ) (from start end : ℕ) (set : LanguageSet) (next : ℕ) (q : alternative_from names e from ≡ At start end set next) where
  is_single_lem : first_is round e ≡ false → (j : ℕ) → from ≡ j → IsAlternative names e from start end set next
  is_single_lem f zero z =
      is_piece names e e from 0 (length e) start end set (length e + 1) next (alt_single names e from false (sym f) refl _ z refl ∙ q) (sym (take-length e)) (omega arith)
      (single_from e from f z ∙ ap (◌∷◌ e) (sym (single_past e (length e + 1) f (λ y. omega arith))))
  is_single_lem f (suc j) z = let n = alt_past names e from false (sym f) refl (λ y. omega arith) in clash (cc)

  module _ (f : first_is round e ≡ true) where
    told : (r : Alternative) → r ≡ first_from (from + 1) from names (parts_from (inside e) from) → r ≡ At start end set next
    told r g = alt_round names e from true (sym f) (inside e) r refl refl g ∙ q

    -- behind a part comes the next one, or the one that is added at the end
    part_then : (to : ℕ) → from ≤ length (inside e) → to ≡ cut_end bar (inside e) from
        → parts_from (inside e) from ≡ take (to - from) (drop from (inside e)) ∷ parts_from (inside e) (to + 1)
    part_then to h g =
        let t = inside e in
        let m = cut_fits bar t from h to g in
        elim (dec_lt to (length t)) [
          | yes l ↦ parts_in t from h ∙ ap (λ (ps : List (List ℕ)). ps ++ extra t) (cut_more bar t from h to g l)
              ∙ ap (◌∷◌ (take (to - from) (drop from t))) (sym (parts_in t (to + 1) (omega arith)))
          | no l ↦
              let n : length t ≤ to = omega arith in
              parts_in t from h ∙ ap (λ (ps : List (List ℕ)). ps ++ extra t) (cut_last bar t from h to g n)
              ∙ ap (◌∷◌ (take (to - from) (drop from t))) (sym (parts_behind t (to + 1) (omega arith)))
        ]

    is_part : from ≤ length (inside e) → IsAlternative names e from start end set next
    is_part h =
        let t = inside e in
        let to = cut_end bar t from in
        let m = cut_fits bar t from h to refl in
        let o = cut_order bar t from h to refl in
        let some = first_some_by round e true (sym f) refl in
        is_piece names e _ from (from + 1) (to - from) start end set (to + 1) next (told _ (part_in names t from h to refl _ refl))
        (inside_part e from to m) (omega (arith, inside_long e))
        (round_from e from f ∙ part_then to h refl ∙ ap (◌∷◌ (take (to - from) (drop from t))) (sym (round_from e (to + 1) f)))

    is_extra : from ≡ length (inside e) + 1 → (y : Bool) → has_extra (inside e) ≡ y → IsAlternative names e from start end set next
    is_extra z true y =
        let t = inside e in
        let some = extra_some t y in
        is_piece names e [] from (from + 1) 0 start end set (from + 1) next (told _ (part_extra names t from z true (sym y) _ refl refl))
        refl (omega (arith, inside_long e))
        (round_from e from f ∙ parts_behind t from z ∙ extra_yes t true (sym y) refl
        ∙ ap (◌∷◌ []) (sym (round_from e (from + 1) f ∙ parts_past t (from + 1) (omega arith) (λ i. omega arith))))
    is_extra z false y = let n = told Nothing (part_none names (inside e) from z false (sym y) refl) in clash (cc)

    is_round : IsAlternative names e from start end set next
    is_round =
        elim (dec_lt (length (inside e)) from) [
          | yes l ↦ elim (dec_lt (length (inside e) + 1) from) [
            | yes z ↦ let n = told Nothing (part_past names (inside e) from l (λ i. omega arith)) in clash (cc)
            | no z ↦ is_extra (omega arith) _ refl
          ]
          | no l ↦ is_part (omega arith)
        ]

  is_any : (f : Bool) → first_is round e ≡ f → IsAlternative names e from start end set next
  is_any true f = is_round f
  is_any false f = is_single_lem f from refl

pub is_alternative : {names e : List ℕ} {from start end : ℕ} {set : LanguageSet} {next : ℕ} {r : Alternative} → r ≡ alternative_from names e from → r ≡ At start end set next
    → IsAlternative names e from start end set next
is_alternative p q = is_any _ _ _ _ _ _ _ (sym p ∙ q) _ refl

none_left : (names : List ℕ) (start from : ℕ) (ps : List (List ℕ)) → first_from start from names ps ≡ Nothing → ps ≡ []
unfolding first_from piece_from
none_left names start from [] q = refl
none_left names start from (a ∷ ps) q = clash (cc)

-- where there is none, no pieces are left
pub pieces_past : (names e : List ℕ) (from : ℕ) {r : Alternative} → r ≡ alternative_from names e from → r ≡ Nothing → pieces_from e from ≡ []
unfolding alternative_from
pieces_past names e from p q = none_left names _ from (pieces_from e from) (sym p ∙ q)

-- at the start all are left
start_by : (e : List ℕ) (f : Bool) → first_is round e ≡ f → pieces_from e 0 ≡ pieces_in e
start_by e true f = round_from e 0 f ∙ parts_in (inside e) 0 zero-le ∙ sym (pieces_round e true (sym f) (inside e) refl refl)
start_by e false f = single_from e 0 f refl ∙ sym (pieces_single e false (sym f) refl)

pub pieces_start : (e : List ℕ) → pieces_from e 0 ≡ pieces_in e
pieces_start e = start_by e _ refl

-- ---- an expression has at most one piece more than bytes

first_few : (x : ℕ) (ps : List (List ℕ)) (n : ℕ) → length ps ≤ n + 1 → length (on_first x ps) ≤ n + 1
unfolding on_first
first_few x [] n h = omega arith
first_few x (p ∷ ps) n h = h

cut_few : (b : ℕ) (l : List ℕ) → length (cut_at b l) ≤ length l + 1
unfolding cut_at
cut_few b [] = omega arith
cut_few b (x ∷ l) =
    let h = cut_few b l in
    pick_all (λ (ps : List (List ℕ)). length ps ≤ length (x ∷ l) + 1) (eqb x b) _ _ (omega arith) (first_few x (cut_at b l) (length (x ∷ l)) (omega arith))

extra_few : (t : List ℕ) → length (extra t) ≤ 1
unfolding extra
extra_few t = pick_all (λ (ps : List (List ℕ)). length ps ≤ 1) (first_is bar t) _ _ (omega arith) (pick_all (λ (ps : List (List ℕ)). length ps ≤ 1) (last_is bar t) _ _ (omega arith) (omega arith))

few_by : (e : List ℕ) (f : Bool) → f ≡ first_is round e → length (pieces_in e) ≤ length e + 1
few_by e true f =
    let t = inside e in
    omega (arith, ap length (pieces_round e true f t refl refl), length-append (cut_at bar t) (extra t), cut_few bar t, extra_few t, inside_long e, first_some_by round e true f refl)
few_by e false f = omega (arith, ap length (pieces_single e false f refl))

pub pieces_few : (e : List ℕ) → length (pieces_in e) ≤ length e + 1
pieces_few e = few_by e _ refl

-- ---- a rule that matches: its pattern ends within the text

pub match_end : (p l r t : List ℕ) (at : ℕ) (x : Bool) → x ≡ rule_matches p l r t at → x ≡ true → at + length p ≤ length t
unfolding rule_matches
match_end p l r t at x e q =
    ⊎_elim (λ v. let g = v.1 in clash (cc))
    (λ v. omega (arith, ltb-false (length t) at v.0, prefix_within p (drop at t) (and_inv _ _ v.1).0, length-drop at t))
    (pick_inv _ _ _ _ (sym e ∙ q))
