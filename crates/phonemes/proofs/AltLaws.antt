-- A law for each way out of the code that reads the alternative from a place on. Assumes nothing.
use mathlib.Core.Path.{◌≡◌, sym, ap, ap₂, ◌∙◌}
use mathlib.Core.Bool.{Bool, true, false}
use mathlib.Core.List.{List, [], ◌++◌}
use Prim.Native.Nat.{ℕ, ◌+◌, ◌-◌, ◌*◌, ◌^◌, ◌≤◌, ◌<◌}
use native.Mathlib.Omega.{arith}
use lib.ListN.{length, take, drop}
use mir.Syntax.{w64}
use mir.Val.{Fits}
use borrow.Author.Rules.{rules}
use borrow.Author.Tests.{le-leb, lt-leb, eq-eqb, ne_eqb}
use Rattle.texts.specs.Parts.{first_is}
use Rattle.phonemes.specs
use specs.Expressions.{round, bar, cut_at, inside, extra}
use specs.InnerContracts.{cut_end, has_extra, parts_from, pieces_from, piece_from, first_from, alternative_from}
use specs.declared
use declared.answers.Alternative.{Alternative}
use declared.answers.Alternative.TheVariants.{Nothing}
use Rattle.phonemes.proofs
use proofs.CutLaws.{cut_fits, cut_one, cut_long, cut_laws}
use proofs.ExprLaws.{extra_yes, extra_no}
use Rattle.base.proofs.PickLaws.{pick_true, pick_false}

-- ---- what is left of the parts at a place

module _ (t : List ℕ) (from : ℕ) where
  pub parts_in : from ≤ length t → parts_from t from ≡ cut_at bar (drop from t) ++ extra t
  unfolding parts_from
  parts_in h = pick_true _ _ _ (le-leb from (length t) h)

  pub parts_behind : from ≡ length t + 1 → parts_from t from ≡ extra t
  unfolding parts_from
  parts_behind e = pick_false _ _ _ (lt-leb from (length t) (omega arith)) ∙ pick_true _ _ _ (eq-eqb from (length t + 1) e)

  pub parts_past : length t < from → (from ≡ length t + 1 → ⊥) → parts_from t from ≡ []
  unfolding parts_from
  parts_past h n = pick_false _ _ _ (lt-leb from (length t) h) ∙ pick_false _ _ _ (ne_eqb from (length t + 1) n)

-- ---- the part from a place on

module _ (names t : List ℕ) (from : ℕ) where
  module _ (h : from ≤ length t) (to : ℕ) (e : to ≡ cut_end bar t from) where
    pub part_next : length t * 1 < 2 ^ 63 → Fits w64 (from + 1)
    part_next k = record { fits = omega arith }

    pub part_end : length t * 1 < 2 ^ 63 → Fits w64 (to + 1)
    part_end k = let m = cut_fits bar t from h to e in record { fits = omega arith }

    pub part_room : length t * 1 < 2 ^ 63 → from + 1 + length (take (to - from) (drop from t)) < 2 ^ 64
    part_room k = let m = cut_fits bar t from h to e in omega (arith, cut_long bar t from h to e)

    pub part_in : (r : Alternative) → r ≡ piece_from names (take (to - from) (drop from t)) (from + 1) (to + 1)
        → r ≡ first_from (from + 1) from names (parts_from t from)
    unfolding first_from
    part_in r q =
        let parts = parts_in t from h ∙ ap (λ (ps : List (List ℕ)). ps ++ extra t) (cut_one bar t from h to e) in
        q ∙ ap (λ (n : ℕ). piece_from names (take (to - from) (drop from t)) (from + 1) (n + 1)) (sym (cut_long bar t from h to e))
        ∙ sym (ap (first_from (from + 1) from names) parts)

  pub part_past : length t < from → (from ≡ length t + 1 → ⊥) → Nothing ≡ first_from (from + 1) from names (parts_from t from)
  unfolding first_from
  part_past h n = sym (ap (first_from (from + 1) from names) (parts_past t from h n))

  module _ (e : from ≡ length t + 1) (y : Bool) (p : y ≡ has_extra t) where
    pub part_none : y ≡ false → Nothing ≡ first_from (from + 1) from names (parts_from t from)
    unfolding first_from
    part_none q = sym (ap (first_from (from + 1) from names) (parts_behind t from e ∙ extra_no t y p q))

    pub part_extra : (r : Alternative) → y ≡ true → r ≡ piece_from names [] (from + 1) (from + 1) → r ≡ first_from (from + 1) from names (parts_from t from)
    unfolding first_from
    part_extra r q k =
        let n : from + 1 ≡ from + 0 + 1 = omega arith in
        k ∙ ap (piece_from names [] (from + 1)) n ∙ sym (ap (first_from (from + 1) from names) (parts_behind t from e ∙ extra_yes t y p q))

pub ruleset part_laws = (part_next, part_end, part_room, part_in, part_past, part_none, part_extra, cut_laws, rules)

-- ---- the alternative from a place on

module _ (names e : List ℕ) (from : ℕ) (f : Bool) (p : f ≡ first_is round e) where
  pub alt_round : (t : List ℕ) (r : Alternative) → f ≡ true → t ≡ inside e → r ≡ first_from (from + 1) from names (parts_from t from) → r ≡ alternative_from names e from
  unfolding alternative_from pieces_from
  alt_round t r q w g =
      g ∙ ap (λ (u : List ℕ). first_from (from + 1) from names (parts_from u from)) w
      ∙ sym (ap₂ (λ (k : ℕ) (l : List (List ℕ)). first_from k from names l) (pick_true _ _ _ (sym p ∙ q)) (pick_true _ _ _ (sym p ∙ q)))

  module _ (q : f ≡ false) where
    single_is : alternative_from names e from ≡ first_from from from names (pieces_from e from)
    unfolding alternative_from
    single_is = ap (λ (k : ℕ). first_from k from names (pieces_from e from)) (pick_false _ _ _ (sym p ∙ q))

    pub alt_single : (r : Alternative) → from ≡ 0 → r ≡ piece_from names e 0 (length e + 1) → r ≡ alternative_from names e from
    unfolding first_from pieces_from
    alt_single r z g =
        let n : length e + 1 ≡ 0 + length e + 1 = omega arith in
        g ∙ ap (piece_from names e 0) n
        ∙ sym (single_is ∙ ap₂ (λ (k : ℕ) (l : List (List ℕ)). first_from k k names l) z (pick_false _ _ _ (sym p ∙ q) ∙ pick_true _ _ _ (eq-eqb from 0 z)))

    pub alt_past : (from ≡ 0 → ⊥) → Nothing ≡ alternative_from names e from
    unfolding first_from pieces_from
    alt_past z = sym (single_is ∙ ap (first_from from from names) (pick_false _ _ _ (sym p ∙ q) ∙ pick_false _ _ _ (ne_eqb from 0 z)))

pub ruleset alternative_laws = (alt_round, alt_single, alt_past, rules)
