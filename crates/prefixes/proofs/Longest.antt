-- Request 5: where a name is parted, it is by the longest prefix that fits, of which all that fit are beginnings; and only names that begin
-- with `de la ` are parted otherwise than by the crate. Assumes nothing.
use mathlib.Core.Path.{◌≡◌, refl, sym, ap, ◌∙◌}
use mathlib.Core.Bool.{Bool, true, false}
use mathlib.Core.List.{List, [], ◌∷◌, ◌++◌, append-nil}
use mathlib.Core.Logic.{◌⊎◌, inl, inr, ⊎_elim}
use Prim.Native.Nat.{ℕ, suc, ◌≤◌, ◌<◌, max}
use native.Mathlib.Decide.{dec_le}
use native.Mathlib.Omega.{arith}
use lib.Dec.{eqb}
use lib.ListN.{length, drop, drop_of_length-le}
use borrow.Author.Tests.{eqb-true, eq-eqb}
use Rattle.base.specs.Pick.{pick, and}
use Rattle.base.proofs.Arms.{clash}
use Rattle.base.proofs.PickLaws.{pick_true, pick_false, pick_inv, pick_all, and_yes, and_no, and_inv}
use Rattle.letters.specs.Order.{same_text}
use Rattle.letters.proofs.OrderLaws.{same_is, same_refl}
use Rattle.texts.specs.Parts.{first_is, place_of, has, prefix_of}
use Rattle.texts.proofs.Laws.{prefix_split, prefix_nested}
use Rattle.texts.proofs.Chars.{has_cons}
use Rattle.prefixes.specs.Prefixes.{generic, prefixes_of, prefix_fits, filtered, that_fit, longest, led_by, among, split_of, is_prefix}
use Rattle.prefixes.specs.Longest.{FitsName, LongestLeads, first_fit, split_as_crate, de_la}
use Rattle.prefixes.specs.declared.prefixes.NameType.TheVariants.{Generic}
use Rattle.prefixes.specs.declared.prefixes.Prefix.{Prefix}
use Rattle.prefixes.specs.declared.prefixes.Prefix.TheVariants.{Leads, Whole}

-- ---- two that fit

fits_begins : (p q s : List ℕ) → prefix_fits p s ≡ true → prefix_fits q s ≡ true → length p ≤ length q → prefix_of p q ≡ true
unfolding prefix_fits
fits_begins p q s e f h = prefix_nested p q s (and_inv _ _ e).0 (and_inv _ _ f).0 h

-- there is never a doubt which is the longest: of two that fit, one is the beginning of the other
pub one_begins_the_other : (p q s : List ℕ) → prefix_fits p s ≡ true → prefix_fits q s ≡ true → (prefix_of p q ≡ true) ⊎ (prefix_of q p ≡ true)
one_begins_the_other p q s e f = elim (dec_le (length p) (length q)) [
  | yes h ↦ inl (fits_begins p q s e f h)
  | no h ↦ inr (fits_begins q p s f e (omega arith))
]

-- and two of one length are the same
pub as_long_is_the_same : (p q s : List ℕ) → prefix_fits p s ≡ true → prefix_fits q s ≡ true → length p ≡ length q → p ≡ q
as_long_is_the_same p q s e f h =
    let short : length q ≤ length p = omega arith in
    let none : drop (length p) q ≡ [] = drop_of_length-le q short in
    sym (append-nil p) ∙ ap (λ (l : List ℕ). p ++ l) (sym none) ∙ prefix_split p q (fits_begins p q s e f (omega arith))

-- ---- those that fit

among_more : (p q : List ℕ) (ps : List (List ℕ)) → among ps q ≡ true → among (p ∷ ps) q ≡ true
unfolding among
among_more p q ps m = pick_all (λ (b : Bool). b ≡ true) (same_text p q) _ _ refl m

among_first : (p : List ℕ) (ps : List (List ℕ)) → among (p ∷ ps) p ≡ true
unfolding among
among_first p ps = pick_true _ _ _ (same_refl p)

-- the first of a list, or one of the others
pub among_cases : (p q : List ℕ) (ps : List (List ℕ)) → among (p ∷ ps) q ≡ true → (p ≡ q) ⊎ (among ps q ≡ true)
unfolding among
among_cases p q ps m = ⊎_elim (λ w. inl (same_is p q w.0)) (λ w. inr w.1) (pick_inv (same_text p q) _ _ _ m)

-- those that pass a test are those of the list that do
module _ (f : List ℕ → Bool) where
  filtered_by : (p q : List ℕ) (ps : List (List ℕ)) (t u : Bool) → f p ≡ t → same_text p q ≡ u → among (filtered f ps) q ≡ and (among ps q) (f q)
      → among (pick t (p ∷ filtered f ps) (filtered f ps)) q ≡ and (pick u true (among ps q)) (f q)
  unfolding among pick and
  filtered_by p q ps true true e k ih = pick_true _ _ _ k ∙ sym (ap f (sym (same_is p q k)) ∙ e)
  filtered_by p q ps true false e k ih = pick_false _ _ _ k ∙ ih
  filtered_by p q ps false true e k ih = let no : f q ≡ false = ap f (sym (same_is p q k)) ∙ e in ih ∙ sym (and_no (among ps q) (f q) (sym no)) ∙ sym no
  filtered_by p q ps false false e k ih = ih

  filtered_among : (q : List ℕ) (ps : List (List ℕ)) → among (filtered f ps) q ≡ and (among ps q) (f q)
  unfolding filtered among and
  filtered_among q [] = refl
  filtered_among q (p ∷ ps) = filtered_by p q ps _ _ refl refl (filtered_among q ps)

-- ---- the longest

longest_most : (q : List ℕ) (ps : List (List ℕ)) → among ps q ≡ true → length q ≤ longest ps
unfolding longest among
longest_most q [] m = clash (cc)
longest_most q (p ∷ ps) m = ⊎_elim (λ k. omega (arith, ap length k)) (λ k. omega (arith, longest_most q ps k)) (among_cases p q ps m)

longest_met : (P : ℕ → Type 0) (p : List ℕ) (ps : List (List ℕ)) → ((q : List ℕ) → among (p ∷ ps) q ≡ true → P (length q)) → P (longest (p ∷ ps))
unfolding longest
longest_met P p [] k = let one : max (length p) 0 ≡ length p = omega arith in rw one (k p (among_first p []))
longest_met P p (r ∷ ps) k = elim (dec_le (length p) (longest (r ∷ ps))) [
  | yes h ↦ let more : max (length p) (longest (r ∷ ps)) ≡ longest (r ∷ ps) = omega arith in rw more (longest_met P r ps (λ q m. k q (among_more p q (r ∷ ps) m)))
  | no h ↦ let this : max (length p) (longest (r ∷ ps)) ≡ length p = omega arith in rw this (k p (among_first p (r ∷ ps)))
]

-- a list of prefixes leads by one of them that is as long as any, or is empty
led_by_one : (Q : Prefix → Type 0) (ps : List (List ℕ))
    → ((p : List ℕ) → among ps p ≡ true → ((q : List ℕ) → among ps q ≡ true → length q ≤ length p) → Q (Leads (length p) (suc (length p))))
    → (((q : List ℕ) → among ps q ≡ true → ⊥) → Q Whole) → Q (led_by ps)
unfolding led_by among
led_by_one Q [] k w = w (λ q m. clash (cc))
led_by_one Q (p ∷ ps) k w =
    longest_met (λ (n : ℕ). ((q : List ℕ) → among (p ∷ ps) q ≡ true → length q ≤ n) → Q (Leads n (suc n))) p ps k (λ q m. longest_most q (p ∷ ps) m)

module _ (s : List ℕ) where
  fitting_led : (Q : Prefix → Type 0) → ((p : List ℕ) → FitsName s p → ((q : List ℕ) → FitsName s q → length q ≤ length p) → Q (Leads (length p) (suc (length p))))
      → (((q : List ℕ) → FitsName s q → ⊥) → Q Whole) → Q (led_by (that_fit (prefixes_of Generic) s))
  unfolding is_prefix that_fit
  fitting_led Q k w =
      let all : (q : List ℕ) → FitsName s q → among (filtered (λ (p : List ℕ). prefix_fits p s) (prefixes_of Generic)) q ≡ true =
      λ q g. filtered_among (λ (p : List ℕ). prefix_fits p s) q (prefixes_of Generic) ∙ and_yes _ _ g.listed g.fits in
      led_by_one Q _
      (λ p m most. let f = and_inv _ _ (sym (filtered_among (λ (p : List ℕ). prefix_fits p s) p (prefixes_of Generic)) ∙ m) in
      k p (record { listed = f.0; fits = f.1 }) (λ q g. most q (all q g)))
      (λ none. w (λ q g. none q (all q g)))

split_by : (Q : Prefix → Type 0) (t : Bool) (x : Prefix) → (t ≡ true → Q (Leads 1 2)) → (t ≡ false → Q x) → Q (pick t (Leads 1 2) x)
unfolding pick
split_by Q true x a b = a refl
split_by Q false x a b = b refl

-- a name is parted behind `d'`, or else behind a prefix that fits, or is one whole
pub split_all : (s : List ℕ) (Q : Prefix → Type 0) → (prefix_of (100 ∷ 39 ∷ []) s ≡ true → Q (Leads 1 2))
    → ((p : List ℕ) → FitsName s p → Q (Leads (length p) (suc (length p)))) → Q Whole → Q (split_of s)
unfolding split_of
split_all s Q a k w = split_by Q _ _ a (λ _. fitting_led s Q (λ p f most. k p f) (λ none. w))

-- the longest prefix that fits leads every name that does not start with `d'`
pub longest_leads : (s : List ℕ) → prefix_of (100 ∷ 39 ∷ []) s ≡ false → LongestLeads s (split_of s)
unfolding split_of
longest_leads s e =
    split_by (LongestLeads s) _ _ (λ y. clash (cc))
    (λ _. fitting_led s (LongestLeads s)
    (λ p f most. (p, record { fits_it = f; begun = λ q g. fits_begins q p s g.fits f.fits (most q g) }, refl, refl))
    (λ none. none))

-- ---- where the crate parts a name otherwise

-- the first of some texts leads as the longest where none is longer than another
module _ (s : List ℕ) where
  longest_within : (n : ℕ) (ps : List (List ℕ)) → ((q : List ℕ) → among ps q ≡ true → length q ≤ n) → longest ps ≤ n
  unfolding longest
  longest_within n [] h = omega arith
  longest_within n (p ∷ ps) h = omega (arith, h p (among_first p ps), longest_within n ps (λ q m. h q (among_more p q ps m)))

  first_by : (p : List ℕ) (ps : List (List ℕ)) (t : Bool) → prefix_fits p s ≡ t → (prefix_fits p s ≡ true → (q : List ℕ) → among (that_fit ps s) q ≡ true → length q ≤ length p)
      → led_by (that_fit ps s) ≡ first_fit ps s
      → led_by (pick t (p ∷ that_fit ps s) (that_fit ps s)) ≡ pick t (Leads (length p) (suc (length p))) (first_fit ps s)
  unfolding pick led_by longest
  first_by p ps true e h ih = ap (λ (n : ℕ). Leads n (suc n)) (omega (arith, longest_within (length p) (that_fit ps s) (h e)))
  first_by p ps false e h ih = ih

  first_is_longest : (ps : List (List ℕ)) → ((p q : List ℕ) → among ps p ≡ true → among ps q ≡ true → prefix_fits p s ≡ true → prefix_fits q s ≡ true → length q ≤ length p)
      → led_by (that_fit ps s) ≡ first_fit ps s
  unfolding that_fit filtered first_fit led_by
  first_is_longest [] h = refl
  first_is_longest (p ∷ ps) h =
      first_by p ps _ refl (λ e q m. let f = and_inv _ _ (sym (filtered_among (λ (p : List ℕ). prefix_fits p s) q ps) ∙ m) in h p q (among_first p ps) (among_more p q ps f.0) e f.1)
      (first_is_longest ps (λ x y a b. h x y (among_more p x ps a) (among_more p y ps b)))

-- a prefix that is longer than another that fits has the space behind that one
fits_in_longer : (p q s : List ℕ) → prefix_fits p s ≡ true → prefix_of q s ≡ true → length p < length q → has 32 q ≡ true
unfolding prefix_fits prefix_of first_is and
fits_in_longer p [] s e f h = absurd (omega arith)
fits_in_longer p (y ∷ q) [] e f h = clash (cc)
fits_in_longer [] (y ∷ q) (z ∷ s) e f h =
    has_cons 32 y q ∙ pick_true _ _ _ (eq-eqb y 32 (sym (eqb-true z y (and_inv (eqb z y) _ f).0) ∙ eqb-true z 32 e))
fits_in_longer (x ∷ p) (y ∷ q) (z ∷ s) e f h =
    let w = and_inv (and (eqb z x) (prefix_of p s)) _ e in
    has_cons 32 y q ∙ pick_all (λ (b : Bool). b ≡ true) _ _ _ refl
    (fits_in_longer p q s (and_yes _ _ (and_inv (eqb z x) _ w.0).1 w.1) (and_inv (eqb z y) _ f).1 (omega arith))

-- of the prefixes `de la` alone has one
spaced_is_de_la : (q : List ℕ) → is_prefix Generic q ≡ true → has 32 q ≡ true → 100 ∷ 101 ∷ 32 ∷ 108 ∷ 97 ∷ [] ≡ q
unfolding is_prefix prefixes_of filtered has place_of pick among
spaced_is_de_la q m h = ⊎_elim (λ k. k) (λ k. clash (cc)) (among_cases _ q [] (filtered_among (has 32) q generic ∙ and_yes _ _ m h))

-- what fits is, with the space behind it, what the name begins with
space_begins : (p s : List ℕ) → prefix_fits p s ≡ true → prefix_of (p ++ 32 ∷ []) s ≡ true
unfolding prefix_fits prefix_of first_is and
space_begins [] [] e = e
space_begins [] (y ∷ s) e = and_yes (eqb y 32) _ e refl
space_begins (x ∷ p) [] e = clash (cc)
space_begins (x ∷ p) (y ∷ s) e =
    let w = and_inv (and (eqb y x) (prefix_of p s)) _ e in
    let v = and_inv (eqb y x) _ w.0 in
    and_yes (eqb y x) _ v.0 (space_begins p s (and_yes (prefix_of p s) _ v.1 w.1))

-- two prefixes fit no name but one that begins with `de la `
pub two_fit_de_la : (p q s : List ℕ) → is_prefix Generic q ≡ true → prefix_fits p s ≡ true → prefix_fits q s ≡ true → length p < length q → prefix_of de_la s ≡ true
unfolding prefix_fits
two_fit_de_la p q s m f g h =
    ap (λ (t : List ℕ). prefix_of (t ++ 32 ∷ []) s) (spaced_is_de_la q m (fits_in_longer p q s f (and_inv _ _ g).0 h)) ∙ space_begins q s g

de_la_leads : (r : List ℕ) → split_of (de_la ++ r) ≡ Leads 5 6
unfolding split_of prefixes_of that_fit filtered prefix_fits prefix_of first_is pick and longest led_by
de_la_leads r = refl

crate_by : (s : List ℕ) (t : Bool) → prefix_of de_la s ≡ t → split_of s ≡ pick t (Leads 5 6) (split_as_crate s)
unfolding pick split_of split_as_crate is_prefix
crate_by s true e = ap split_of (sym (prefix_split de_la s e)) ∙ de_la_leads (drop 6 s)
crate_by s false e =
    ap (pick (prefix_of (100 ∷ 39 ∷ []) s) (Leads 1 2))
    (first_is_longest s (prefixes_of Generic) (λ p q a b f g. elim (dec_le (length q) (length p)) [
      | yes h ↦ h
      | no h ↦ let begins = two_fit_de_la p q s b f g (omega arith) in clash (cc)
    ]))

-- a name that begins with `de la ` is parted behind that; any other as the crate parts it
pub as_crate_but_de_la : (s : List ℕ) → split_of s ≡ pick (prefix_of de_la s) (Leads 5 6) (split_as_crate s)
as_crate_but_de_la s = crate_by s _ refl
