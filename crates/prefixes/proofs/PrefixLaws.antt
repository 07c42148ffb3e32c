-- A law for each way that the loops and branches of `prefixes` can go. Assumes nothing.
use mathlib.Core.Path.{◌≡◌, refl, sym, ap, ◌∙◌}
use mathlib.Core.Bool.{Bool, true, false}
use mathlib.Core.List.{List, [], ◌∷◌, ◌++◌, map-append}
use Prim.Native.Nat.{ℕ, suc, ◌+◌, ◌≤◌, ◌<◌, max}
use native.Mathlib.Numerals.{add-one}
use native.Mathlib.Omega.{arith}
use lib.Dec.{eqb, ltb}
use lib.ListN.{length, get_or, take, drop, length-drop}
use lib.Seq.{drop-cons, take-suc, take_all}
use borrow.Author.Rules.{rules}
use borrow.Author.Tests.{ltb-true, ltb-false}
use Rattle.base.specs.Pick.{pick}
use Rattle.letters.specs.Order.{same_text}
use Rattle.texts.specs.Parts.{prefix_of}
use Rattle.texts.proofs.Laws.{first_some, first_none, first_some_by}
use Rattle.texts.proofs.Chars.{or_is}
use Rattle.prefixes.specs.Prefixes.{generic, prefixes_of, prefix_fits, filtered, that_fit, longest, led_by, among, split_of, is_prefix}
use Rattle.prefixes.specs.InnerContracts.{longer_than, texts_of}
use Rattle.std.specs.Borrow.{Bor}
use Rattle.std.specs.List.{list_any}
use Rattle.prefixes.specs.declared.prefixes.NameType.{NameType}
use Rattle.prefixes.specs.declared.prefixes.Prefix.{Prefix}
use Rattle.prefixes.specs.declared.prefixes.Prefix.TheVariants.{Leads, Whole}
use Rattle.base.proofs.PickLaws.{pick_yes, pick_no, pick_true, pick_false, and_rest, and_none, and_no, and_inv}

-- ---- a prefix and a space
module _ (p s : List ℕ) where
  pub fits_space : (t : Bool) → t ≡ prefix_of p s → t ≡ true → length p < length s → eqb (get_or s (length p) 0) 32 ≡ prefix_fits p s
  unfolding prefix_fits
  fits_space t e q h =
      let some : 0 < length (drop (length p) s) = omega (arith, length-drop (length p) s) in
      and_rest _ _ _ (sym e ∙ q) (ap (λ (l : List ℕ). eqb (get_or l 0 0) 32) (sym (drop-cons s (length p) 0 h)) ∙ first_some _ 32 some)

  pub fits_end : length s ≤ length p → false ≡ prefix_fits p s
  unfolding prefix_fits
  fits_end h = and_no _ _ (first_none _ 32 (omega (arith, length-drop (length p) s)))

  pub fits_not : (t : Bool) → t ≡ prefix_of p s → t ≡ false → false ≡ prefix_fits p s
  unfolding prefix_fits
  fits_not t e q = and_none _ _ _ (sym e ∙ q) refl

-- so it is shorter than the name
pub fits_within : (p s : List ℕ) → prefix_fits p s ≡ true → length p < length s
unfolding prefix_fits
fits_within p s e = let l = first_some_by 32 (drop (length p) s) true (sym (and_inv _ _ e).1) refl in omega (arith, length-drop (length p) s)

-- ---- the longer of two
pub longer : (best : Prefix) (most rest size : ℕ) → best ≡ Leads most rest → ltb most size ≡ longer_than best size
unfolding longer_than
longer best most rest size e = rw e refl

pub longer_first : (best : Prefix) (size : ℕ) → best ≡ Whole → true ≡ longer_than best size
unfolding longer_than
longer_first best size e = rw e refl

-- ---- the longest of those that fit, as far as place i of the table
longest_behind : (ps : List (List ℕ)) (p : List ℕ) → longest (ps ++ p ∷ []) ≡ max (longest ps) (length p)
unfolding longest
longest_behind [] p = omega arith
longest_behind (q ∷ ps) p = omega (arith, longest_behind ps p)

led_behind : (ps : List (List ℕ)) (p : List ℕ) (t : Bool) → longer_than (led_by ps) (length p) ≡ t
    → led_by (ps ++ p ∷ []) ≡ pick t (Leads (length p) (suc (length p))) (led_by ps)
unfolding led_by longer_than longest pick
led_behind [] p t h = ap (λ (n : ℕ). Leads n (suc n)) (omega arith) ∙ pick_yes t _ _ _ (sym h) refl
led_behind (q ∷ ps) p true h = ap (λ (n : ℕ). Leads n (suc n)) (omega (arith, longest_behind (q ∷ ps) p, ltb-true (longest (q ∷ ps)) (length p) h))
led_behind (q ∷ ps) p false h = ap (λ (n : ℕ). Leads n (suc n)) (omega (arith, longest_behind (q ∷ ps) p, ltb-false (longest (q ∷ ps)) (length p) h))

filtered_behind : (f : List ℕ → Bool) (ps : List (List ℕ)) (p : List ℕ) → filtered f (ps ++ p ∷ []) ≡ pick (f p) (filtered f ps ++ p ∷ []) (filtered f ps)
unfolding filtered pick
filtered_behind f [] p = refl
filtered_behind f (q ∷ ps) p = ap (λ (l : List (List ℕ)). pick (f q) (q ∷ l) l) (filtered_behind f ps p) ∙ over (f q) (f p)
  where
    over : (t u : Bool) → pick t (q ∷ pick u (filtered f ps ++ p ∷ []) (filtered f ps)) (pick u (filtered f ps ++ p ∷ []) (filtered f ps)) ≡ pick u (pick t (q ∷ filtered f ps) (filtered f ps) ++ p ∷ []) (pick t (q ∷ filtered f ps) (filtered f ps))
    over true true = refl
    over true false = refl
    over false true = refl
    over false false = refl

pub record Longest (s : List ℕ) (table : List (Bor (List ℕ))) (i : ℕ) (best : Prefix) : Type 0 where
  pub is : best ≡ led_by (that_fit (texts_of (take i table)) s)

pub longest_start : (s : List ℕ) (table : List (Bor (List ℕ))) → Longest s table 0 Whole
unfolding led_by that_fit filtered
longest_start s table = record { is = refl }

pub longest_cut : (s : List ℕ) (table : List (Bor (List ℕ))) (i : ℕ) (best : Prefix) → Longest s table i best → length table ≤ i → best ≡ led_by (that_fit (texts_of table) s)
longest_cut s table i best w h = w.is ∙ ap (λ (ts : List (Bor (List ℕ))). led_by (that_fit (texts_of ts) s)) (take_all i table h)

module _ (s : List ℕ) (table : List (Bor (List ℕ))) (i : ℕ) (best : Prefix) (w : Longest s table i best) (h : i < length table) (p : Bor (List ℕ)) (e : p ≡ get_or table i p) where
  behind : that_fit (texts_of (take (i + 1) table)) s ≡ pick (prefix_fits p.now s) (that_fit (texts_of (take i table)) s ++ p.now ∷ []) (that_fit (texts_of (take i table)) s)
  unfolding that_fit
  behind =
      ap (λ (ts : List (Bor (List ℕ))). filtered (λ (q : List ℕ). prefix_fits q s) (texts_of ts)) (rw (add-one, take-suc table i p h, ← e) refl)
      ∙ ap (filtered (λ (q : List ℕ). prefix_fits q s)) (map-append _ (take i table) (p ∷ [])) ∙ filtered_behind _ (texts_of (take i table)) p.now

  led : (b : Bool) → longer_than best (length p.now) ≡ b → led_by (that_fit (texts_of (take i table)) s ++ p.now ∷ []) ≡ pick b (Leads (length p.now) (suc (length p.now))) best
  led b q = led_behind _ p.now b (ap (λ (x : Prefix). longer_than x (length p.now)) (sym w.is) ∙ q) ∙ ap (pick b (Leads (length p.now) (suc (length p.now)))) (sym w.is)

  module _ (f : Bool) (k : f ≡ prefix_fits p.now s) where
    pub longest_not : f ≡ false → Longest s table (i + 1) best
    longest_not z = record { is = w.is ∙ sym (ap led_by (behind ∙ pick_false _ _ _ (sym k ∙ z))) }

    pub longest_here : (b : Bool) → b ≡ longer_than best (length p.now) → b ≡ true → f ≡ true → Longest s table (i + 1) (Leads (length p.now) (length p.now + 1))
    longest_here b l y z = record { is = ap (Leads (length p.now)) (add-one (length p.now)) ∙ sym (ap led_by (behind ∙ pick_true _ _ _ (sym k ∙ z)) ∙ led true (sym l ∙ y) ∙ pick_true _ _ _ refl) }

    pub fits_room : f ≡ true → length p.now < length s
    fits_room z = fits_within p.now s (sym k ∙ z)

  short_by : (f : Bool) → prefix_fits p.now s ≡ f → longer_than best (length p.now) ≡ false → Longest s table (i + 1) best
  short_by true f q = record { is = sym (ap led_by (behind ∙ pick_true _ _ _ f) ∙ led false q ∙ pick_false _ _ _ refl) }
  short_by false f q = longest_not false (sym f) refl

  pub longest_short : (b : Bool) → b ≡ longer_than best (length p.now) → b ≡ false → Longest s table (i + 1) best
  longest_short b l z = short_by _ refl (sym l ∙ z)

-- ---- whether w is a text of the table
pub among_any : (w : List ℕ) (table : List (Bor (List ℕ))) → list_any (λ p. same_text p.now w) table ≡ among (texts_of table) w
unfolding among
among_any w [] = refl
among_any w (p ∷ table) = or_is (same_text p.now w) _ ∙ ap (pick (same_text p.now w) true) (among_any w table)

-- ---- where a name is parted
pub split_apostrophe : (s : List ℕ) (t : Bool) → t ≡ prefix_of (100 ∷ 39 ∷ []) s → t ≡ true → Leads 1 2 ≡ split_of s
unfolding split_of
split_apostrophe s t e q = pick_yes _ _ _ _ (sym e ∙ q) refl

pub split_prefix : (s : List ℕ) (t : Bool) (r : Prefix) → t ≡ prefix_of (100 ∷ 39 ∷ []) s → t ≡ false → r ≡ led_by (that_fit generic s) → r ≡ split_of s
unfolding split_of prefixes_of
split_prefix s t r e q f = pick_no _ _ _ _ (sym e ∙ q) f

pub prefix_by : (kind k : NameType) (v : List ℕ) (b : Bool) → kind ≡ k → b ≡ among (prefixes_of k) v → b ≡ is_prefix kind v
unfolding is_prefix
prefix_by kind k v b e p = rw e p

pub ruleset prefix_laws = (fits_space, fits_end, fits_not, longest_start, longest_cut, longest_short, longest_not, longest_here, fits_room, longer, longer_first, split_apostrophe, split_prefix, prefix_by, rules)
