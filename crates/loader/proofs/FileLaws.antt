-- What a language list or a guessing file says, item by item. Assumes nothing.
use mathlib.Core.Path.{◌≡◌, refl, sym, ap, ◌∙◌}
use mathlib.Core.Bool.{Bool, true}
use mathlib.Core.List.{List, [], ◌∷◌}
use Prim.Native.Nat.{ℕ, zero, suc, ◌+◌, ◌-◌, ◌*◌, ◌≤◌, ◌<◌}
use native.Mathlib.Decide.{dec_le}
use native.Mathlib.Omega.{arith}
use borrow.Author.Rules.{rules}
use lib.ListN.{length}
use mir.Syntax.{w64}
use mir.Val.{Fits}
use Rattle.refusals.specs.declared.Refusal.{Refusal}
use Rattle.refusals.specs.declared.Refusal.TheVariants.{LineUnreadable}
use Rattle.base.proofs.Arms.{clash}
use Rattle.writing.specs.InnerContracts.{cap}
use Rattle.pack.specs.Packs.{all}
use Rattle.rules_parser.proofs.NumberLaws.{item_one}
use Rattle.rules_parser.specs as rules_parser
use rules_parser.Files.{item_at, items_of}
use Rattle.rules_parser.proofs.Laws.{passed_goes, passed_in, passed_lines, tells_goes, tells_in, items_start, items_end, items_passed, items_tells, items_wrong}
use rules_parser.declared.lines.FileKind.{FileKind}
use rules_parser.declared.lines.Clause.{Clause}
use rules_parser.declared.files.Item.{Item}
use rules_parser.declared.files.Item.TheVariants.{Passed, Tells, Wrong}
use Rattle.rule_lists.specs.Outcomes.{Loading, fine, not_loaded, and_load}
use Rattle.loader.specs.Files.{Kept, keeps, fault, on_kept, told_in}
use Rattle.base.proofs.PickLaws.{and_yes}
use Rattle.pack_bytes.specs.InnerContracts.{Each, none, more}
use rules_parser.InnerContracts.{items_at}

pub fine_is : {A : Type 0} {x y : A} → fine x ≡ fine y → x ≡ y
fine_is e = cc

-- what goes on came to a value: so did what was before it
pub then_fine : {A B : Type 0} (x : Loading A) (k : A → Loading B) (b : B) → and_load x k ≡ fine b → (a : A) × (x ≡ fine a) × (k a ≡ fine b)
unfolding and_load
then_fine (fine a) k b e = (a, refl, e)
then_fine (not_loaded c l f) k b e = clash (cc)

pub then_then : {A B C : Type 0} (x : Loading A) (g : A → B) (k : B → Loading C) → and_load (and_load x (λ a. fine (g a))) k ≡ and_load x (λ a. k (g a))
unfolding and_load
then_then (fine a) g k = refl
then_then (not_loaded c l f) g k = refl

-- ---- the place p to which a file is read, in its line l

pub record AtLine (s : List ℕ) (p l : ℕ) : Type 0 where
  pub within : p ≤ length s
  pub lines : l ≤ p + 1
  pub small : length s < cap

pub line_start : (s : List ℕ) → length s * 1 < cap → AtLine s 0 1
line_start s h = record { within = omega arith; lines = omega arith; small = omega arith }

module _ (k : FileKind) (s : List ℕ) (p l : ℕ) (w : AtLine s p l) (x : Item) (e : x ≡ item_at k s p) where
  module _ (a n : ℕ) (q : x ≡ Passed a n) where
    here : item_at k s p ≡ Passed a n
    here = sym e ∙ q

    pub passed_line : AtLine s n (l + a)
    passed_line =
        record { within = passed_in k s p a n here; lines = omega (arith, w.lines, passed_goes k s p a n here, passed_lines k s p a n here); small = w.small }

    pub passed_less : length s - n < length s - p
    passed_less = omega (arith, passed_goes k s p a n here, passed_in k s p a n here)

    pub passed_room : Fits w64 (l + a)
    passed_room = record { fits = omega (arith, passed_line) }

  module _ (t : Clause) (n : ℕ) (q : x ≡ Tells t n) where
    goes : (p < n) × (n ≤ length s)
    goes = (tells_goes k s p t n (sym e ∙ q), tells_in k s p t n (sym e ∙ q))

    pub told_line : AtLine s n (l + 1)
    told_line = record { within = goes.1; lines = omega (arith, w.lines, goes.0); small = w.small }

    pub told_less : length s - n < length s - p
    told_less = omega (arith, goes.0, goes.1)

pub line_room : (s : List ℕ) (p l : ℕ) → AtLine s p l → Fits w64 (l + 1)
line_room s p l w = record { fits = omega (arith, w.within, w.lines, w.small) }

pub ruleset line_steps = (rules, item_one, line_start, line_room, passed_line, passed_less, passed_room, told_line, told_less)

-- ---- what a file says

module _ {A : Type 0} (meaning : Clause → Kept A) (f : ℕ) (k : FileKind) (s : List ℕ) where
  -- what is said from the place p on, which is in line l
  abbrev pub told_from : ℕ → ℕ → Loading (List A)
  told_from l p = told_in meaning f l (items_at k s p)

  pub told_start : told_from 1 0 ≡ told_in meaning f 1 (items_of k s)
  told_start = ap (told_in meaning f 1) (items_start k s)

  module _ (l p : ℕ) where
    pub told_end : length s ≤ p → told_from l p ≡ fine []
    unfolding told_in
    told_end h = ap (told_in meaning f l) (items_end k s p h)

    pub told_wrong : p < length s → item_at k s p ≡ Wrong → told_from l p ≡ not_loaded LineUnreadable l f
    unfolding told_in
    told_wrong h e = ap (told_in meaning f l) (items_wrong k s p h e)

    pub told_passed : (a n : ℕ) → item_at k s p ≡ Passed a n → told_from l p ≡ told_from (l + a) n
    unfolding told_in
    told_passed a n e = ap (told_in meaning f l) (items_passed k s p a n e)

    module _ (t : Clause) (n : ℕ) (e : item_at k s p ≡ Tells t n) (x : Kept A) (m : meaning t ≡ x) where
      told_tells : told_from l p ≡ on_kept x (λ c. not_loaded c l f) (λ a. and_load (told_from (l + 1) n) (λ rest. fine (a ∷ rest)))
      unfolding told_in
      told_tells = ap (told_in meaning f l) (items_tells k s p t n e)
          ∙ ap (λ (y : Kept A). on_kept y (λ c. not_loaded c l f) (λ a. and_load (told_from (l + 1) n) (λ rest. fine (a ∷ rest)))) m

    pub told_fault : (t : Clause) (n : ℕ) (c : Refusal) → item_at k s p ≡ Tells t n → meaning t ≡ fault c → told_from l p ≡ not_loaded c l f
    unfolding on_kept
    told_fault t n c e m = told_tells t n e _ m

    pub told_kept : (t : Clause) (n : ℕ) (a : A) → item_at k s p ≡ Tells t n → meaning t ≡ keeps a
        → told_from l p ≡ and_load (told_from (l + 1) n) (λ rest. fine (a ∷ rest))
    unfolding on_kept
    told_kept t n a e m = told_tells t n e _ m

  -- what holds of all that a line of the file can be kept as holds of each that is kept
  module _ (P : A → Type 0) (good : (p : ℕ) (t : Clause) (n : ℕ) (a : A) → item_at k s p ≡ Tells t n → meaning t ≡ keeps a → P a) where
    abbrev Rest : ℕ → Type 0
    Rest p = (l : ℕ) (xs : List A) → told_from l p ≡ fine xs → Each P xs

    kept_by : (l p : ℕ) (xs : List A) (t : Clause) (n : ℕ) → item_at k s p ≡ Tells t n → (y : Kept A) → meaning t ≡ y → Rest n → told_from l p ≡ fine xs
        → Each P xs
    kept_by l p xs t n e (keeps a) m ih q =
        let w = then_fine _ _ xs (sym (told_kept l p t n a e m) ∙ q) in
        rw (← fine_is w.2) (more (good p t n a e m) (ih (l + 1) w.0 w.1))
    kept_by l p xs t n e (fault c) m ih q = let z = sym (told_fault l p t n c e m) ∙ q in clash (cc)

    item_by_lem : (l p : ℕ) (xs : List A) → p < length s → (x : Item) → item_at k s p ≡ x → ((n : ℕ) → p < n → n ≤ length s → Rest n)
        → told_from l p ≡ fine xs → Each P xs
    item_by_lem l p xs h (Passed a n) e ih q = ih n (passed_goes k s p a n e) (passed_in k s p a n e) (l + a) xs (sym (told_passed l p a n e) ∙ q)
    item_by_lem l p xs h (Tells t n) e ih q = kept_by l p xs t n e _ refl (ih n (tells_goes k s p t n e) (tells_in k s p t n e)) q
    item_by_lem l p xs h Wrong e ih q = let z = sym (told_wrong l p h e) ∙ q in clash (cc)

    none_by : (l p : ℕ) (xs : List A) → length s ≤ p → told_from l p ≡ fine xs → Each P xs
    none_by l p xs h q = rw (← fine_is (sym (told_end l p h) ∙ q)) none

    each_from : (left p : ℕ) → length s - p ≤ left → Rest p
    each_from zero p h l xs q = none_by l p xs (omega arith) q
    each_from (suc left) p h l xs q = elim (dec_le (length s) p) [
      | yes i ↦ none_by l p xs i q
      | no i ↦ item_by_lem l p xs (omega arith) _ refl (λ n a b. each_from left n (omega arith)) q
    ]

    pub each_told : (xs : List A) → told_in meaning f 1 (items_of k s) ≡ fine xs → Each P xs
    each_told xs q = each_from (length s) 0 (omega arith) 1 xs (told_start ∙ q)

-- a test that holds of each
pub each_all : {A : Type 0} (f : A → Bool) {xs : List A} → Each (λ x. f x ≡ true) xs → all f xs ≡ true
unfolding all
each_all f none = refl
each_all f (more x xs) = and_yes _ _ x (each_all f xs)
