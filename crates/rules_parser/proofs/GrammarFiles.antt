-- A file is read as the grammar says, sound and complete. Assumes nothing.
use mathlib.Core.Path.{◌≡◌, refl, sym, ap, ◌∙◌}
use mathlib.Core.Bool.{Bool, true, false}
use mathlib.Core.List.{List, [], ◌∷◌, map}
use Prim.Native.Nat.{ℕ, zero, suc, ◌-◌, ◌≤◌, ◌<◌}
use native.Mathlib.Omega.{arith}
use lib.Dec.{ltb}
use lib.ListN.{length, drop, length-drop, drop_of_length-le}
use borrow.Author.Tests.{ltb-true, ltb-false}
use Rattle.rules_parser.specs as specs
use specs.Files.{item_at, items_of}
use specs.Grammar.{FoundItem, wrong, found_of, Begins, Reads, over, next, stop}
use Rattle.rules_parser.proofs as own
use own.Laws.{items_start, items_end, items_passed, items_tells, items_wrong, passed_goes, tells_goes}
use own.GrammarFields.{place_in_lem, place_some}
use specs.declared.lines.FileKind.{FileKind}
use specs.declared.files.Item.{Item}
use specs.declared.files.Item.TheVariants.{Passed, Tells, Wrong}
use specs.InnerContracts.{items_at}
use own.GrammarItems.{More, Item-as, item_complete, Begun, item_sound}

reads_next : {k : FileKind} {x : FoundItem} {left : List ℕ} {xs : List FoundItem} (r : List ℕ) (b : ℕ) (t : List ℕ) → r ≡ b ∷ t → Begins k r x left
    → Reads k left xs → Reads k r (x ∷ xs)
reads_next r b t e w h = rw e (next (rw e at w) h)

reads_stop : (k : FileKind) (r : List ℕ) (b : ℕ) (t : List ℕ) → r ≡ b ∷ t → ((x : FoundItem) (left : List ℕ) → Begins k r x left → ⊥)
    → Reads k r (wrong ∷ [])
reads_stop k r b t e n = rw e (stop (rw e at n))

from_past : (k : FileKind) (s : List ℕ) (p : ℕ) → length s ≤ p → Reads k (drop p s) (map (found_of s) (items_at k s p))
from_past k s p h = rw (drop_of_length-le s h, items_end k s p h) over

-- one item, what stands behind it being read
from_item : (k : FileKind) (s : List ℕ) (p : ℕ) → p < length s → ((q : ℕ) → p < q → Reads k (drop q s) (map (found_of s) (items_at k s q)))
    → (i : Item) → item_at k s p ≡ i → Begun k s p i → Reads k (drop p s) (map (found_of s) (items_at k s p))
unfolding Begun found_of More
from_item k s p o ih (Passed m q) e b =
    rw (items_passed k s p m q e) (reads_next (drop p s) _ _ (place_some s p o) b (ih q (passed_goes k s p m q e)))
from_item k s p o ih (Tells t q) e b = rw (items_tells k s p t q e) (reads_next (drop p s) _ _ (place_some s p o) b (ih q (tells_goes k s p t q e)))
from_item k s p o ih Wrong e b =
    rw (items_wrong k s p o e) (reads_stop k (drop p s) _ _ (place_some s p o) (λ x left w. rw e at (item_complete k s p o w).more))

-- the items from p on, where at most n bytes are left
from_sound : (n : ℕ) (k : FileKind) (s : List ℕ) (p : ℕ) → length s - p ≤ n → Reads k (drop p s) (map (found_of s) (items_at k s p))
from_sound zero k s p h = from_past k s p (omega arith)
from_sound (suc n) k s p h = go (ltb p (length s)) refl (λ q. from_sound n k s q)
  where
    go : (t : Bool) → ltb p (length s) ≡ t → ((q : ℕ) → length s - q ≤ n → Reads k (drop q s) (map (found_of s) (items_at k s q)))
        → Reads k (drop p s) (map (found_of s) (items_at k s p))
    go true e ih =
        let o : p < length s = ltb-true _ _ e in
        from_item k s p o (λ q l. ih q (omega arith)) (item_at k s p) refl (item_sound k s p o)
    go false e ih = from_past k s p (ltb-false _ _ e)

from_complete : {k : FileKind} {r : List ℕ} {xs : List FoundItem} → Reads k r xs → (s : List ℕ) (p : ℕ) → drop p s ≡ r
    → xs ≡ map (found_of s) (items_at k s p)
unfolding found_of More Begun
from_complete {k} over s p e = sym (ap (map (found_of s)) (items_end k s p (omega (arith, length-drop p s, ap length e))))
from_complete {k} (next {b} {t} {left} {x} {xs} w h) s p e =
    go (item_at k s p) refl (item_complete k s p (place_in_lem s p b t e) (rw e w)) (from_complete h s)
  where
    go : (i : Item) → item_at k s p ≡ i → Item-as s i x left → ((q : ℕ) → drop q s ≡ left → xs ≡ map (found_of s) (items_at k s q))
        → x ∷ xs ≡ map (found_of s) (items_at k s p)
    go (Passed m q) f a ih = let g = a.found in let j = ih q a.more in rw (items_passed k s p m q f) (cc)
    go (Tells u q) f a ih = let g = a.found in let j = ih q a.more in rw (items_tells k s p u q f) (cc)
    go Wrong f a ih = absurd a.more
from_complete {k} (stop {b} {t} n) s p e = go (item_at k s p) refl (item_sound k s p (place_in_lem s p b t e))
  where
    go : (i : Item) → item_at k s p ≡ i → Begun k s p i → wrong ∷ [] ≡ map (found_of s) (items_at k s p)
    go (Passed m q) f w = absurd (n _ _ (rw e at w))
    go (Tells u q) f w = absurd (n _ _ (rw e at w))
    go Wrong f w = rw (items_wrong k s p (place_in_lem s p b t e) f) refl

left_one : (s left left' : List ℕ) (i : Item) → More s left i → More s left' i → left ≡ left'
unfolding More
left_one s left left' (Passed n q) v w = sym v ∙ w
left_one s left left' (Tells t q) v w = sym v ∙ w
left_one s left left' Wrong v w = absurd v

-- a text begins in one way
pub one_beginning : (k : FileKind) (s : List ℕ) (x y : FoundItem) (left left' : List ℕ) → 0 < length s → Begins k s x left → Begins k s y left'
    → (x ≡ y) × (left ≡ left')
one_beginning k s x y left left' o v w =
    let a = item_complete k s 0 o v in
    let b = item_complete k s 0 o w in
    (sym a.found ∙ b.found, left_one s left left' (item_at k s 0) a.more b.more)

-- what the loader reads of a file is what the grammar says of it
pub file_sound : (k : FileKind) (s : List ℕ) → Reads k s (map (found_of s) (items_of k s))
file_sound k s = rw (items_start k s) at (from_sound (length s) k s 0 (omega arith))

-- and nothing else is
pub file_complete : (k : FileKind) (s : List ℕ) (xs : List FoundItem) → Reads k s xs → xs ≡ map (found_of s) (items_of k s)
file_complete k s xs w = from_complete w s 0 refl ∙ ap (map (found_of s)) (items_start k s)

-- the grammar reads a file in one way
pub one_reading : (k : FileKind) (s : List ℕ) (xs ys : List FoundItem) → Reads k s xs → Reads k s ys → xs ≡ ys
one_reading k s xs ys v w = file_complete k s xs v ∙ sym (file_complete k s ys w)
