-- For code that applies by two loops: a law for each way that a turn can go. What is left, entered into the set so far, stays what it was.
-- Assumes nothing.
use mathlib.Core.Path.{◌≡◌, refl}
use mathlib.Core.Bool.{true, false}
use mathlib.Core.List.{List, [], ◌∷◌, ◌++◌}
use Prim.Native.Nat.{ℕ, ◌≤◌, ◌<◌}
use lib.ListN.{length}
use borrow.Author.Tests.{lt-leb, le-leb, lt-ltb, le-ltb}
use Rattle.base.specs.Pick.{pick}
use Rattle.languages.specs.Sets.{narrowed, is_empty}
use Rattle.choices.specs.Apply.{Alternative, Entry, join, insert, under, enter, overlong, next_set}

-- ---- one turn: e's alternatives from a on, then the rest

module _ (limit : ℕ) (e : Entry) (a : Alternative) (alts : List Alternative) (rest l : List Entry) where
  pub turn_empty : is_empty (narrowed e.langs a.langs) ≡ true → enter limit (under e (a ∷ alts) ++ rest) l ≡ enter limit (under e alts ++ rest) l
  unfolding under pick
  turn_empty n = simp n

  pub turn_long : is_empty (narrowed e.langs a.langs) ≡ false → length l < limit → 128 < length (e.text ++ a.text)
      → enter limit (under e (a ∷ alts) ++ rest) l ≡ overlong
  unfolding under enter pick
  turn_long n room long = simp (n, lt-leb limit (length l) room, lt-ltb 128 (length (e.text ++ a.text)) long)

  pub turn_in : is_empty (narrowed e.langs a.langs) ≡ false → length l < limit → length (e.text ++ a.text) ≤ 128
      → enter limit (under e (a ∷ alts) ++ rest) l ≡ enter limit (under e alts ++ rest) (insert (join e a) l)
  unfolding under enter pick
  turn_in n room short = simp (n, lt-leb limit (length l) room, le-ltb 128 (length (e.text ++ a.text)) short)

-- the limit is reached: stop
pub turn_full : (limit : ℕ) (cs l : List Entry) → limit ≤ length l → enter limit cs l ≡ next_set l
unfolding enter pick
turn_full limit [] l full = refl
turn_full limit (c ∷ cs) l full = simp (le-leb limit (length l) full)
