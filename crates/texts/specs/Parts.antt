-- What a text begins and ends with, where a byte stands in it, and the signs of contexts and guessing patterns.
use Rattle.std.specs.Prelude.{ℕ, suc, ◌-◌, Bool, true, false, List, [], ◌∷◌, eqb, ltb, length, get_or, drop}
use Rattle.base.specs.Pick.{pick, and}

-- all but the first byte
unfoldable pub tail : List ℕ → List ℕ
tail [] = []
tail (x ∷ xs) = xs

-- all but the last
unfoldable pub front : List ℕ → List ℕ
front [] = []
front (x ∷ []) = []
front (x ∷ y ∷ l) = x ∷ front (y ∷ l)

-- the first and the last byte; 0 where there is none
abbrev pub first_byte : List ℕ → ℕ
first_byte s = get_or s 0 0

abbrev pub last_byte : List ℕ → ℕ
last_byte s = get_or s (length s - 1) 0

unfoldable pub first_is : ℕ → List ℕ → Bool
first_is b [] = false
first_is b (x ∷ xs) = eqb x b

unfoldable pub last_is : ℕ → List ℕ → Bool
last_is b [] = false
last_is b (x ∷ []) = eqb x b
last_is b (x ∷ y ∷ l) = last_is b (y ∷ l)

-- the place of the first b, or the length
unfoldable pub place_of : ℕ → List ℕ → ℕ
place_of b [] = 0
place_of b (x ∷ xs) = pick (eqb x b) 0 (suc (place_of b xs))

-- b stands somewhere in s
unfoldable pub has : ℕ → List ℕ → Bool
has b s = ltb (place_of b s) (length s)

-- s begins with t
unfoldable pub prefix_of : List ℕ → List ℕ → Bool
prefix_of [] s = true
prefix_of (x ∷ t) [] = false
prefix_of (x ∷ t) (y ∷ s) = and (eqb y x) (prefix_of t s)

-- s ends with t
unfoldable pub suffix_of : List ℕ → List ℕ → Bool
suffix_of t s = pick (ltb (length s) (length t)) false (prefix_of t (drop (length s - length t) s))

-- ---- the signs of contexts and guessing patterns (01, Contexts, Guessing lines)

abbrev pub caret : ℕ
caret = 94

abbrev pub dollar : ℕ
dollar = 36

abbrev pub opening : ℕ
opening = 91

abbrev pub closing : ℕ
closing = 93

-- "one leading `^` and one trailing `$` are then taken off"
unfoldable pub without_caret : List ℕ → List ℕ
without_caret t = pick (first_is caret t) (tail t) t

unfoldable pub without_dollar : List ℕ → List ℕ
without_dollar t = pick (last_is dollar t) (front t) t
