-- The order of texts (01, Spelling a name: "Texts compare by code points, shorter first"), and when two are the same.
-- Both are for lists of numbers: code points, or bytes. `proofs/OrderLaws` shows that on well-formed texts the two agree.
use Rattle.std.specs.Prelude.{ℕ, Bool, true, false, List, [], ◌∷◌, ltb, eqb}
use Rattle.base.specs.Pick.{pick, and}
use Rattle.std.specs.declared.cmp.Ordering.{Ordering}
use Rattle.std.specs.declared.cmp.Ordering.TheVariants.{Less, Equal, Greater}

-- by the first place at which they differ; what is a prefix of the other stands first
unfoldable pub order_of : List ℕ → List ℕ → Ordering
order_of [] [] = Equal
order_of [] (y ∷ ys) = Less
order_of (x ∷ xs) [] = Greater
order_of (x ∷ xs) (y ∷ ys) = pick (ltb x y) Less (pick (ltb y x) Greater (order_of xs ys))

unfoldable pub same_text : List ℕ → List ℕ → Bool
same_text [] [] = true
same_text [] (y ∷ ys) = false
same_text (x ∷ xs) [] = false
same_text (x ∷ xs) (y ∷ ys) = and (eqb x y) (same_text xs ys)

unfoldable pub is_less : Ordering → Bool
is_less Less = true
is_less Equal = false
is_less Greater = false

-- "strictly increasing"
unfoldable pub increasing : List (List ℕ) → Bool
increasing [] = true
increasing (x ∷ []) = true
increasing (x ∷ y ∷ l) = and (is_less (order_of x y)) (increasing (y ∷ l))
