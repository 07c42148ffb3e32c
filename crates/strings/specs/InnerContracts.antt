-- Where a string, a byte or a number stands, by its place; and as many of a kind as there are.
use Rattle.strings.specs.declared.Number.{Number}
use Rattle.strings.specs.Places.{span, number}
use Rattle.strings.specs.declared.Span.{Span}
use Rattle.std.specs.Prelude.{◌≡◌, ℕ, zero, suc, ◌+◌, ◌-◌, ◌<◌, List, [], ◌∷◌, leb, ltb, length, get_or, drop, Option, Some, None}
use Rattle.base.specs.Pick.{pick}
use Rattle.strings.specs.Reading.{Read, cut, got, read_number, place_in}

-- where the string at a place starts and ends
unfoldable pub string_at : List ℕ → ℕ → Option Span
string_at s at =
    pick (ltb at (length s))
    (pick (leb (get_or s at 0) (length s - (at + 1))) (Some (span (at + 1) (at + 1 + get_or s at 0))) None)
    None

-- the byte at a place, 0 behind the end
pub record ByteIs (s : List ℕ) (at r : ℕ) : Type 0 where
  pub is : r ≡ get_or s at 0
  pub small : r < 256

unfoldable pub number_in : List ℕ → Read ℕ → Option Number
number_in s cut = None
number_in s (got n r) = Some (number n (place_in s r))

-- the number of k bytes at a place, and the place behind it
unfoldable pub number_at : ℕ → List ℕ → ℕ → Option Number
number_at k s at = number_in s (read_number k (drop at s))

-- what follows from a value that is read; nothing where bytes run out
unfoldable pub behind : {A B : Type 0} → Read A → (A → List ℕ → List B) → List B
behind cut k = []
behind (got a r) k = k a r

-- n of a kind, or those before bytes run out
unfoldable pub read_some : {A : Type 0} → (List ℕ → Read A) → ℕ → List ℕ → List A
read_some f zero l = []
read_some f (suc n) l = behind (f l) (λ a r. a ∷ read_some f n r)
