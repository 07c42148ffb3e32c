-- Reading from the front of what is left of some bytes: a value and the rest, or that bytes run out (01, Bundle and pack).
use Rattle.std.specs.Prelude.{ℕ, zero, suc, ◌+◌, ◌-◌, ◌*◌, Bool, true, false, List, [], ◌∷◌, leb, length, take, drop}
use Rattle.base.specs.Pick.{pick}

pub data Read (A : Type 0) : Type 0 where
  cut : Read A
  got : A → List ℕ → Read A

-- first one, then what follows from its value
unfoldable pub and_read : {A B : Type 0} → Read A → (A → List ℕ → Read B) → Read B
and_read cut k = cut
and_read (got a r) k = k a r

unfoldable pub read_byte : List ℕ → Read ℕ
read_byte [] = cut
read_byte (b ∷ r) = got b r

-- "Counts are big-endian": a number of k bytes, behind the number h
unfoldable pub read_more : ℕ → ℕ → List ℕ → Read ℕ
read_more zero h l = got h l
read_more (suc k) h [] = cut
read_more (suc k) h (b ∷ r) = read_more k (h * 256 + b) r

unfoldable pub read_number : ℕ → List ℕ → Read ℕ
read_number k l = read_more k 0 l

-- "Strings follow their length byte."
unfoldable pub read_text : List ℕ → Read (List ℕ)
read_text [] = cut
read_text (n ∷ r) = pick (leb n (length r)) (got (take n r) (drop n r)) cut

-- n of a kind, one after the other
unfoldable pub read_many : {A : Type 0} → (List ℕ → Read A) → ℕ → List ℕ → Read (List A)
read_many f zero l = got [] l
read_many f (suc n) l = and_read (f l) (λ a r. and_read (read_many f n r) (λ rest q. got (a ∷ rest) q))

-- the place of what is left of s
unfoldable pub place_in : List ℕ → List ℕ → ℕ
place_in s r = length s - length r

-- nothing is left
unfoldable pub is_nil : List ℕ → Bool
is_nil [] = true
is_nil (x ∷ xs) = false

-- ---- strings up to the end

-- strings follow their length byte (01, Bundle and pack), one after the other; one that is cut off ends the list
unfoldable pub strings : ℕ → List ℕ → List (List ℕ)
strings zero s = []
strings (suc fuel) [] = []
strings (suc fuel) (n ∷ s) = pick (leb n (length s)) (take n s ∷ strings fuel (drop n s)) []

-- each string takes a byte or more, so the length is fuel enough
unfoldable pub strings_of : List ℕ → List (List ℕ)
strings_of s = strings (length s) s
