-- The signature of a text: a bit for each kind of byte in it. By it a pattern or a rule that cannot match is passed over.
use Rattle.std.specs.Prelude.{ℕ, ◌%◌, ◌^◌, Bool, List, [], ◌∷◌, eqb}
use Rattle.std.specs.Int.Bits.{bit_and, bit_or}

-- of each byte one of 64 bits
abbrev pub bit_of : ℕ → ℕ
bit_of b = 2 ^ (b % 64)

unfoldable pub signature_of : List ℕ → ℕ
signature_of [] = 0
signature_of (x ∷ l) = bit_or (bit_of x) (signature_of l)

unfoldable pub has_bits : ℕ → ℕ → Bool
has_bits bits required = eqb (bit_and bits required) required
