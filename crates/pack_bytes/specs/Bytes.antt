-- The bytes of a pack (01, Bundle and pack).
use Rattle.std.specs.Prelude.{List, [], ◌∷◌, ◌++◌, ℕ, ◌/◌, ◌%◌, length}
use Rattle.pack.specs.Packs.{Guess, Pack}
use Rattle.rule_lines.specs.Rules.{Rule}
use Rattle.held.specs.Met.{bytes_of_all}

-- "Strings follow their length byte."
unfoldable pub text_bytes : List ℕ → List ℕ
text_bytes t = length t ∷ t

-- "Counts are big-endian": in 2 bytes, and in 4
unfoldable pub count_bytes : ℕ → List ℕ
count_bytes n = n / 256 ∷ n % 256 ∷ []

unfoldable pub mask_bytes : ℕ → List ℕ
mask_bytes n = count_bytes (n / 65536) ++ count_bytes (n % 65536)

-- the names, each behind its length byte
unfoldable pub names_bytes : List (List ℕ) → List ℕ
names_bytes names = bytes_of_all text_bytes names

-- "each accept byte 0 or 1, mask (4 bytes ..), pattern"
unfoldable pub guess_bytes : Guess → List ℕ
guess_bytes g = g.accept ∷ (mask_bytes g.mask ++ text_bytes g.pattern)

-- "rules of four strings"
unfoldable pub rule_bytes : Rule → List ℕ
rule_bytes r = text_bytes r.pattern ++ (text_bytes r.left ++ (text_bytes r.right ++ text_bytes r.expression))

-- "A list is a rule count (2 bytes) and rules"
unfoldable pub list_bytes : List Rule → List ℕ
list_bytes rs = count_bytes (length rs) ++ bytes_of_all rule_bytes rs

-- "language count (1 byte), names ..; guessing count (2 bytes), each ..; list count (1 byte), lists in order"
unfoldable pub pack_bytes : Pack → List ℕ
pack_bytes p =
    (length p.names ∷ names_bytes p.names)
    ++ ((count_bytes (length p.guesses) ++ bytes_of_all guess_bytes p.guesses)
    ++ (length p.lists ∷ bytes_of_all list_bytes p.lists))
