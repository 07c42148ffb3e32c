-- What the private functions of the code give, by the anchors (`proofs/Laws` shows how the forms are made of these), and which bytes may stand
-- beside a place where a context fits (`proofs/BesideLaws` shows that no others do).
use Rattle.std.specs.Prelude.{ℕ, ◌-◌, ◌^◌, Bool, false, not, List, eqb, length, Option, Some, None}
use Rattle.base.specs.Pick.{pick, and}
use Rattle.letters.specs.Order.{same_text}
use Rattle.texts.specs.Parts.{first_byte, last_byte, first_is, prefix_of, suffix_of, caret, opening, without_caret, without_dollar}
use Rattle.texts.specs.Signatures.{bit_of, signature_of}
use Rattle.regex_optim.specs.Contexts.{box_inner, boxed, first_char, whole_char, last_char, char_fits}
use Rattle.std.specs.Prelude.{Option, None}
use Rattle.regex_optim.specs.declared.OptimizedRegex.{OptimizedRegex}
use Rattle.regex_optim.specs.declared.OptimizedRegex.TheVariants.{AllStringsMatcher, IsEmpty, Equals, StartsWith, EndsWith, EqualsChar, StartsWithChar, EndsWithChar}

unfoldable pub box_char : Bool → Bool → List ℕ → Option ℕ
box_char s e x = pick s (pick e (whole_char x) (first_char x)) (pick e (last_char x) None)

unfoldable pub box_fits : List ℕ → Bool → Bool → List ℕ → Bool
box_fits inner s e x = char_fits (not (first_is caret inner)) (without_caret inner) (box_char s e x)

unfoldable pub literal_fits : List ℕ → Bool → Bool → List ℕ → Bool
literal_fits t s e x = pick s (pick e (same_text t x) (prefix_of t x)) (pick e (suffix_of t x) false)

unfoldable pub box_kind : Bool → Bool → Option OptimizedRegex
box_kind s e = pick s (pick e (Some EqualsChar) (Some StartsWithChar)) (pick e (Some EndsWithChar) None)

unfoldable pub literal_kind : ℕ → Bool → Bool → Option OptimizedRegex
literal_kind n s e =
    pick s (pick e (pick (eqb n 0) (Some IsEmpty) (Some Equals)) (pick (eqb n 0) (Some AllStringsMatcher) (Some StartsWith)))
    (pick e (pick (eqb n 0) (Some AllStringsMatcher) (Some EndsWith)) None)

-- the rest of a context that is `[]`
unfoldable pub empty_rest : List ℕ → Bool
empty_rest t = and (eqb (length (box_inner t)) 0) (boxed t)

-- ---- the bytes beside a place, as bits of their kinds

abbrev pub all_bits : ℕ
all_bits = 2 ^ 64 - 1

-- a box takes no character with other bytes than its own; a negated one may take any
unfoldable pub box_bits : List ℕ → ℕ
box_bits inner = pick (first_is caret inner) all_bits (signature_of inner)

-- of the rest of a context, which as a literal has the byte b beside the place
unfoldable pub rest_bits : List ℕ → ℕ → ℕ
rest_bits t b = pick (first_is opening t) (box_bits (box_inner t)) (bit_of b)

-- an empty context fits beside every byte; one of an anchor alone only beside none, which counts as 0
unfoldable pub left_bits : List ℕ → ℕ
left_bits c = pick (eqb (length c) 0) all_bits (rest_bits (without_caret c) (last_byte (without_caret c)))

unfoldable pub right_bits : List ℕ → ℕ
right_bits c = pick (eqb (length c) 0) all_bits (rest_bits (without_dollar c) (first_byte (without_dollar c)))
