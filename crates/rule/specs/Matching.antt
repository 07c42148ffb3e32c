-- What a rule's string may hold (01, Letters), and when a rule matches (01, Spelling a name, step 6; rule.rs).
use Rattle.std.specs.Prelude.{ℕ, ◌+◌, Bool, true, false, not, List, [], ◌∷◌, eqb, ltb, length, take, drop}
use Rattle.base.specs.Pick.{pick, and}
use Rattle.letters.specs.Utf8.{decode_at}
use Rattle.letters.specs.Reading.{Symbol, symbol, stray_byte, symbols_of}
use Rattle.letters.specs.declared.utf8.Step.{Step}
use Rattle.letters.specs.declared.utf8.Step.TheVariants.{Char, Ill, End}
use Rattle.texts.specs.Parts.{prefix_of}
use Rattle.regex_optim.specs.Contexts.{left_form, right_form, fits}

-- "any UTF-8 without U+0000 to U+001F, U+007F or the double quote"
unfoldable pub plain_code : ℕ → Bool
plain_code c = pick (ltb c 0x20) false (pick (eqb c 0x22) false (not (eqb c 0x7F)))

unfoldable pub plain_in : List Symbol → Bool
plain_in [] = true
plain_in (symbol p c ∷ l) = pick (plain_code c) (plain_in l) false
plain_in (stray_byte p b ∷ l) = false

unfoldable pub rule_text : List ℕ → Bool
rule_text s = plain_in (symbols_of s)

-- "Rules stand by first character of the pattern"
unfoldable pub code_in : Step → ℕ
code_in (Char c n) = c
code_in Ill = 0
code_in End = 0

unfoldable pub first_code : List ℕ → ℕ
first_code s = code_in (decode_at s 0)

-- the pattern stands at the place, the right context fits what follows it, and the left what stands before it
unfoldable pub rule_matches : List ℕ → List ℕ → List ℕ → List ℕ → ℕ → Bool
rule_matches pattern left right text place =
    pick (ltb (length text) place) false
    (and (prefix_of pattern (drop place text)) (and (fits (right_form right) (drop (place + length pattern) text)) (fits (left_form left) (take place text))))
