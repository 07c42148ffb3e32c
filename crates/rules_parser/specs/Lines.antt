-- What a line is (01, Rule files and includes): blank; a comment from `//`; one that `/*` opens; or what a line of its kind of file says.
use Rattle.std.specs.Prelude.{ℕ, ◌+◌, Bool, true, false, List, [], ◌∷◌, leb, length, drop, Option, Some, None, option_map}
use Rattle.base.specs.Pick.{pick, and}
use Rattle.letters.specs.Order.{same_text}
use Rattle.texts.specs.Parts.{prefix_of}
use Rattle.languages.specs.Names.{language_name}
use Rattle.rule.specs.Matching.{rule_text}
use Rattle.rules_parser.specs.Fields.{part_of, skip, pair_at, field_at, parted_at, ends_at, tail_ok, Quoted, Plain}
use Rattle.rules_parser.specs.declared.fields.Text.{Text}
use Rattle.rules_parser.specs.declared.fields.Field.{Field}
use Rattle.rules_parser.specs.declared.lines.FileKind.{FileKind}
use Rattle.rules_parser.specs.declared.lines.FileKind.TheVariants.{Languages, Guesses, Rules}
use Rattle.rules_parser.specs.declared.lines.Clause.{Clause}
use Rattle.rules_parser.specs.declared.lines.Clause.TheVariants.{Rule, Include, Guess, Name}
use Rattle.rules_parser.specs.declared.lines.Line.{Line}
use Rattle.rules_parser.specs.declared.lines.Line.TheVariants.{Blank, Comment, Opens, Tells}

unfoldable pub on_field : Option Field → (Text → ℕ → Option Clause) → Option Clause
on_field (Some f) k = k f.text f.next
on_field None k = None

-- "Rule and guessing texts may hold any UTF-8 without U+0000 to U+001F, U+007F or the double quote; else 12."
unfoldable pub text_at : List ℕ → Text → Bool
text_at s t = rule_text (part_of s t)

-- ---- rule files

unfoldable pub rule_told : List ℕ → Text → Text → Text → Text → Option Clause
rule_told s a b c d = pick (and (text_at s a) (and (text_at s b) (and (text_at s c) (text_at s d)))) (Some (Rule a b c d)) None

-- "four quoted strings (pattern, left, right, expression) parted by blanks, perhaps with a `//` comment"
unfoldable pub last_two : List ℕ → Text → Text → ℕ → Option Clause
last_two s a b p = on_field (parted_at Quoted s p) λ c q. on_field (parted_at Quoted s q) λ d e. pick (tail_ok s e) (rule_told s a b c d) None

unfoldable pub four_at : List ℕ → ℕ → Option Clause
four_at s p = on_field (field_at Quoted s p) λ a q. on_field (parted_at Quoted s q) λ b e. last_two s a b e

-- the bytes of `#include`
abbrev pub include_word : List ℕ
include_word = 35 ∷ 105 ∷ 110 ∷ 99 ∷ 108 ∷ 117 ∷ 100 ∷ 101 ∷ []

-- "`#include`, blanks and a file name without blanks"
unfoldable pub include_at : List ℕ → ℕ → Option Clause
include_at s p = on_field (parted_at Plain s p) λ t e. pick (ends_at s e) (Some (Include t)) None

unfoldable pub rule_at : List ℕ → ℕ → Option Clause
rule_at s p = pick (leb (length s) p) None (pick (prefix_of include_word (drop p s)) (include_at s (p + 8)) (four_at s p))

-- ---- guessing files

-- the bytes of `true` and of `false`
abbrev pub true_word : List ℕ
true_word = 116 ∷ 114 ∷ 117 ∷ 101 ∷ []

abbrev pub false_word : List ℕ
false_word = 102 ∷ 97 ∷ 108 ∷ 115 ∷ 101 ∷ []

unfoldable pub guess_told : List ℕ → Text → Text → Bool → Option Clause
guess_told s a b v = pick (and (text_at s a) (text_at s b)) (Some (Guess a b v)) None

unfoldable pub accept_told : List ℕ → Text → Text → Text → Option Clause
accept_told s a b c =
    pick (same_text (part_of s c) true_word) (guess_told s a b true) (pick (same_text (part_of s c) false_word) (guess_told s a b false) None)

-- "Guessing lines: pattern, names joined by `+`, `true` or `false`, parted by blanks."
unfoldable pub guess_end : List ℕ → Text → Text → ℕ → Option Clause
guess_end s a b p = on_field (parted_at Plain s p) λ c e. pick (ends_at s e) (accept_told s a b c) None

unfoldable pub guess_at : List ℕ → ℕ → Option Clause
guess_at s p = on_field (field_at Plain s p) λ a q. on_field (parted_at Plain s q) λ b e. guess_end s a b e

-- ---- language lists

-- "Names are 1 to 24 letters `a` to `z`, but not `common`; else 12 in the list."
unfoldable pub name_told : List ℕ → Text → Option Clause
name_told s t = pick (language_name (part_of s t)) (Some (Name t)) None

-- "The language list has one name a line"
unfoldable pub name_at : List ℕ → ℕ → Option Clause
name_at s p = on_field (field_at Plain s p) λ t e. pick (ends_at s e) (name_told s t) None

-- ---- any file

-- "only rule files includes"
unfoldable pub told_at : FileKind → List ℕ → ℕ → Option Clause
told_at Languages s p = name_at s p
told_at Guesses s p = guess_at s p
told_at Rules s p = rule_at s p

-- the line from p to the end: "Every file has blank lines and comments"
unfoldable pub line_at : FileKind → List ℕ → ℕ → Option Line
line_at kind s p =
    pick (leb (length s) (skip s p)) (Some Blank)
    (pick (pair_at s (skip s p) 47 47) (Some Comment)
    (pick (pair_at s (skip s p) 47 42) (Some Opens)
    (option_map Tells (told_at kind s (skip s p)))))
