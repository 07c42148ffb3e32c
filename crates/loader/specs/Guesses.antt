-- The guessing file (01, Rule files and includes: "Guessing lines").
use Rattle.std.specs.Prelude.{ℕ, Bool, true, false, List, leb, ltb, length, Option, Some, None}
use Rattle.base.specs.Pick.{pick}
use Rattle.refusals.specs.declared.Refusal.TheVariants.{LineUnreadable, OutsideForms, NameUnlisted, TooMuch}
use Rattle.phonemes.specs.Expressions.{cut_at, plus, names_mask}
use Rattle.lang.specs.Patterns.{in_forms}
use Rattle.pack.specs.Packs as packs
use Rattle.rules_parser.specs.Fields.{part_of}
use Rattle.rules_parser.specs.Files.{items_of}
use Rattle.rules_parser.specs.declared.lines.FileKind.TheVariants.{Guesses}
use Rattle.rules_parser.specs.declared.lines.Clause.{Clause}
use Rattle.rules_parser.specs.declared.lines.Clause.TheVariants.{Rule, Include, Guess, Name}
use Rattle.rule_lists.specs.Outcomes.{Loading, fine, not_loaded, and_load}
use Rattle.loader.specs.Files.{Kept, keeps, fault, told_in}

-- "accept byte 0 or 1"
unfoldable pub accept_of : Bool → ℕ
accept_of true = 1
accept_of false = 0

-- "an unlisted name in a rule or guessing line, an empty one too, is 16"
unfoldable pub with_mask : Bool → List ℕ → Option ℕ → Kept packs.Guess
with_mask v pattern (Some m) = keeps (packs.guess (accept_of v) m pattern)
with_mask v pattern None = fault NameUnlisted

-- "in a line 12, 13, 18, 15 .., 16"
unfoldable pub judged_guess : List ℕ → Bool → List ℕ → List ℕ → Kept packs.Guess
judged_guess names v pattern joined =
    pick (ltb 255 (length pattern)) (fault TooMuch) (pick (in_forms pattern) (with_mask v pattern (names_mask names (cut_at plus joined))) (fault OutsideForms))

unfoldable pub guess_of : List ℕ → List ℕ → Clause → Kept packs.Guess
guess_of names s (Rule a b c d) = fault LineUnreadable
guess_of names s (Include t) = fault LineUnreadable
guess_of names s (Guess a b v) = judged_guess names v (part_of s a) (part_of s b)
guess_of names s (Name t) = fault LineUnreadable

-- the guessing rules of file f, whose content is s; `names` is the bytes of the languages, each behind its length byte
unfoldable pub guesses_in : List ℕ → ℕ → List ℕ → Loading (List packs.Guess)
guesses_in names f s = told_in (guess_of names s) f 1 (items_of Guesses s)

-- "over 4,096 guessing rules"
unfoldable pub counted_guesses : List packs.Guess → Loading (List packs.Guess)
counted_guesses gs = pick (leb (length gs) 4096) (fine gs) (not_loaded TooMuch 0 0)

unfoldable pub guesses_of : List ℕ → ℕ → List ℕ → Loading (List packs.Guess)
guesses_of names f s = and_load (guesses_in names f s) counted_guesses
