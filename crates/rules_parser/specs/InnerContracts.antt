-- What only contracts and proofs of this crate's functions use.
use Rattle.rules_parser.specs.declared.lines.FileKind.{FileKind}
use Rattle.std.specs.Prelude.{List, ℕ, zero, suc, ◌+◌, ◌-◌, ◌<◌, ◌≡◌, Bool, ltb, length, Option, Some, None}
use Rattle.base.specs.Pick.{pick}
use Rattle.rules_parser.specs.declared.files.Item.{Item}
use Rattle.rules_parser.specs.Files.{items_from}
use Rattle.rules_parser.specs.Fields.{Kind, NotQuote, passes_of, span_end, skip, text}
use Rattle.rules_parser.specs.declared.fields.Text.{Text}
use Rattle.rules_parser.specs.declared.known.Strings.{Strings}

-- the same with just that fuel
abbrev pub items_at : FileKind → List ℕ → ℕ → List Item
items_at kind s p = items_from (length s - p) kind s p

-- where a closure answers, its answer is whether the byte is of the kind
abbrev pub PassesKind : (ℕ → Bool → Type 0) → Kind → Type 0
PassesKind answers k = (b : ℕ) (r : Bool) → b < 256 → answers b r → r ≡ passes_of k b

-- behind one blank or more
unfoldable pub gap_at : List ℕ → ℕ → Option ℕ
gap_at s p = pick (ltb p (skip s p)) (Some (skip s p)) None

-- behind the LF at e; the end where there is none
unfoldable pub behind_line : List ℕ → ℕ → ℕ
behind_line s e = pick (ltb e (length s)) (e + 1) e

-- ---- the strings of a line that is a rule

-- the place behind a string's last quote
abbrev pub behind : Text → ℕ
behind t = t.start + t.len + 1

-- what stands between the next two quotes from p on
unfoldable pub string_from : List ℕ → ℕ → Text
string_from s p = opened (span_end NotQuote s p)
  where
    opened : ℕ → Text
    opened q = pick (ltb q (length s)) (text (q + 1) (span_end NotQuote s (q + 1) - (q + 1))) (text 0 0)

-- the one behind k of them
unfoldable pub string_after : ℕ → List ℕ → ℕ → Text
string_after zero s p = string_from s p
string_after (suc k) s p = string_from s (behind (string_after k s p))

unfoldable pub strings_from : List ℕ → ℕ → Strings
strings_from s p = record { pattern = string_after 0 s p; left = string_after 1 s p; right = string_after 2 s p; expression = string_after 3 s p }
