-- The fields of a line, by their places in it (01, Rule files and includes).
use Rattle.std.specs.Prelude.{ℕ, suc, ◌+◌, ◌-◌, Bool, true, false, not, List, [], ◌∷◌, ltb, leb, eqb, length, get_or, take, drop, Option, Some, None}
use Rattle.base.specs.Pick.{pick}
use Rattle.rules_parser.specs.declared.fields.Text.{Text}
use Rattle.rules_parser.specs.declared.fields.Field.{Field}

-- what a run of bytes consists of
pub data Kind : Type 0 where
  Blank : Kind
  NotBlank : Kind
  NotQuote : Kind
  NotLf : Kind

-- how a field is written
pub data FieldKind : Type 0 where
  Quoted : FieldKind
  Plain : FieldKind

-- the part of s that a text is, as far as s goes
unfoldable pub part_of : List ℕ → Text → List ℕ
part_of s t = take t.len (drop t.start s)

-- "blanks are space, tab and a CR before LF": such a CR is cut off with its LF, so in a line a blank is a space or a tab
unfoldable pub passes_of : Kind → ℕ → Bool
passes_of Blank b = pick (eqb b 32) true (eqb b 9)
passes_of NotBlank b = pick (eqb b 32) false (not (eqb b 9))
passes_of NotQuote b = not (eqb b 34)
passes_of NotLf b = not (eqb b 10)

-- how many bytes in front are of the kind
unfoldable pub span_of : Kind → List ℕ → ℕ
span_of k [] = 0
span_of k (b ∷ t) = pick (passes_of k b) (suc (span_of k t)) 0

-- the first place from p on whose byte is not of the kind
unfoldable pub span_end : Kind → List ℕ → ℕ → ℕ
span_end k s p = p + span_of k (drop p s)

abbrev pub skip : List ℕ → ℕ → ℕ
skip s p = span_end Blank s p

-- the bytes a and b stand at p
unfoldable pub pair_at : List ℕ → ℕ → ℕ → ℕ → Bool
pair_at s p a b = pick (ltb p (length s)) (pick (eqb (get_or s p 0) a) (eqb (get_or s (p + 1) 0) b) false) false

abbrev pub text : ℕ → ℕ → Text
text a n = record { start = a; len = n }

-- a text and the place behind it
abbrev pub field : Text → ℕ → Field
field t q = record { text = t; next = q }

-- a quote at p, and all up to the next one
unfoldable pub quoted_at : List ℕ → ℕ → Option Field
quoted_at s p = pick (ltb p (length s)) (pick (eqb (get_or s p 0) 34) (closed (span_end NotQuote s (p + 1))) None) None
  where
    closed : ℕ → Option Field
    closed e = pick (ltb e (length s)) (Some (field (text (p + 1) (e - (p + 1))) (e + 1))) None

-- one byte or more up to the next blank
unfoldable pub bare_at : List ℕ → ℕ → Option Field
bare_at s p = pick (ltb p (span_end NotBlank s p)) (Some (field (text p (span_end NotBlank s p - p)) (span_end NotBlank s p))) None

unfoldable pub field_at : FieldKind → List ℕ → ℕ → Option Field
field_at Quoted s p = quoted_at s p
field_at Plain s p = bare_at s p

-- a field behind one blank or more
unfoldable pub parted_at : FieldKind → List ℕ → ℕ → Option Field
parted_at k s p = pick (ltb p (skip s p)) (field_at k s (skip s p)) None

-- "blanks may lead or end a line"
unfoldable pub ends_at : List ℕ → ℕ → Bool
ends_at s p = leb (length s) (skip s p)

-- "perhaps with a `//` comment"
unfoldable pub tail_ok : List ℕ → ℕ → Bool
tail_ok s p = pick (ltb (skip s p) (length s)) (pair_at s (skip s p) 47 47) true
