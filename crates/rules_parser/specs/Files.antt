-- The lines of a file, and comments that run over them (01, Rule files and includes).
use Rattle.std.specs.Prelude.{ℕ, zero, suc, ◌+◌, ◌-◌, Bool, List, [], ◌∷◌, ltb, leb, eqb, length, get_or, take, drop, Option, Some, None}
use Rattle.base.specs.Pick.{pick}
use Rattle.rules_parser.specs.Fields.{span_end, skip, pair_at, NotLf}
use Rattle.rules_parser.specs.Lines.{line_at}
use Rattle.rules_parser.specs.declared.lines.FileKind.{FileKind}
use Rattle.rules_parser.specs.declared.lines.Line.{Line}
use Rattle.rules_parser.specs.declared.lines.Line.TheVariants as line
use Rattle.rules_parser.specs.declared.files.Close.{Close}
use Rattle.rules_parser.specs.declared.files.Item.{Item}
use Rattle.rules_parser.specs.declared.files.Item.TheVariants.{Passed, Tells, Wrong}

-- the place behind a comment's end, and the lines that it takes
abbrev pub close : ℕ → ℕ → Close
close q n = record { next = q; lines = n }

unfoldable pub counted_of : ℕ → ℕ → ℕ
counted_of n b = pick (eqb b 10) (n + 1) n

-- behind the first */ of s from place i on, t being what is left there, and the lines up to it, n line ends having been passed
unfoldable pub close_in : List ℕ → List ℕ → ℕ → ℕ → Option Close
close_in s [] i n = None
close_in s (b ∷ t) i n = pick (pair_at s i 42 47) (Some (close (i + 2) (n + 1))) (close_in s t (i + 1) (counted_of n b))

unfoldable pub close_at : List ℕ → ℕ → Option Close
close_at s p = close_in s (drop p s) p 0

-- "Lines end at LF or the file's end"
abbrev pub line_end : List ℕ → ℕ → ℕ
line_end s p = span_end NotLf s p

-- its text ends there too, or before a CR that stands right before the LF
unfoldable pub text_end : List ℕ → ℕ → ℕ
text_end s p = cut (line_end s p)
  where
    cut : ℕ → ℕ
    cut e = pick (ltb e (length s)) (pick (ltb p e) (pick (eqb (get_or s (e - 1) 0) 13) (e - 1) e) e) e

unfoldable pub next_line : List ℕ → ℕ → ℕ
next_line s p = pick (ltb (line_end s p) (length s)) (line_end s p + 1) (line_end s p)

-- the blanks from p on reach the end of its line's text
unfoldable pub rest_blank : List ℕ → ℕ → Bool
rest_blank s p = leb (text_end s p) (skip s p)

-- "closed by `*/` .. as last text of that or a later line"; the first `*/` closes
unfoldable pub on_close : Option Close → List ℕ → Item
on_close (Some c) s = pick (rest_blank s c.next) (Passed c.lines (next_line s c.next)) Wrong
on_close None s = Wrong

-- the comment that the first text from p on opens; its two bytes are passed: "not sharing its star"
unfoldable pub comment_at : List ℕ → ℕ → Item
comment_at s p = pick (leb (length s) (skip s p)) Wrong (on_close (close_at s (skip s p + 2)) s)

unfoldable pub on_line : Option Line → List ℕ → ℕ → Item
on_line (Some line.Blank) s p = Passed 1 (next_line s p)
on_line (Some line.Comment) s p = Passed 1 (next_line s p)
on_line (Some line.Opens) s p = comment_at s p
on_line (Some (line.Tells t)) s p = Tells t (next_line s p)
on_line None s p = Wrong

-- what begins at p, the beginning of a line; there is none at the end
unfoldable pub item_at : FileKind → List ℕ → ℕ → Item
item_at kind s p = pick (leb (length s) p) Wrong (on_line (line_at kind (take (text_end s p) s) p) s p)

-- ---- a file, item by item

unfoldable pub on_next : Item → (ℕ → List Item) → List Item
on_next (Passed k n) f = Passed k n ∷ f n
on_next (Tells t n) f = Tells t n ∷ f n
on_next Wrong f = Wrong ∷ []

-- the items from p on. Each ends behind its beginning, so a fuel of what is left is enough
unfoldable pub items_from : ℕ → FileKind → List ℕ → ℕ → List Item
items_from zero kind s p = []
items_from (suc k) kind s p = pick (ltb p (length s)) (on_next (item_at kind s p) (items_from k kind s)) []

unfoldable pub items_of : FileKind → List ℕ → List Item
items_of kind s = items_from (length s) kind s 0
