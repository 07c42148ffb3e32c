-- The lines that are printed for a block of names (01, example 14: "one name a line; code, flag, answer, or code and place").
use Rattle.std.specs.Prelude.{◌≡◌, ℕ, zero, suc, ◌+◌, ◌-◌, ◌/◌, ◌%◌, min, Bool, true, false, List, [], ◌∷◌, ◌++◌, leb, ltb, length, take, drop}
use Rattle.std.proofs.lemmas.List.Edits.{sets}
use Rattle.base.specs.Pick.{pick}
use Rattle.texts.specs.Parts.{place_of, has}
use Rattle.choices.specs.Texts.{Text}
use Rattle.refusals.specs.declared.Refusal.TheVariants.{NoRoom}
use Rattle.engine.specs.Calls.{CallOutcome, refused_by, key, Numbers, spelled_numbers}
use Rattle.engine.specs.declared.lines.Lines.{Lines}
use Rattle.engine.specs.declared.lines.Lines.TheVariants as lines
use Rattle.engine.specs.declared.spelling.Spelled.TheVariants.{Done, Refused}

-- ---- a line

-- a "code" or "place" in decimal digits; each step leaves a tenth of the number, so it is fuel enough
unfoldable pub decimal_by : ℕ → ℕ → Text
decimal_by zero n = (48 + n % 10) ∷ []
decimal_by (suc f) n = pick (ltb n 10) ((48 + n % 10) ∷ []) (decimal_by f (n / 10) ++ (48 + n % 10) ∷ [])

unfoldable pub decimal : ℕ → Text
decimal n = decimal_by n n

-- "flag": 1 where it is up, else 0
unfoldable pub flag_digit : Bool → ℕ
flag_digit true = 49
flag_digit false = 48

-- "code, flag, answer"
unfoldable pub answer_line : Numbers → Text → Text
answer_line n t = decimal n.code ++ ((32 ∷ flag_digit n.flag ∷ 32 ∷ []) ++ (t ++ 10 ∷ []))

-- "or code and place"
unfoldable pub refusal_line : Numbers → Text
refusal_line n = decimal n.code ++ ((32 ∷ []) ++ (decimal n.place ++ 10 ∷ []))

-- a name's line where there is room enough: its answer's, or its refusal's
unfoldable pub whole_line : CallOutcome → Text
whole_line (refused_by why place) = refusal_line (spelled_numbers (Refused why place))
whole_line (key t f) = answer_line (spelled_numbers (Done (length t) f)) t

-- ---- its room

-- "length needed, 4294967295 if more": of a longer buffer no more is used
abbrev pub most : ℕ
most = 4294967295

-- a buffer of so many bytes holds a line
unfoldable pub holds_line : ℕ → Text → Bool
holds_line size line = leb (length line) (min size most)

-- "length needed": that of the whole line, not of the answer alone
unfoldable pub needed : CallOutcome → ℕ
needed x = min (length (whole_line x)) most

-- "answer .. longer than the output buffer": the line of 9 where the buffer does not hold the line with the answer
unfoldable pub line_with : ℕ → CallOutcome → Text
line_with size (refused_by why place) = whole_line (refused_by why place)
line_with size (key t f) = pick (holds_line size (whole_line (key t f))) (whole_line (key t f)) (refusal_line (spelled_numbers (Refused NoRoom (needed (key t f)))))

-- the line of a name, by the calls for names
unfoldable pub line_for : (Text → CallOutcome) → ℕ → Text → Text
line_for call size name = line_with size (call name)

-- ---- the lines of a block

-- "one name a line": each name is ended by LF, and what follows the last LF is none
unfoldable pub lines_from : ℕ → List ℕ → List Text
lines_from zero s = []
lines_from (suc f) s = pick (has 10 s) (take (place_of 10 s) s ∷ lines_from f (drop (suc (place_of 10 s)) s)) []

unfoldable pub whole_lines : List ℕ → List Text
whole_lines s = lines_from (length s) s

-- how many bytes of the block were read, and what is printed for them
pub record Taken : Type 0 where
  pub read : ℕ
  pub text : Text

-- so many bytes read, what is printed for them, and then the rest
unfoldable pub and_taken : ℕ → Text → Taken → Taken
and_taken n t rest = record { read = n + rest.read; text = t ++ rest.text }

abbrev pub none_taken : Taken
none_taken = record { read = 0; text = [] }

-- as many lines, in order, as fit into so many bytes
unfoldable pub take_lines : (Text → Text) → ℕ → List Text → Taken
take_lines f size [] = none_taken
take_lines f size (name ∷ names) =
    pick (leb (length (f name)) size) (and_taken (suc (length name)) (f name) (take_lines f (size - length (f name)) names)) none_taken

-- what is printed for a block, into a buffer of so many bytes
unfoldable pub taken : (Text → CallOutcome) → List ℕ → ℕ → Taken
taken call block size = take_lines (line_for call size) (min size most) (whole_lines block)

-- ---- the answer for a block, in the paper's numbers

-- code 0 with the bytes read and the "bytes written", or code 9 with the "length needed" and 0
pub record BlockNumbers : Type 0 where
  pub code : ℕ
  pub first : ℕ
  pub second : ℕ

unfoldable pub block_numbers : Lines → BlockNumbers
block_numbers (lines.Done read written) = record { code = 0; first = read; second = written }
block_numbers (lines.NoRoom n) = record { code = 9; first = n; second = 0 }

abbrev pub took : Taken → BlockNumbers
took t = record { code = 0; first = t.read; second = length t.text }

abbrev pub no_room : ℕ → BlockNumbers
no_room n = record { code = 9; first = n; second = 0 }

-- 9 where there is a name and the buffer does not hold its line, which is that of 9 if the answer has no room
unfoldable pub numbers_by : (Text → CallOutcome) → ℕ → List Text → Taken → BlockNumbers
numbers_by call size [] t = took t
numbers_by call size (name ∷ names) t = pick (holds_line size (line_for call size name)) (took t) (no_room (needed (call name)))

unfoldable pub block_by : (Text → CallOutcome) → List ℕ → ℕ → BlockNumbers
block_by call block size = numbers_by call size (whole_lines block) (taken call block size)

-- the promise for a block: one result, and one content of the lent buffer
pub record LinesIs (call : Text → CallOutcome) (block out : List ℕ) (r : Lines) (out' : List ℕ) : Type 0 where
  pub result : block_numbers r ≡ block_by call block (length out)
  pub buffer : out' ≡ sets out 0 (taken call block (length out)).text
