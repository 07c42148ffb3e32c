-- What the functions of a line tell: where it ends, or that it has no room behind the lines before it.
use Rattle.std.specs.Prelude.{◌≡◌, ℕ, ◌+◌, ◌-◌, ◌≤◌, ◌<◌, min, Bool, true, false, List, [], ◌∷◌, eqb, leb, length, Result, Ok, Err}
use Rattle.std.proofs.lemmas.List.Edits.{sets}
use Rattle.base.specs.Pick.{pick, and}
use Rattle.choices.specs.Texts.{Text}
use Rattle.engine.specs.Calls.{CallOutcome, refused_by, key, refused_as}
use Rattle.engine.specs.InnerContracts.{spelled_in}
use Rattle.engine.specs.Lines.{flag_digit, refusal_line, most, needed, line_with}
use Rattle.engine.specs.declared.lines.Space.{Space}
use Rattle.engine.specs.declared.spelling.Spelled.{Spelled}
use Rattle.engine.specs.declared.lines.Lines.{Lines}
use Rattle.engine.specs.declared.lines.Lines.TheVariants as lines

-- ---- where a line goes

-- it begins within what is used of the buffer
pub record SpaceIn (o : List ℕ) (space : Space) : Type 0 where
  pub within : space.at ≤ space.size
  pub inside : space.size ≤ length o

-- as much is used as is told
pub record SpaceOf (o : List ℕ) (space : Space) : Type 0 where
  pub within : space.at ≤ space.size
  pub size_is : space.size ≡ min (length o) most

-- how many bytes are left there for an answer, between the four before it and LF
abbrev pub answer_room : Space → ℕ
answer_room p = p.size - (p.at + 5)

-- a line stands from its place on where it fits, else nothing is written; told is the length that the name's line needs
pub record LineAt (line : Text) (told : ℕ) (o o' : List ℕ) (space : Space) (r : Result ℕ ℕ) : Type 0 where
  pub fits : length line ≤ space.size - space.at → (r ≡ Ok (space.at + length line)) × (o' ≡ sets o space.at line)
  pub stops : space.size - space.at < length line → (r ≡ Err told) × (o' ≡ o)

-- the line of a call
abbrev pub LineFor : CallOutcome → List ℕ → List ℕ → Space → Result ℕ ℕ → Type 0
LineFor x o o' space r = LineAt (line_with (length o) x) (needed x) o o' space r

-- a call's answer in its place in a line
unfoldable pub behind_filled : CallOutcome → Space → List ℕ → List ℕ
behind_filled (refused_by why place) space o = o
behind_filled (key t f) space o = pick (leb (length t) (answer_room space)) (sets o (space.at + 4) t) o

pub record BehindIs (x : CallOutcome) (space : Space) (o : List ℕ) (r : Spelled) (o' : List ℕ) : Type 0 where
  pub result : r ≡ spelled_in x (answer_room space)
  pub buffer : o' ≡ behind_filled x space o

-- ---- a refusal

-- the length of the line with an answer of so many bytes: four stand before it, and LF behind it
abbrev pub line_length : ℕ → ℕ
line_length n = min (n + 5) most

-- what its line tells as its place: for 9 the length of the line with the answer
unfoldable pub place_told : ℕ → ℕ → ℕ
place_told code place = pick (eqb code 9) (line_length place) place

-- its line
unfoldable pub refused_line : ℕ → ℕ → Text
refused_line code place = refusal_line (refused_as code (place_told code place))

-- the length that the name's line needs: for 9 that of the line with the answer
unfoldable pub length_told : ℕ → ℕ → ℕ → ℕ
length_told code place n = pick (eqb code 9) (line_length place) n

abbrev pub length_needed : ℕ → ℕ → ℕ
length_needed code place = length_told code place (min (length (refused_line code place)) most)

-- an answer that has no room here, but has in the whole buffer
unfoldable pub waits_for : ℕ → ℕ → ℕ → Bool
waits_for code place size = and (eqb code 9) (leb (place + 5) size)

-- nothing for an answer that waits, else the line of a refusal where it fits
pub record RefusedIs (code place : ℕ) (o o' : List ℕ) (space : Space) (r : Result ℕ ℕ) : Type 0 where
  pub waits : waits_for code place space.size ≡ true → (r ≡ Err (length_needed code place)) × (o' ≡ o)
  pub line : waits_for code place space.size ≡ false → LineAt (refused_line code place) (length_needed code place) o o' space r

-- ---- an answer

-- what stands before it
unfoldable pub head_of : Bool → Text
head_of flag = 48 ∷ 32 ∷ flag_digit flag ∷ 32 ∷ []

-- head and LF around an answer that stands, where they have room; else as for an answer that has none
pub record DoneIs (written : ℕ) (flag : Bool) (o o' : List ℕ) (space : Space) (r : Result ℕ ℕ) : Type 0 where
  pub fits : written + 5 ≤ space.size - space.at
      → (r ≡ Ok (space.at + 4 + written + 1)) × (o' ≡ sets (sets o space.at (head_of flag)) (space.at + 4 + written) (10 ∷ []))
  pub stops : space.size - space.at < written + 5 → RefusedIs 9 written o o' space r

-- ---- a block that is read no further

-- what was read and written, or that the first line has no room
unfoldable pub stopped_at : ℕ → ℕ → ℕ → Lines
stopped_at read written n = pick (eqb written 0) (lines.NoRoom n) (lines.Done read written)
