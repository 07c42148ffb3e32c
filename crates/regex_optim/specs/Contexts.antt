-- Contexts (01, Contexts): which form one is, and when it fits a text.
use Rattle.std.specs.Prelude.{ℕ, ◌-◌, Bool, true, false, not, List, [], ◌∷◌, ◌++◌, eqb, ltb, length, Option, Some, None}
use Rattle.base.specs.Pick.{pick, and}
use Rattle.letters.specs.Utf8.{decode_at}
use Rattle.letters.specs.Reading.{codes_of}
use Rattle.letters.specs.Order.{same_text}
use Rattle.letters.specs.declared.utf8.Step.{Step}
use Rattle.letters.specs.declared.utf8.Step.TheVariants.{Char, Ill, End}
use Rattle.texts.specs.Parts.{tail, front, first_is, last_is, has, prefix_of, suffix_of, caret, dollar, opening, closing, without_caret, without_dollar}
use Rattle.std.specs.Prelude.{Option, Some, None}
use Rattle.regex_optim.specs.declared.OptimizedRegex.{OptimizedRegex}
use Rattle.regex_optim.specs.declared.OptimizedRegex.TheVariants.{AllStringsMatcher, IsEmpty, Equals, StartsWith, EndsWith, EqualsChar, StartsWithChar, EndsWithChar}

-- a form, with what it compares with; of a box, whether a character of its list fits (true) or one outside it does (false)
pub data Form : Type 0 where
  always : Form
  empty : Form
  equals : List ℕ → Form
  starts : List ℕ → Form
  ends : List ℕ → Form
  only : Bool → List ℕ → Form
  first : Bool → List ℕ → Form
  last : Bool → List ℕ → Form
  outside : Form

-- "Without `[` the rest is literal: both anchors mean equal (or empty), one means ends or starts with it, or always if nothing is left."
unfoldable pub literal_form : Bool → Bool → List ℕ → Form
literal_form true true [] = empty
literal_form true true (x ∷ t) = equals (x ∷ t)
literal_form true false [] = always
literal_form true false (x ∷ t) = starts (x ∷ t)
literal_form false true [] = always
literal_form false true (x ∷ t) = ends (x ∷ t)
literal_form false false t = outside

unfoldable pub box_form : Bool → Bool → Bool → List ℕ → Form
box_form true true hit l = only hit l
box_form true false hit l = first hit l
box_form false true hit l = last hit l
box_form false false hit l = outside

-- "If the rest starts with `[`, ends with `]` and has no other `[`, it is a list of literal characters, a first `^` negating"
unfoldable pub box_inner : List ℕ → List ℕ
box_inner t = front (tail t)

unfoldable pub boxed : List ℕ → Bool
boxed t = and (first_is opening t) (and (last_is closing t) (not (has opening (box_inner t))))

-- the form of the rest, by its anchors: one at the start, one at the end; "Everything else is 15."
unfoldable pub form_in : Bool → Bool → List ℕ → Form
form_in s e t =
    pick (has opening t) (pick (boxed t) (box_form s e (not (first_is caret (box_inner t))) (without_caret (box_inner t))) outside) (literal_form s e t)

unfoldable pub form_of : List ℕ → Form
form_of r = form_in (first_is caret r) (last_is dollar r) (without_dollar (without_caret r))

-- "`$` is put after the left, `^` before the right"
unfoldable pub left_form : List ℕ → Form
left_form c = form_of (c ++ (dollar ∷ []))

unfoldable pub right_form : List ℕ → Form
right_form c = form_of (caret ∷ c)

-- the form's name in regex_optim.rs
unfoldable pub kind_of : Form → Option OptimizedRegex
kind_of always = Some AllStringsMatcher
kind_of empty = Some IsEmpty
kind_of (equals t) = Some Equals
kind_of (starts t) = Some StartsWith
kind_of (ends t) = Some EndsWith
kind_of (only hit l) = Some EqualsChar
kind_of (first hit l) = Some StartsWithChar
kind_of (last hit l) = Some EndsWithChar
kind_of outside = None

-- 02, ticket 11: "an empty box that isn't negated"
unfoldable pub takes_none : Bool → List ℕ → Bool
takes_none hit l = and hit (eqb (length l) 0)

unfoldable pub empty_box : Form → Bool
empty_box always = false
empty_box empty = false
empty_box (equals t) = false
empty_box (starts t) = false
empty_box (ends t) = false
empty_box (only hit l) = takes_none hit l
empty_box (first hit l) = takes_none hit l
empty_box (last hit l) = takes_none hit l
empty_box outside = false

-- ---- fitting

-- the character that stands at the front of x, is x, and stands at its end: of one byte, two, three or four
unfoldable pub code_at : Step → Option ℕ
code_at (Char k n) = Some k
code_at Ill = None
code_at End = None

unfoldable pub first_char : List ℕ → Option ℕ
first_char x = code_at (decode_at x 0)

unfoldable pub code_of : ℕ → Step → Option ℕ
code_of n (Char k m) = pick (eqb m n) (Some k) None
code_of n Ill = None
code_of n End = None

unfoldable pub back_char : List ℕ → ℕ → Option ℕ
back_char x n = pick (ltb (length x) n) None (code_of n (decode_at x (length x - n)))

unfoldable pub whole_char : List ℕ → Option ℕ
whole_char x = back_char x (length x)

unfoldable pub or_else : Option ℕ → Option ℕ → Option ℕ
or_else (Some k) other = Some k
or_else None other = other

unfoldable pub last_char : List ℕ → Option ℕ
last_char x = or_else (back_char x 1) (or_else (back_char x 2) (or_else (back_char x 3) (back_char x 4)))

-- "a box always needs a character, and with both anchors exactly one"
unfoldable pub char_fits : Bool → List ℕ → Option ℕ → Bool
char_fits hit l (Some k) = pick (has k (codes_of l)) hit (not hit)
char_fits hit l None = false

unfoldable pub fits : Form → List ℕ → Bool
fits always x = true
fits empty x = eqb (length x) 0
fits (equals t) x = same_text t x
fits (starts t) x = prefix_of t x
fits (ends t) x = suffix_of t x
fits (only hit l) x = char_fits hit l (whole_char x)
fits (first hit l) x = char_fits hit l (first_char x)
fits (last hit l) x = char_fits hit l (last_char x)
fits outside x = false
