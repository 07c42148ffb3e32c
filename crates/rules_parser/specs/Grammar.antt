-- The lines of a file as a grammar: sets of texts, with no place in them (01, Rule files and includes).
-- `proofs/GrammarLaws` and `proofs/GrammarFiles` show that `Lines` and `Files`, which follow the code, say just this.
use Rattle.std.specs.Prelude.{ℕ, suc, ◌≡◌, Bool, true, false, List, [], ◌∷◌, ◌++◌, ◌⊎◌, eqb}
use Rattle.base.specs.Pick.{pick}
use Rattle.texts.specs.Parts.{last_is}
use Rattle.languages.specs.Names.{language_name}
use Rattle.rule.specs.Matching.{rule_text}
use Rattle.rules_parser.specs.Fields.{part_of}
use Rattle.rules_parser.specs.Lines.{include_word, true_word, false_word}
use Rattle.rules_parser.specs.declared.lines.FileKind.{FileKind}
use Rattle.rules_parser.specs.declared.lines.FileKind.TheVariants.{Languages, Guesses, Rules}
use Rattle.rules_parser.specs.declared.lines.Clause.{Clause}
use Rattle.rules_parser.specs.declared.lines.Clause.TheVariants.{Rule, Include, Guess, Name}
use Rattle.rules_parser.specs.declared.files.Item.{Item}
use Rattle.rules_parser.specs.declared.files.Item.TheVariants.{Passed, Tells, Wrong}

infixr 60 ◌⨾◌
-- ---- sets of texts

abbrev pub Shape : Type 1
Shape = List ℕ → Type 0

-- a text of the first, then one of the second
abbrev pub ◌⨾◌ : Shape → Shape → Shape
◌⨾◌ A B l = (x y : List ℕ) × (l ≡ x ++ y) × A x × B y

-- the text t alone
abbrev pub Just : List ℕ → Shape
Just t l = l ≡ t

abbrev pub Anything : Shape
Anything l = Unit {0}

-- each byte is a P
unfoldable pub Every : (ℕ → Type 0) → Shape
Every P [] = Unit {0}
Every P (b ∷ l) = P b × Every P l

-- "blanks are space, tab and a CR before LF": the CR belongs to the line's end, below
abbrev pub BlankByte : ℕ → Type 0
BlankByte b = (b ≡ 32) ⊎ (b ≡ 9)

abbrev pub NoBlank : ℕ → Type 0
NoBlank b = BlankByte b → ⊥

-- any byte but a
abbrev pub Other : ℕ → ℕ → Type 0
Other a b = b ≡ a → ⊥

-- the bytes `"`, LF and CR
abbrev pub quote : ℕ
quote = 34

abbrev pub lf : ℕ
lf = 10

abbrev pub cr : ℕ
cr = 13

-- the bytes of `//`, `/*` and `*/`
abbrev pub slashes : List ℕ
slashes = 47 ∷ 47 ∷ []

abbrev pub opener : List ℕ
opener = 47 ∷ 42 ∷ []

abbrev pub closer : List ℕ
closer = 42 ∷ 47 ∷ []

abbrev pub Blanks : Shape
Blanks = Every BlankByte

-- "parted by blanks": one or more
abbrev pub Gap : Shape
Gap l = Blanks l × (l ≡ [] → ⊥)

-- t, one byte or more and none of them a blank
abbrev pub Word : List ℕ → Shape
Word t l = (l ≡ t) × (t ≡ [] → ⊥) × Every NoBlank t

-- t between double quotes, and none in it
abbrev pub InQuotes : List ℕ → Shape
InQuotes t l = (l ≡ quote ∷ t ++ quote ∷ []) × Every (Other quote) t

-- ---- a line, without its end

-- "a comment from `//`"
abbrev pub CommentLine : Shape
CommentLine = Blanks ⨾ Just slashes ⨾ Anything

-- "a comment opened by `/*` as first text"
abbrev pub OpeningLine : Shape
OpeningLine = Blanks ⨾ Just opener ⨾ Anything

-- what a line says
pub data Said : Type 0 where
  rule : (pattern left right expression : List ℕ) → Said
  include : (file : List ℕ) → Said
  guess : (pattern names : List ℕ) (accept : Bool) → Said
  name : (language : List ℕ) → Said

-- "Rule and guessing texts may hold any UTF-8 without U+0000 to U+001F, U+007F or the double quote; else 12."
abbrev pub Printable : List ℕ → Type 0
Printable t = rule_text t ≡ true

abbrev pub TextString : List ℕ → Shape
TextString t l = InQuotes t l × Printable t

abbrev pub TextWord : List ℕ → Shape
TextWord t l = Word t l × Printable t

-- "four quoted strings (pattern, left, right, expression) parted by blanks, perhaps with a `//` comment"
abbrev pub RuleLine : List ℕ → List ℕ → List ℕ → List ℕ → Shape
RuleLine p l r e = Blanks ⨾ TextString p ⨾ Gap ⨾ TextString l ⨾ Gap ⨾ TextString r ⨾ Gap ⨾ TextString e ⨾ λ t. Blanks t ⊎ CommentLine t

-- "`#include`, blanks and a file name without blanks"
abbrev pub IncludeLine : List ℕ → Shape
IncludeLine f = Blanks ⨾ Just include_word ⨾ Gap ⨾ Word f ⨾ Blanks

abbrev pub verdict : Bool → List ℕ
verdict true = true_word
verdict false = false_word

-- "Guessing lines: pattern, names joined by `+`, `true` or `false`, parted by blanks."
abbrev pub GuessLine : List ℕ → List ℕ → Bool → Shape
GuessLine p n v = Blanks ⨾ TextWord p ⨾ Gap ⨾ TextWord n ⨾ Gap ⨾ Word (verdict v) ⨾ Blanks

-- "The language list has one name a line"; "Names are 1 to 24 letters `a` to `z`, but not `common`; else 12 in the list."
abbrev pub NameLine : List ℕ → Shape
NameLine n = Blanks ⨾ Word n ⨾ Blanks

-- the line l says this: "only rule files includes". A guessing pattern may begin with `/`, so that its line be no comment is said
pub data LineSays : FileKind → List ℕ → Said → Type 0 where
  is_rule : {l p a b e : List ℕ} → RuleLine p a b e l → LineSays Rules l (rule p a b e)
  is_include : {l f : List ℕ} → IncludeLine f l → LineSays Rules l (include f)
  is_guess : {l p n : List ℕ} {v : Bool} → GuessLine p n v l → (CommentLine l → ⊥) → (OpeningLine l → ⊥) → LineSays Guesses l (guess p n v)
  is_name : {l n : List ℕ} → NameLine n l → language_name n ≡ true → LineSays Languages l (name n)

-- ---- lines one after the other

-- "Lines end at LF or the file's end": r is the line l, its end, and what is left. A CR right before LF goes with it, and no other
pub data FirstLine (r l left : List ℕ) : Type 0 where
  at_end : Every (Other lf) l → r ≡ l → left ≡ [] → FirstLine r l left
  at_lf : Every (Other lf) l → last_is cr l ≡ false → r ≡ l ++ lf ∷ left → FirstLine r l left
  at_cr_lf : Every (Other lf) l → r ≡ l ++ cr ∷ lf ∷ left → FirstLine r l left

-- no `*/` stands in l
abbrev pub Unclosed : Shape
Unclosed l = (x y : List ℕ) → l ≡ x ++ (closer ++ y) → ⊥

-- how many lines end in l
unfoldable pub line_ends : List ℕ → ℕ
line_ends [] = 0
line_ends (b ∷ l) = pick (eqb b lf) (suc (line_ends l)) (line_ends l)

-- lines to pass, or what a line says, or no line at all (12)
pub data FoundItem : Type 0 where
  passed : (lines : ℕ) → FoundItem
  said : Said → FoundItem
  wrong : FoundItem

-- r is a comment "opened by `/*` as first text and closed by `*/`, not sharing its star, as last text of that or a later line",
-- and what is left behind its last line. The first `*/` closes
pub record Block (r : List ℕ) (lines : ℕ) (left : List ℕ) : Type 0 where
  pub lead : List ℕ
  pub body : List ℕ
  pub behind : List ℕ
  pub trail : List ℕ
  pub whole : r ≡ lead ++ (opener ++ (body ++ (closer ++ behind)))
  pub leads : Blanks lead
  pub closes : Unclosed body
  pub counts : lines ≡ suc (line_ends body)
  pub ends : FirstLine behind trail left
  pub trails : Blanks trail

-- what r begins with, and what is left of it: "Every file has blank lines and comments"
pub data Begins (k : FileKind) (r : List ℕ) : FoundItem → List ℕ → Type 0 where
  blank : {l left : List ℕ} → FirstLine r l left → Blanks l → Begins k r (passed 1) left
  comment : {l left : List ℕ} → FirstLine r l left → CommentLine l → Begins k r (passed 1) left
  block : {n : ℕ} {left : List ℕ} → Block r n left → Begins k r (passed n) left
  says : {l left : List ℕ} {x : Said} → FirstLine r l left → LineSays k l x → Begins k r (said x) left

-- a whole file. What begins in no such way is 12, "an unclosed one is 12 where it opens" too, and nothing behind it is read
pub data Reads (k : FileKind) : List ℕ → List FoundItem → Type 0 where
  over : Reads k [] []
  next : {b : ℕ} {t left : List ℕ} {x : FoundItem} {xs : List FoundItem} → Begins k (b ∷ t) x left → Reads k left xs → Reads k (b ∷ t) (x ∷ xs)
  stop : {b : ℕ} {t : List ℕ} → ((x : FoundItem) (left : List ℕ) → Begins k (b ∷ t) x left → ⊥) → Reads k (b ∷ t) (wrong ∷ [])

-- ---- what the reader gives, in the grammar's words: the bytes of the places, f being the file

unfoldable pub said_of : List ℕ → Clause → Said
said_of f (Rule a b c d) = rule (part_of f a) (part_of f b) (part_of f c) (part_of f d)
said_of f (Include t) = include (part_of f t)
said_of f (Guess a b v) = guess (part_of f a) (part_of f b) v
said_of f (Name t) = name (part_of f t)

unfoldable pub found_of : List ℕ → Item → FoundItem
found_of f (Passed n q) = passed n
found_of f (Tells t q) = said (said_of f t)
found_of f Wrong = wrong
