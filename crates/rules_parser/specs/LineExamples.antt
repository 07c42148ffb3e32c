-- Small files and what is read of them: the open points of lines (01, Rule files and includes).
use Rattle.std.specs.Prelude.{ℕ, ◌≡◌, true, false, List, [], ◌∷◌, map}
use Prim.Native.Char.{code}
use Prim.Native.String.{String, [] as none, ◌∷◌ as ◌then◌}
use Rattle.rules_parser.specs.Files.{items_of}
use Rattle.rules_parser.specs.Grammar.{FoundItem, passed, said, wrong, rule, include, guess, name, found_of}
use Rattle.rules_parser.specs.declared.lines.FileKind.{FileKind}
use Rattle.rules_parser.specs.declared.lines.FileKind.TheVariants.{Languages, Guesses, Rules}

-- the bytes of an ASCII text
unfoldable pub bytes : String → List ℕ
bytes none = []
bytes (c then s) = code c ∷ bytes s

pub record LineRow : Type 0 where
  pub kind : FileKind
  pub file : List ℕ
  pub found : List FoundItem

abbrev pub line_row : FileKind → String → List FoundItem → LineRow
line_row k s f = record { kind = k; file = bytes s; found = f }

-- what the reader finds is what the row says
abbrev pub AllFound : List LineRow → Type 0
AllFound [] = Unit {0}
AllFound (r ∷ rs) = (map (found_of r.file) (items_of r.kind r.file) ≡ r.found) × AllFound rs

abbrev pub a_to_o : FoundItem
a_to_o = said (rule (bytes "a") [] [] (bytes "o"))

unfoldable pub comments : List LineRow
comments =
    line_row Rules "/*/" (wrong ∷ [])
    ∷ line_row Rules "/**/" (passed 1 ∷ [])
    ∷ line_row Rules " /* a */\t\r\n" (passed 1 ∷ [])
    ∷ line_row Rules "/* a */ b" (wrong ∷ [])
    ∷ line_row Rules "/* a */ /* b */" (wrong ∷ [])
    ∷ line_row Rules "/* a\n\"b\"\n" (wrong ∷ [])
    ∷ line_row Languages "/* a\nb\r\nc */\nany" (passed 3 ∷ said (name (bytes "any")) ∷ [])
    ∷ line_row Guesses "\n // /* a\n\t" (passed 1 ∷ passed 1 ∷ passed 1 ∷ [])
    ∷ []

unfoldable pub lines : List LineRow
lines =
    line_row Rules "\"a\" \"\" \"\" \"o\"\r\n" (a_to_o ∷ [])
    ∷ line_row Rules "\t\"a\"\t\"\" \"\"  \"o\" \n" (a_to_o ∷ [])
    ∷ line_row Rules "\"a\" \"\" \"\" \"o\"\r" (wrong ∷ [])
    ∷ line_row Rules "\"a\" \"\" \"\"\r\"o\"\n" (wrong ∷ [])
    ∷ line_row Rules "\"a\" \"\" \"\" \"o\"//c\n" (a_to_o ∷ [])
    ∷ line_row Rules "\"a\" \"\" \"\" \"o\" /* c */\n" (wrong ∷ [])
    ∷ line_row Rules "\"a\" \"\"\"\" \"o\"\n" (wrong ∷ [])
    ∷ line_row Rules "#include x//c" (said (include (bytes "x//c")) ∷ [])
    ∷ line_row Rules "#include\tx \n" (said (include (bytes "x")) ∷ [])
    ∷ line_row Rules "#include x // c\n" (wrong ∷ [])
    ∷ line_row Guesses "^a de+fr true\n" (said (guess (bytes "^a") (bytes "de+fr") true) ∷ [])
    ∷ line_row Guesses "/a any false" (said (guess (bytes "/a") (bytes "any") false) ∷ [])
    ∷ line_row Guesses "#include any true" (said (guess (bytes "#include") (bytes "any") true) ∷ [])
    ∷ line_row Guesses "a any true // c" (wrong ∷ [])
    ∷ line_row Languages " any\t\r\n" (said (name (bytes "any")) ∷ [])
    ∷ line_row Languages "any // c" (wrong ∷ [])
    ∷ line_row Languages "common" (wrong ∷ [])
    ∷ []
