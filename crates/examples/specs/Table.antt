-- Document 01's first twelve examples, the twelfth as ticket 5 of document 02 amends it: what the definitions compute, beside what the papers say.
use Rattle.phonemes.specs.declared.answers.ExpressionFault.TheVariants.{Malformed, UnlistedName}
use Rattle.phonemes.specs.declared.answers.ExpressionFault.{ExpressionFault}
use Rattle.std.specs.Prelude.{ℕ, ◌≡◌, Bool, true, false, List, [], ◌∷◌, map, drop, Result, Ok, Err}
use Rattle.languages.specs.Sets.{narrowed, merged}
use Rattle.languages.specs.declared.sets.LanguageSet.{LanguageSet}
use Rattle.languages.specs.declared.sets.LanguageSet.TheVariants.{Any, SomeLanguages}
use Rattle.phonemes.specs.Expressions.{pieces_in, text_of, set_of, checked_of}
use Rattle.regex_optim.specs.Contexts.{left_form, fits}
use Rattle.prefixes.specs.Prefixes.{split_of}
use Rattle.name_parts.specs.Joining.{joined_name}
use Rattle.prefixes.specs.declared.prefixes.Prefix.{Prefix}
use Rattle.prefixes.specs.declared.prefixes.Prefix.TheVariants.{Leads, Whole}
use Rattle.choices.specs.Apply.{Entry, start}
use Rattle.phoneme_builder.specs.Passes.{offered, rule, letter, Ran, ran, run}

-- what an example shows
pub data Shown : Type 0 where
  refusal : ℕ → Shown
  alternatives : List (record { text : List ℕ; set : LanguageSet }) → Shown
  fitting : Bool → Shown
  languages : LanguageSet → Shown
  spellings : Ran → Shown
  parts : List ℕ → List ℕ → Shown
  unparted : Shown

pub record Row : Type 0 where
  pub computed : Shown
  pub expected : Shown

abbrev pub row : Shown → Shown → Row
row c e = record { computed = c; expected = e }

-- the names de, fr, each behind its length byte: de is bit 0, fr bit 1
abbrev pub names : List ℕ
names = 2 ∷ 100 ∷ 101 ∷ 2 ∷ 102 ∷ 114 ∷ []

abbrev pub alternative : List ℕ → LanguageSet → record { text : List ℕ; set : LanguageSet }
alternative t s = record { text = t; set = s }

-- an expression's alternatives, or 14 or 16
unfoldable pub told : Result ℕ ExpressionFault → List ℕ → Shown
told (Ok n) e = alternatives (map (λ (a : List ℕ). alternative (text_of a) (set_of names a)) (pieces_in e))
told (Err Malformed) e = refusal 14
told (Err UnlistedName) e = refusal 16

unfoldable pub expression : List ℕ → Shown
expression e = told (checked_of names e) e

-- a left context against the text before a place
unfoldable pub left : List ℕ → List ℕ → Shown
left c before = fitting (fits (left_form c) before)

-- an expression applied to one empty text with Any: the texts, and the flag by the limit
unfoldable pub applying : ℕ → List ℕ → Shown
applying limit e = spellings (run false limit (rule (offered names e) ∷ []) (start Any))

-- a character that no rule of a final pass matches; the limit, here 5, has no part in it
unfoldable pub appending : List ℕ → List Entry → Shown
appending c l = spellings (run true 5 (letter c ∷ []) l)

-- a Generic name's remainder and joined name
unfoldable pub parts_by : Prefix → List ℕ → Shown
parts_by (Leads size rest) s = parts (drop rest s) (joined_name size rest s)
parts_by Whole s = unparted

unfoldable pub parts_of : List ℕ → Shown
parts_of s = parts_by (split_of s) s

abbrev pub entry : List ℕ → LanguageSet → Entry
entry t s = record { text = t; langs = s }

-- `(b[fr]|a|b[de])`
abbrev pub choice : List ℕ
choice = 40 ∷ 98 ∷ 91 ∷ 102 ∷ 114 ∷ 93 ∷ 124 ∷ 97 ∷ 124 ∷ 98 ∷ 91 ∷ 100 ∷ 101 ∷ 93 ∷ 41 ∷ []

-- in bytes: space 32, `a` 97, `b` 98, `z` 122, `(` 40, `)` 41, `|` 124, `[` 91, `]` 93, `+` 43, `^` 94, `-` 45
unfoldable pub table : List Row
table =
    row (expression (97 ∷ 91 ∷ 102 ∷ 114 ∷ 43 ∷ 100 ∷ 101 ∷ 93 ∷ [])) (alternatives (alternative (97 ∷ []) (SomeLanguages 3) ∷ []))
    ∷ row (expression (40 ∷ 124 ∷ 97 ∷ 41 ∷ [])) (alternatives (alternative [] Any ∷ alternative (97 ∷ []) Any ∷ alternative [] Any ∷ []))
    ∷ row (expression (40 ∷ 41 ∷ [])) (alternatives (alternative [] Any ∷ []))
    ∷ row (expression (97 ∷ 124 ∷ 98 ∷ [])) (alternatives (alternative (97 ∷ 124 ∷ 98 ∷ []) Any ∷ []))
    ∷ row (expression (40 ∷ 97 ∷ [])) (refusal 14)
    ∷ row (expression (97 ∷ 91 ∷ 102 ∷ 114 ∷ [])) (refusal 14)
    ∷ row (left (94 ∷ []) []) (fitting true)
    ∷ row (left (94 ∷ []) (97 ∷ [])) (fitting false)
    ∷ row (left (91 ∷ 97 ∷ 45 ∷ 99 ∷ 93 ∷ []) (45 ∷ [])) (fitting true)
    ∷ row (left (91 ∷ 97 ∷ 45 ∷ 99 ∷ 93 ∷ []) (98 ∷ [])) (fitting false)
    ∷ row (languages (narrowed Any (SomeLanguages 2))) (languages (SomeLanguages 2))
    ∷ row (languages (merged Any (SomeLanguages 2))) (languages Any)
    ∷ row (applying 5 choice) (spellings (ran (entry (97 ∷ []) Any ∷ entry (98 ∷ []) (SomeLanguages 2) ∷ []) false))
    ∷ row (applying 1 choice) (spellings (ran (entry (98 ∷ []) (SomeLanguages 2) ∷ []) true))
    ∷ row (applying 0 choice) (spellings (ran [] true))
    ∷ row (appending (122 ∷ []) (entry (97 ∷ []) Any ∷ entry (97 ∷ 98 ∷ []) Any ∷ []))
    (spellings (ran (entry (97 ∷ 98 ∷ 122 ∷ []) Any ∷ entry (97 ∷ 122 ∷ []) Any ∷ []) false))
    ∷ row (parts_of (100 ∷ 101 ∷ 32 ∷ 108 ∷ 97 ∷ 32 ∷ 99 ∷ 114 ∷ 117 ∷ 122 ∷ [])) (parts (99 ∷ 114 ∷ 117 ∷ 122 ∷ []) (100 ∷ 101 ∷ 32 ∷ 108 ∷ 97 ∷ 99 ∷ 114 ∷ 117 ∷ 122 ∷ []))
    ∷ row (parts_of (100 ∷ 101 ∷ 32 ∷ 108 ∷ 97 ∷ 99 ∷ 114 ∷ 117 ∷ 122 ∷ [])) (parts (108 ∷ 97 ∷ 99 ∷ 114 ∷ 117 ∷ 122 ∷ []) (100 ∷ 101 ∷ 108 ∷ 97 ∷ 99 ∷ 114 ∷ 117 ∷ 122 ∷ []))
    ∷ []

-- each row's two sides are the same
abbrev pub AllSame : List Row → Type 0
AllSame [] = Unit {0}
AllSame (r ∷ rs) = (r.computed ≡ r.expected) × AllSame rs
