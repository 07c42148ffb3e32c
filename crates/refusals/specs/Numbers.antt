-- The paper's number of each refusal (01, What the desk gets: the table; 02, the tickets).
use Rattle.std.specs.Prelude.{ℕ}
use Rattle.refusals.specs.declared.Refusal.{Refusal}
use Rattle.refusals.specs.declared.Refusal.TheVariants.{NotUtf8, OutsideRange, NameTooLong, SettingUnknown, PackBroken, NoSuchLanguage, TextTooLong, TooManyTexts, NoRoom, BundleBroken, FileMissing, LineUnreadable, PatternEmpty, ExpressionWrong, OutsideForms, NameUnlisted, IncludeTooDeep, TooMuch, AnyMissing, BoxEmpty}

-- "Given exactly when", row by row
unfoldable pub number_of : Refusal → ℕ
-- "name isn't UTF-8"
number_of NotUtf8 = 1
-- "name holds a character outside the range"
number_of OutsideRange = 2
-- "name over 96 bytes"
number_of NameTooLong = 3
-- "limit over 256, or a setting's number unknown"
number_of SettingUnknown = 4
-- "pack breaks a pack rule"
number_of PackBroken = 5
-- "a given language bit has no language"
number_of NoSuchLanguage = 6
-- "a text over 128 bytes would enter a set"
number_of TextTooLong = 7
-- "a final pass's result would pass 256 texts"
number_of TooManyTexts = 8
-- "answer or pack longer than the output buffer"
number_of NoRoom = 9
-- "bundle badly formed"
number_of BundleBroken = 10
-- "a named file isn't in the bundle"
number_of FileMissing = 11
-- "line not readable"
number_of LineUnreadable = 12
-- "pattern empty"
number_of PatternEmpty = 13
-- "phoneme expression wrong"
number_of ExpressionWrong = 14
-- "context or guessing pattern outside the forms"
number_of OutsideForms = 15
-- "language name not in the list"
number_of NameUnlisted = 16
-- "include deeper than 8, or a 257th include followed in one list"
number_of IncludeTooDeep = 17
-- "string over 255 bytes, list over 4,096 rules, over 32 languages, over 4,096 guessing rules"
number_of TooMuch = 18
-- "language list lacks `any`"
number_of AnyMissing = 19
-- 02, ticket 11: "a rule with an empty box that isn't negated, as left or right context"
number_of BoxEmpty = 20
