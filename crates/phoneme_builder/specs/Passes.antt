-- Passes over a word (01, Spelling a name, steps 6 to 9): what the texts become as rules match.
use Rattle.std.specs.Prelude.{ℕ, zero, suc, ◌+◌, max, Bool, true, false, List, [], ◌∷◌, ◌++◌, map, leb, ltb, length, take, drop}
use Rattle.base.specs.Pick.{pick}
use Rattle.letters.specs.Utf8.{decode_at}
use Rattle.letters.specs.declared.utf8.Step.{Step}
use Rattle.letters.specs.declared.utf8.Step.TheVariants.{Char, Ill, End}
use Rattle.languages.specs.declared.sets.LanguageSet.{LanguageSet}
use Rattle.phonemes.specs.Expressions.{bar, pieces_in, text_of, set_of}
use Rattle.rule_index.specs.Matching.{Match, none, by, Matcher}
use Rattle.choices.specs.Texts.{Text}
use Rattle.choices.specs.Apply.{Alternative, Entry, NextSet, overlong, next_set, apply, start}
use Rattle.refusals.specs.declared.Refusal.TheVariants.{TextTooLong}
use Rattle.phoneme_builder.specs.Sets.{appended, Spelling, refusal, texts, united}

-- ---- the turns of a pass

-- the alternatives of an expression; `names` is the bytes of the pack's names
unfoldable pub offered : List ℕ → List ℕ → List Alternative
offered names e = map (λ (a : List ℕ). record { text = text_of a; langs = set_of names a }) (pieces_in e)

-- a rule applied, or a character that no rule matched
pub data Turn : Type 0 where
  rule : List Alternative → Turn
  letter : Text → Turn

-- the bytes of the character at a place
unfoldable pub step_length : Step → ℕ
step_length (Char k n) = n
step_length Ill = 1
step_length End = 1

-- "At each place the first rule .. that matches is applied and its pattern's length passed; otherwise one character". No pattern of an accepted
-- pack is empty; over other bytes such a rule passes one byte
unfoldable pub turn_on : List ℕ → Match → Text → ℕ → (ℕ → List Turn) → List Turn
turn_on names (by r) word place rest = rule (offered names r.expression) ∷ rest (place + max 1 (length r.pattern))
turn_on names none word place rest =
    letter (take (step_length (decode_at word place)) (drop place word)) ∷ rest (place + step_length (decode_at word place))

-- a turn passes at least one byte, so a fuel of the length is enough
unfoldable pub turns_from : ℕ → List ℕ → Matcher → Text → ℕ → List Turn
turns_from zero names rules word place = []
turns_from (suc f) names rules word place =
    pick (ltb place (length word)) (turn_on names (rules word place) word place (turns_from f names rules word)) []

unfoldable pub turns_of : List ℕ → Matcher → Text → List Turn
turns_of names rules word = turns_from (length word) names rules word 0

-- ---- running them

-- the texts and whether some apply ended with a count at or over the limit; or refusal 7
pub data Ran : Type 0 where
  too_long : Ran
  ran : List Entry → Bool → Ran

unfoldable pub flagged : Bool → Ran → Ran
flagged up too_long = too_long
flagged up (ran l flag) = ran l (pick up true flag)

-- step 7, and on
unfoldable pub applied : ℕ → NextSet → (List Entry → Ran) → Ran
applied limit overlong rest = too_long
applied limit (next_set l) rest = flagged (leb limit (length l)) (rest l)

unfoldable pub after_letter : NextSet → (List Entry → Ran) → Ran
after_letter overlong rest = too_long
after_letter (next_set l) rest = rest l

-- step 6: "otherwise one character is skipped"; in a final pass, step 8: "an unmatched character being appended"
unfoldable pub unmatched : Bool → Text → List Entry → NextSet
unmatched false c l = next_set l
unmatched true c l = appended c l

unfoldable pub run : Bool → ℕ → List Turn → List Entry → Ran
run final limit [] l = ran l false
run final limit (rule alts ∷ turns) l = applied limit (apply limit alts l) (run final limit turns)
run final limit (letter c ∷ turns) l = after_letter (unmatched final c l) (run final limit turns)

-- ---- uniting the results of a final pass

unfoldable pub raised : Bool → Spelling → Spelling
raised up (refusal c) = refusal c
raised up (texts l flag) = texts l (pick up true flag)

unfoldable pub on_ran : LanguageSet → Ran → List Entry → (List Entry → Spelling) → Spelling
on_ran g too_long l rest = refusal TextTooLong
on_ran g (ran new flag) l rest = raised flag (united g new l rest)

-- "each text is run the same way from its own set"
unfoldable pub final_text : ℕ → List ℕ → Matcher → Entry → List Entry → (List Entry → Spelling) → Spelling
final_text limit names rules e l rest = on_ran e.langs (run true limit (turns_of names rules e.text) (start e.langs)) l rest

-- the old texts in order; l is what they came to so far
unfoldable pub final_from : ℕ → List ℕ → Matcher → List Entry → List Entry → Spelling
final_from limit names rules [] l = texts l false
final_from limit names rules (e ∷ old) l = final_text limit names rules e l (final_from limit names rules old)

unfoldable pub final_pass : ℕ → List ℕ → Matcher → List Entry → Spelling
final_pass limit names rules old = final_from limit names rules old []

unfoldable pub then : Spelling → (List Entry → Spelling) → Spelling
then (refusal c) rest = refusal c
then (texts l flag) rest = raised flag (rest l)

unfoldable pub main_of : Ran → Spelling
main_of too_long = refusal TextTooLong
main_of (ran l flag) = texts l flag

-- a word: the main pass "from one empty text with the set", then the final passes, common and then language
unfoldable pub word_of : ℕ → List ℕ → Matcher → Matcher → Matcher → LanguageSet → Text → Spelling
word_of limit names main common language set word =
    then (main_of (run false limit (turns_of names main word) (start set))) (λ l.
    then (final_pass limit names common l) (final_pass limit names language))

-- step 9: "Texts joined by `|`"
unfoldable pub joined : List Text → Text
joined [] = []
joined (t ∷ []) = t
joined (t ∷ u ∷ l) = t ++ bar ∷ joined (u ∷ l)
