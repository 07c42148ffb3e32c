-- What the functions of a pass tell of the pack's bytes and of the lent tables.
use Rattle.std.specs.Prelude.{ℕ, suc, ◌+◌, ◌-◌, ◌≤◌, ◌<◌, min, ◌≡◌, Bool, true, List, [], ◌∷◌, ◌++◌, map, ◌⊎◌, leb, length, take, drop, Result, Ok, Err}
use Rattle.std.proofs.lemmas.List.Edits.{sets}
use Rattle.base.specs.Pick.{pick}
use Rattle.choices.specs.Texts.{Text}
use Rattle.languages.specs.InnerContracts.{decoded, IsCode}
use Rattle.languages.specs.declared.sets.LanguageSet.{LanguageSet}
use Rattle.letters.specs.Order.{same_text}
use Rattle.choices.specs.Apply.{Alternative, Entry, NextSet, overlong, next_set, texts_of, under, enter, apply, start}
use Rattle.choices.specs.Choices.{Increasing}
use Rattle.phonemes.specs.Expressions.{bar}
use Rattle.refusals.specs.Numbers.{number_of}
use Rattle.refusals.specs.declared.Refusal.TheVariants.{TextTooLong, TooManyTexts}
use Rattle.phoneme_builder.specs.Sets.{Spelling, refusal, texts}
use Rattle.phoneme_builder.specs.Passes.{offered, Turn, turn_on, turns_of, Ran, too_long, ran, flagged, after_letter, unmatched, run, raised, final_text, final_from, final_pass, then, word_of, joined}
use Rattle.phoneme_builder.specs.BufferContracts.{MOST, langs_of, refused_by, alt_of, AltIn, AltsIn, alternatives, Holds, slot_texts, part, Arena, SetAt, TextIn, entry_in, entries_at, Stayed, Only, BetweenIn, source_of}
use Rattle.phoneme_builder.specs.declared.expressions.Candidate.{Candidate}
use Rattle.phoneme_builder.specs.declared.pass.Turned.{Turned}
use Rattle.phoneme_builder.specs.declared.pass.Passed.{Passed}
use Rattle.phoneme_builder.specs.declared.finals.Finished.{Finished}
use Rattle.phoneme_builder.specs.declared.set.Excess.{Excess}
use Rattle.phoneme_builder.specs.declared.set.Excess.TheVariants.{TooLong}
use Rattle.phoneme_builder.specs.declared.set.Target.{Target}
use Rattle.phoneme_builder.specs.declared.set.Between.{Between}
use Rattle.phoneme_builder.specs.declared.way.Pass.{Pass}
use Rattle.phoneme_builder.specs.declared.pass.Stage.{Stage}
use Rattle.phoneme_builder.specs.declared.way.FinalSets.{FinalSets}
use Rattle.phoneme_builder.specs.declared.finals.NextText.{NextText}
use Rattle.phoneme_builder.specs.declared.words.Plan.{Plan}
use Rattle.rule_index.specs.Matching.{Matcher}
use Rattle.rule_index.specs.InnerContracts.{matcher}
use Rattle.phoneme_builder.specs.declared.words.Worded.{Worded}
use Rattle.phoneme_builder.specs.declared.words.Worded.TheVariants as worded

-- the bytes of a pack's names, behind which its guesses stand
unfoldable pub names_in : List ℕ → ℕ → List ℕ
names_in s guesses = take (guesses - 1) (drop 1 s)

-- ---- the table of an expression's alternatives

-- the first n stand there, and x is another
pub record Asks (e : List ℕ) (alts : List Candidate) (n x : ℕ) : Type 0 where
  pub parts : AltsIn e alts n
  pub own : AltIn e x

-- the languages of y, where it has the text of x
abbrev pub langs_if_alike : List ℕ → ℕ → ℕ → ℕ
langs_if_alike e x y = pick (same_text (alt_of e x).text (alt_of e y).text) (langs_of y) 0

-- under each text the same comes of both lists of alternatives, whatever comes behind them
pub record Alike (xs ys : List Alternative) : Type 0 where
  pub are : (u : Entry) (limit : ℕ) (rest l : List Entry) → Increasing (texts_of l) → enter limit (under u xs ++ rest) l ≡ enter limit (under u ys ++ rest) l

pub record Keeps (e : List ℕ) (alts : List Candidate) (n x : ℕ) : Type 0 where
  pub asks : Asks e alts n x
  pub room : n < length alts

-- the table then holds what is alike to the first n with x behind them
pub record KeptIn (e : List ℕ) (alts alts' : List Candidate) (n x r : ℕ) : Type 0 where
  pub same : length alts' ≡ length alts
  pub parts : AltsIn e alts' r
  pub few : r ≤ n + 1
  pub alike : (more : List Alternative) → Alike (alternatives e alts' r ++ more) (alternatives e alts n ++ alt_of e x ∷ more)

-- an expression has fewer than 256 bytes, and a table has 256 places
pub record Fills (e : List ℕ) (alts : List Candidate) : Type 0 where
  pub short : length e < 256
  pub room : length alts ≡ MOST

-- of what the table holds the same comes as of the alternatives of e
pub record AltsAre (names e : List ℕ) (alts : List Candidate) (m : ℕ) : Type 0 where
  pub parts : AltsIn e alts m
  pub are : (limit : ℕ) (old : List Entry) → apply limit (alternatives e alts m) old ≡ apply limit (offered names e) old

-- ---- a stage of a pass: the characters that no rule matched since the last match are yet to be appended

-- the names and the rules of a pass
abbrev pub names_of : List ℕ → Pass → List ℕ
names_of s by = names_in s by.guesses

abbrev pub rules_of : List ℕ → List (List ℕ) → Pass → Matcher
rules_of s table by = matcher s table by.list

-- the two sets take turns
pub data Sides (x y : ℕ) : ℕ → ℕ → Type 0 where
  straight : Sides x y x y
  crossed : Sides x y y x

-- a pass stands at a place of the word or at its end, with two sets
pub record StageIn (a : Arena) (word : Text) (at : Stage) : Type 0 where
  pub sides : BetweenIn a at.sets
  pub behind : at.since ≤ at.place
  pub within : at.place ≤ length word

-- where there is no such character, the texts stay
unfoldable pub stretched : Bool → Text → List Entry → NextSet
stretched final [] l = next_set l
stretched final (b ∷ c) l = unmatched final (b ∷ c) l

-- the stretch before a stage, appended as the pass appends
abbrev pub stretch_at : Pass → Text → Arena → Stage → NextSet
stretch_at by word a at = stretched by.appends (take (at.place - at.since) (drop at.since word)) (source_of a at.sets)

unfoldable pub SettledKept : Result Between Excess → Arena → Stage → Type 0
SettledKept (Ok sets) b at = BetweenIn b sets × Sides at.sets.from at.sets.to sets.from sets.to
SettledKept (Err e) b at = e ≡ TooLong

unfoldable pub settled_by : Result Between Excess → Arena → (List Entry → Ran) → Ran
settled_by (Ok sets) b rest = rest (source_of b sets)
settled_by (Err e) b rest = too_long

pub record SettledAt (a b : Arena) (at : Stage) (o : NextSet) (r : Result Between Excess) : Type 0 where
  pub kept : SettledKept r b at
  pub is : (rest : List Entry → Ran) → settled_by r b rest ≡ after_letter o rest
  pub others : Only at.sets.from at.sets.to a b

abbrev pub SettledBy : Arena → Arena → Pass → Text → Stage → Result Between Excess → Type 0
SettledBy a b by word at r = SettledAt a b at (stretch_at by word a at) r

-- a rule's expression applied behind it
pub record RuleApplies (a : Arena) (by : Pass) (word : Text) (at : Stage) (expr : List ℕ) : Type 0 where
  pub stage : StageIn a word at
  pub short : length expr < 256

unfoldable pub after_set : NextSet → (List Entry → NextSet) → NextSet
after_set overlong rest = overlong
after_set (next_set l) rest = rest l

abbrev pub rule_on : List ℕ → Pass → List ℕ → List Entry → NextSet
rule_on s by expr = apply by.limit (offered (names_of s by) expr)

abbrev pub RuleApplied : Arena → Arena → List ℕ → Pass → Text → Stage → List ℕ → Result Between Excess → Type 0
RuleApplied a b s by word at expr r = SettledAt a b at (after_set (stretch_at by word a at) (rule_on s by expr)) r

-- ---- a turn: what the run then comes to, whatever turns follow

-- the stretch and then the turns from a stage on
abbrev pub run_from : Pass → Text → List Turn → Arena → Stage → Ran
run_from by word turns a at = after_letter (stretch_at by word a at) (run by.appends by.limit turns)

unfoldable pub turned_by : Result Turned Excess → Pass → Text → Arena → (ℕ → List Turn) → Ran
turned_by (Ok t) by word b rest = flagged t.full (run_from by word (rest t.next.place) b t.next)
turned_by (Err e) by word b rest = too_long

-- the step lies within the word
pub record StepIn (word : Text) (place step : ℕ) : Type 0 where
  pub some : 0 < step
  pub within : place + step ≤ length word

-- the next stage is further on, with the same two sets
pub record StageOn (b : Arena) (word : Text) (at next : Stage) : Type 0 where
  pub stage : StageIn b word next
  pub sides : Sides at.sets.from at.sets.to next.sets.from next.sets.to
  pub on : at.place < next.place

unfoldable pub TurnKept : Result Turned Excess → Arena → Text → Stage → Type 0
TurnKept (Ok t) b word at = StageOn b word at t.next
TurnKept (Err e) b word at = e ≡ TooLong

pub record TurnedAt (a b : Arena) (by : Pass) (word : Text) (at : Stage) (turns : (ℕ → List Turn) → List Turn) (r : Result Turned Excess) : Type 0 where
  pub kept : TurnKept r b word at
  pub is : (rest : ℕ → List Turn) → turned_by r by word b rest ≡ run_from by word (turns rest) a at
  pub others : Only at.sets.from at.sets.to a b

pub record Turns (a : Arena) (by : Pass) (word : Text) (at : Stage) : Type 0 where
  pub stage : StageIn a word at
  pub here : at.place < length word

abbrev pub TurnedBy : Arena → Arena → List ℕ → List (List ℕ) → Pass → Text → Stage → Result Turned Excess → Type 0
TurnedBy a b s table by word at r = TurnedAt a b by word at (turn_on (names_of s by) (rules_of s table by word at.place) word at.place) r

-- ---- a pass in two sets

unfoldable pub passed_by : Result Passed Excess → Arena → Ran
passed_by (Ok p) b = ran (entries_at b p.texts.set p.texts.count) p.flag
passed_by (Err e) b = too_long

unfoldable pub PassKept : Result Passed Excess → Arena → ℕ → ℕ → Type 0
PassKept (Ok p) b x y = SetAt b p.texts.set p.texts.count × ((p.texts.set ≡ x) ⊎ (p.texts.set ≡ y))
PassKept (Err e) b x y = e ≡ TooLong

pub record PassedAt (a b : Arena) (x y : ℕ) (o : Ran) (r : Result Passed Excess) : Type 0 where
  pub kept : PassKept r b x y
  pub is : passed_by r b ≡ o
  pub others : Only x y a b

-- a word run from a set
abbrev pub run_of : List ℕ → List (List ℕ) → Pass → Text → List Entry → Ran
run_of s table by word l = run by.appends by.limit (turns_of (names_of s by) (rules_of s table by) word) l

abbrev pub RunTo : Arena → Arena → List ℕ → List (List ℕ) → Pass → Text → Between → Result Passed Excess → Type 0
RunTo a b s table by word sets r = PassedAt a b sets.from sets.to (run_of s table by word (source_of a sets)) r

-- ---- final passes

unfoldable pub FinalKept : Result Finished Excess → Arena → ℕ → Type 0
FinalKept (Ok f) b to = SetAt b to f.texts
FinalKept (Err e) b to = Unit {0}

unfoldable pub finished_by : Result Finished Excess → Arena → ℕ → (List Entry → Spelling) → Spelling
finished_by (Ok f) b to rest = raised f.flag (rest (entries_at b to f.texts))
finished_by (Err e) b to rest = refusal (refused_by e)

-- one text's run, united into the result so far, whatever is done with it
pub record TextFinished (a b : Arena) (old to : ℕ) (s : (List Entry → Spelling) → Spelling) (r : Result Finished Excess) : Type 0 where
  pub kept : FinalKept r b to
  pub is : (rest : List Entry → Spelling) → finished_by r b to rest ≡ s rest
  pub stayed : Stayed a b old

-- the texts of set `to`
unfoldable pub texts_by : Result Finished Excess → Arena → ℕ → Spelling
texts_by (Ok f) b to = texts (entries_at b to f.texts) f.flag
texts_by (Err e) b to = refusal (refused_by e)

pub record FinishedAt (b : Arena) (to : ℕ) (s : Spelling) (r : Result Finished Excess) : Type 0 where
  pub kept : FinalKept r b to
  pub is : texts_by r b to ≡ s

pub record TextRuns (a : Arena) (by : Pass) (sets : FinalSets) (i : ℕ) : Type 0 where
  pub text : TextIn a.slots sets.old i
  pub final : by.appends ≡ true

-- what an entry is run to
abbrev pub text_run : List ℕ → List (List ℕ) → Pass → Entry → Ran
text_run s table by e = run true by.limit (turns_of (names_of s by) (rules_of s table by) e.text) (start e.langs)

abbrev pub TextRan : Arena → Arena → List ℕ → List (List ℕ) → Pass → FinalSets → ℕ → Result Passed Excess → Type 0
TextRan a b s table by sets i r = PassedAt a b sets.x sets.y (text_run s table by (entry_in a sets.old i)) r

pub record TextFinishes (a : Arena) (by : Pass) (sets : FinalSets) (next : NextText) : Type 0 where
  pub text : TextIn a.slots sets.old next.text
  pub set : SetAt a sets.result next.count
  pub final : by.appends ≡ true

-- the definitions of a final pass, by the rules of this one
abbrev pub text_final : List ℕ → List (List ℕ) → Pass → Entry → List Entry → (List Entry → Spelling) → Spelling
text_final s table by = final_text by.limit (names_of s by) (rules_of s table by)

abbrev pub final_rest : List ℕ → List (List ℕ) → Pass → List Entry → List Entry → Spelling
final_rest s table by = final_from by.limit (names_of s by) (rules_of s table by)

abbrev pub final_whole : List ℕ → List (List ℕ) → Pass → List Entry → Spelling
final_whole s table by = final_pass by.limit (names_of s by) (rules_of s table by)

abbrev pub TextFinishedBy : Arena → Arena → List ℕ → List (List ℕ) → Pass → FinalSets → NextText → Result Finished Excess → Type 0
TextFinishedBy a b s table by sets next r =
    TextFinished a b sets.old sets.result
    (text_final s table by (entry_in a sets.old next.text) (entries_at a sets.result next.count)) r

pub record Finishes (a : Arena) (by : Pass) (sets : FinalSets) (count : ℕ) : Type 0 where
  pub old : SetAt a sets.old count
  pub final : by.appends ≡ true

abbrev pub FinishedBy : Arena → Arena → List ℕ → List (List ℕ) → Pass → FinalSets → ℕ → Result Finished Excess → Type 0
FinishedBy a b s table by sets count r =
    FinishedAt b sets.result (final_whole s table by (entries_at a sets.old count)) r

-- ---- the passes of a word

pub record FinishesAll (a : Arena) (by : Plan) (from : Target) : Type 0 where
  pub source : SetAt a from.set from.count
  pub side : from.set < 2
  pub few : by.limit ≤ MOST

-- the final pass of a plan by a list
abbrev pub final_by : List ℕ → List (List ℕ) → Plan → ℕ → List Entry → Spelling
final_by s table by list l = final_pass by.limit (names_in s by.guesses) (matcher s table list) l

abbrev pub FinishedAll : Arena → Arena → List ℕ → List (List ℕ) → Plan → Target → Result Finished Excess → Type 0
FinishedAll a b s table by from r =
    FinishedAt b 0 (then (final_by s table by by.common (entries_at a from.set from.count)) (final_by s table by by.own)) r

-- g is the number of the set
pub record CodeOf (set : LanguageSet) (g : ℕ) : Type 0 where
  pub code : IsCode g
  pub is : set ≡ decoded g

pub record Spells (by : Plan) (g : ℕ) : Type 0 where
  pub few : by.limit ≤ MOST
  pub code : CodeOf by.set g

-- a word by a plan with this limit
abbrev pub word_within : ℕ → List ℕ → List (List ℕ) → Plan → Text → Spelling
word_within limit s table by word =
    word_of limit (names_in s by.guesses) (matcher s table by.main) (matcher s table by.common) (matcher s table by.own) by.set word

abbrev pub SpelledAs : Arena → List ℕ → List (List ℕ) → Plan → Text → Result Finished Excess → Type 0
SpelledAs b s table by word r = FinishedAt b 0 (word_within by.limit s table by word) r

-- ---- the answer

-- set 0 has n texts
pub record TextsIn (store slots : List (List ℕ)) (n : ℕ) : Type 0 where
  pub set : Holds (part 0 store) (part 0 slots) n

unfoldable pub texts_in : List (List ℕ) → List (List ℕ) → ℕ → List Text
texts_in store slots n = slot_texts (part 0 store) (part 0 slots) n

-- the bytes of texts, with a bar behind each
unfoldable pub barred : List Text → ℕ
barred [] = 0
barred (t ∷ ts) = suc (length t) + barred ts

-- a bar and t stand in out from a place on, and r is the place behind them
pub record PutBarred (out out' : List ℕ) (at : ℕ) (t : Text) (r : ℕ) : Type 0 where
  pub buffer : out' ≡ sets out at (bar ∷ t)
  pub place : r ≡ at + 1 + length t

-- set 0 has n texts, one at least, and joined they fit into out from a place on
pub record Joins (store slots : List (List ℕ)) (n : ℕ) (out : List ℕ) (at : ℕ) : Type 0 where
  pub texts : TextsIn store slots n
  pub some : 0 < n
  pub room : at + length (joined (texts_in store slots n)) ≤ length out

-- t in out from a place on, where it fits there
unfoldable pub placed : List ℕ → ℕ → Text → List ℕ
placed out at t = pick (leb (at + length t) (length out)) (sets out at t) out

pub record GivenIs (ts : List Text) (out out' : List ℕ) (at r : ℕ) : Type 0 where
  pub result : r ≡ length (joined ts)
  pub buffer : out' ≡ placed out at (joined ts)

-- the texts of a set
abbrev pub spellings_in : List Entry → List Text
spellings_in l = map (λ (e : Entry). e.text) l

-- what a word's answer says in the paper's numbers: its length and flag, or a refusal's number
pub data WordAnswer : Type 0 where
  done : ℕ → Bool → WordAnswer
  word_refused : ℕ → WordAnswer

unfoldable pub answer_of : Worded → WordAnswer
answer_of (worded.Done length flag) = done length flag
answer_of worded.TooLong = word_refused (number_of TextTooLong)
answer_of worded.TooMany = word_refused (number_of TooManyTexts)

unfoldable pub answered : Spelling → WordAnswer
answered (refusal why) = word_refused (number_of why)
answered (texts l flag) = done (length (joined (spellings_in l))) flag

unfoldable pub placed_as : Spelling → List ℕ → ℕ → List ℕ
placed_as (refusal c) out at = out
placed_as (texts l flag) out at = placed out at (joined (spellings_in l))

-- the word that `word` spells: a limit over 256 counts as 256
abbrev pub word_by : List ℕ → List (List ℕ) → Plan → Text → Spelling
word_by s table by word = word_within (min by.limit MOST) s table by word

-- the promise of `word`: the answer and the content of `out`
pub record WordIs (s : Spelling) (out out' : List ℕ) (at : ℕ) (r : Worded) : Type 0 where
  pub result : answer_of r ≡ answered s
  pub buffer : out' ≡ placed_as s out at
