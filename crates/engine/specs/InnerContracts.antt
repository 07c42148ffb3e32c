-- What the functions of a call tell of the pack's bytes and of the lent buffers.
use Rattle.std.specs.Prelude.{◌≡◌, ℕ, ◌+◌, ◌*◌, ◌≤◌, ◌<◌, min, Bool, true, false, List, [], ◌∷◌, ◌++◌, eqb, leb, length, take, Option, Some, None, Result, Ok, Err}
use Rattle.std.proofs.lemmas.List.Edits.{sets}
use Rattle.base.specs.Pick.{pick}
use Rattle.languages.specs.Names.{name_place}
use Rattle.languages.specs.declared.sets.LanguageSet.{LanguageSet}
use Rattle.languages.specs.declared.sets.LanguageSet.TheVariants.{Any}
use Rattle.lower_case.specs.Lower.{lower_text}
use Rattle.name_parts.specs.Words.{words_of}
use Rattle.name_parts.specs.Joining.{spaced, joined_name}
use Rattle.pack.specs.InnerContracts.{guessed_at}
use Rattle.prefixes.specs.declared.prefixes.NameType.{NameType}
use Rattle.writing.specs.InnerContracts.{cap, Put}
use Rattle.prefixes.specs.declared.prefixes.Prefix.{Prefix}
use Rattle.prefixes.specs.declared.prefixes.Prefix.TheVariants as prefix
use Rattle.pack.specs.Packs.{accepted, refused, pack_of, any, strings_length}
use Rattle.refusals.specs.declared.Refusal.{Refusal}
use Rattle.refusals.specs.declared.Refusal.TheVariants.{TextTooLong, TooManyTexts, NoRoom}
use Rattle.choices.specs.Texts.{Text}
use Rattle.rule_index.specs.InnerContracts.{pack_in, Finds}
use Rattle.rule_index.specs.GuessContracts.{guesser}
use Rattle.phoneme_builder.specs.declared.words.Worded.{Worded}
use Rattle.phoneme_builder.specs.declared.words.Worded.TheVariants.{Done, TooLong, TooMany}
use Rattle.engine.specs.Spelling.{Spelt, unspelt, spelt_as, Steps, or, one_part, each_word, spelled_name, afresh_by, parted_as}
use Rattle.engine.specs.Calls.{steps_by, start_set, settings_known, type_of, CallOutcome, refused_by, key, on_pack, call_of}
use Rattle.engine.specs.declared.spelling.Spelled.{Spelled}
use Rattle.engine.specs.declared.spelling.Spelled.TheVariants as spelled
use Rattle.engine.specs.declared.call.Settings.{Settings}
use Rattle.engine.specs.declared.call.Start.{Start}
use Rattle.engine.specs.declared.call.Start.TheVariants.{Guessed, Given}
use Rattle.engine.specs.declared.call.PackNumbers.{PackNumbers}
use Rattle.engine.specs.declared.call.Request.{Request}
use Rattle.engine.specs.declared.call.Call.{Call}
use Rattle.engine.specs.declared.encode.AnswerEnd.{AnswerEnd}
use Rattle.engine.specs.declared.encode.Lists.{Lists}
use Rattle.engine.specs.declared.encode.Joined.{Joined}
use Rattle.engine.specs.declared.spelling.NameRefused.{NameRefused}
use Rattle.languages.specs.InnerContracts.{BitsBelow}

-- the answer that has these numbers
unfoldable pub spelled_in : CallOutcome → ℕ → Spelled
spelled_in (refused_by why place) room = spelled.Refused why place
spelled_in (key t f) room = pick (leb (length t) room) (spelled.Done (length t) f) (spelled.Refused NoRoom (min (length t) 4294967295))

-- ---- the pack

-- the numbers of an accepted pack, and a table by which its rules are found and languages are guessed
pub record UsablePack (s : List ℕ) (table : List (List ℕ)) (languages guesses other : ℕ) : Type 0 where
  pub is : pack_of s ≡ accepted (pack_in s)
  pub languages_are : languages ≡ length (pack_in s).names
  pub guesses_are : guesses ≡ 1 + strings_length (pack_in s).names
  pub any_is : other ≡ name_place any (pack_in s).names
  pub any_below : other < languages
  pub finds : Finds s table
  pub guesses_by : guesser s table guesses languages ≡ guessed_at s guesses languages

unfoldable pub OpenedIs : List ℕ → List (List ℕ) → Result PackNumbers ℕ → Type 0
OpenedIs s table (Ok n) = UsablePack s table n.languages n.guesses n.any
OpenedIs s table (Err place) = pack_of s ≡ refused place

-- ---- a call on it

pub record CallReady (s : List ℕ) (table : List (List ℕ)) (call : Call) : Type 0 where
  pub pack : UsablePack s table call.languages call.guesses call.any
  pub few : call.limit ≤ 256
  pub known : call.rules < 2
  pub below : BitsBelow call.languages call.set

unfoldable pub is_guessed : Start → Bool
is_guessed Guessed = true
is_guessed (Given kind bits) = false

unfoldable pub call_for : Settings → Start → PackNumbers → Call
call_for c start n = record {
  kind = type_of c.name_type;
  rules = c.rule_type;
  concat = eqb c.concat 1;
  limit = c.limit;
  languages = n.languages;
  guesses = n.guesses;
  any = n.any;
  fresh = is_guessed start;
  set = start_set start Any;
}

-- the same call for names that are spelled afresh, or with a set
unfoldable pub with_start : Call → Bool → LanguageSet → Call
with_start c fresh set = record {
  kind = c.kind;
  rules = c.rules;
  concat = c.concat;
  limit = c.limit;
  languages = c.languages;
  guesses = c.guesses;
  any = c.any;
  fresh = fresh;
  set = set;
}

-- the same call with the set that a name starts with, which is guessed on it
unfoldable pub started_by : Call → LanguageSet → Call
started_by c guess = with_start c false (pick c.fresh guess c.set)

unfoldable pub steps_at : List ℕ → Call → Steps
steps_at s c = steps_by s (pack_in s) c.kind c.rules c.concat c.limit

-- the set that a name starts with
unfoldable pub start_at : List ℕ → Call → Text → LanguageSet
start_at s c t = pick c.fresh ((steps_at s c).guess t) c.set

-- ---- what a call spells

-- a word with the call's set
unfoldable pub spelt_word : List ℕ → Call → Text → Spelt
spelt_word s c w = (steps_at s c).word c.set w

-- a name as one word, a name by its parts, a name afresh, and each word of it afresh
unfoldable pub spelt_part : List ℕ → Call → Text → Spelt
spelt_part s c t = one_part (steps_at s c) (start_at s c t) t

unfoldable pub spelt_name : List ℕ → Call → Text → Spelt
spelt_name s c t = spelled_name (steps_at s c) (start_at s c t) t

unfoldable pub spelt_afresh : List ℕ → Call → Text → Spelt
spelt_afresh s c = afresh_by (steps_at s c)

unfoldable pub spelt_words : List ℕ → Call → Text → Spelt
spelt_words s c t = each_word (spelt_afresh s c) (words_of t)

-- a name that is not lower-cased yet
unfoldable pub spelt_fine : List ℕ → Call → Text → Spelt
spelt_fine s c t = spelled_name (steps_at s c) (start_at s c (lower_text t)) (spaced (lower_text t))

-- what is spelled afresh, between brackets
unfoldable pub bracketed : Spelt → Spelt
bracketed (unspelt why) = unspelt why
bracketed (spelt_as t f) = spelt_as ((40 ∷ []) ++ (t ++ (41 ∷ []))) f

-- a name's prefix joined to its remainder, at the front of a buffer
pub record JoinedAt (kind : NameType) (name : Text) (u : List ℕ) (rest n : ℕ) : Type 0 where
  pub size : ℕ
  pub parted : parted_as kind name ≡ prefix.Leads size rest
  pub inside : n ≤ length u
  pub text : take n u ≡ joined_name size rest name

unfoldable pub JoinedIs : NameType → Text → List ℕ → Option Joined → Type 0
JoinedIs kind name u (Some j) = JoinedAt kind name u j.rest j.length
JoinedIs kind name u None = parted_as kind name ≡ prefix.Whole

-- a lower-cased name at the front of a buffer, its hyphens made spaces, and the call with its set
pub record LoweredIs (s : List ℕ) (call : Call) (name : Text) (low : List ℕ) (by : Call) : Type 0 where
  pub inside : length name ≤ length low
  pub text : take (length name) low ≡ spaced (lower_text name)
  pub started : by ≡ started_by call (guessed_at s call.guesses call.languages (lower_text name))

-- what spelling a name by its parts asks
pub record Asks (s : List ℕ) (table : List (List ℕ)) (call : Call) (name : Text) (at : ℕ) : Type 0 where
  pub ready : CallReady s table call
  pub short : length name ≤ 96
  pub place : at ≤ cap

-- the numbers of a language's lists
unfoldable pub list_numbers : Call → ℕ → Lists
list_numbers c l = record { main = 3 * l; common = 3 * c.languages + c.rules; own = 3 * l + 1 + c.rules }

-- ---- an answer in a buffer

-- t stands in out from a place on if it fits there; next is the place behind it, at most cap
pub record Wrote (t : Text) (o o' : List ℕ) (at next : ℕ) : Type 0 where
  pub ends : next ≡ min (at + length t) cap
  pub wrote : at + length t ≤ length o → o' ≡ sets o at t
  pub same : length o' ≡ length o
  pub room : length o < cap

-- where x ends, and its flag; or its refusal
unfoldable pub end_of : Spelt → ℕ → Result AnswerEnd Refusal
end_of (unspelt why) at = Err why
end_of (spelt_as t f) at = Ok (record { at = min (at + length t) cap; flag = f })

unfoldable pub WroteIs : Spelt → List ℕ → List ℕ → ℕ → Type 0
WroteIs (unspelt why) o o' at = Unit {0}
WroteIs (spelt_as t f) o o' at = Wrote t o o' at (min (at + length t) cap)

pub record SpeltInto (x : Spelt) (o o' : List ℕ) (at : ℕ) (r : Result AnswerEnd Refusal) : Type 0 where
  pub told : r ≡ end_of x at
  pub is : WroteIs x o o' at

-- the same, and what does not fit as a whole is not written at all
unfoldable pub whole_by : Spelt → List ℕ → ℕ → List ℕ
whole_by (unspelt why) o at = o
whole_by (spelt_as t f) o at = pick (leb (at + length t) (length o)) (sets o at t) o

pub record SpeltWhole (x : Spelt) (o o' : List ℕ) (at : ℕ) (r : Result AnswerEnd Refusal) : Type 0 where
  pub told : SpeltInto x o o' at r
  pub whole : o' ≡ whole_by x o at

-- what a word's answer comes to: its end, or its refusal
unfoldable pub ended_at : Worded → ℕ → Result AnswerEnd Refusal
ended_at (Done length flag) at = Ok (record { at = min (at + length) cap; flag = flag })
ended_at TooLong at = Err TextTooLong
ended_at TooMany at = Err TooManyTexts

-- two answers as one that ends at a place
abbrev pub both_of : AnswerEnd → AnswerEnd → ℕ → AnswerEnd
both_of first second at = record { at = at; flag = or first.flag second.flag }

-- where a remainder is refused: the joined name's refusal goes before
unfoldable pub chosen_refusal : Result AnswerEnd Refusal → Refusal → Refusal
chosen_refusal (Err why) remainder = why
chosen_refusal (Ok a) remainder = remainder

-- a hyphen where the name is read already
pub record HyphenAt (o o' : List ℕ) (at p next : ℕ) : Type 0 where
  pub first : p ≡ 0 → (next ≡ at) × (o' ≡ o)
  pub later : (p ≡ 0 → ⊥) → Put o o' at next (45 ∷ [])

-- ---- one name

-- what a name of a request comes to, and where the name and the settings are fine
abbrev pub outcome_for : Request → List ℕ → Text → CallOutcome
outcome_for q s = call_of q.settings q.start s

abbrev pub outcome_on : List ℕ → Request → Text → CallOutcome
outcome_on s q name = on_pack q.settings q.start s name (pack_of s)

pub record FineFor (s : List ℕ) (table : List (List ℕ)) (request : Request) (name : Text) : Type 0 where
  pub opened : OpenedIs s table request.opened
  pub known : settings_known request.settings request.start ≡ true
  pub short : length name ≤ 96

unfoldable pub found_by : Result (Unit {0}) NameRefused → CallOutcome → CallOutcome
found_by (Ok u) rest = rest
found_by (Err e) rest = refused_by e.why e.place

-- what is found of a name before the pack is looked at
pub record FoundIs (f : CallOutcome → CallOutcome) (r : Result (Unit {0}) NameRefused) : Type 0 where
  pub is : (rest : CallOutcome) → found_by r rest ≡ f rest

-- an answer held apart, written where it fits; or not, as it is a refusal or has no room
pub data CopiedOut (r : Result AnswerEnd Refusal) (apart o o' : List ℕ) : Type 0 where
  none : (why : Refusal) → r ≡ Err why → o' ≡ o → CopiedOut r apart o o'
  over : (a : AnswerEnd) → r ≡ Ok a → length o < a.at → o' ≡ o → CopiedOut r apart o o'
  copied : (a : AnswerEnd) → r ≡ Ok a → length o < cap → a.at ≤ length o → a.at ≤ length apart → o' ≡ sets o 0 (take a.at apart) → CopiedOut r apart o o'

-- the same; or that it fits, but is too long to be held apart
pub record FitsOut (r : Result AnswerEnd Refusal) (o o' : List ℕ) : Type 0 where
  pub end : AnswerEnd
  pub is : r ≡ Ok end
  pub fits : end.at ≤ length o
  pub same : o' ≡ o

unfoldable pub CopyOutIs : Result AnswerEnd Refusal → List ℕ → List ℕ → List ℕ → Bool → Type 0
CopyOutIs r apart o o' true = CopiedOut r apart o o'
CopyOutIs r apart o o' false = FitsOut r o o'

-- an answer of so many bytes, or that they have no room
unfoldable pub answered_by : Result AnswerEnd Refusal → ℕ → Spelled
answered_by (Ok a) room = pick (leb a.at room) (spelled.Done a.at a.flag) (spelled.Refused NoRoom (min a.at 4294967295))
answered_by (Err why) room = spelled.Refused why 0

-- a name with no prefix, of which a test holds
unfoldable pub whole_and : Prefix → Bool → Bool
whole_and (prefix.Leads size rest) t = false
whole_and prefix.Whole t = t
