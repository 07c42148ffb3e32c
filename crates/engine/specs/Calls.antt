-- A call for a key: its settings, its refusals in their order, and its answer (01, What the desk gets; Spelling a name, steps 1 and 2).
use Rattle.std.specs.Prelude.{◌≡◌, ℕ, ◌+◌, ◌*◌, ◌^◌, min, Bool, true, false, List, [], map, eqb, leb, ltb, length, get_or, take, drop, Option, Some, None}
use Rattle.std.proofs.lemmas.List.Edits.{sets}
use Rattle.base.specs.Pick.{pick, and}
use Rattle.letters.specs.Reading.{first_ill, first_outside}
use Rattle.lower_case.specs.Lower.{lower_text}
use Rattle.languages.specs.Sets.{single_of}
use Rattle.languages.specs.Names.{name_place}
use Rattle.languages.specs.declared.sets.LanguageSet.{LanguageSet}
use Rattle.languages.specs.declared.sets.LanguageSet.TheVariants.{Any, NoLanguages, SomeLanguages}
use Rattle.name_parts.specs.Joining.{spaced}
use Rattle.prefixes.specs.declared.prefixes.NameType.{NameType}
use Rattle.prefixes.specs.declared.prefixes.NameType.TheVariants.{Ashkenazi, Generic, Sephardic}
use Rattle.pack.specs.Packs.{Pack, Verdict, accepted, refused, pack_of, any, strings_length}
use Rattle.rule_lines.specs.Rules.{Rule}
use Rattle.pack.specs.Guessing.{guessed}
use Rattle.refusals.specs.Numbers.{number_of}
use Rattle.refusals.specs.declared.Refusal.{Refusal}
use Rattle.refusals.specs.declared.Refusal.TheVariants.{NotUtf8, OutsideRange, NameTooLong, SettingUnknown, PackBroken, NoSuchLanguage, NoRoom}
use Rattle.choices.specs.Texts.{Text}
use Rattle.choices.specs.Apply.{Entry}
use Rattle.phoneme_builder.specs.Sets.{Spelling, refusal, texts}
use Rattle.rule_index.specs.Matching.{first_match}
use Rattle.phoneme_builder.specs.Passes.{word_of, joined}
use Rattle.engine.specs.Spelling.{Spelt, unspelt, spelt_as, Steps, spelled_name}
use Rattle.engine.specs.declared.call.Settings.{Settings}
use Rattle.engine.specs.declared.call.Start.{Start}
use Rattle.engine.specs.declared.call.Start.TheVariants.{Guessed, Given}
use Rattle.engine.specs.declared.spelling.Spelled.{Spelled}
use Rattle.engine.specs.declared.spelling.Spelled.TheVariants.{Done, Refused}

-- ---- settings

-- "a given set's kind 0 Any, 1 None, 2 Some"
unfoldable pub kind_known : Start → Bool
kind_known Guessed = true
kind_known (Given kind bits) = ltb kind 3

-- 4: "limit over 256, or a setting's number unknown": "Ashkenazi 0, Generic 1, Sephardic 2; approx 0, exact 1; concat 0 or 1"
unfoldable pub settings_known : Settings → Start → Bool
settings_known c start = and (ltb c.name_type 3) (and (ltb c.rule_type 2) (and (ltb c.concat 2) (and (leb c.limit 256) (kind_known start))))

-- 6: "a given language bit has no language"; only with kind 2 the bits count
unfoldable pub have_languages : ℕ → Start → Bool
have_languages n Guessed = true
have_languages n (Given kind bits) = pick (eqb kind 2) (ltb bits (2 ^ n)) true

unfoldable pub type_of : ℕ → NameType
type_of n = pick (eqb n 0) Ashkenazi (pick (eqb n 1) Generic Sephardic)

-- ---- a word of a pack

-- "Lists: those of the single language, else `any`."
unfoldable pub language_by : Option ℕ → ℕ → ℕ
language_by (Some l) other = l
language_by None other = other

unfoldable pub language_of : Pack → LanguageSet → ℕ
language_of p g = language_by (single_of g) (name_place any p.names)

-- "lists in order: for each language rules, approx, exact, then common approx, common exact"
unfoldable pub list_numbered : Pack → ℕ → List Rule
list_numbered p k = get_or p.lists k []

unfoldable pub spelt_by : Spelling → Spelt
spelt_by (refusal k) = unspelt k
spelt_by (texts l flag) = spelt_as (joined (map (λ (e : Entry). e.text) l)) flag

-- a word by the lists of a language, of the pack's n; the names' bytes stand in s behind the count
unfoldable pub word_by_lists : List ℕ → Pack → ℕ → ℕ → ℕ → LanguageSet → Text → Spelt
word_by_lists s p rules limit l g w =
    spelt_by (word_of limit (take (strings_length p.names) (drop 1 s)) (first_match (list_numbered p (3 * l)))
    (first_match (list_numbered p (3 * length p.names + rules))) (first_match (list_numbered p (3 * l + 1 + rules))) g w)

-- the steps below a name
unfoldable pub steps_by : List ℕ → Pack → NameType → ℕ → Bool → ℕ → Steps
steps_by s p kind rules concat limit = record {
  guess = λ (t : Text). guessed (length p.names) p.guesses t;
  word = λ (g : LanguageSet) (w : Text). word_by_lists s p rules limit (language_of p g) g w;
  kind = kind;
  concat = concat;
}

unfoldable pub steps_of : List ℕ → Pack → Settings → Steps
steps_of s p c = steps_by s p (type_of c.name_type) c.rule_type (eqb c.concat 1) c.limit

-- ---- a name

-- "Guess on the lower-cased name, hyphens still there"; "A call may give the set instead."
unfoldable pub start_set : Start → LanguageSet → LanguageSet
start_set Guessed guess = guess
start_set (Given kind bits) guess = pick (eqb kind 0) Any (pick (eqb kind 1) NoLanguages (SomeLanguages bits))

-- "Hyphens become spaces."
unfoldable pub spelled_by : Steps → Start → Text → Spelt
spelled_by c start low = spelled_name c (start_set start (c.guess low)) (spaced low)

-- ---- a call

-- what a call comes to, before the room of its buffer is looked at: a refusal and its place, or a text and the flag
pub data CallOutcome : Type 0 where
  refused_by : Refusal → ℕ → CallOutcome
  key : Text → Bool → CallOutcome

unfoldable pub outcome_of : Spelt → CallOutcome
outcome_of (unspelt k) = refused_by k 0
outcome_of (spelt_as t f) = key t f

-- a refusal at the place that was found
unfoldable pub unless : Refusal → Option ℕ → CallOutcome → CallOutcome
unless why (Some place) rest = refused_by why place
unless why None rest = rest

unfoldable pub on_pack : Settings → Start → List ℕ → Text → Verdict → CallOutcome
on_pack c start s name (refused place) = refused_by PackBroken place
on_pack c start s name (accepted p) =
    pick (have_languages (length p.names) start) (outcome_of (spelled_by (steps_of s p c) start (lower_text name))) (refused_by NoSuchLanguage 0)

-- the refusals of a name, 3, 1 and 2, and then the rest
unfoldable pub letters_then : Text → CallOutcome → CallOutcome
letters_then name rest = pick (ltb 96 (length name)) (refused_by NameTooLong 0) (unless NotUtf8 (first_ill name) (unless OutsideRange (first_outside name) rest))

unfoldable pub checked_then : Settings → Start → Text → CallOutcome → CallOutcome
checked_then c start name rest = pick (settings_known c start) (letters_then name rest) (refused_by SettingUnknown 0)

-- "Spelling checks in the order 4, 3, 1, 2, 5, 6; then 7 and 8 as the Rust's order of work meets them"
unfoldable pub call_of : Settings → Start → List ℕ → Text → CallOutcome
call_of c start s name = checked_then c start name (on_pack c start s name (pack_of s))

-- ---- the paper's numbers of an answer: code, place and flag

pub record Numbers : Type 0 where
  pub code : ℕ
  pub place : ℕ
  pub flag : Bool

-- 0: "done", "bytes written"
abbrev pub done_as : ℕ → Bool → Numbers
done_as written flag = record { code = 0; place = written; flag = flag }

-- "A refusal has the flag down"
abbrev pub refused_as : ℕ → ℕ → Numbers
refused_as code place = record { code = code; place = place; flag = false }

-- what a call comes to in a buffer of so many bytes; "9 last", its place "length needed, 4294967295 if more"
unfoldable pub numbers_in : CallOutcome → ℕ → Numbers
numbers_in (refused_by why place) room = refused_as (number_of why) place
numbers_in (key t f) room = pick (leb (length t) room) (done_as (length t) f) (refused_as (number_of NoRoom) (min (length t) 4294967295))

unfoldable pub spelled_numbers : Spelled → Numbers
spelled_numbers (Done written flag) = done_as written flag
spelled_numbers (Refused why place) = refused_as (number_of why) place

-- "A refusal .. writes nothing; a success leaves bytes after the answer unchanged."
unfoldable pub filled_by : CallOutcome → List ℕ → List ℕ
filled_by (refused_by why place) out = out
filled_by (key t f) out = pick (leb (length t) (length out)) (sets out 0 t) out

-- the promise of a call: one result, and one content of the lent buffer
pub record SpellIs (x : CallOutcome) (out : List ℕ) (r : Spelled) (out' : List ℕ) : Type 0 where
  pub result : spelled_numbers r ≡ numbers_in x (length out)
  pub buffer : out' ≡ filled_by x out
