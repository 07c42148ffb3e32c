-- The table by which the rules of a pack's lists are looked up: a row for each of 98 lists, which has for each of 64 kinds of byte the number of
-- the first rule to try, and behind those the number behind the last one; and of each number its rule's place and its marks, by which it is passed over.
-- What is over 4,096 is no number but a place of the pack, put behind the numbers.
use Rattle.rule_index.specs.declared.matching.Matched.{Matched}
use Rattle.std.specs.Prelude.{ℕ, zero, suc, ◌+◌, ◌-◌, ◌*◌, ◌%◌, ◌≤◌, ◌<◌, max, ◌≡◌, Bool, true, List, [], ◌∷◌, ◌++◌, eqb, ltb, length, get_or, take, drop, Option, Some, None}
use Rattle.base.specs.Pick.{pick, and}
use Rattle.pack.specs.Packs.{Pack, Verdict, accepted, refused, read_rule, pack_of, list_count}
use Rattle.rule_lines.specs.Rules.{Rule}
use Rattle.strings.specs.Reading.{Read, cut, got, place_in}
use Rattle.pack.specs.PlaceContracts.{NUMBERS, surveyed_of, places_of, list_at, SurveyIs}
use Rattle.strings.specs.InnerContracts.{behind}
use Rattle.pack.specs.Numbers.{surveyed_numbers}
use Rattle.pack.specs.declared.sections.Surveyed.{Surveyed}
use Rattle.pack.specs.declared.sections.Surveyed.TheVariants.{Accepted}
use Rattle.pack.specs.InnerContracts.{guessed_at}
use Rattle.texts.specs.Parts.{first_byte, last_byte}
use Rattle.texts.specs.Signatures.{bit_of, has_bits}
use Rattle.regex_optim.specs.InnerContracts.{all_bits, left_bits, right_bits}
use Rattle.rule_index.specs.Rows.{places_row, leads_row, before_row, behind_row, required_row, Roomy, noted_at, put_all}
use Rattle.rule_index.specs.GuessContracts.{guesser, guesser_by}
use Rattle.rule_index.specs.Matching.{Match, none, by, Matcher, first_match}
use Rattle.rule_index.specs.declared.numbers.Front.{Front}
use Rattle.rule_index.specs.declared.numbers.Marks.{Marks}

-- ---- the pack

unfoldable pub pack_by : Verdict → Pack
pack_by (accepted p) = p
pack_by (refused place) = record { names = []; guesses = []; lists = [] }

-- the pack that bytes are; one with no list where they are none
unfoldable pub pack_in : List ℕ → Pack
pack_in s = pack_by (pack_of s)

-- ---- the rules that are tried

-- the rules that stand one after the other from one place to another; each passes a byte, so a fuel of the second place is enough
unfoldable pub rules_between : ℕ → List ℕ → ℕ → ℕ → List Rule
rules_between zero s at stop = []
rules_between (suc f) s at stop = pick (ltb at stop) (behind (read_rule (drop at s)) (λ r q. r ∷ rules_between f s (place_in s q) stop)) []

-- the first two bytes of a text as one number
abbrev pub lead_of : List ℕ → ℕ
lead_of t = get_or t 0 0 + 256 * get_or t 1 0

-- the bytes that may stand behind the first byte of a pattern: by the right context where it has no other
unfoldable pub behind_bits : List ℕ → List ℕ → ℕ
behind_bits pattern right = pick (eqb (length pattern) 1) (right_bits right) all_bits

-- the rule of a number is tried at a place with this byte, this and the next as one number, and bits of the bytes before and behind: its pattern may
-- begin so, with one byte or with two, and its contexts may fit
unfoldable pub tried_by : List (List ℕ) → ℕ → ℕ → ℕ → ℕ → ℕ → Bool
tried_by table e one two before behind =
    and (pick (eqb (noted_at table leads_row e) one) true (eqb (noted_at table leads_row e) two))
    (and (has_bits (noted_at table before_row e) before) (has_bits (noted_at table behind_row e) behind))

abbrev pub tried_at : List (List ℕ) → ℕ → List ℕ → ℕ → Bool
tried_at table e word place =
    tried_by table e (first_byte (drop place word)) (lead_of (drop place word)) (bit_of (last_byte (take place word))) (bit_of (first_byte (drop (place + 1) word)))

unfoldable pub rule_in : Read Rule → List Rule
rule_in cut = []
rule_in (got r q) = r ∷ []

-- the rule of a number, where it is tried at a place of a word
unfoldable pub rule_of : List ℕ → List (List ℕ) → List ℕ → ℕ → ℕ → List Rule
rule_of s table word place e = pick (tried_at table e word place) (rule_in (read_rule (drop (noted_at table places_row e) s))) []

-- those of n numbers from e on
unfoldable pub numbered : List ℕ → List (List ℕ) → List ℕ → ℕ → ℕ → ℕ → List Rule
numbered s table word place e zero = []
numbered s table word place e (suc n) = rule_of s table word place e ++ numbered s table word place (suc e) n

-- the rule that is found by two numbers, or two places, of a row
unfoldable pub found_in : List ℕ → List (List ℕ) → ℕ → ℕ → Matcher
found_in s table start stop word place =
    pick (ltb NUMBERS stop) (first_match (rules_between (stop - NUMBERS) s (start - NUMBERS) (stop - NUMBERS)) word place)
    (first_match (numbered s table word place start (stop - start)) word place)

-- the one that a row has where a byte is met
abbrev pub found_by : List ℕ → List (List ℕ) → List ℕ → Matcher
found_by s table row word place = found_in s table (get_or row (get_or word place 0 % 64) 0) (get_or row (get_or word place 0 % 64 + 64) 0) word place

-- the rule that a table has for a list and a place of a word: none where there is no such list or no such place
unfoldable pub matcher : List ℕ → List (List ℕ) → ℕ → Matcher
matcher s table list word place = pick (and (ltb list 98) (ltb place (length word))) (found_by s table (get_or table list []) word place) none

-- ---- the answer

-- the rule's step and where its expression stands in the pack
pub record RuleIn (s word : List ℕ) (place : ℕ) (r : Rule) (step start end : ℕ) : Type 0 where
  pub passes : step ≡ max 1 (length r.pattern)
  pub within : place + step ≤ length word
  pub order : start ≤ end
  pub fits : end ≤ length s
  pub expression : take (end - start) (drop start s) ≡ r.expression
  pub short : end - start < 256

unfoldable pub MatchIs : List ℕ → List ℕ → ℕ → Match → Option Matched → Type 0
MatchIs s word place none (Some found) = ⊥
MatchIs s word place none None = Unit {0}
MatchIs s word place (by r) (Some found) = RuleIn s word place r found.step found.expression.start found.expression.end
MatchIs s word place (by r) None = ⊥

-- the first that matches of the rules between two places
abbrev pub FirstBetween : List ℕ → ℕ → ℕ → List ℕ → ℕ → Option Matched → Type 0
FirstBetween s start stop word place r = MatchIs s word place (first_match (rules_between stop s start stop) word place) r

-- the rule at a place, where it matches; that of a number; and the first that matches of those from one number to another
abbrev pub OneMatch : List ℕ → ℕ → List ℕ → ℕ → Option Matched → Type 0
OneMatch s at word place r = MatchIs s word place (first_match (rule_in (read_rule (drop at s))) word place) r

abbrev pub NumberMatch : List ℕ → List (List ℕ) → ℕ → List ℕ → ℕ → Option Matched → Type 0
NumberMatch s table e word place r = MatchIs s word place (first_match (rule_of s table word place e) word place) r

-- what a word has at a place
pub record FrontIs (word : List ℕ) (place : ℕ) (front : Front) : Type 0 where
  pub one : front.one ≡ first_byte (drop place word)
  pub two : front.two ≡ lead_of (drop place word)
  pub before : front.before ≡ bit_of (last_byte (take place word))
  pub behind : front.behind ≡ bit_of (first_byte (drop (place + 1) word))

abbrev pub FirstNumbered : List ℕ → List (List ℕ) → ℕ → ℕ → List ℕ → ℕ → Option Matched → Type 0
FirstNumbered s table start stop word place r = MatchIs s word place (first_match (numbered s table word place start (stop - start)) word place) r

-- the first that matches of those that a row has between two numbers or places
abbrev pub FirstFound : List ℕ → List (List ℕ) → ℕ → ℕ → List ℕ → ℕ → Option Matched → Type 0
FirstFound s table start stop word place r = MatchIs s word place (found_in s table start stop word place) r

-- the promise of `first_match`
abbrev pub FirstMatch : List ℕ → List (List ℕ) → ℕ → List ℕ → ℕ → Option Matched → Type 0
FirstMatch s table list word place r = MatchIs s word place (matcher s table list word place) r

-- what is seen of an answer: the step, and the expression that stands at its place
pub data Seen : Type 0 where
  nothing : Seen
  seen : ℕ → List ℕ → Seen

unfoldable pub seen_in : List ℕ → Option Matched → Seen
seen_in s None = nothing
seen_in s (Some found) = seen found.step (take (found.expression.end - found.expression.start) (drop found.expression.start s))

-- ---- a row

-- a row with no rule in it
pub record Blank (row : List ℕ) : Type 0 where
  pub long : length row ≡ 128
  pub clear : (kind : ℕ) → kind < 64 → get_or row (kind + 64) 0 ≡ 0

-- the rows of lists from a number on are blank, and the others as they were
pub record Cleared (from : ℕ) (t u : List (List ℕ)) : Type 0 where
  pub blank : (k : ℕ) → from ≤ k → k < 98 → Blank (get_or u k [])
  pub before : (k : ℕ) → k < from → get_or u k [] ≡ get_or t k []
  pub room : Roomy u

-- the list of an accepted pack that stands at a place
pub record ListPlaced (s : List ℕ) (place : ℕ) : Type 0 where
  pub is : pack_of s ≡ accepted (pack_in s)
  pub list : ℕ
  pub known : list < list_count (length (pack_in s).names)
  pub held : place ≡ get_or (places_of s) list 0

-- by a row of places the rules of a list are found, whatever else the table has
pub record RowPlaces (s row : List ℕ) (rules : List Rule) : Type 0 where
  pub long : length row ≡ 128
  pub found : (table : List (List ℕ)) (word : List ℕ) (place : ℕ) → found_by s table row word place ≡ first_match rules word place

-- ---- the table

-- the marks of a rule
pub record MarksAre (pattern left right : List ℕ) (marks : Marks) : Type 0 where
  pub lead : marks.lead ≡ lead_of pattern
  pub before : marks.before ≡ left_bits left
  pub behind : marks.behind ≡ behind_bits pattern right

-- a rule stored for a number: its place and its marks
abbrev pub numbered_in : List (List ℕ) → ℕ → ℕ → Marks → List (List ℕ)
numbered_in table e place marks = put_all table places_row e (place ∷ marks.lead ∷ marks.before ∷ marks.behind ∷ [])

-- two tables have the same rules for the numbers below n
pub record Agree (n : ℕ) (t u : List (List ℕ)) : Type 0 where
  pub same : (e j : ℕ) → e < n → j < 4 → noted_at u (places_row + 32 * j) e ≡ noted_at t (places_row + 32 * j) e

-- by a row the rules of a list are found, whatever is stored for the numbers from n on
pub record RowFinds (s : List ℕ) (table : List (List ℕ)) (n : ℕ) (row : List ℕ) (rules : List Rule) : Type 0 where
  pub found : (u : List (List ℕ)) → Agree n table u → (word : List ℕ) (place : ℕ) → found_by s u row word place ≡ first_match rules word place

-- a list of an accepted pack at its place, a blank row for it, and the numbers that are free
pub record ListReady (s : List ℕ) (table : List (List ℕ)) (list place free : ℕ) : Type 0 where
  pub placed : ListPlaced s place
  pub row : list < 98
  pub room : Roomy table
  pub blank : Blank (get_or table list [])
  pub few : free ≤ NUMBERS

-- the same, and its row has its rules by places
pub record ListStands (s : List ℕ) (table : List (List ℕ)) (list place free : ℕ) : Type 0 where
  pub placed : ListPlaced s place
  pub row : list < 98
  pub room : Roomy table
  pub noted : RowPlaces s (get_or table list []) (list_at s place)
  pub few : free ≤ NUMBERS

-- the list is found by its row; the other rows of lists, the numbers that were not free and what is noted of guessing rules are as they were
pub record ListIndexed (s : List ℕ) (t u : List (List ℕ)) (list place free free' : ℕ) : Type 0 where
  pub finds : RowFinds s u free' (get_or u list []) (list_at s place)
  pub room : Roomy u
  pub others : (k : ℕ) → k < places_row → (k ≡ list → ⊥) → get_or u k [] ≡ get_or t k []
  pub kept : (k : ℕ) → required_row ≤ k → get_or u k [] ≡ get_or t k []
  pub agree : Agree free t u
  pub more : free ≤ free'
  pub few : free' ≤ NUMBERS

-- the lists of an accepted pack by their places, and a table with their rows and blank ones behind
pub record ListsReady (s places : List ℕ) (lists : ℕ) (table : List (List ℕ)) : Type 0 where
  pub is : pack_of s ≡ accepted (pack_in s)
  pub counted : lists ≡ list_count (length (pack_in s).names)
  pub long : length places ≡ 98
  pub held : (k : ℕ) → k < lists → get_or places k 0 ≡ get_or (places_of s) k 0
  pub room : Roomy table
  pub noted : (k : ℕ) → k < lists → RowPlaces s (get_or table k []) (list_at s (get_or places k 0))
  pub blank : (k : ℕ) → lists ≤ k → k < 98 → Blank (get_or table k [])

-- by a table the rules of a pack's lists are found, and no others
abbrev pub Finds : List ℕ → List (List ℕ) → Type 0
Finds s table = (k : ℕ) → matcher s table k ≡ first_match (get_or (pack_in s).lists k [])

-- the same, and the rows of what is noted of guessing rules are as they were
pub record ListsFound (s : List ℕ) (table table' : List (List ℕ)) : Type 0 where
  pub found : Finds s table'
  pub kept : (k : ℕ) → required_row ≤ k → get_or table' k [] ≡ get_or table k []

-- the promise of `index`: the verdict of a survey, what is found by the table, and what is guessed by it
pub record IndexIs (s : List ℕ) (r : Surveyed) (table : List (List ℕ)) : Type 0 where
  pub result : surveyed_numbers r ≡ surveyed_numbers (surveyed_of (pack_of s))
  pub found : Finds s table
  pub guessed : guesser_by (guesser s table) r ≡ guesser_by (guessed_at s) r

-- what the survey of an accepted pack leaves in a table, whatever it held before
pub record SurveyLeft (s places : List ℕ) (table : List (List ℕ)) (n g : ℕ) : Type 0 where
  pub empty : List ℕ
  pub before : List (List ℕ)
  pub survey : SurveyIs s empty before (Accepted n g) places table
  pub long : length empty ≡ 98

abbrev pub AcceptedIs : List ℕ → List (List ℕ) → ℕ → ℕ → Type 0
AcceptedIs s table n g = IndexIs s (Accepted n g) table
