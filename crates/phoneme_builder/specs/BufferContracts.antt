-- The list of texts that lent buffers hold: rows of 128 bytes, and in the order of the texts a slot for each: its languages, its row and its length.
-- A text that may enter is first written into the row behind the others. Of each function the record of what it asks and what it gives.
use Rattle.std.specs.Prelude.{ℕ, zero, suc, ◌+◌, ◌-◌, ◌*◌, ◌/◌, ◌%◌, ◌≤◌, ◌<◌, ◌≡◌, false, List, [], ◌∷◌, ◌++◌, map, eqb, length, take, drop, get_or, Result, Ok, Err, Option, Some, None}
use Rattle.std.specs.Float.Ieee.{size}
use Rattle.std.proofs.lemmas.List.Edits.{sets}
use Rattle.base.specs.Pick.{pick}
use Rattle.letters.specs.Order.{order_of}
use Rattle.languages.specs.InnerContracts.{decoded, codes_merged, IsCode}
use Rattle.languages.specs.Sets.{narrowed, is_empty}
use Rattle.languages.specs.declared.sets.LanguageSet.{LanguageSet}
use Rattle.choices.specs.Texts.{Text, by_order}
use Rattle.choices.specs.Apply.{Alternative, Entry, NextSet, overlong, next_set, insert, under, enter, apply, start}
use Rattle.choices.specs.Choices.{Increasing}
use Rattle.refusals.specs.declared.Refusal.{Refusal}
use Rattle.refusals.specs.declared.Refusal.TheVariants.{TextTooLong, TooManyTexts}
use Rattle.phoneme_builder.specs.Sets.{lengthened, appended, Spelling, refusal, united}
use Rattle.phoneme_builder.specs.declared.set.Excess.{Excess}
use Rattle.phoneme_builder.specs.declared.set.Excess.TheVariants.{TooLong, TooMany}
use Rattle.phoneme_builder.specs.declared.set.Target.{Target}
use Rattle.phoneme_builder.specs.declared.set.Between.{Between}
use Rattle.phoneme_builder.specs.declared.expressions.Candidate.{Candidate}

-- the bytes of a row, which no text exceeds, and the texts that a set may have
abbrev pub ROW : ℕ
ROW = 128

abbrev pub MOST : ℕ
MOST = 256

-- the bytes of a set's rows, and the sets
abbrev pub STORE : ℕ
STORE = 32768

abbrev pub SETS : ℕ
SETS = 4

-- ---- lists

unfoldable pub further : Result ℕ ℕ → Result ℕ ℕ
further (Ok k) = Ok (suc k)
further (Err k) = Err (suc k)

-- where t stands in a list in order, or where it would go
unfoldable pub find_l : Text → List Text → Result ℕ ℕ
find_l t [] = Err 0
find_l t (x ∷ xs) = by_order (order_of x t) (further (find_l t xs)) (Ok 0) (Err 0)

-- how many of some texts a look asks at most, where the last one is asked first and then the middle one of those that are left
unfoldable pub asks_last_first : ℕ → ℕ
asks_last_first zero = 0
asks_last_first (suc n) = 1 + size n

-- of those from index low on and before high; none of the n texts is known to stand behind as long as high is n
unfoldable pub asks_left : ℕ → ℕ → ℕ → ℕ
asks_left low high n = pick (eqb high n) (asks_last_first (high - low)) (size (high - low))

-- one of them is asked, and in either part of what is left fewer are asked than before
pub record AsksNext (low high n asked : ℕ) : Type 0 where
  pub from : low ≤ asked
  pub to : asked < high
  pub fewer_behind : asks_left (asked + 1) high n < asks_left low high n
  pub fewer_before : asks_left low asked n < asks_left low high n

-- x at index p
abbrev pub ins_at : {A : Type 0} → ℕ → A → List A → List A
ins_at p x l = take p l ++ x ∷ drop p l

abbrev pub entry : Text → LanguageSet → Entry
entry t g = record { text = t; langs = g }

abbrev pub alternative : Text → LanguageSet → Alternative
alternative t g = record { text = t; langs = g }

-- d with its elements from index p on replaced by those of t
unfoldable pub put : List ℕ → ℕ → List ℕ → List ℕ
put d p t = sets d p t

-- ---- three numbers in one: languages, and row and length of a text or start and end of an alternative

abbrev pub slot_of : ℕ → ℕ → ℕ → ℕ
slot_of g first second = g * 65536 + first * 256 + second

abbrev pub langs_of : ℕ → ℕ
langs_of x = x / 65536

-- the row of a text, or where an alternative starts
abbrev pub first_of : ℕ → ℕ
first_of x = x / 256 % 256

-- the length of a text, or where an alternative ends
abbrev pub second_of : ℕ → ℕ
second_of x = x % 256

pub record Packs (g first second : ℕ) : Type 0 where
  pub small : g < 17179869184
  pub first_in : first < 256
  pub second_in : second < 256

pub record Merges (x g : ℕ) : Type 0 where
  pub own : IsCode (langs_of x)
  pub other : IsCode g

abbrev pub slot_merged : ℕ → ℕ → ℕ
slot_merged x g = slot_of (codes_merged (langs_of x) g) (first_of x) (second_of x)

-- ---- one set

-- the text and the entry that a slot names
unfoldable pub slot_text : List ℕ → ℕ → Text
slot_text store x = take (second_of x) (drop (first_of x * ROW) store)

unfoldable pub entry_of : List ℕ → ℕ → Entry
entry_of store x = record { text = slot_text store x; langs = decoded (langs_of x) }

-- the texts and the entries of the first n slots
abbrev pub slot_texts : List ℕ → List ℕ → ℕ → List Text
slot_texts store slots n = map (slot_text store) (take n slots)

abbrev pub slot_entries : List ℕ → List ℕ → ℕ → List Entry
slot_entries store slots n = map (entry_of store) (take n slots)

-- x is the slot of a text in one of the first n rows
pub record SlotIn (n x : ℕ) : Type 0 where
  pub row : first_of x < n
  pub short : second_of x ≤ ROW
  pub code : IsCode (langs_of x)

unfoldable pub SlotsIn : ℕ → List ℕ → Type 0
SlotsIn n [] = Unit {0}
SlotsIn n (x ∷ xs) = SlotIn n x × SlotsIn n xs

-- the buffers hold a set of n texts, in order
pub record IsSet (store slots : List ℕ) (n : ℕ) : Type 0 where
  pub few : n ≤ MOST
  pub long_store : length store ≡ STORE
  pub long_slots : length slots ≡ MOST
  pub each : SlotsIn n (take n slots)
  pub increasing : Increasing (slot_texts store slots n)

-- the same of one of four sets, whose lengths its type says
pub record Holds (store slots : List ℕ) (n : ℕ) : Type 0 where
  pub few : n ≤ MOST
  pub full : length (take n slots) ≡ n
  pub each : SlotsIn n (take n slots)
  pub increasing : Increasing (slot_texts store slots n)

-- they hold the list l
pub record SetIs (store slots : List ℕ) (n : ℕ) (l : List Entry) : Type 0 where
  pub set : IsSet store slots n
  pub is : slot_entries store slots n ≡ l

-- what a slot for row n asks
pub record InsertsText (slots : List ℕ) (p n g long : ℕ) : Type 0 where
  pub index : p ≤ n
  pub within : n < length slots
  pub row : n < MOST
  pub fits : long ≤ ROW
  pub code : IsCode g

-- what entering a text of so many bytes asks, and the entries then
pub record Enters (store slots : List ℕ) (n long g : ℕ) : Type 0 where
  pub set : IsSet store slots n
  pub room : n < MOST
  pub fits : long ≤ ROW
  pub code : IsCode g

abbrev pub added : List ℕ → List ℕ → ℕ → Text → ℕ → List Entry
added store slots n t g = insert (entry t (decoded g)) (slot_entries store slots n)

-- ---- four sets side by side, by number

abbrev pub part : ℕ → List (List ℕ) → List ℕ
part k l = get_or l k []

pub record Arena : Type 0 where
  pub store : List (List ℕ)
  pub slots : List (List ℕ)

abbrev pub arena : List (List ℕ) → List (List ℕ) → Arena
arena store slots = record { store = store; slots = slots }

unfoldable pub entries_at : Arena → ℕ → ℕ → List Entry
entries_at a k n = slot_entries (part k a.store) (part k a.slots) n

-- set k has n texts
pub record SetAt (a : Arena) (k n : ℕ) : Type 0 where
  pub known : k < SETS
  pub set : Holds (part k a.store) (part k a.slots) n

-- its i-th entry
unfoldable pub entry_in : Arena → ℕ → ℕ → Entry
entry_in a k i = entry_of (part k a.store) (get_or (part k a.slots) i 0)

-- set k stayed as it was
pub record Stayed (a b : Arena) (k : ℕ) : Type 0 where
  pub store : part k b.store ≡ part k a.store
  pub slots : part k b.slots ≡ part k a.slots

-- no set but x and y changed
unfoldable pub Only : ℕ → ℕ → Arena → Arena → Type 0
Only x y a b = (k : ℕ) → k < SETS → (k ≡ x → ⊥) → (k ≡ y → ⊥) → Stayed a b k

-- set k has the r entries l, and no other set changed
pub record GrownAt (a b : Arena) (k r : ℕ) (l : List Entry) : Type 0 where
  pub set : SetAt b k r
  pub is : entries_at b k r ≡ l
  pub others : Only k k a b

pub record AddsTo (a : Arena) (to : Target) (long g : ℕ) : Type 0 where
  pub set : SetAt a to.set to.count
  pub room : to.count < MOST
  pub fits : long ≤ ROW
  pub code : IsCode g

abbrev pub AddedTo : Arena → Arena → Target → Text → ℕ → ℕ → Type 0
AddedTo a b to t g r = GrownAt a b to.set r (insert (entry t (decoded g)) (entries_at a to.set to.count))

pub record Begins (k g : ℕ) : Type 0 where
  pub known : k < SETS
  pub code : IsCode g

abbrev pub BegunAs : Arena → Arena → ℕ → ℕ → ℕ → Type 0
BegunAs a b k g r = GrownAt a b k r (start (decoded g))

-- ---- a text read

-- text i of set k lies within the buffers
pub record TextIn (slots : List (List ℕ)) (k i : ℕ) : Type 0 where
  pub known : k < SETS
  pub index : i < MOST
  pub slot : SlotIn MOST (get_or (part k slots) i 0)

abbrev pub text_in : List (List ℕ) → List (List ℕ) → ℕ → ℕ → Text
text_in store slots k i = slot_text (part k store) (get_or (part k slots) i 0)

-- its languages
abbrev pub langs_in : List (List ℕ) → ℕ → ℕ → ℕ
langs_in slots k i = langs_of (get_or (part k slots) i 0)

-- the first r bytes of d are the text t
pub record CopiedIs (t : Text) (d : List ℕ) (r : ℕ) : Type 0 where
  pub short : r ≤ ROW
  pub within : r ≤ length d
  pub text : take r d ≡ t

-- ---- apply

-- the alternative of an expression that a number stands for, that of number j of its table, and k of them from j on
unfoldable pub alt_of : List ℕ → ℕ → Alternative
alt_of expr x = record { text = take (second_of x - first_of x) (drop (first_of x) expr); langs = decoded (langs_of x) }

abbrev pub candidate_at : List Candidate → ℕ → Candidate
candidate_at alts j = get_or alts j (record { number = 0; before = 0 })

abbrev pub alt_at : List ℕ → List Candidate → ℕ → Alternative
alt_at expr alts j = alt_of expr (candidate_at alts j).number

unfoldable pub alts_from : List ℕ → List Candidate → ℕ → ℕ → List Alternative
alts_from expr alts j zero = []
alts_from expr alts j (suc k) = alt_at expr alts j ∷ alts_from expr alts (suc j) k

abbrev pub alternatives : List ℕ → List Candidate → ℕ → List Alternative
alternatives expr alts m = alts_from expr alts 0 m

-- a number that is an alternative of the expression
pub record AltIn (expr : List ℕ) (x : ℕ) : Type 0 where
  pub start_in : first_of x ≤ second_of x
  pub end_in_lem : second_of x ≤ length expr
  pub code : IsCode (langs_of x)

-- an alternative before number j has the text t, and its languages leave something of g
pub record Earlier (expr : List ℕ) (alts : List Candidate) (j : ℕ) (t : Text) (g : LanguageSet) : Type 0 where
  pub number : ℕ
  pub before : number < j
  pub text : (alt_at expr alts number).text ≡ t
  pub some : is_empty (narrowed g (alt_at expr alts number).langs) ≡ false

-- where the languages with the number p leave something of a set, those of one before number j with the text t do
pub record Before (expr : List ℕ) (alts : List Candidate) (j : ℕ) (t : Text) (p : ℕ) : Type 0 where
  pub code : IsCode p
  pub some : (g : LanguageSet) → is_empty (narrowed g (decoded p)) ≡ false → Earlier expr alts j t g

-- the first m are alternatives, each a part of the expression, and with each stand the languages of those before it with the same text
pub record AltsIn (expr : List ℕ) (alts : List Candidate) (m : ℕ) : Type 0 where
  pub within : m ≤ length alts
  pub each : (j : ℕ) → j < m → AltIn expr (candidate_at alts j).number
  pub before : (j : ℕ) → j < m → Before expr alts j (alt_at expr alts j).text (candidate_at alts j).before

-- the refusal of what a set can't take (01, the table)
unfoldable pub refused_by : Excess → Refusal
refused_by TooLong = TextTooLong
refused_by TooMany = TooManyTexts

-- what an answer says of set `to`: it is one, or a text was too long (01, the table, 7)
unfoldable pub KeptBy : Result ℕ Excess → Arena → ℕ → Type 0
KeptBy (Ok k) b to = SetAt b to k
KeptBy (Err e) b to = e ≡ TooLong

unfoldable pub outcome_by : Result ℕ Excess → Arena → ℕ → (List Entry → NextSet) → NextSet
outcome_by (Ok k) b to rest = rest (entries_at b to k)
outcome_by (Err e) b to rest = overlong

-- the answer is the outcome o, and no set but `to` changed
pub record AppliedAt (a b : Arena) (to : ℕ) (r : Result ℕ Excess) (o : NextSet) : Type 0 where
  pub kept : KeptBy r b to
  pub is : outcome_by r b to next_set ≡ o
  pub others : Only to to a b

-- the candidates cs entered into l, whatever comes behind them
pub record OfferedAt (limit : ℕ) (cs l : List Entry) (a b : Arena) (to : ℕ) (r : Result ℕ Excess) : Type 0 where
  pub kept : KeptBy r b to
  pub is : (rest : List Entry) → outcome_by r b to (enter limit rest) ≡ enter limit (cs ++ rest) l
  pub others : Only to to a b

pub record Offers (a : Arena) (to : Target) (g h limit : ℕ) : Type 0 where
  pub set : SetAt a to.set to.count
  pub room : to.count < limit
  pub few : limit ≤ MOST
  pub code : IsCode g
  pub other : IsCode h

-- the languages with which an alternative is offered: none where those before it with the same text leave something, else its own
unfoldable pub withheld : Option ℕ → ℕ → ℕ
withheld (Some x) own = 0
withheld None own = own

-- the alternatives entered under the entry e
abbrev pub OfferedUnder : Entry → List Alternative → ℕ → Arena → Arena → Target → Result ℕ Excess → Type 0
OfferedUnder e alts limit a b to r = OfferedAt limit (under e alts) (entries_at a to.set to.count) a b to.set r

abbrev pub OfferedTo : Arena → Arena → Target → Text → ℕ → Text → ℕ → ℕ → Result ℕ Excess → Type 0
OfferedTo a b to t g u h limit r = OfferedUnder (entry t (decoded g)) (alternative u (decoded h) ∷ []) limit a b to r

pub record RowOffers (a : Arena) (to : Target) (g : ℕ) (expr : List ℕ) (alts : List Candidate) (limit : ℕ) : Type 0 where
  pub set : SetAt a to.set to.count
  pub parts : AltsIn expr alts (length alts)
  pub few : limit ≤ MOST
  pub code : IsCode g

abbrev pub RowOffered : Arena → Arena → Target → Text → ℕ → List ℕ → List Candidate → ℕ → Result ℕ Excess → Type 0
RowOffered a b to t g expr alts limit r = OfferedUnder (entry t (decoded g)) (alternatives expr alts (length alts)) limit a b to r

pub record TextOffers (a : Arena) (from i : ℕ) (to : Target) (expr : List ℕ) (alts : List Candidate) (limit : ℕ) : Type 0 where
  pub text : TextIn a.slots from i
  pub set : SetAt a to.set to.count
  pub parts : AltsIn expr alts (length alts)
  pub few : limit ≤ MOST

abbrev pub TextOffered : Arena → Arena → ℕ → ℕ → Target → List ℕ → List Candidate → ℕ → Result ℕ Excess → Type 0
TextOffered a b from i to expr alts limit r = OfferedUnder (entry_in a from i) (alternatives expr alts (length alts)) limit a b to r

-- the set to read has its texts, and the set to write is another
pub record BetweenIn (a : Arena) (sets : Between) : Type 0 where
  pub source : SetAt a sets.from sets.count
  pub known : sets.to < SETS
  pub apart : sets.from ≡ sets.to → ⊥

-- its entries
abbrev pub source_of : Arena → Between → List Entry
source_of a sets = entries_at a sets.from sets.count

pub record Applies (a : Arena) (sets : Between) (expr : List ℕ) (alts : List Candidate) (limit : ℕ) : Type 0 where
  pub sides : BetweenIn a sets
  pub parts : AltsIn expr alts (length alts)
  pub few : limit ≤ MOST

abbrev pub AppliedTo : Arena → Arena → Between → List ℕ → List Candidate → ℕ → Result ℕ Excess → Type 0
AppliedTo a b sets expr alts limit r = AppliedAt a b sets.to r (apply limit (alternatives expr alts (length alts)) (source_of a sets))

-- ---- append

-- the entry e inserted into l, where it is short
unfoldable pub InsertedBy : Result ℕ Excess → Arena → ℕ → Entry → List Entry → Type 0
InsertedBy (Ok k) b to e l = SetAt b to k × (entries_at b to k ≡ insert e l) × (length e.text ≤ ROW)
InsertedBy (Err x) b to e l = (x ≡ TooLong) × (ROW < length e.text)

pub record LengthenedAt (a b : Arena) (to : ℕ) (e : Entry) (l : List Entry) (r : Result ℕ Excess) : Type 0 where
  pub is : InsertedBy r b to e l
  pub others : Only to to a b

pub record Lengthens (a : Arena) (from i : ℕ) (to : Target) : Type 0 where
  pub text : TextIn a.slots from i
  pub set : SetAt a to.set to.count
  pub room : to.count < MOST

abbrev pub LengthenedTo : Arena → Arena → ℕ → ℕ → Target → Text → Result ℕ Excess → Type 0
LengthenedTo a b from i to c r = LengthenedAt a b to.set (lengthened c (entry_in a from i)) (entries_at a to.set to.count) r

abbrev pub AppendedTo : Arena → Arena → Between → Text → Result ℕ Excess → Type 0
AppendedTo a b sets c r = AppliedAt a b sets.to r (appended c (source_of a sets))

-- ---- unite

unfoldable pub HeldBy : Result ℕ Excess → List ℕ → List ℕ → Type 0
HeldBy (Ok k) store slots = IsSet store slots k
HeldBy (Err e) store slots = Unit {0}

unfoldable pub spelling_by : Result ℕ Excess → List ℕ → List ℕ → (List Entry → Spelling) → Spelling
spelling_by (Ok k) store slots rest = rest (slot_entries store slots k)
spelling_by (Err e) store slots rest = refusal (refused_by e)

-- the texts xs united into l for the set g, whatever is done with the result
pub record UnitedIs (g : LanguageSet) (xs l : List Entry) (r : Result ℕ Excess) (store slots : List ℕ) : Type 0 where
  pub kept : HeldBy r store slots
  pub is : (rest : List Entry → Spelling) → spelling_by r store slots rest ≡ united g xs l rest

pub record InsertsRow (store slots : List ℕ) (p n : ℕ) (t : Text) (g : ℕ) : Type 0 where
  pub long_store : length store ≡ STORE
  pub long_slots : length slots ≡ MOST
  pub index : p ≤ n
  pub row : n < MOST
  pub fits : length t ≤ ROW
  pub code : IsCode g

pub record RowInserted (store slots : List ℕ) (p n : ℕ) (t : Text) (g : ℕ) (store' slots' : List ℕ) : Type 0 where
  pub wrote : store' ≡ put store (n * ROW) t
  pub same : length slots' ≡ length slots
  pub opened : take (n + 1) slots' ≡ ins_at p (slot_of g n (length t)) (take n slots)

pub record Unites (store slots : List ℕ) (n : ℕ) (t : Text) (h g : ℕ) : Type 0 where
  pub set : IsSet store slots n
  pub fits : length t ≤ ROW
  pub code : IsCode h
  pub worked : IsCode g

abbrev pub UnitedRow : List ℕ → List ℕ → ℕ → Text → ℕ → ℕ → Result ℕ Excess → List ℕ → List ℕ → Type 0
UnitedRow store slots n t h g r store' slots' = UnitedIs (decoded g) (entry t (decoded h) ∷ []) (slot_entries store slots n) r store' slots'

-- the same in set `to`
unfoldable pub HeldAt : Result ℕ Excess → Arena → ℕ → Type 0
HeldAt (Ok k) b to = SetAt b to k
HeldAt (Err e) b to = Unit {0}

unfoldable pub spelling_at : Result ℕ Excess → Arena → ℕ → (List Entry → Spelling) → Spelling
spelling_at (Ok k) b to rest = rest (entries_at b to k)
spelling_at (Err e) b to rest = refusal (refused_by e)

pub record UnitedAt (a b : Arena) (to : ℕ) (g : LanguageSet) (xs l : List Entry) (r : Result ℕ Excess) : Type 0 where
  pub kept : HeldAt r b to
  pub is : (rest : List Entry → Spelling) → spelling_at r b to rest ≡ united g xs l rest
  pub others : Only to to a b

pub record UnitesTo (a : Arena) (to : Target) (t : Text) (h g : ℕ) : Type 0 where
  pub set : SetAt a to.set to.count
  pub fits : length t ≤ ROW
  pub code : IsCode h
  pub worked : IsCode g

abbrev pub UnitedTo : Arena → Arena → Target → Text → ℕ → ℕ → Result ℕ Excess → Type 0
UnitedTo a b to t h g r = UnitedAt a b to.set (decoded g) (entry t (decoded h) ∷ []) (entries_at a to.set to.count) r

pub record UnitesText (a : Arena) (from i : ℕ) (to : Target) (g : ℕ) : Type 0 where
  pub text : TextIn a.slots from i
  pub set : SetAt a to.set to.count
  pub worked : IsCode g

abbrev pub UnitedText : Arena → Arena → ℕ → ℕ → Target → ℕ → Result ℕ Excess → Type 0
UnitedText a b from i to g r = UnitedAt a b to.set (decoded g) (entry_in a from i ∷ []) (entries_at a to.set to.count) r

pub record UnitesSet (a : Arena) (sets : Between) (n g : ℕ) : Type 0 where
  pub source : SetAt a sets.from sets.count
  pub set : SetAt a sets.to n
  pub apart : sets.from ≡ sets.to → ⊥
  pub worked : IsCode g

abbrev pub UnitedSet : Arena → Arena → Between → ℕ → ℕ → Result ℕ Excess → Type 0
UnitedSet a b sets n g r = UnitedAt a b sets.to (decoded g) (source_of a sets) (entries_at a sets.to n) r
