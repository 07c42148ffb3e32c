-- Where things stand in a pack: its guessing section, its lists, and the strings of a rule.
use Rattle.pack.specs.Places.{rule_spans}
use Rattle.pack.specs.declared.rules.RuleAt.{RuleAt}
use Rattle.std.specs.Prelude.{◌≡◌, ℕ, zero, suc, ◌+◌, ◌%◌, Bool, List, [], ◌∷◌, map, eqb, length, drop, get_or, set, replicate, Option, Some, None}
use Rattle.std.proofs.lemmas.List.Edits.{sets}
use Rattle.base.specs.Pick.{pick}
use Rattle.strings.specs.Reading.{Read, cut, got, read_byte, read_number, place_in}
use Rattle.pack.specs.Packs.{Verdict, accepted, refused, read_names, read_guesses, read_rule, read_list, names_good, guesses_good, list_good, names_in, list_count, pack_of, strings_length}
use Rattle.rule_lines.specs.Rules.{Rule}
use Rattle.pack.specs.Numbers.{surveyed_numbers}
use Rattle.pack.specs.declared.sections.Surveyed.{Surveyed}
use Rattle.pack.specs.declared.sections.Surveyed.TheVariants as surveyed
use Rattle.strings.specs.InnerContracts.{behind, read_some}

-- ---- what a survey finds

-- the same verdict (5 with the place, 0 otherwise); of an accepted pack also how many languages it has, and the place behind
-- the count byte and the names
unfoldable pub surveyed_of : Verdict → Surveyed
surveyed_of (accepted p) = surveyed.Accepted (length p.names) (1 + strings_length p.names)
surveyed_of (refused n) = surveyed.Refused n

-- a section that is read and good, and what is said where it is not
unfoldable pub judge : {A R : Type 0} → R → (A → Bool) → Read A → (A → List ℕ → R) → R
judge bad good cut k = bad
judge bad good (got a r) k = pick (good a) (k a r) bad

-- the places of n lists in s, from what is left on, up to the first at fault
unfoldable pub found_in : List ℕ → List ℕ → ℕ → List ℕ → List ℕ
found_in s names zero r = []
found_in s names (suc n) r = judge [] (list_good names) (read_list r) (λ rules q. place_in s r ∷ found_in s names n q)

-- the places of the lists of s, in order, before the first fault
unfoldable pub places_of : List ℕ → List ℕ
places_of s =
    judge [] names_good (read_names s) (λ names a.
    judge [] (guesses_good (length names)) (read_guesses a) (λ guesses b.
    judge [] (λ (n : ℕ). eqb n (list_count (length names))) (read_byte b) (λ n c.
    found_in s (names_in s a) n c)))

-- ---- a rule by its places

-- where each of the four strings starts, behind its length byte, and ends
unfoldable pub placed_from : ℕ → ℕ → ℕ → ℕ → ℕ → Option RuleAt
placed_from place p l r e =
    Some (rule_spans (place + 1) (place + 1 + p) (place + 2 + p) (place + 2 + p + l) (place + 3 + p + l) (place + 3 + p + l + r) (place + 4 + p + l + r) (place + 4 + p + l + r + e))

unfoldable pub placed_rule : ℕ → Read Rule → Option RuleAt
placed_rule place cut = None
placed_rule place (got r q) = placed_from place (length r.pattern) (length r.left) (length r.right) (length r.expression)

-- the rule at a place, of any bytes
unfoldable pub rule_stands_at : List ℕ → ℕ → Option RuleAt
rule_stands_at s place = placed_rule place (read_rule (drop place s))

-- ---- how many rules a list has

unfoldable pub count_in : Read ℕ → ℕ
count_in cut = 0
count_in (got n r) = n

-- the count of the list at a place, and 0 where bytes run out
unfoldable pub rule_count : List ℕ → ℕ → ℕ
rule_count s place = count_in (read_number 2 (drop place s))

-- its rules, up to where bytes run out
unfoldable pub list_at : List ℕ → ℕ → List Rule
list_at s place = read_some read_rule (rule_count s place) (drop (place + 2) s)

-- ---- the row of a list

-- places stand behind so many numbers
abbrev pub NUMBERS : ℕ
NUMBERS = 4096

-- a rule from one number or place to the next noted as the first of its kind, or as the last so far
unfoldable pub noted_in : List ℕ → ℕ → ℕ → ℕ → List ℕ
noted_in row kind at end = pick (eqb (get_or row (kind + 64) 0) 0) (set (set row kind at) (kind + 64) end) (set row (kind + 64) end)

-- a row in which the rule from a place to another is noted, by the first byte of its pattern, behind its length byte
abbrev pub placed_in : List ℕ → List ℕ → ℕ → ℕ → List ℕ
placed_in s row at end = noted_in row (get_or s (at + 1) 0 % 64) (NUMBERS + at) (NUMBERS + end)

-- the same with n rules that stand from a place on
unfoldable pub row_from : List ℕ → ℕ → ℕ → List ℕ → List ℕ
row_from s zero at row = row
row_from s (suc n) at row = behind (read_rule (drop at s)) (λ r q. row_from s n (place_in s q) (placed_in s row at (place_in s q)))

-- the row of the list at a place
abbrev pub row_at : List ℕ → ℕ → List ℕ
row_at s place = row_from s (rule_count s place) (place + 2) (replicate 128 0)

-- ---- what a survey promises

-- the places of lists and their rows stored in two buffers from their front on, as far as they go
pub record Stored (s places : List ℕ) (rows : List (List ℕ)) (found places' : List ℕ) (rows' : List (List ℕ)) : Type 0 where
  pub placed : places' ≡ sets places 0 found
  pub noted : rows' ≡ sets rows 0 (map (row_at s) found)

-- the verdict, and what is stored
pub record SurveyIs (s places : List ℕ) (rows : List (List ℕ)) (r : Surveyed) (places' : List ℕ) (rows' : List (List ℕ)) : Type 0 where
  pub result : surveyed_numbers r ≡ surveyed_numbers (surveyed_of (pack_of s))
  pub stored : Stored s places rows (places_of s) places' rows'
