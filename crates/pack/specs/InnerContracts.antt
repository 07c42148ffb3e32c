-- What the functions of the walk answer, in terms of what is read.
use Rattle.pack.specs.Places.{guess_span}
use Rattle.pack.specs.declared.guessing.GuessAt.{GuessAt}
use Prim.{Unit}
use Rattle.std.specs.Prelude.{◌≡◌, ℕ, zero, suc, ◌+◌, ◌-◌, min, Bool, true, List, [], ◌∷◌, eqb, leb, length, drop, Option, Some, None, OnSome, Result, Ok, Err}
use Rattle.base.specs.Pick.{pick, and}
use Rattle.letters.specs.Order.{order_of, same_text, is_less}
use Rattle.languages.specs.Names.{language_name}
use Rattle.rule.specs.Matching.{first_code}
use Rattle.strings.specs.Reading.{Read, cut, got, read_byte, read_number, read_many, place_in}
use Rattle.pack.specs.Packs.{Guess, read_guess, read_rule, read_list, any, guess_good, list_good, list_count}
use Rattle.rule_lines.specs.Rules.{Rule, rule_good}
use Rattle.pack.specs.PlaceContracts.{judge, found_in, rule_count, row_from, Stored}
use Rattle.strings.specs.InnerContracts.{behind, read_some}
use Rattle.languages.specs.declared.sets.LanguageSet.{LanguageSet}
use Rattle.pack.specs.Guessing.{guessed}

unfoldable pub guesses_at : List ℕ → ℕ → List Guess
guesses_at s place = behind (read_number 2 (drop place s)) (λ n r. read_some read_guess n r)

unfoldable pub guessed_at : List ℕ → ℕ → ℕ → List ℕ → LanguageSet
guessed_at s place n name = guessed (min 32 n) (guesses_at s place) name

-- where a section of s ends, if it is not at fault
unfoldable pub end_in : {A : Type 0} → List ℕ → (A → Bool) → Read A → Option ℕ
end_in s good rd = judge None good rd (λ a r. Some (place_in s r))

-- a test of each of a list in turn, over a state
unfoldable pub all_from : {A S : Type 0} → (S → A → Bool) → (S → A → S) → (S → Bool) → S → List A → Bool
all_from ok next final st [] = final st
all_from ok next final st (x ∷ xs) = and (ok st x) (all_from ok next final (next st x) xs)

-- ---- names: the name before, and whether `any` was met

pub record Past : Type 0 where
  pub name : List ℕ
  pub met : Bool

abbrev pub past : List ℕ → Bool → Past
past n m = record { name = n; met = m }

-- a name that follows another
unfoldable pub follows : List ℕ → List ℕ → Bool
follows p x = and (is_less (order_of p x)) (language_name x)

unfoldable pub met_by : Bool → List ℕ → Bool
met_by m x = pick m true (same_text x any)

unfoldable pub names_from : Past → List (List ℕ) → Bool
names_from = all_from (λ p x. follows p.name x) (λ p x. past x (met_by p.met x)) (λ p. p.met)

-- ---- guesses

unfoldable pub guesses_from : ℕ → List Guess → Bool
guesses_from n = all_from (λ (u : Unit {0}) g. guess_good n g) (λ u g. u) (λ u. true) tt

unfoldable pub placed_guess : List ℕ → Read Guess → Option GuessAt
placed_guess s cut = None
placed_guess s (got g r) = Some (guess_span g.accept g.mask (place_in s r - length g.pattern) (place_in s r))

unfoldable pub guess_stands_at : List ℕ → ℕ → Option GuessAt
guess_stands_at s at = placed_guess s (read_guess (drop at s))

-- ---- rules, and the first character of the rule before

unfoldable pub rule_fits : List ℕ → ℕ → Rule → Bool
rule_fits names least r = and (leb least (first_code r.pattern)) (rule_good names r)

unfoldable pub rules_from : List ℕ → ℕ → List Rule → Bool
rules_from names = all_from (rule_fits names) (λ least r. first_code r.pattern) (λ least. true)

-- where a good rule ends, and its first character
unfoldable pub ruled_in : List ℕ → List ℕ → ℕ → Read Rule → Option (ℕ × ℕ)
ruled_in s names least rd = judge None (rule_fits names least) rd (λ r q. Some (place_in s q, first_code r.pattern))

-- ---- lists: where they end, or the place of the first at fault

unfoldable pub lists_end : List ℕ → List ℕ → ℕ → List ℕ → Result ℕ ℕ
lists_end s names zero r = Ok (place_in s r)
lists_end s names (suc n) r = judge (Err (place_in s r)) (list_good names) (read_list r) (λ rules q. lists_end s names n q)

-- ---- the list count, the lists and the end

-- n rules from a place on, and the row in which they are noted where they are good
pub record RulesNoted (s names : List ℕ) (n at : ℕ) (row : List ℕ) (r : Option ℕ) (row' : List ℕ) : Type 0 where
  pub result : r ≡ end_in s (rules_from names 0) (read_many read_rule n (drop at s))
  pub noted : OnSome r (row' ≡ row_from s n at row)

-- the list at a place, and its row where it is good
pub record ListNoted (s names : List ℕ) (at : ℕ) (row : List ℕ) (r : Option ℕ) (row' : List ℕ) : Type 0 where
  pub result : r ≡ end_in s (list_good names) (read_list (drop at s))
  pub noted : OnSome r (row' ≡ row_from s (rule_count s at) (at + 2) row)

pub record ListsAre (s names : List ℕ) (n at : ℕ) (places : List ℕ) (rows : List (List ℕ)) (r : Result ℕ ℕ) (places' : List ℕ) (rows' : List (List ℕ)) : Type 0 where
  pub result : r ≡ lists_end s names n (drop at s)
  pub stored : Stored s places rows (found_in s names n (drop at s)) places' rows'

-- that they end with s, or the place at fault
unfoldable pub ended : List ℕ → Result ℕ ℕ → Result (Unit {0}) ℕ
ended s (Ok e) = pick (eqb e (length s)) (Ok tt) (Err e)
ended s (Err e) = Err e

unfoldable pub rest_of : List ℕ → List ℕ → ℕ → List ℕ → Result (Unit {0}) ℕ
rest_of s names n r =
    judge (Err (place_in s r)) (λ (c : ℕ). eqb c (list_count n)) (read_byte r) (λ c q. ended s (lists_end s names c q))

unfoldable pub rest_places : List ℕ → List ℕ → ℕ → List ℕ → List ℕ
rest_places s names n r = judge [] (λ (c : ℕ). eqb c (list_count n)) (read_byte r) (λ c q. found_in s names c q)

pub record RestIs (s names : List ℕ) (n at : ℕ) (places : List ℕ) (rows : List (List ℕ)) (r : Result (Unit {0}) ℕ) (places' : List ℕ) (rows' : List (List ℕ)) : Type 0 where
  pub result : r ≡ rest_of s names n (drop at s)
  pub stored : Stored s places rows (rest_places s names n (drop at s)) places' rows'
