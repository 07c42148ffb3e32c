-- The pack (01, Bundle and pack): what any bytes are as a pack, or where they break a rule.
use Rattle.std.specs.Prelude.{ℕ, zero, suc, ◌+◌, ◌-◌, ◌*◌, ◌^◌, Bool, true, false, not, List, [], ◌∷◌, eqb, leb, ltb, length, take, drop}
use Rattle.base.specs.Pick.{pick, and}
use Rattle.letters.specs.Order.{same_text, increasing}
use Rattle.languages.specs.Names.{language_name}
use Rattle.rule.specs.Matching.{rule_text, first_code}
use Rattle.rule_lines.specs.Rules.{Rule, rule, rule_good}
use Rattle.lang.specs.Patterns.{in_forms}
use Rattle.strings.specs.Reading.{Read, cut, got, and_read, read_byte, read_number, read_text, read_many, place_in, is_nil}
use Rattle.pack.specs.declared.sections.Checked.{Checked}
use Rattle.pack.specs.declared.sections.Checked.TheVariants as checked

-- ---- what a pack holds

pub record Guess : Type 0 where
  pub accept : ℕ
  pub mask : ℕ
  pub pattern : List ℕ

pub record Pack : Type 0 where
  pub names : List (List ℕ)
  pub guesses : List Guess
  pub lists : List (List Rule)

abbrev pub guess : ℕ → ℕ → List ℕ → Guess
guess a m p = record { accept = a; mask = m; pattern = p }

-- ---- reading the sections

-- "language count (1 byte), names (length byte, bytes)"
unfoldable pub read_names : List ℕ → Read (List (List ℕ))
read_names l = and_read (read_byte l) (λ n r. read_many read_text n r)

-- "each accept byte .., mask (4 bytes ..), pattern"
unfoldable pub read_guess : List ℕ → Read Guess
read_guess l = and_read (read_byte l) (λ a r. and_read (read_number 4 r) (λ m q. and_read (read_text q) (λ p t. got (guess a m p) t)))

-- "guessing count (2 bytes)"
unfoldable pub read_guesses : List ℕ → Read (List Guess)
read_guesses l = and_read (read_number 2 l) (λ n r. read_many read_guess n r)

-- "A list is a rule count (2 bytes) and rules of four strings"
unfoldable pub read_rule : List ℕ → Read Rule
read_rule l =
    and_read (read_text l) (λ p a. and_read (read_text a) (λ f b. and_read (read_text b) (λ r c. and_read (read_text c) (λ e d. got (rule p f r e) d))))

unfoldable pub read_list : List ℕ → Read (List Rule)
read_list l = and_read (read_number 2 l) (λ n r. read_many read_rule n r)

-- ---- the rules of each section

unfoldable pub all : {A : Type 0} → (A → Bool) → List A → Bool
all f [] = true
all f (x ∷ xs) = and (f x) (all f xs)

unfoldable pub holds : List ℕ → List (List ℕ) → Bool
holds t [] = false
holds t (x ∷ xs) = pick (same_text x t) true (holds t xs)

-- the bytes of `any`
abbrev pub any : List ℕ
any = 97 ∷ 110 ∷ 121 ∷ []

-- "names .., strictly increasing, with `any`"; "at most 32 listed languages"
unfoldable pub names_good : List (List ℕ) → Bool
names_good names = and (leb (length names) 32) (and (all language_name names) (and (increasing names) (holds any names)))

-- "accept byte 0 or 1, mask (4 bytes, not zero, listed bits only), pattern"
unfoldable pub guess_good : ℕ → Guess → Bool
guess_good n g = and (leb g.accept 1) (and (not (eqb g.mask 0)) (and (ltb g.mask (2 ^ n)) (and (rule_text g.pattern) (in_forms g.pattern))))

-- at most 4,096 guessing rules
unfoldable pub guesses_good : ℕ → List Guess → Bool
guesses_good n gs = and (leb (length gs) 4096) (all (guess_good n) gs)

-- "by first character and then file order"
unfoldable pub ordered_by_code : List Rule → Bool
ordered_by_code [] = true
ordered_by_code (x ∷ []) = true
ordered_by_code (x ∷ y ∷ l) = and (leb (first_code x.pattern) (first_code y.pattern)) (ordered_by_code (y ∷ l))

-- at most 4,096 rules, and "Every rule above applies" to each; `names` is the bytes of the names, each behind its length byte
unfoldable pub list_good : List ℕ → List Rule → Bool
list_good names rs = and (leb (length rs) 4096) (and (all (rule_good names) rs) (ordered_by_code rs))

-- ---- the sections one after the other

pub data Verdict : Type 0 where
  accepted : Pack → Verdict
  refused : ℕ → Verdict

-- a section read at a place, good or at fault; k goes on behind it
unfoldable pub section : {A : Type 0} → ℕ → (A → Bool) → Read A → (A → List ℕ → Verdict) → Verdict
section place good cut k = refused place
section place good (got a r) k = pick (good a) (k a r) (refused place)

-- the bytes of the names in s, where r is what is left behind them
unfoldable pub names_in : List ℕ → List ℕ → List ℕ
names_in s r = take (length s - 1 - length r) (drop 1 s)

-- "lists in order: for each language rules, approx, exact, then common approx, common exact"
unfoldable pub list_count : ℕ → ℕ
list_count n = 3 * n + 2

unfoldable pub list_sections : List ℕ → List ℕ → ℕ → List ℕ → (List (List Rule) → List ℕ → Verdict) → Verdict
list_sections s names zero r k = k [] r
list_sections s names (suc n) r k =
    section (place_in s r) (list_good names) (read_list r) (λ rules q. list_sections s names n q (λ lists t. k (rules ∷ lists) t))

-- "Sections: languages, guessing rules, list count, each list, the end; a cut pack fails in the section where bytes run out."
unfoldable pub end_section : List ℕ → Pack → List ℕ → Verdict
end_section s p r = pick (is_nil r) (accepted p) (refused (place_in s r))

unfoldable pub pack_of : List ℕ → Verdict
pack_of s =
    section 0 names_good (read_names s) (λ names a.
    section (place_in s a) (guesses_good (length names)) (read_guesses a) (λ guesses b.
    section (place_in s b) (λ (n : ℕ). eqb n (list_count (length names))) (read_byte b) (λ n c.
    list_sections s (names_in s a) n c (λ lists d.
    end_section s (record { names = names; guesses = guesses; lists = lists }) d))))

-- 5 with the first byte of the section at fault, 0 otherwise (01, What the desk gets)
unfoldable pub verdict_of : Verdict → Checked
verdict_of (accepted p) = checked.Accepted
verdict_of (refused n) = checked.Refused n

-- the bytes of strings, each behind its length byte
unfoldable pub strings_length : List (List ℕ) → ℕ
strings_length [] = 0
strings_length (t ∷ ts) = 1 + length t + strings_length ts
