-- What a call is told, and the pack it works with: its numbers, the refusals before the pack, and what known settings give.
-- Assumes nothing.
use mathlib.Core.Path.{◌≡◌, refl, sym, ap, ap₂, subst, ◌∙◌}
use mathlib.Core.Bool.{Bool, true, false, false≢true}
use mathlib.Core.List.{List, [], ◌∷◌}
use Prim.Native.Nat.{ℕ, zero, suc, ◌+◌, ◌-◌, ◌*◌, ◌%◌, ◌^◌, ◌≤◌, ◌<◌, zero-le, suc-le-suc, min}
use native.Mathlib.Nat.{le_antisymm, lt_of_lt_of_le, lt_of_not-le, not-le_of_lt, le_of_suc-le-suc}
use native.Mathlib.Omega.{arith}
use lib.Count.{count_trailing_zeros, trailing_le}
use lib.Pow.{pow-lt, pow_mono, shl_exact}
use lib.Dec.{eqb, ltb}
use lib.ListN.{length, take, drop}
use borrow.Author.Tests.{le-leb, lt-leb, lt-ltb, le-ltb, leb-true, ltb-true, ltb-false}
use Rattle.base.specs.Pick.{pick}
use Rattle.base.proofs.Bits.{single_is, ones_pow}
use Rattle.letters.specs.Order.{same_text}
use Rattle.letters.specs.Reading.{first_ill, first_outside}
use Rattle.languages.specs.Names.{name_place, bit_at, language_bit}
use Rattle.strings.specs.Reading.{strings_of}
use Rattle.languages.specs.Numbers.{set_numbers}
use Rattle.languages.specs.declared.sets.LanguageSet.{LanguageSet}
use Rattle.languages.specs.declared.sets.LanguageSet.TheVariants.{Any, NoLanguages, SomeLanguages}
use Rattle.languages.proofs.NumberLaws.{set_one}
use Rattle.pack.specs.Packs.{Pack, Verdict, accepted, refused, any, holds, names_good, pack_of, strings_length}
use Rattle.pack.proofs.NumberLaws.{surveyed_one}
use Rattle.pack.specs.PlaceContracts.{surveyed_of}
use Rattle.pack.specs.InnerContracts.{guessed_at}
use Rattle.rule_index.specs.InnerContracts.{pack_in, IndexIs}
use Rattle.rule_index.specs.GuessContracts.{guesser, guesser_by}
use Rattle.rule_index.proofs.IndexLaws.{pack_in_lem}
use Rattle.pack.specs.declared.sections.Surveyed.{Surveyed}
use Rattle.pack.specs.declared.sections.Surveyed.TheVariants as surveyed
use Rattle.pack.proofs.Laws.{is_pack, languages_few, guesses_within, names_strings, SurveyedPack, surveyed_pack}
use Rattle.prefixes.specs.declared.prefixes.NameType.{NameType}
use Rattle.choices.specs.Texts.{Text}
use Rattle.base.proofs.Arms.{clash}
use Rattle.refusals.specs.declared.Refusal.{Refusal}
use Rattle.refusals.specs.declared.Refusal.TheVariants.{NotUtf8, OutsideRange, NameTooLong, SettingUnknown, NoRoom}
use Rattle.engine.specs.Calls.{kind_known, settings_known, have_languages, type_of, start_set, CallOutcome, refused_by, key, unless, on_pack, letters_then, checked_then, call_of}
use Rattle.engine.specs.InnerContracts.{OpenedIs, CallReady, is_guessed, call_for, found_by, FoundIs, answered_by}
use Rattle.engine.specs.declared.call.Call.{Call}
use Rattle.engine.specs.declared.encode.AnswerEnd.{AnswerEnd}
use Rattle.engine.specs.declared.call.Settings.{Settings}
use Rattle.engine.specs.declared.call.Start.{Start}
use Rattle.engine.specs.declared.call.Start.TheVariants.{Guessed, Given}
use Rattle.engine.specs.declared.call.PackNumbers.{PackNumbers}
use Rattle.engine.specs.declared.spelling.NameRefused.{NameRefused}
use Rattle.std.specs.Prelude.{Result, Ok, Err, Option, Some, None}
use Rattle.engine.specs.declared.spelling.Spelled.TheVariants as spelled
use Rattle.base.proofs.PickLaws.{pick_true, pick_false, and_inv, cases}
use Rattle.languages.specs.InnerContracts.{BitsBelow}
use borrow.Author.Rules.{rules}

-- ---- which name is `any`

pow_back : (a b : ℕ) → 2 ^ a ≤ 2 ^ b → a ≤ b
pow_back a b h = le_of_suc-le-suc (lt_of_not-le (λ l. not-le_of_lt (pow-lt l) h))

trailing_pow : (k : ℕ) → k < 32 → count_trailing_zeros 32 (2 ^ k) ≡ k
trailing_pow k h =
    let is = (single_is 32 (2 ^ k) (pow-lt h) (ones_pow k)).0 in
    le_antisymm (pow_back _ k (omega (arith, is))) (pow_back k _ (omega (arith, is)))

-- r is the answer of a search for a name that is one of the first 32
module _ (s name : List ℕ) (r : Option ℕ) (h : name_place name (strings_of s) < min 32 (length (strings_of s))) (p : r ≡ language_bit s name) where
  bit_is : r ≡ Some (2 ^ name_place name (strings_of s))
  unfolding language_bit bit_at
  bit_is = p ∙ pick_true _ _ _ (lt-ltb _ _ h)

  pub bit_place : (b : ℕ) → r ≡ Some b → count_trailing_zeros 32 b ≡ name_place name (strings_of s)
  bit_place b e =
      let is = bit_is in
      let power : b ≡ 2 ^ name_place name (strings_of s) = cc in
      ap (count_trailing_zeros 32) power ∙ trailing_pow _ (omega arith)

  pub bit_there : r ≡ None → 0 ≡ name_place name (strings_of s)
  bit_there e = let is = bit_is in clash (cc)

pub place_fits : (b : ℕ) → count_trailing_zeros 32 b < 2 ^ 64
place_fits b = omega (arith, trailing_le 32 b)

pub ruleset any_laws = (bit_place, bit_there, place_fits)

-- ---- whether bits are below a power

pub shift_below : (bits n : ℕ) → n < 32 → ltb bits ((1 * 2 ^ n) % 4294967296) ≡ ltb bits (2 ^ n)
shift_below bits n h =
    let one : 1 * 2 ^ n ≡ 2 ^ n = omega arith in
    ap (ltb bits) (shl_exact 1 n 32 (omega arith) (omega arith) ∙ one)

pub all_below : (bits n : ℕ) → bits < 4294967296 → 32 ≤ n → true ≡ ltb bits (2 ^ n)
all_below bits n f h = sym (lt-ltb _ _ (lt_of_lt_of_le f (pow_mono h)))

-- ---- what start languages come to

pub have_guessed : (n : ℕ) (start : Start) → start ≡ Guessed → true ≡ have_languages n start
unfolding have_languages
have_guessed n start e = rw e refl

pub have_given : (n : ℕ) (start : Start) (kind bits : ℕ) (t : Bool) → start ≡ Given kind bits → t ≡ pick (eqb kind 2) (ltb bits (2 ^ n)) true
    → t ≡ have_languages n start
unfolding have_languages
have_given n start kind bits t e p = rw e p

pub set_guessed : (start : Start) (guess g : LanguageSet) → start ≡ Guessed → g ≡ guess → g ≡ start_set start guess
unfolding start_set
set_guessed start guess g e p = rw e p

pub set_given : (start : Start) (guess g : LanguageSet) (kind bits : ℕ) → start ≡ Given kind bits
    → g ≡ pick (eqb kind 0) Any (pick (eqb kind 1) NoLanguages (SomeLanguages bits)) → g ≡ start_set start guess
unfolding start_set
set_given start guess g kind bits e p = rw e p

pub ruleset start_laws = (have_guessed, have_given, set_guessed, set_given, cases)

-- ---- a room that is too small

module _ (r : Result AnswerEnd Refusal) (room : ℕ) where
  pub answer_fits : (a : AnswerEnd) → r ≡ Ok a → a.at ≤ room → spelled.Done a.at a.flag ≡ answered_by r room
  unfolding answered_by
  answer_fits a e h = rw e (sym (pick_true _ _ _ (le-leb _ _ h)))

  pub answer_long : (a : AnswerEnd) (place : ℕ) → r ≡ Ok a → room < a.at → place ≡ min a.at 4294967295 → spelled.Refused NoRoom place ≡ answered_by r room
  unfolding answered_by
  answer_long a place e h p = rw e (ap (spelled.Refused NoRoom) p ∙ sym (pick_false _ _ _ (lt-leb _ _ h)))

  pub answer_none : (why : Refusal) → r ≡ Err why → spelled.Refused why 0 ≡ answered_by r room
  unfolding answered_by
  answer_none why e = rw e refl

pub ruleset answer_laws = (answer_fits, answer_long, answer_none, rules)

-- ---- a pack that is opened

place_cons : (t : Bool) (p n : ℕ) (h : Bool) → (h ≡ true → p < n) → pick t true h ≡ true → pick t 0 (suc p) < suc n
unfolding pick
place_cons true p n h f e = suc-le-suc zero-le
place_cons false p n h f e = suc-le-suc (f e)

held_place : (name : List ℕ) (xs : List (List ℕ)) → holds name xs ≡ true → name_place name xs < length xs
unfolding holds name_place
held_place name [] e = absurd (false≢true e)
held_place name (x ∷ xs) e = place_cons (same_text x name) _ _ _ (held_place name xs) e

any_held : (s : List ℕ) (p : Pack) → pack_of s ≡ accepted p → name_place any p.names < length p.names
unfolding names_good
any_held s p e =
    let w = is_pack s p e in
    let good = (and_inv _ _ (and_inv _ _ (and_inv _ _ w.front.passes).1).1).1 in
    held_place any p.names (ap (holds any) (sym w.names) ∙ good)

broken_by : (s : List ℕ) (t : List (List ℕ)) (place : ℕ) (v : Verdict) → pack_of s ≡ v → surveyed_of v ≡ surveyed.Refused place
    → OpenedIs s t (Err place)
unfolding surveyed_of OpenedIs
broken_by s t place (accepted p) e q = clash (cc)
broken_by s t place (refused k) e q = let is : k ≡ place = cc in e ∙ ap refused is

module _ (s : List ℕ) (t : List (List ℕ)) (r : Surveyed) (w : IndexIs s r t) where
  pub open_broken : (place : ℕ) → r ≡ surveyed.Refused place → OpenedIs s t (Err place)
  open_broken place q = broken_by s t place _ refl (sym (surveyed_one _ _ w.result) ∙ q)

  module _ (n g : ℕ) (q : r ≡ surveyed.Accepted n g) where
    found : SurveyedPack s n g
    found = surveyed_pack s n g r (surveyed_one _ _ w.result) q

    strings : strings_of (take (g - 1) (drop 1 s)) ≡ found.pack.names
    strings = names_strings s found.pack g found.is found.guesses

    few : n ≤ 32
    few = omega (arith, found.languages, languages_few s found.pack g found.is found.guesses)

    -- the names' bytes
    pub names_start : 1 ≤ g
    names_start = omega (arith, found.guesses)

    pub names_end : g ≤ length s
    names_end = guesses_within s found.pack g found.is found.guesses

    pub any_there : name_place any (strings_of (take (g - 1) (drop 1 s))) < min 32 (length (strings_of (take (g - 1) (drop 1 s))))
    any_there = rw strings (omega (arith, few, found.languages, any_held s found.pack found.is))

    same : found.pack ≡ pack_in s
    same = sym (pack_in_lem s found.pack found.is)

    languages : n ≡ length (pack_in s).names
    languages = found.languages ∙ ap (λ (x : Pack). length x.names) same

    guessed_by : guesser s t g n ≡ guessed_at s g n
    unfolding guesser_by
    guessed_by = subst (λ (x : Surveyed). guesser_by (guesser s t) x ≡ guesser_by (guessed_at s) x) q w.guessed

    pub open_usable : (other : ℕ) → other ≡ name_place any (strings_of (take (g - 1) (drop 1 s))) → OpenedIs s t (Ok (record { languages = n; guesses = g; any = other }))
    unfolding OpenedIs
    open_usable other o =
        let is_any : other ≡ name_place any found.pack.names = o ∙ ap (name_place any) strings in
        record {
          is = found.is ∙ ap accepted same;
          languages_are = languages;
          guesses_are = found.guesses ∙ ap (λ (x : Pack). 1 + strings_length x.names) same;
          any_is = is_any ∙ ap (λ (x : Pack). name_place any x.names) same;
          any_below = omega (arith, is_any, found.languages, any_held s found.pack found.is);
          finds = w.found;
          guesses_by = guessed_by;
        }

pub ruleset open_laws = (open_broken, names_start, names_end, any_there, open_usable, rules)

-- ---- guessing by the table of a call that is ready

pub start_guessed : {s : List ℕ} {table : List (List ℕ)} {call : Call} → CallReady s table call → (name : Text) (x : LanguageSet)
    → set_numbers x ≡ set_numbers (guesser s table call.guesses call.languages name) → x ≡ guessed_at s call.guesses call.languages name
start_guessed w name x e = set_one _ _ e ∙ ap (λ (f : Text → LanguageSet). f name) w.pack.guesses_by

-- ---- a call of known settings

pub call_made : (c : Settings) (start : Start) (n : PackNumbers) (kind : NameType) (fresh : Bool) (set : LanguageSet)
    → kind ≡ type_of c.name_type → fresh ≡ is_guessed start → set ≡ start_set start Any
    → record {
      kind = kind;
      rules = c.rule_type;
      concat = eqb c.concat 1;
      limit = c.limit;
      languages = n.languages;
      guesses = n.guesses;
      any = n.any;
      fresh = fresh;
      set = set;
    } ≡ call_for c start n
unfolding call_for
call_made c start n kind fresh set ek ef es = rw (ek, ef, es) refl

-- ---- the refusals before the pack

module _ (name : Text) where
  pub found_long : 96 < length name → FoundIs (letters_then name) (Err (record { why = NameTooLong; place = 0 }))
  unfolding letters_then found_by
  found_long h = record { is = λ rest. sym (pick_true _ _ _ (lt-ltb _ _ h)) }

  letters_by : (x y : Option ℕ) → length name ≤ 96 → first_ill name ≡ x → first_outside name ≡ y → (rest : CallOutcome)
      → unless NotUtf8 x (unless OutsideRange y rest) ≡ letters_then name rest
  unfolding letters_then
  letters_by x y h p q rest = sym (pick_false _ _ _ (le-ltb _ _ h) ∙ ap₂ (λ (f g : Option ℕ). unless NotUtf8 f (unless OutsideRange g rest)) p q)

  module _ (x : Option ℕ) (h : length name ≤ 96) (e : x ≡ first_ill name) where
    pub found_ill : (place : ℕ) → x ≡ Some place → FoundIs (letters_then name) (Err (record { why = NotUtf8; place = place }))
    unfolding found_by unless
    found_ill place p = record { is = letters_by (Some place) _ h (sym e ∙ p) refl }

    module _ (y : Option ℕ) (p : x ≡ None) (e' : y ≡ first_outside name) where
      pub found_outside : (place : ℕ) → y ≡ Some place → FoundIs (letters_then name) (Err (record { why = OutsideRange; place = place }))
      unfolding found_by unless
      found_outside place q = record { is = letters_by None (Some place) h (sym e ∙ p) (sym e' ∙ q) }

      pub found_none : y ≡ None → FoundIs (letters_then name) (Ok tt)
      unfolding found_by unless
      found_none q = record { is = letters_by None None h (sym e ∙ p) (sym e' ∙ q) }

module _ (c : Settings) (start : Start) (name : Text) (t : Bool) (k : t ≡ settings_known c start) where
  pub found_known : (r : Result (Unit {0}) NameRefused) → t ≡ true → FoundIs (letters_then name) r → FoundIs (checked_then c start name) r
  unfolding checked_then
  found_known r e w = record { is = λ rest. w.is rest ∙ sym (pick_true _ _ _ (sym k ∙ e)) }

  pub found_unknown : t ≡ false → FoundIs (checked_then c start name) (Err (record { why = SettingUnknown; place = 0 }))
  unfolding checked_then found_by
  found_unknown e = record { is = λ rest. sym (pick_false _ _ _ (sym k ∙ e)) }

pub ruleset found_laws = (found_long, found_ill, found_outside, found_none, found_known, found_unknown, rules)

-- ---- what that tells

fine_by : (t u : Bool) (x : CallOutcome) → key [] false ≡ pick t (pick u (refused_by NameTooLong 0) x) (refused_by SettingUnknown 0)
    → (t ≡ true) × (u ≡ false)
unfolding pick
fine_by false u x e = clash (cc)
fine_by true true x e = clash (cc)
fine_by true false x e = (refl, refl)

module _ (c : Settings) (start : Start) (name : Text) (r : Result (Unit {0}) NameRefused) (w : FoundIs (checked_then c start name) r) where
  -- a name that is fine has known settings, and is short
  pub fine_name : r ≡ Ok tt → (settings_known c start ≡ true) × (length name ≤ 96)
  unfolding checked_then letters_then found_by
  fine_name e =
      let all = fine_by _ _ _ (sym (ap (λ (x : Result (Unit {0}) NameRefused). found_by x (key [] false)) e) ∙ w.is (key [] false)) in
      (all.0, ltb-false _ _ all.1)

  -- a call is refused as its name is, else the pack is looked at
  pub call_by : (s : List ℕ) (x : Result (Unit {0}) NameRefused) → r ≡ x → call_of c start s name ≡ found_by x (on_pack c start s name (pack_of s))
  unfolding call_of
  call_by s x e = sym (w.is _) ∙ ap (λ (y : Result (Unit {0}) NameRefused). found_by y (on_pack c start s name (pack_of s))) e

pub known_limits : (c : Settings) (start : Start) → settings_known c start ≡ true → (c.limit ≤ 256) × (c.rule_type < 2) × (kind_known start ≡ true)
unfolding settings_known
known_limits c start e =
    let a = and_inv _ _ (and_inv _ _ e).1 in
    let b = and_inv _ _ (and_inv _ _ a.1).1 in
    (leb-true _ _ b.0, ltb-true _ _ a.0, b.1)

-- a given set has bits of the pack's languages only
pub start_below : (start : Start) (n : ℕ) → have_languages n start ≡ true → kind_known start ≡ true → BitsBelow n (start_set start Any)
unfolding have_languages kind_known start_set BitsBelow pick
start_below Guessed n a k = tt
start_below (Given zero bits) n a k = tt
start_below (Given (suc zero) bits) n a k = tt
start_below (Given (suc (suc zero)) bits) n a k = ltb-true _ _ a
start_below (Given (suc (suc (suc kind))) bits) n a k = let no_way : ⊥ = omega (arith, ltb-true (suc (suc (suc kind))) 3 k) in absurd no_way
