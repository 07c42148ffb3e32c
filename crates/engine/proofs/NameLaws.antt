-- What `spell_name`, `spell_bracketed` and `spell_words` ask of each other. Assumes nothing.
use mathlib.Core.Path.{◌≡◌, refl, sym, ◌∙◌}
use mathlib.Core.Bool.{Bool, true, false}
use mathlib.Core.List.{List, [], ◌∷◌}
use Prim.Native.Nat.{ℕ, ◌+◌, ◌-◌, ◌*◌, ◌≤◌, ◌<◌}
use native.Mathlib.Omega.{arith}
use lib.ListN.{length, take, drop}
use Rattle.choices.specs.Texts.{Text}
use Rattle.writing.specs.InnerContracts.{cap, Put}
use Rattle.name_parts.specs.Words.{word_at, past_word, one_word}
use Rattle.name_parts.specs.Joining.{joined_name}
use Rattle.prefixes.specs.Prefixes.{split_of}
use Rattle.prefixes.specs.declared.prefixes.NameType.{NameType}
use Rattle.prefixes.specs.declared.prefixes.Prefix.{Prefix}
use Rattle.prefixes.specs.declared.prefixes.Prefix.TheVariants as prefix
use Rattle.base.specs.Pick.{pick}
use native.Mathlib.Nat.{sub-zero}
use Rattle.name_parts.proofs.Laws.{split_within, rest_shorter, joined_shorter}
use Rattle.writing.proofs.Laws.{put_place, put_fits}
use Rattle.engine.specs.Spelling.{Spelt, both, parted_as}
use Rattle.engine.specs.Calls.{steps_by}
use Rattle.engine.specs.InnerContracts.{Asks, JoinedAt, JoinedIs, with_start, steps_at, start_at, spelt_part, spelt_name, spelt_afresh, spelt_words, SpeltInto, SpeltWhole, both_of, chosen_refusal, HyphenAt, bracketed}
use Rattle.engine.specs.declared.call.Call.{Call}
use Rattle.engine.specs.declared.encode.AnswerEnd.{AnswerEnd}
use Rattle.engine.specs.declared.encode.Joined.{Joined}
use Rattle.refusals.specs.declared.Refusal.{Refusal}
use Rattle.std.specs.Prelude.{Option, Some, None, Result, Ok, Err}
use Rattle.engine.proofs.SpellingLaws.{not_or, parted_split, name_parted, name_plain, name_words}
use Rattle.engine.proofs.IntoLaws.{both_told, both_remainder, both_joined, bracketed_told, bracketed_bad, WordsHeld, held_start, held_end, held_shorter, held_less, held_place, held_bad, held_turn}
use Rattle.engine.proofs.EncodeLaws.{ready_afresh, afresh_told, front_in}
use Rattle.base.proofs.Stores.{rest_is}
use borrow.Author.Rules.{rules}

-- the measures: twice a name's length for its words, one more for the name, and two for it between brackets

-- ---- a name with a prefix: it stands within the name, and both parts are shorter

module _ (kind : NameType) (name : Text) (x : Prefix) (e : x ≡ parted_as kind name) where
  pub join_parted : (size rest n : ℕ) (o o' : List ℕ) → (length name ≤ 96) × (length o ≡ 96) → x ≡ prefix.Leads size rest
      → Put o o' 0 n (joined_name size rest name)
      → JoinedIs kind name o' (Some (record { rest = rest; length = n }))
  unfolding JoinedIs
  join_parted size rest n o o' h q p =
      let here = sym e ∙ q in
      let few = joined_shorter name size rest (parted_split kind name size rest here) in
      record { size = size; parted = here; inside = front_in p (omega (arith, h.0)) h.1; text = (put_fits p (omega (arith, h.0, h.1))).1 }

  pub join_whole : (o : List ℕ) → x ≡ prefix.Whole → JoinedIs kind name o None
  unfolding JoinedIs
  join_whole o q = sym e ∙ q

pub ruleset join_laws = (join_parted, join_whole, rules)

module _ (kind : NameType) (name : Text) (u : List ℕ) (x : Option Joined) (w : JoinedIs kind name u x) (rest n : ℕ) (q : x ≡ Some (record { rest = rest; length = n })) where
  at_parted : JoinedAt kind name u rest n
  unfolding JoinedIs
  at_parted = rw q at w

  split_here : split_of name ≡ prefix.Leads at_parted.size rest
  split_here = parted_split kind name at_parted.size rest at_parted.parted

  pub rest_within : rest ≤ length name
  rest_within = (split_within name _ rest split_here).1

  rest_less : length (take (length name - rest) (drop rest name)) < length name
  rest_less = rw (rest_is name rest) (rest_shorter name _ rest split_here)

  pub joined_in : n ≤ length u
  joined_in = at_parted.inside

  joined_is : take (n - 0) (drop 0 u) ≡ joined_name at_parted.size rest name
  joined_is = rw (sub-zero n) at_parted.text

  joined_less : length (take (n - 0) (drop 0 u)) < length name
  joined_less = rw joined_is (joined_shorter name _ rest split_here)

  module _ (t : ℕ) (h : length name * 2 + 1 ≡ t) where
    pub rest_falls : length (take (length name - rest) (drop rest name)) * 2 + 2 < t
    rest_falls = omega (arith, h, rest_less)

    pub joined_falls : length (take (n - 0) (drop 0 u)) * 2 + 2 < t
    joined_falls = omega (arith, h, joined_less)

  module _ (s : List ℕ) (table : List (List ℕ)) (call : Call) (at : ℕ) (a : Asks s table call name at) where
    pub rest_asks : Asks s table call (take (length name - rest) (drop rest name)) at
    rest_asks = record { ready = a.ready; short = omega (arith, a.short, rest_less); place = a.place }

    pub joined_asks : (p : ℕ) → p ≤ cap → Asks s table call (take (n - 0) (drop 0 u)) p
    joined_asks p h = record { ready = a.ready; short = omega (arith, a.short, joined_less); place = h }

module _ (s : List ℕ) (call : Call) (name : Text) (u : List ℕ) (x : Option Joined) (w : JoinedIs call.kind name u x) where
  module _ (rest n : ℕ) (q : x ≡ Some (record { rest = rest; length = n })) (o o₁ o₂ o₃ : List ℕ) (at p : ℕ) where
    abbrev before : Spelt
    before = bracketed (spelt_afresh s call (take (length name - rest) (drop rest name)))

    abbrev behind : Spelt
    behind = bracketed (spelt_afresh s call (take (n - 0) (drop 0 u)))

    parted : {r : Result AnswerEnd Refusal} → SpeltInto (both (spelt_afresh s call (take (length name - rest) (drop rest name))) (spelt_afresh s call (take (n - 0) (drop 0 u)))) o o₃ at r
        → SpeltInto (spelt_name s call name) o o₃ at r
    unfolding spelt_name spelt_afresh steps_at steps_by
    parted k =
        rw (name_parted (steps_at s call) (start_at s call name) name _ rest (at_parted _ name u x w rest n q).parted, ← rest_is name rest, ← joined_is _ name u x w rest n q) k

    module _ (r k : Result AnswerEnd Refusal) (ta : SpeltInto before o o₁ at r) (tb : SpeltInto behind o₂ o₃ p k) where
      pub parted_told : (a b : AnswerEnd) → r ≡ Ok a → Put o₁ o₂ a.at p (45 ∷ []) → k ≡ Ok b → (y : AnswerEnd) → y ≡ both_of b a b.at → SpeltInto (spelt_name s call name) o o₃ at (Ok y)
      parted_told a b e middle e' y z = rw z (parted (both_told _ _ ta tb e middle e'))

      parted_chosen : (y : Result AnswerEnd Refusal) (why : Refusal) → k ≡ y → r ≡ Err why → SpeltInto (spelt_name s call name) o o₃ at (Err (chosen_refusal y why))
      unfolding chosen_refusal
      parted_chosen (Ok b) why e' e = parted (both_remainder _ _ ta tb e e')
      parted_chosen (Err w) why e' e = parted (both_joined _ _ tb e')

      pub parted_remainder : (why w : Refusal) → r ≡ Err why → w ≡ chosen_refusal k why → SpeltInto (spelt_name s call name) o o₃ at (Err w)
      parted_remainder why w e f = rw f (parted_chosen k why refl e)

    pub parted_joined : (k : Result AnswerEnd Refusal) → SpeltInto behind o₂ o₃ p k → (why : Refusal) → k ≡ Err why → SpeltInto (spelt_name s call name) o o₃ at (Err why)
    parted_joined k tb why e = parted (both_joined _ _ tb e)

  module _ (q : x ≡ None) (t : Bool) (et : t ≡ pick call.concat true (one_word name)) (o o' : List ℕ) (at : ℕ) (r : Result AnswerEnd Refusal) where
    is_whole : parted_as call.kind name ≡ prefix.Whole
    unfolding JoinedIs
    is_whole = rw q at w

    pub whole_part : t ≡ true → SpeltWhole (spelt_part s call name) o o' at r → SpeltInto (spelt_name s call name) o o' at r
    unfolding spelt_name spelt_part steps_at steps_by
    whole_part y k = rw (name_plain (steps_at s call) (start_at s call name) name is_whole (sym et ∙ y)) k.told

    pub whole_words : t ≡ false → SpeltInto (spelt_words s call name) o o' at r → SpeltInto (spelt_name s call name) o o' at r
    unfolding spelt_name spelt_words spelt_afresh steps_at steps_by
    whole_words y k = rw (name_words (steps_at s call) (start_at s call name) name is_whole (sym et ∙ y)) k

pub several : (concat : Bool) (name : Text) (t : Bool) → t ≡ pick concat true (one_word name) → t ≡ false → one_word name ≡ false
several concat name t e y = not_or _ _ (sym e ∙ y)

-- ---- afresh

module _ (s : List ℕ) (call again : Call) (e : again ≡ with_start call true call.set) where
  pub again_asks : (table : List (List ℕ)) (name : Text) (at p : ℕ) → Asks s table call name at → p ≤ cap → Asks s table again name p
  again_asks table name at p w h = record { ready = ready_afresh s call e w.ready; short = w.short; place = h }

  module _ (t : Text) (o o₁ o₂ : List ℕ) (at p : ℕ) (r : Result AnswerEnd Refusal) (told : SpeltInto (spelt_name s again t) o₁ o₂ p r) where
    pub between_told : (a : AnswerEnd) (o₃ : List ℕ) (end : ℕ) → Put o o₁ at p (40 ∷ []) → r ≡ Ok a → Put o₂ o₃ a.at end (41 ∷ [])
        → SpeltInto (bracketed (spelt_afresh s call t)) o o₃ at (Ok (record { at = end; flag = a.flag }))
    between_told a o₃ end left q right = bracketed_told _ (afresh_told s call e _ told) left q right

    pub between_bad : (why : Refusal) → r ≡ Err why → SpeltInto (bracketed (spelt_afresh s call t)) o o₂ at (Err why)
    between_bad why q = bracketed_bad _ (afresh_told s call e _ told) q

-- ---- words

module _ (f : Text → Spelt) (name : Text) (o₀ o : List ℕ) (at p : ℕ) (all : AnswerEnd) (k : WordsHeld f name o₀ o at p all) (w : Text)
    (ew : w ≡ word_at name p) (some : length w ≡ 0 → ⊥) (several : one_word name ≡ false) where
  pub word_falls : (t : ℕ) → length name * 2 ≡ t → length w * 2 + 1 < t
  word_falls t h = omega (arith, h, held_shorter k ew some several)

  pub word_asks : (s : List ℕ) (table : List (List ℕ)) (call again : Call) → again ≡ with_start call true call.set → (at₀ : ℕ)
      → Asks s table call name at₀
      → (o₁ : List ℕ) (q : ℕ) → HyphenAt o o₁ all.at p q → Asks s table again w q
  word_asks s table call again e at₀ a o₁ q h =
      record {
        ready = ready_afresh s call e a.ready;
        short = omega (arith, a.short, held_shorter k ew some several);
        place = held_place k ew some h;
      }

module _ (s : List ℕ) (call : Call) (name : Text) (o₀ o : List ℕ) (at p : ℕ) (all : AnswerEnd) (k : WordsHeld (spelt_afresh s call) name o₀ o at p all)
    (w : Text) (ew : w ≡ word_at name p) where
  pub words_told : length w ≡ 0 → SpeltInto (spelt_words s call name) o₀ o at (Ok all)
  unfolding spelt_words
  words_told h = held_end k ew h

  module _ (some : length w ≡ 0 → ⊥) (o₁ o₂ : List ℕ) (q : ℕ) (h : HyphenAt o o₁ all.at p q) (r : Result AnswerEnd Refusal) (again : Call) (e : again ≡ with_start call true call.set)
      (tb : SpeltInto (spelt_name s again w) o₁ o₂ q r) where
    pub words_bad : (why : Refusal) → r ≡ Err why → SpeltInto (spelt_words s call name) o₀ o₂ at (Err why)
    unfolding spelt_words
    words_bad why y = held_bad k ew some h (afresh_told s call e w tb) y

    pub words_turn : (b z : AnswerEnd) → r ≡ Ok b → z ≡ both_of all b b.at → (p' : ℕ) → p' ≡ past_word name p → length o₂ ≡ length o → WordsHeld (spelt_afresh s call) name o₀ o₂ at p' z
    words_turn b z y m p' ep eo = rw m (held_turn k ew some h (afresh_told s call e w tb) y ep eo)

-- a buffer that is lent on keeps its length
module _ (o o₁ o₂ : List ℕ) (e : length o₁ ≡ length o) (e' : length o₂ ≡ length o₁) where
  pub long_two : length o₂ ≡ length o
  long_two = e' ∙ e

  pub long_three : (o₃ : List ℕ) → length o₃ ≡ length o₂ → length o₃ ≡ length o
  long_three o₃ h = h ∙ long_two

pub ruleset bracketed_laws = (again_asks, put_place, between_told, between_bad, long_three, rules)

pub ruleset name_laws = (
  rest_within,
  rest_falls,
  rest_asks,
  joined_in,
  joined_falls,
  joined_asks,
  put_place,
  parted_told,
  parted_remainder,
  parted_joined,
  whole_part,
  whole_words,
  several,
  long_three,
  rules,
)

pub ruleset words_laws = (held_start, word_falls, word_asks, held_less, words_turn, words_bad, words_told, long_two, rules)
