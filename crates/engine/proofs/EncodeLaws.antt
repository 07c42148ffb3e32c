-- A word spelled by the lists of an accepted pack, and a name by its parts. Assumes nothing.
use mathlib.Core.Path.{◌≡◌, refl, sym, ap, ◌∙◌}
use mathlib.Core.Bool.{Bool, true, false}
use mathlib.Core.List.{List, [], ◌∷◌}
use Prim.Native.Nat.{ℕ, ◌+◌, ◌-◌, ◌*◌, ◌≤◌, ◌<◌, min}
use native.Mathlib.Omega.{arith}
use lib.ListN.{length, take, drop}
use lib.Seq.{length-sets}
use borrow.Author.Tests.{le-leb}
use Rattle.base.specs.Pick.{pick}
use Rattle.languages.specs.Sets.{single_of}
use Rattle.languages.specs.declared.sets.LanguageSet.{LanguageSet}
use Rattle.languages.proofs.Laws.{single_below}
use Rattle.writing.specs.InnerContracts.{cap, Put}
use Rattle.name_parts.specs.Words.{word_at}
use Rattle.prefixes.specs.Prefixes.{split_of}
use Rattle.name_parts.specs.Joining.{joined_words}
use Rattle.prefixes.specs.declared.prefixes.NameType.{NameType}
use Rattle.prefixes.specs.declared.prefixes.NameType.TheVariants.{Ashkenazi, Generic, Sephardic}
use Rattle.prefixes.specs.declared.prefixes.Prefix.{Prefix}
use Rattle.prefixes.specs.declared.prefixes.Prefix.TheVariants.{Whole}
use Rattle.name_parts.proofs.Laws.{joined_short}
use Rattle.base.proofs.Arms.{clash}
use Rattle.writing.proofs.Laws.{put_fits, put_long, slice_room}
use Rattle.pack.specs.Packs.{strings_length}
use Rattle.pack.proofs.Laws.{languages_few, guess_told_lem, guess_below}
use Rattle.choices.specs.Texts.{Text}
use Rattle.refusals.specs.Numbers.{number_of}
use Rattle.refusals.specs.declared.Refusal.{Refusal}
use Rattle.refusals.specs.declared.Refusal.TheVariants.{TextTooLong, TooManyTexts}
use Rattle.refusals.proofs.NumberLaws.{number_one}
use Rattle.phoneme_builder.specs.Sets.{Spelling, refusal, texts}
use Rattle.phoneme_builder.specs.Passes.{word_of, joined}
use Rattle.rule_index.specs.InnerContracts.{pack_in, matcher}
use Rattle.phoneme_builder.specs.InnerContracts.{WordIs, placed, placed_as, spellings_in, answer_of, answered, names_in}
use Rattle.phoneme_builder.specs.InnerContracts as built
use Rattle.phoneme_builder.specs.declared.words.Worded.{Worded}
use Rattle.phoneme_builder.specs.declared.words.Worded.TheVariants.{Done, TooLong, TooMany}
use Rattle.engine.specs.Spelling.{unspelt, spelt_as, or, one_part, parted_as, spelled_name, afresh_by}
use Rattle.engine.specs.Calls.{language_by, language_of, list_numbered, spelt_by, word_by_lists, steps_by}
use Rattle.engine.specs.InnerContracts.{CallReady, with_start, started_by, steps_at, start_at, spelt_word, spelt_part, spelt_name, spelt_afresh, list_numbers, end_of, WroteIs, SpeltInto, whole_by, SpeltWhole, ended_at, both_of, HyphenAt}
use Rattle.std.specs.Prelude.{Result, Ok, Err, Option, Some, None}
use Rattle.engine.specs.declared.call.Call.{Call}
use Rattle.engine.specs.declared.encode.AnswerEnd.{AnswerEnd}
use Rattle.engine.specs.declared.encode.Lists.{Lists}
use Rattle.base.proofs.PickLaws.{pick_true, pick_false, pick_all, pick_map}
use Rattle.languages.specs.InnerContracts.{BitsBelow}
use Rattle.pack.specs.InnerContracts.{guessed_at}
use borrow.Author.Rules.{rules}

-- ---- what a word's answer tells

module _ {o o' : List ℕ} {at : ℕ} {r : Result AnswerEnd Refusal} (room : length o < cap) where
  whole_good : (t : Text) (f : Bool) → r ≡ Ok (record { at = min (at + length t) cap; flag = f }) → o' ≡ placed o at t → SpeltWhole (spelt_as t f) o o' at r
  unfolding end_of WroteIs whole_by placed
  whole_good t f e eo = record {
    told = record {
      told = e;
      is = record {
        ends = refl;
        wrote = λ h. eo ∙ pick_true _ _ _ (le-leb _ _ h);
        same = ap length eo ∙ pick_all (λ (l : List ℕ). length l ≡ length o) _ _ _ (length-sets o at t) refl;
        room = room;
      };
    };
    whole = eo;
  }

  whole_bad : (a why : Refusal) → number_of a ≡ number_of why → r ≡ Err a → o' ≡ o → SpeltWhole (unspelt why) o o' at r
  unfolding end_of WroteIs whole_by
  whole_bad a why e w eo = record { told = record { told = w ∙ ap Err (number_one a why e); is = tt }; whole = eo }

  word_told : (x : Spelling) (answer : Worded) → answer_of answer ≡ answered x → o' ≡ placed_as x o at → r ≡ ended_at answer at
      → SpeltWhole (spelt_by x) o o' at r
  unfolding answer_of answered placed_as ended_at spelt_by
  word_told (texts l flag) (Done n f) e b w =
      let en : n ≡ length (joined (spellings_in l)) = cc in
      let ef : f ≡ flag = cc in
      whole_good (joined (spellings_in l)) flag (w ∙ (λ i. Ok (record { at = min (at + en i) cap; flag = ef i }))) b
  word_told (texts l flag) TooLong e b w = clash (cc)
  word_told (texts l flag) TooMany e b w = clash (cc)
  word_told (refusal k) (Done n f) e b w = clash (cc)
  word_told (refusal k) TooLong e b w = whole_bad TextTooLong k (cc) w b
  word_told (refusal k) TooMany e b w = whole_bad TooManyTexts k (cc) w b

-- ---- a call that is ready

language_by_lem : (n : ℕ) (g : LanguageSet) (x : Option ℕ) (other : ℕ) → x ≡ single_of g → n ≤ 32 → BitsBelow n g → other < n → language_by x other < n
unfolding language_by
language_by_lem n g (Some l) other e h k o = single_below n g l _ h k e refl
language_by_lem n g None other e h k o = o

module _ {s : List ℕ} {table : List (List ℕ)} {call : Call} (w : CallReady s table call) where
  pub few : call.languages ≤ 32
  few = omega (arith, w.pack.languages_are, languages_few s (pack_in s) call.guesses w.pack.is w.pack.guesses_are)

  module _ {l : ℕ} (el : l ≡ language_by (single_of call.set) call.any) where
    pub language_below : l < call.languages
    language_below = rw el (language_by_lem call.languages call.set (single_of call.set) call.any refl few w.below w.pack.any_below)

    language_is : language_of (pack_in s) call.set ≡ l
    unfolding language_of
    language_is = ap (language_by (single_of call.set)) (sym w.pack.any_is) ∙ sym el

    module _ (word : Text) where
      abbrev spelled_word : Lists → Spelling
      spelled_word x =
          word_of call.limit (take (call.guesses - 1) (drop 1 s)) (matcher s table x.main) (matcher s table x.common)
          (matcher s table x.own) call.set word

      word_is : spelt_word s call word ≡ spelt_by (spelled_word (list_numbers call l))
      unfolding spelt_word steps_at steps_by word_by_lists list_numbers list_numbered
      word_is =
          let names : call.guesses - 1 ≡ strings_length (pack_in s).names = omega (arith, w.pack.guesses_are) in
          rw (
            language_is,
            names,
            w.pack.finds (3 * l),
            w.pack.finds (3 * call.languages + call.rules),
            w.pack.finds (3 * l + 1 + call.rules),
            w.pack.languages_are,
          )

      pub word_spelt : {o o' : List ℕ} {at : ℕ} {r : Result AnswerEnd Refusal} {answer : Worded} {lists : Lists} → lists ≡ list_numbers call l → length o * 1 < cap
          → WordIs (built.word_by s table (record {
            main = lists.main;
            common = lists.common;
            own = lists.own;
            limit = call.limit;
            guesses = call.guesses;
            set = call.set;
          }) word) o o' at answer
          → r ≡ ended_at answer at → SpeltWhole (spelt_word s call word) o o' at r
      unfolding names_in
      word_spelt {o = o} e room q ended =
          let capped : min call.limit 256 ≡ call.limit = omega (arith, w.few) in
          let v : WordIs (spelled_word (list_numbers call l)) _ _ _ _ = rw (e, capped) at q in
          rw word_is (word_told (slice_room o room) (spelled_word (list_numbers call l)) _ v.result v.buffer ended)

  -- the same call with the set that a name starts with
  module _ (t : Text) {by : Call} (e : by ≡ started_by call (guessed_at s call.guesses call.languages t)) where
    pub ready_started : CallReady s table by
    unfolding started_by with_start
    ready_started = rw e (record {
      pack = w.pack;
      few = w.few;
      known = w.known;
      below = pick_all (BitsBelow call.languages) call.fresh _ _ (guess_below s call.guesses call.languages t _ refl few) w.below;
    })

    guess_is : guessed_at s call.guesses call.languages t ≡ (steps_at s call).guess t
    unfolding steps_at steps_by
    guess_is =
        ap (λ (n : ℕ). guessed_at s call.guesses n t) w.pack.languages_are
        ∙ guess_told_lem s (pack_in s) call.guesses w.pack.is w.pack.guesses_are t

    word_started : (x : Text) → spelt_word s by x ≡ (steps_at s call).word (start_at s call t) x
    unfolding spelt_word steps_at start_at started_by with_start
    word_started x = rw (e, guess_is)

    pub name_started : (x : Text) → spelt_name s by x ≡ spelled_name (steps_at s call) (start_at s call t) x
    unfolding spelt_name steps_at start_at started_by with_start pick
    name_started x = rw (e, guess_is)

    module _ (x : Text) {o o' : List ℕ} {at : ℕ} {r : Result AnswerEnd Refusal} where
      part_by : (u : Text) → u ≡ x → pick call.concat (joined_words call.kind t) (word_at t 0) ≡ u → SpeltWhole (spelt_word s by x) o o' at r
          → SpeltWhole (spelt_part s call t) o o' at r
      unfolding spelt_part one_part steps_at steps_by
      part_by u ux eu q =
          let same : spelt_part s call t ≡ spelt_word s by x =
          sym (pick_map ((steps_at s call).word (start_at s call t)) call.concat (joined_words call.kind t) (word_at t 0))
          ∙ rw (eu, ux, ← word_started x) in
          rw same q

      pub part_joined : call.concat ≡ true → x ≡ joined_words call.kind t → SpeltWhole (spelt_word s by x) o o' at r
          → SpeltWhole (spelt_part s call t) o o' at r
      part_joined h ex = part_by _ (sym ex) (pick_true _ _ _ h)

      pub part_only : call.concat ≡ false → x ≡ word_at t 0 → SpeltWhole (spelt_word s by x) o o' at r → SpeltWhole (spelt_part s call t) o o' at r
      part_only h ex = part_by _ (sym ex) (pick_false _ _ _ h)

-- ---- spelled afresh

module _ (s : List ℕ) (call : Call) {again : Call} (e : again ≡ with_start call true call.set) where
  pub ready_afresh : {table : List (List ℕ)} → CallReady s table call → CallReady s table again
  unfolding with_start
  ready_afresh w = rw e (record { pack = w.pack; few = w.few; known = w.known; below = w.below })

  pub afresh_told : (t : Text) {o o' : List ℕ} {at : ℕ} {r : Result AnswerEnd Refusal} → SpeltInto (spelt_name s again t) o o' at r
      → SpeltInto (spelt_afresh s call t) o o' at r
  unfolding spelt_name spelt_afresh with_start steps_at start_at afresh_by pick
  afresh_told t q = rw e at q

-- ---- the small functions, as `search` applies them

pub or_yes : (t b : Bool) → t ≡ true → true ≡ or t b
unfolding or
or_yes true b e = refl
or_yes false b e = clash (cc)

pub or_rest : (t b : Bool) → t ≡ false → b ≡ or t b
unfolding or
or_rest true b e = clash (cc)
or_rest false b e = refl

pub both_flag : (first second : AnswerEnd) (at : ℕ) (flag : Bool) → flag ≡ or first.flag second.flag → record { at = at; flag = flag } ≡ both_of first second at
both_flag first second at flag e = ap (λ (f : Bool). record { at = at; flag = f }) e

module _ (a : Worded) (at : ℕ) where
  pub ended_done : (n p : ℕ) (f : Bool) → a ≡ Done n f → p ≡ min (at + n) cap → Ok (record { at = p; flag = f }) ≡ ended_at a at
  unfolding ended_at
  ended_done n p f e h = rw (e, h) refl

  pub ended_long : a ≡ TooLong → Err TextTooLong ≡ ended_at a at
  unfolding ended_at
  ended_long e = rw e refl

  pub ended_many : a ≡ TooMany → Err TooManyTexts ≡ ended_at a at
  unfolding ended_at
  ended_many e = rw e refl

pub hyphen_none : (o : List ℕ) (at p : ℕ) → p ≡ 0 → HyphenAt o o at p at
hyphen_none o at p e = record { first = λ h. (refl, refl); later = λ h. absurd (h e) }

pub hyphen_put : (o o' : List ℕ) (at p r : ℕ) → (p ≡ 0 → ⊥) → Put o o' at r (45 ∷ []) → HyphenAt o o' at p r
hyphen_put o o' at p r h x = record { first = λ e. absurd (h e); later = λ k. x }

module _ (g : LanguageSet) (other : ℕ) (x : Option ℕ) (e : x ≡ single_of g) where
  pub language_one : (l : ℕ) → x ≡ Some l → l ≡ language_by (single_of g) other
  unfolding language_by
  language_one l q = rw (← e, q)

  pub language_any : x ≡ None → other ≡ language_by (single_of g) other
  unfolding language_by
  language_any q = rw (← e, q)

module _ (kind : NameType) (name : Text) where
  pub part_ashkenazi : kind ≡ Ashkenazi → Whole ≡ parted_as kind name
  unfolding parted_as
  part_ashkenazi e = rw e refl

  pub part_sephardic : kind ≡ Sephardic → Whole ≡ parted_as kind name
  unfolding parted_as
  part_sephardic e = rw e refl

  pub part_generic : (x : Prefix) → kind ≡ Generic → x ≡ split_of name → x ≡ parted_as kind name
  unfolding parted_as
  part_generic x e q = rw e q

pub ruleset encode_laws = (
  or_yes,
  or_rest,
  both_flag,
  ended_done,
  ended_long,
  ended_many,
  hyphen_none,
  hyphen_put,
  language_one,
  language_any,
  part_ashkenazi,
  part_sephardic,
  part_generic,
  rules,
)

-- ---- a text at the front of a local array

module _ {o o' t : List ℕ} {n : ℕ} (x : Put o o' 0 n t) (h : length t ≤ 96) (room : length o ≡ 96) where
  pub front_in : n ≤ length o'
  front_in = omega (arith, x.ends, room, put_long _ _ _ _ _ x)

  pub front_is : take (n - 0) (drop 0 o') ≡ t
  front_is =
      let k : n - 0 ≡ n = omega arith in
      ap (λ (m : ℕ). take m o') k ∙ (put_fits x (omega (arith, room))).1

-- the words of a name that is short enough for it
pub joined_few : (kind : NameType) (name : Text) → length name ≤ 96 → length (joined_words kind name) ≤ 96
joined_few kind name h = omega (arith, joined_short kind name)

pub ruleset part_laws = (ready_started, part_joined, part_only, front_in, front_is, joined_few, rules)
