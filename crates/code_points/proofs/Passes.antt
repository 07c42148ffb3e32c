-- A pass over a well-formed word stands between two characters at each turn, so what it does to a set of texts is proper. Assumes nothing.
use mathlib.Core.Path.{◌≡◌, refl}
use mathlib.Core.Bool.{Bool, true, false}
use mathlib.Core.List.{List, [], ◌∷◌, ◌++◌, map}
use Prim.Native.Nat.{ℕ, zero, suc, ◌+◌, ◌≤◌, max}
use native.Mathlib.Omega.{arith}
use lib.Dec.{ltb}
use lib.ListN.{length, take, drop, drop_of_length-le}
use Rattle.letters.specs.Utf8.{decode_at}
use Rattle.letters.specs.declared.utf8.Step.{Step}
use Rattle.letters.specs.declared.utf8.Step.TheVariants.{Char, Ill, End}
use Rattle.letters.proofs.Utf8Laws.{end_at}
use Rattle.languages.specs.declared.sets.LanguageSet.{LanguageSet}
use Rattle.phonemes.specs.Expressions.{pieces_in, text_of, set_of}
use Rattle.rule_lines.specs.Rules.{Rule}
use Rattle.choices.specs.Texts.{Text}
use Rattle.choices.specs.Apply.{Entry, texts_of, NextSet, overlong, next_set, apply, start}
use Rattle.choices.specs.Choices.{Increasing, First}
use Rattle.phoneme_builder.specs.Sets.{Spelling, refusal}
use Rattle.phoneme_builder.specs.Sets as sets
use Rattle.rule_index.specs.Matching.{Match, none as nothing, by, Matcher}
use Rattle.phoneme_builder.specs.Passes.{offered, Turn, rule, letter, step_length, turn_on, turns_from, turns_of, Ran, too_long, ran, flagged, applied, after_letter, unmatched, run, raised, on_ran, final_text, final_from, final_pass, then, main_of, word_of}
use Rattle.code_points.proofs.Bytes.{after, Formed, formed_rest, char_formed, char_rest, ill_not}
use Rattle.code_points.proofs.Cuts.{Every, none, more, text_formed}
use Rattle.code_points.proofs.Sets.{Proper, ProperSet, FormedAlternative, apply_proper, appended_proper, ProperSpelling, united_proper, empty_proper}
use Rattle.base.proofs.PickLaws.{pick_all}

-- ---- turns

-- the rule's pattern stands at a place and is passed; its strings are well formed
pub record Fitting (r : Rule) (word : Text) (place : ℕ) : Type 0 where
  pub stands : r.pattern ++ drop (place + max 1 (length r.pattern)) word ≡ drop place word
  pub pattern : Formed r.pattern
  pub pieces : Every Formed (pieces_in r.expression)

fitting_rest : {r : Rule} {word : Text} {place : ℕ} → Fitting r word place → Formed (drop place word) → Formed (drop (place + max 1 (length r.pattern)) word)
fitting_rest {r} {word} {place} w f = formed_rest r.pattern (drop (place + max 1 (length r.pattern)) word) w.pattern (rw w.stands f)

unfoldable pub Sound : Matcher → Type 0
Sound rules = (word : Text) (place : ℕ) (r : Rule) → rules word place ≡ by r → Fitting r word place

unfoldable pub FormedTurn : Turn → Type 0
FormedTurn (rule alts) = Every FormedAlternative alts
FormedTurn (letter c) = Formed c

offered_formed : (names : List ℕ) {ps : List Text} → Every Formed ps → Every FormedAlternative (map (λ (a : List ℕ). record { text = text_of a; langs = set_of names a }) ps)
offered_formed names none = none
offered_formed names (more {x} f e) = more (text_formed x f) (offered_formed names e)

-- the character at a place, and what follows it
letter_formed : (word : Text) (place : ℕ) (x : Step) → decode_at word place ≡ x → Formed (drop place word)
    → Formed (take (step_length x) (drop place word)) × Formed (drop (place + step_length x) word)
unfolding step_length after
letter_formed word place (Char k n) e f = (char_formed word place k n e, char_rest word place k n e f)
letter_formed word place Ill e f = absurd (ill_not word place e f)
letter_formed word place End e f =
    let h : length word ≤ place = end_at word place e in
    (rw (drop_of_length-le word h) refl, rw (drop_of_length-le word {i = place + 1} (omega arith)) refl)

module _ (names : List ℕ) (rules : Matcher) (sound : Sound rules) (word : Text) where
  turn_formed : (place : ℕ) (m : Match) (rest : ℕ → List Turn) → rules word place ≡ m → Formed (drop place word)
      → ((q : ℕ) → Formed (drop q word) → Every FormedTurn (rest q)) → Every FormedTurn (turn_on names m word place rest)
  unfolding turn_on FormedTurn Sound offered
  turn_formed place (by r) rest e f k =
      let w = sound word place r e in
      more (offered_formed names w.pieces) (k _ (fitting_rest w f))
  turn_formed place nothing rest e f k =
      let w = letter_formed word place (decode_at word place) refl f in
      more w.0 (k _ w.1)

  from_formed : (fuel place : ℕ) → Formed (drop place word) → Every FormedTurn (turns_from fuel names rules word place)
  unfolding turns_from
  from_formed zero place f = none
  from_formed (suc fuel) place f =
      pick_all (Every FormedTurn) (ltb place (length word)) _ _ (turn_formed place (rules word place) _ refl f (λ q g. from_formed fuel q g)) none

  pub turns_formed : Formed word → Every FormedTurn (turns_of names rules word)
  unfolding turns_of
  turns_formed f = from_formed (length word) 0 f

-- ---- running them

unfoldable pub ProperRun : Ran → Type 0
ProperRun too_long = Unit {0}
ProperRun (ran l flag) = Proper (texts_of l)

flagged_proper : (up : Bool) (r : Ran) → ProperRun r → ProperRun (flagged up r)
unfolding flagged ProperRun
flagged_proper up too_long w = tt
flagged_proper up (ran l flag) w = w

applied_proper : (limit : ℕ) (o : NextSet) (rest : List Entry → Ran) → ProperSet o → ((l : List Entry) → Proper (texts_of l) → ProperRun (rest l)) → ProperRun (applied limit o rest)
unfolding applied ProperSet ProperRun
applied_proper limit overlong rest w k = tt
applied_proper limit (next_set l) rest w k = flagged_proper _ (rest l) (k l w)

after_proper : (o : NextSet) (rest : List Entry → Ran) → ProperSet o → ((l : List Entry) → Proper (texts_of l) → ProperRun (rest l)) → ProperRun (after_letter o rest)
unfolding after_letter ProperSet ProperRun
after_proper overlong rest w k = tt
after_proper (next_set l) rest w k = k l w

unmatched_proper : (final : Bool) (c : Text) (l : List Entry) → Formed c → Proper (texts_of l) → ProperSet (unmatched final c l)
unfolding unmatched ProperSet
unmatched_proper false c l f w = w
unmatched_proper true c l f w = appended_proper c l f w.formed

pub run_proper : (final : Bool) (limit : ℕ) {turns : List Turn} (l : List Entry) → Every FormedTurn turns → Proper (texts_of l) → ProperRun (run final limit turns l)
unfolding run FormedTurn ProperRun
run_proper final limit l none w = w
run_proper final limit l (more {x = rule alts} {l = turns} f e) w =
    applied_proper limit (apply limit alts l) _ (apply_proper limit alts l f w.formed) (λ m v. run_proper final limit m e v)
run_proper final limit l (more {x = letter c} {l = turns} f e) w =
    after_proper (unmatched final c l) _ (unmatched_proper final c l f w) (λ m v. run_proper final limit m e v)

pub start_proper : (g : LanguageSet) → Proper (texts_of (start g))
unfolding Increasing First after
start_proper g = record { formed = more refl none; increasing = (tt, tt) }

-- ---- the passes of a word

raised_proper : (up : Bool) (x : Spelling) → ProperSpelling x → ProperSpelling (raised up x)
unfolding raised ProperSpelling
raised_proper up (refusal k) w = tt
raised_proper up (sets.texts l flag) w = w

ran_proper : (g : LanguageSet) (r : Ran) (l : List Entry) (rest : List Entry → Spelling) → ProperRun r → Proper (texts_of l)
    → ((m : List Entry) → Proper (texts_of m) → ProperSpelling (rest m)) → ProperSpelling (on_ran g r l rest)
unfolding on_ran ProperRun ProperSpelling
ran_proper g too_long l rest v w k = tt
ran_proper g (ran new flag) l rest v w k = raised_proper flag _ (united_proper g new l rest v.formed w k)

then_proper : (x : Spelling) (rest : List Entry → Spelling) → ProperSpelling x → ((l : List Entry) → Proper (texts_of l) → ProperSpelling (rest l)) → ProperSpelling (then x rest)
unfolding then ProperSpelling
then_proper (refusal k) rest w f = tt
then_proper (sets.texts l flag) rest w f = raised_proper flag (rest l) (f l w)

main_proper : (r : Ran) → ProperRun r → ProperSpelling (main_of r)
unfolding main_of ProperRun ProperSpelling
main_proper too_long w = tt
main_proper (ran l flag) w = w

module _ (limit : ℕ) (names : List ℕ) where
  pass_proper : (final : Bool) (rules : Matcher) → Sound rules → (g : LanguageSet) (word : Text) → Formed word → ProperRun (run final limit (turns_of names rules word) (start g))
  pass_proper final rules sound g word f = run_proper final limit (start g) (turns_formed names rules sound word f) (start_proper g)

  module _ (rules : Matcher) (sound : Sound rules) where
    final_from_lem : (old l : List Entry) → Every Formed (texts_of old) → Proper (texts_of l) → ProperSpelling (final_from limit names rules old l)
    unfolding final_from final_text ProperSpelling
    final_from_lem [] l f w = w
    final_from_lem (e ∷ old) l (more g f) w =
        ran_proper e.langs _ l _ (pass_proper true rules sound e.langs e.text g) w (λ m v. final_from_lem old m f v)

    pub final_proper : (old : List Entry) → Every Formed (texts_of old) → ProperSpelling (final_pass limit names rules old)
    unfolding final_pass
    final_proper old f = final_from_lem old [] f empty_proper

  pub word_proper : (main common language : Matcher) → Sound main → Sound common → Sound language → (g : LanguageSet) (word : Text) → Formed word
      → ProperSpelling (word_of limit names main common language g word)
  unfolding word_of
  word_proper main common language a b c g word f =
      then_proper (main_of (run false limit (turns_of names main word) (start g))) _ (main_proper _ (pass_proper false main a g word f))
      (λ l v. then_proper (final_pass limit names common l) _ (final_proper common b l v.formed) (λ m u. final_proper language c m u.formed))
