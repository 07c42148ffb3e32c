-- Texts in the order of their code points (01, Spelling a name: "Texts compare by code points, shorter first"), and what it says of a call.
use Rattle.std.specs.Prelude.{ℕ, ◌≡◌, Bool, false, take, None}
use mathlib.Core.List.{List, Memᴰ, map}
use Rattle.letters.specs.Reading.{codes_of, first_ill}
use Rattle.languages.specs.declared.sets.LanguageSet.{LanguageSet}
use Rattle.pack.specs.Packs.{Pack}
use Rattle.choices.specs.Texts.{Text}
use Rattle.choices.specs.Apply.{Entry, texts_of, start}
use Rattle.choices.specs.Choices.{Increasing}
use Rattle.phoneme_builder.specs.Sets.{Spelling}
use Rattle.phoneme_builder.specs.Sets as sets
use Rattle.phoneme_builder.specs.Passes.{ran, run, final_pass, word_of, joined}
use Rattle.engine.specs.Spelling.{spelt_as}
use Rattle.engine.specs.Calls.{steps_of}
use Rattle.engine.specs.declared.call.Settings.{Settings}
use Rattle.answers.specs.Answers.{name_bytes, main_rules, common_rules, own_rules, main_turns}

-- "RFC 3629 decides what is UTF-8" (01, Sources): no ill-formed sequence stands in any of them
unfoldable pub AllWellFormed : List Text → Type 0
AllWellFormed ts = (t : Text) → Memᴰ t ts → first_ill t ≡ None

-- each is well formed, and its code points stand before those of the next
pub record InCodeOrder (ts : List Text) : Type 0 where
  pub formed : AllWellFormed ts
  pub increasing : Increasing (map codes_of ts)

-- the texts of a word of a call, before they are joined
unfoldable pub spelling_of : List ℕ → Pack → Settings → LanguageSet → Text → Spelling
spelling_of s p c g w = word_of c.limit (name_bytes s p) (main_rules p g) (common_rules c p) (own_rules c p g) g w

-- a word of a call: the texts after each turn of the main pass, after all of it, after the common rules, and those that its answer joins
pub record WordInCodeOrder (c : Settings) (s : List ℕ) (p : Pack) (g : LanguageSet) (w : Text) : Type 0 where
  pub each_turn : (k : ℕ) (l : List Entry) (flag : Bool) → run false c.limit (take k (main_turns s p g w)) (start g) ≡ ran l flag → InCodeOrder (texts_of l)
  pub main : List Entry
  pub main_up : Bool
  pub main_is : run false c.limit (main_turns s p g w) (start g) ≡ ran main main_up
  pub main_in_order : InCodeOrder (texts_of main)
  pub common_in_order : (l : List Entry) (flag : Bool) → final_pass c.limit (name_bytes s p) (common_rules c p) main ≡ sets.texts l flag → InCodeOrder (texts_of l)
  pub answer : List Entry
  pub up : Bool
  pub answer_is : spelling_of s p c g w ≡ sets.texts answer up
  pub joined_is : (steps_of s p c).word g w ≡ spelt_as (joined (texts_of answer)) up
  pub answer_in_order : InCodeOrder (texts_of answer)
