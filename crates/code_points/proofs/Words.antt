-- What stands in a set while a well-formed word is spelled by an accepted pack, and in its answer, is in the order of code points. Assumes nothing.
use Rattle.std.specs.Prelude.{None}
use mathlib.Core.Path.{◌≡◌}
use mathlib.Core.Bool.{Bool}
use mathlib.Core.List.{List}
use Prim.Native.Nat.{ℕ, zero, suc}
use lib.ListN.{take}
use Rattle.letters.specs.Reading.{first_ill}
use Rattle.languages.specs.declared.sets.LanguageSet.{LanguageSet}
use Rattle.pack.specs.Packs.{Pack, pack_of, accepted}
use Rattle.choices.specs.Texts.{Text}
use Rattle.choices.specs.Apply.{Entry, texts_of, start}
use Rattle.phoneme_builder.specs.Sets.{Spelling}
use Rattle.phoneme_builder.specs.Sets as sets
use Rattle.rule_index.specs.Matching.{first_match}
use Rattle.phoneme_builder.specs.Passes.{turns_of, Ran, ran, run, final_pass, word_of}
use Rattle.engine.specs.Calls.{list_numbered}
use Rattle.code_points.specs.CodePoints.{AllWellFormed, InCodeOrder}
use Rattle.code_points.proofs.Bytes.{formed_of}
use Rattle.code_points.proofs.Cuts.{Every, none, more}
use Rattle.code_points.proofs.Sets.{ProperSpelling, in_code_order, every_of}
use Rattle.code_points.proofs.Passes.{ProperRun, run_proper, start_proper, turns_formed, final_proper, word_proper}
use Rattle.code_points.proofs.Packs.{sound_list}

run_in_order : {r : Ran} {l : List Entry} {up : Bool} → ProperRun r → r ≡ ran l up → InCodeOrder (texts_of l)
unfolding ProperRun
run_in_order {l = l} w e = in_code_order (texts_of l) (rw e at w)

spelling_in_order : {x : Spelling} {l : List Entry} {up : Bool} → ProperSpelling x → x ≡ sets.texts l up → InCodeOrder (texts_of l)
unfolding ProperSpelling
spelling_in_order {l = l} w e = in_code_order (texts_of l) (rw e at w)

every_take : {A : Type 0} {P : A → Type 0} {l : List A} (n : ℕ) → Every P l → Every P (take n l)
every_take zero e = none
every_take (suc n) none = none
every_take (suc n) (more p e) = more p (every_take n e)

-- by any lists of the pack, `names` being any bytes
module _ (s : List ℕ) (p : Pack) (good : pack_of s ≡ accepted p) (names : List ℕ) (limit : ℕ) (l : List Entry) (up : Bool) where
  -- after each turn of a pass over a word, main or final
  pub pass_in_order : (list turn : ℕ) (final : Bool) (g : LanguageSet) (word : Text) → first_ill word ≡ None
      → run final limit (take turn (turns_of names (first_match (list_numbered p list)) word)) (start g) ≡ ran l up → InCodeOrder (texts_of l)
  pass_in_order list turn final g word f e =
      run_in_order (run_proper final limit (start g) (every_take turn (turns_formed names _ (sound_list s p good list) word (formed_of word f))) (start_proper g)) e

  -- after a final pass
  pub final_in_order : (list : ℕ) (old : List Entry) → AllWellFormed (texts_of old) → final_pass limit names (first_match (list_numbered p list)) old ≡ sets.texts l up
      → InCodeOrder (texts_of l)
  final_in_order list old f e = spelling_in_order (final_proper limit names _ (sound_list s p good list) old (every_of (texts_of old) f)) e

  -- in a word's answer
  pub word_in_order : (main common own : ℕ) (g : LanguageSet) (word : Text) → first_ill word ≡ None
      → word_of limit names (first_match (list_numbered p main)) (first_match (list_numbered p common)) (first_match (list_numbered p own)) g word ≡ sets.texts l up → InCodeOrder (texts_of l)
  word_in_order main common own g word f e =
      spelling_in_order (word_proper limit names _ _ _ (sound_list s p good main) (sound_list s p good common) (sound_list s p good own) g word (formed_of word f)) e
