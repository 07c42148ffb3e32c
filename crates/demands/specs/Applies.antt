-- The applies of a word's passes, and where one of them reached the limit (01, Spelling a name: "The flag is up exactly when some apply of the call
-- ended with a count at or over the limit").
use Rattle.std.specs.Prelude.{ℕ, ◌≤◌, ◌≡◌, Bool, true, false, length}
use mathlib.Core.List.{List, ◌∷◌, ◌++◌, Memᴰ}
use Rattle.languages.specs.declared.sets.LanguageSet.{LanguageSet}
use Rattle.choices.specs.Texts.{Text}
use Rattle.choices.specs.Apply.{Alternative, Entry, next_set, apply, start}
use Rattle.phoneme_builder.specs.Sets.{texts}
use Rattle.rule_index.specs.Matching.{Matcher}
use Rattle.phoneme_builder.specs.Passes.{Turn, rule, turns_of, ran, run, final_pass}

-- a flag that is up exactly when P holds
pub record UpWhen (flag : Bool) (P : Type 0) : Type 0 where
  pub up : flag ≡ true → P
  pub raised_by : P → flag ≡ true

-- an apply of a pass from the texts l, and the texts that it ended with: some turn, which the turns before it led to
pub record ApplyOf (final : Bool) (limit : ℕ) (turns : List Turn) (l new : List Entry) : Type 0 where
  pub before : List Turn
  pub alts : List Alternative
  pub behind : List Turn
  pub turns_are : turns ≡ before ++ rule alts ∷ behind
  pub old : List Entry
  pub up : Bool
  pub came : run final limit before l ≡ ran old up
  pub ended : apply limit alts old ≡ next_set new

-- "ended with a count at or over the limit"
pub record Reached (final : Bool) (limit : ℕ) (turns : List Turn) (l : List Entry) : Type 0 where
  pub new : List Entry
  pub by : ApplyOf final limit turns l new
  pub many : limit ≤ length new

-- in a final pass, of some old text
pub record FinalReached (limit : ℕ) (names : List ℕ) (rules : Matcher) (old : List Entry) : Type 0 where
  pub text : Entry
  pub among : Memᴰ text old
  pub reached : Reached true limit (turns_of names rules text.text) (start text.langs)

-- in one of a word's passes
pub data WordReached (limit : ℕ) (names : List ℕ) (main common language : Matcher) (set : LanguageSet) (word : Text) : Type 0 where
  in_main : Reached false limit (turns_of names main word) (start set) → WordReached limit names main common language set word
  in_common : {l : List Entry} {up : Bool} → run false limit (turns_of names main word) (start set) ≡ ran l up
      → FinalReached limit names common l → WordReached limit names main common language set word
  in_language : {l m : List Entry} {up over : Bool} → run false limit (turns_of names main word) (start set) ≡ ran l up
      → final_pass limit names common l ≡ texts m over → FinalReached limit names language m → WordReached limit names main common language set word
