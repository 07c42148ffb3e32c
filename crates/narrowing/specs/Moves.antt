-- The narrowings of a choice, and packs whose rules are moved (01, Spelling a name, steps 1, 6 and 7).
use Rattle.std.specs.Prelude.{◌≡◌, false, ◌↔◌, ℕ}
use mathlib.Core.List.{List, [], ◌∷◌, Memᴰ}
use Prim.{Unit}
use Rattle.languages.specs.Sets.{narrowed, is_empty}
use Rattle.languages.specs.declared.sets.LanguageSet.{LanguageSet}
use Rattle.choices.specs.Texts.{Text}
use Rattle.choices.specs.Apply.{Places}
use Rattle.choices.specs.Choices.{Choice, end, choose}
use Rattle.pack.specs.Packs.{Guess, Pack, pack_of, accepted}
use Rattle.rule_index.specs.Matching.{first_match}
use Rattle.engine.specs.Calls.{list_numbered}

-- the sets that a choice narrows by, place by place
unfoldable pub chosen_sets : {g : LanguageSet} {places : Places} → Choice g places → List LanguageSet
chosen_sets end = []
chosen_sets (choose a m ne c) = a.langs ∷ chosen_sets c

-- "narrowed set not empty", at each narrowing of a sequence
unfoldable pub NeverEmpty : LanguageSet → List LanguageSet → Type 0
NeverEmpty s [] = Unit {0}
NeverEmpty s (x ∷ xs) = (is_empty (narrowed s x) ≡ false) × NeverEmpty (narrowed s x) xs

-- two packs of the same languages that have the same guessing rules, in any order, and in whose lists the same rule matches first at every place of
-- every text; s and t are their bytes
pub record SameFirstMatches (s t : List ℕ) : Type 0 where
  pub one : Pack
  pub other : Pack
  pub reads_one : pack_of s ≡ accepted one
  pub reads_other : pack_of t ≡ accepted other
  pub languages : one.names ≡ other.names
  pub guessing : (g : Guess) → Memᴰ g one.guesses ↔ Memᴰ g other.guesses
  pub matching : (k : ℕ) (text : Text) (place : ℕ) → first_match (list_numbered one k) text place ≡ first_match (list_numbered other k) text place
