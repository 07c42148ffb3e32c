-- Demand 3 for a word: the places where a main rule matched, and what the demand says of the main pass over them.
use Rattle.std.specs.Prelude.{ℕ, ◌<◌, ◌≡◌, Bool, false, List, [], ◌∷◌, length, take}
use Rattle.languages.specs.declared.sets.LanguageSet.{LanguageSet}
use Rattle.choices.specs.Texts.{Text}
use Rattle.choices.specs.Apply.{Places, Entry, texts_of, start}
use Rattle.choices.specs.Choices.{Choice, spelt, leaves, Holds, Increasing, times}
use Rattle.phoneme_builder.specs.Passes.{Turn, rule, letter}
use Rattle.demands.specs.Applies.{ApplyOf}

-- the alternatives at each place where a rule matched; a character that none matched is no place
unfoldable pub rule_places : List Turn → Places
rule_places [] = []
rule_places (rule alts ∷ turns) = alts ∷ rule_places turns
rule_places (letter c ∷ turns) = rule_places turns

-- the spellings stayed fewer than the limit after each place
unfoldable pub StayedFewer : ℕ → LanguageSet → List Turn → Type 0
StayedFewer limit g turns = (new : List Entry) → ApplyOf false limit turns (start g) new → length new < limit

-- choices made as far as the same place that spell alike leave the same languages, whether or not they can go on
unfoldable pub AlikeAgree : LanguageSet → List Turn → Type 0
AlikeAgree g turns =
    (k : ℕ) (c d : Choice g (take k (rule_places turns))) → spelt c ≡ spelt d → leaves c ≡ leaves d

-- what demand 3 says of the spellings l and the flag after the main rules, a choice at each place where one matched
pub record Demand3OfWord (limit : ℕ) (g : LanguageSet) (turns : List Turn) (l : List Entry) (flag : Bool) : Type 0 where
  -- every spelling is the text of some choice, with the languages that it leaves
  pub sound : (t : Text) (h : LanguageSet) → Holds l t h → (c : Choice g (rule_places turns)) × (spelt c ≡ t) × (leaves c ≡ h)
  pub increasing : Increasing (texts_of l)
  -- under the two conditions every choice's text is there, exactly once, with the languages that it leaves
  pub once : StayedFewer limit g turns → AlikeAgree g turns → (c : Choice g (rule_places turns)) → times (spelt c) (texts_of l) ≡ 1
  pub leaving : StayedFewer limit g turns → AlikeAgree g turns → (c : Choice g (rule_places turns)) → Holds l (spelt c) (leaves c)
  -- the flag is down exactly where the spellings stayed fewer than the limit after each place
  pub down_fewer : flag ≡ false → StayedFewer limit g turns
  pub fewer_down : StayedFewer limit g turns → flag ≡ false
  -- so where it is down, the limit cut nothing off: every choice's text is there, exactly once, where alike choices agree
  pub down_once : flag ≡ false → AlikeAgree g turns → (c : Choice g (rule_places turns)) → times (spelt c) (texts_of l) ≡ 1
