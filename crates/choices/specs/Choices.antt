-- The choices behind the spellings (demand 3).
use Rattle.std.specs.Prelude.{ℕ, suc, ◌≡◌, false, List, [], ◌∷◌, ◌++◌}
use Rattle.choices.specs.Texts.{Text, by_order}
use Rattle.letters.specs.Order.{order_of}
use Rattle.std.specs.declared.cmp.Ordering.TheVariants.{Less}
use Rattle.languages.specs.Sets.{narrowed, is_empty}
use Rattle.choices.specs.Apply.{Alternative, Places, Entry}
use Rattle.languages.specs.declared.sets.LanguageSet.{LanguageSet}

infix 4 ◌∈◌
pub data ◌∈◌ : Alternative → List Alternative → Type 0 where
  here : {a : Alternative} {alts : List Alternative} → a ∈ (a ∷ alts)
  there : {a b : Alternative} {alts : List Alternative} → a ∈ alts → a ∈ (b ∷ alts)

-- a choice, from the languages g: one alternative at each place, no narrowing leaving an empty set
pub data Choice : LanguageSet → Places → Type 0 where
  end : {g : LanguageSet} → Choice g []
  choose : {g : LanguageSet} {alts : List Alternative} {places : Places} (a : Alternative)
      → a ∈ alts → is_empty (narrowed g a.langs) ≡ false → Choice (narrowed g a.langs) places → Choice g (alts ∷ places)

-- what it spells
unfoldable pub spelt : {g : LanguageSet} {places : Places} → Choice g places → Text
spelt end = []
spelt (choose a m ne c) = a.text ++ spelt c

-- the languages that it leaves
unfoldable pub leaves : {g : LanguageSet} {places : Places} → Choice g places → LanguageSet
leaves {g} end = g
leaves (choose a m ne c) = leaves c

-- the text t stands in l, with the languages g
pub data Holds : List Entry → Text → LanguageSet → Type 0 where
  first : {e : Entry} {l : List Entry} {t : Text} {g : LanguageSet} → e.text ≡ t → e.langs ≡ g → Holds (e ∷ l) t g
  later : {e : Entry} {l : List Entry} {t : Text} {g : LanguageSet} → Holds l t g → Holds (e ∷ l) t g

-- each text stands before the next
unfoldable pub First : Text → List Text → Type 0
First s [] = Unit {0}
First s (t ∷ ts) = order_of s t ≡ Less

unfoldable pub Increasing : List Text → Type 0
Increasing [] = Unit {0}
Increasing (t ∷ ts) = First t ts × Increasing ts

-- how often t stands among the texts
unfoldable pub times : Text → List Text → ℕ
times t [] = 0
times t (x ∷ ts) = by_order (order_of x t) (times t ts) (suc (times t ts)) (times t ts)
