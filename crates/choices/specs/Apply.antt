-- Step 7: the set of spellings, and applying a rule to it.
use Rattle.std.specs.Prelude.{ℕ, List, [], ◌∷◌, ◌++◌, map, length, leb, ltb}
use Rattle.base.specs.Pick.{pick}
use Rattle.choices.specs.Texts.{Text, by_order}
use Rattle.letters.specs.Order.{order_of}
use Rattle.languages.specs.Sets.{narrowed, is_empty}
use Rattle.languages.specs.declared.sets.LanguageSet.{LanguageSet}

-- what a rule offers
pub record Alternative : Type 0 where
  pub text : Text
  pub langs : LanguageSet

-- the alternatives of the rules that matched, a list for each place in order
abbrev pub Places : Type 0
Places = List (List Alternative)

-- what a set of spellings holds, in the order of the texts
pub record Entry : Type 0 where
  pub text : Text
  pub langs : LanguageSet

abbrev pub texts_of : List Entry → List Text
texts_of l = map (λ (e : Entry). e.text) l

-- a set, or refusal 7
pub data NextSet : Type 0 where
  overlong : NextSet
  next_set : List Entry → NextSet

-- e in its place; an equal text already there stays as it was
unfoldable pub insert : Entry → List Entry → List Entry
insert e [] = e ∷ []
insert e (x ∷ l) = by_order (order_of x.text e.text) (x ∷ insert e l) (x ∷ l) (e ∷ x ∷ l)

abbrev pub join : Entry → Alternative → Entry
join e a = record { text = e.text ++ a.text; langs = narrowed e.langs a.langs }

-- under one old text the alternatives in order, where the narrowed set is not empty
unfoldable pub under : Entry → List Alternative → List Entry
under e [] = []
under e (a ∷ alts) = pick (is_empty (narrowed e.langs a.langs)) (under e alts) (join e a ∷ under e alts)

-- the old texts in order, under each the alternatives in order
unfoldable pub candidates : List Entry → List Alternative → List Entry
candidates [] alts = []
candidates (e ∷ old) alts = under e alts ++ candidates old alts

-- each enters, in order; when the count reaches the limit, stop; a text over 128 bytes that would enter refuses
unfoldable pub enter : ℕ → List Entry → List Entry → NextSet
enter limit [] l = next_set l
enter limit (c ∷ cs) l =
    pick (leb limit (length l)) (next_set l) (pick (ltb 128 (length c.text)) overlong (enter limit cs (insert c l)))

-- step 7
unfoldable pub apply : ℕ → List Alternative → List Entry → NextSet
apply limit alts old = enter limit (candidates old alts) []

-- one empty text with the set
abbrev pub start : LanguageSet → List Entry
start g = record { text = []; langs = g } ∷ []
