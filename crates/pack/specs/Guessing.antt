-- Guessing the languages of a name (01, Spelling a name, step 1).
use Rattle.std.specs.Prelude.{ℕ, ◌-◌, ◌^◌, List, [], ◌∷◌, eqb}
use Rattle.std.specs.Int.Bits.{bit_and}
use Rattle.base.specs.Pick.{pick}
use Rattle.languages.specs.Sets.{without}
use Rattle.languages.specs.declared.sets.LanguageSet.{LanguageSet}
use Rattle.languages.specs.declared.sets.LanguageSet.TheVariants.{Any, SomeLanguages}
use Rattle.lang.specs.Patterns.{matches_of}
use Rattle.pack.specs.Packs.{Guess}

-- "intersect or subtract" by a rule's accept byte, where its pattern matches
unfoldable pub narrowed_by : List ℕ → Guess → ℕ → ℕ
narrowed_by name g m = pick (matches_of g.pattern name) (pick (eqb g.accept 0) (without m g.mask) (bit_and m g.mask)) m

-- "for each matching rule in order"
unfoldable pub narrowed_by_all : List ℕ → List Guess → ℕ → ℕ
narrowed_by_all name [] m = m
narrowed_by_all name (g ∷ gs) m = narrowed_by_all name gs (narrowed_by name g m)

-- "nothing left means Any"
unfoldable pub left_over : ℕ → LanguageSet
left_over m = pick (eqb m 0) Any (SomeLanguages m)

-- "start with all listed": the bits of n languages
unfoldable pub all_listed : ℕ → ℕ
all_listed n = 2 ^ n - 1

unfoldable pub guessed : ℕ → List Guess → List ℕ → LanguageSet
guessed n gs name = left_over (narrowed_by_all name gs (all_listed n))
