-- A name spelled by its prefix, by its words, or as one word (01, Spelling a name, steps 3 to 5).
use Rattle.std.specs.Prelude.{ℕ, zero, suc, Bool, true, false, List, [], ◌∷◌, ◌++◌, length, drop}
use Rattle.base.specs.Pick.{pick}
use Rattle.refusals.specs.declared.Refusal.{Refusal}
use Rattle.choices.specs.Texts.{Text}
use Rattle.languages.specs.declared.sets.LanguageSet.{LanguageSet}
use Rattle.name_parts.specs.Words.{words_of, word_at, one_word}
use Rattle.prefixes.specs.Prefixes.{split_of}
use Rattle.name_parts.specs.Joining.{joined_name, joined_words}
use Rattle.prefixes.specs.declared.prefixes.NameType.{NameType}
use Rattle.prefixes.specs.declared.prefixes.NameType.TheVariants.{Ashkenazi, Generic, Sephardic}
use Rattle.prefixes.specs.declared.prefixes.Prefix.{Prefix}
use Rattle.prefixes.specs.declared.prefixes.Prefix.TheVariants.{Leads, Whole}

-- an answer's text and flag, or a refusal (7 or 8)
pub data Spelt : Type 0 where
  unspelt : Refusal → Spelt
  spelt_as : Text → Bool → Spelt

-- what these steps rest on: guessing (step 1), a word spelled with a set (steps 6 to 9), and two of the settings
pub record Steps : Type 0 where
  pub guess : Text → LanguageSet
  pub word : LanguageSet → Text → Spelt
  pub kind : NameType
  pub concat : Bool

-- "The flag is up exactly when some apply of the call ended with a count at or over the limit."
unfoldable pub or : Bool → Bool → Bool
or true b = true
or false b = b

-- "`(`remainder`)-(`prefix joined to remainder`)`"; the joined one is spelled first, so its refusal goes before
unfoldable pub both : Spelt → Spelt → Spelt
both (spelt_as t f) (spelt_as u g) = spelt_as ((40 ∷ []) ++ (t ++ ((41 ∷ 45 ∷ 40 ∷ []) ++ (u ++ (41 ∷ []))))) (or g f)
both (spelt_as t f) (unspelt k) = unspelt k
both (unspelt j) (spelt_as u g) = unspelt j
both (unspelt j) (unspelt k) = unspelt k

-- "joined by `-`"
unfoldable pub hyphened : Spelt → Spelt → Spelt
hyphened (spelt_as t f) (spelt_as u g) = spelt_as (t ++ ((45 ∷ []) ++ u)) (or f g)
hyphened (spelt_as t f) (unspelt k) = unspelt k
hyphened (unspelt j) y = unspelt j

-- "each spelled afresh", in order
unfoldable pub and_words : (Text → Spelt) → Spelt → List Text → Spelt
and_words afresh x [] = x
and_words afresh x (w ∷ ws) = and_words afresh (hyphened x (afresh w)) ws

unfoldable pub each_word : (Text → Spelt) → List Text → Spelt
each_word afresh [] = spelt_as [] false
each_word afresh (w ∷ ws) = and_words afresh (afresh w) ws

-- step 5: with concat the words joined, else the only word untouched
unfoldable pub one_part : Steps → LanguageSet → Text → Spelt
one_part c g s = pick c.concat (c.word g (joined_words c.kind s)) (c.word g (word_at s 0))

-- step 4: "Without concat and with other than one word: each spelled afresh"
unfoldable pub by_words : Steps → (Text → Spelt) → LanguageSet → Text → Spelt
by_words c afresh g s =
    pick (pick c.concat true (one_word s)) (one_part c g s) (each_word afresh (words_of s))

-- step 3: "Generic only"
unfoldable pub parted_as : NameType → Text → Prefix
parted_as Ashkenazi s = Whole
parted_as Generic s = split_of s
parted_as Sephardic s = Whole

unfoldable pub by_prefix : Prefix → (Text → Spelt) → Text → Spelt → Spelt
by_prefix (Leads size rest) afresh s whole = both (afresh (drop rest s)) (afresh (joined_name size rest s))
by_prefix Whole afresh s whole = whole

unfoldable pub name_by : Steps → (Text → Spelt) → LanguageSet → Text → Spelt
name_by c afresh g s = by_prefix (parted_as c.kind s) afresh s (by_words c afresh g s)

-- "Each is shorter than the name it came from", so the length is fuel enough: without it nothing is spelled, which is never met
unfoldable pub name_from : ℕ → Steps → LanguageSet → Text → Spelt
name_from zero c g s = spelt_as [] false
name_from (suc f) c g s = name_by c (λ (t : Text). name_from f c (c.guess t) t) g s

-- the name s, its hyphens now spaces, with the set g
unfoldable pub spelled_name : Steps → LanguageSet → Text → Spelt
spelled_name c g s = name_from (suc (length s)) c g s

-- "spelled afresh, guessed again"
unfoldable pub afresh_by : Steps → Text → Spelt
afresh_by c t = spelled_name c (c.guess t) t
