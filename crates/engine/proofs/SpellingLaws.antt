-- The definition of a spelled name, turned once: its fuel does not show. Assumes nothing.
use mathlib.Core.Path.{◌≡◌, refl, ap₂, ◌∙◌}
use mathlib.Core.Bool.{Bool, true, false}
use mathlib.Core.List.{List, [], ◌∷◌}
use Prim.Native.Nat.{ℕ, zero, suc, ◌-◌, ◌≤◌, ◌<◌}
use native.Mathlib.Nat.{not-suc-le-zero}
use native.Mathlib.Omega.{arith}
use lib.Dec.{eqb}
use lib.ListN.{length, drop}
use borrow.Author.Tests.{eqb-true, eqb-false}
use Rattle.base.specs.Pick.{pick}
use Rattle.choices.specs.Texts.{Text}
use Rattle.languages.specs.declared.sets.LanguageSet.{LanguageSet}
use Rattle.name_parts.specs.Words.{words_of, word_at, past_word, one_word}
use Rattle.prefixes.specs.Prefixes.{split_of}
use Rattle.name_parts.specs.Joining.{joined_name}
use Rattle.prefixes.specs.declared.prefixes.NameType.{NameType}
use Rattle.prefixes.specs.declared.prefixes.NameType.TheVariants.{Ashkenazi, Generic, Sephardic}
use Rattle.prefixes.specs.declared.prefixes.Prefix.{Prefix}
use Rattle.prefixes.specs.declared.prefixes.Prefix.TheVariants.{Leads, Whole}
use Rattle.name_parts.proofs.Laws.{words_none, words_next, word_later, past_within, word_shorter, rest_shorter, joined_shorter}
use Rattle.base.proofs.Arms.{clash}
use Rattle.engine.specs.Spelling.{Spelt, Steps, both, hyphened, and_words, each_word, one_part, by_words, parted_as, by_prefix, name_by, name_from, spelled_name, afresh_by}
use Rattle.base.proofs.PickLaws.{pick_true, pick_false, pick_cong}

-- ---- where two ways to spell agree on every shorter text, the name is spelled alike

unfoldable Agree : (Text → Spelt) → (Text → Spelt) → List Text → Type 0
Agree f g [] = Unit {0}
Agree f g (w ∷ ws) = (f w ≡ g w) × Agree f g ws

and_alike : (f g : Text → Spelt) (x : Spelt) (ws : List Text) → Agree f g ws → and_words f x ws ≡ and_words g x ws
unfolding and_words Agree
and_alike f g x [] a = refl
and_alike f g x (w ∷ ws) a = rw a.0 (and_alike f g (hyphened x (g w)) ws a.1)

each_alike : (f g : Text → Spelt) (ws : List Text) → Agree f g ws → each_word f ws ≡ each_word g ws
unfolding each_word Agree
each_alike f g [] a = refl
each_alike f g (w ∷ ws) a = rw a.0 (and_alike f g (g w) ws a.1)

-- only Generic names are parted
pub parted_split : (kind : NameType) (s : Text) (size rest : ℕ) → parted_as kind s ≡ Leads size rest → split_of s ≡ Leads size rest
unfolding parted_as
parted_split Ashkenazi s size rest e = clash (cc)
parted_split Generic s size rest e = e
parted_split Sephardic s size rest e = clash (cc)

pub not_or : (t u : Bool) → pick t true u ≡ false → u ≡ false
unfolding pick
not_or true u e = clash (cc)
not_or false u e = e

module _ (f g : Text → Spelt) (s : Text) (alike : (t : Text) → length t < length s → f t ≡ g t) where
  none_agree : (p : ℕ) → words_of (drop p s) ≡ [] → Agree f g (words_of (drop p s))
  unfolding Agree
  none_agree p e = rw e tt

  next_agree : (p : ℕ) (w : Text) (ws : List Text) → words_of (drop p s) ≡ w ∷ ws → f w ≡ g w → Agree f g ws → Agree f g (words_of (drop p s))
  unfolding Agree
  next_agree p w ws e x a = rw e (x, a)

  module _ (several : one_word s ≡ false) where
    agree_by : (p : ℕ) → ((q : ℕ) → length s - q < length s - p → Agree f g (words_of (drop q s))) → (t : Bool) → eqb (length (word_at s p)) 0 ≡ t
        → Agree f g (words_of (drop p s))
    agree_by p ih true e = none_agree p (words_none s p (eqb-true _ _ e))
    agree_by p ih false e =
        let some : length (word_at s p) ≡ 0 → ⊥ = eqb-false _ _ e in
        next_agree p (word_at s p) _ (words_next s p some) (alike (word_at s p) (word_shorter s p several some))
        (ih (past_word s p) (omega (arith, word_later s p some, past_within s p some)))

    words_agree : (n p : ℕ) → length s - p ≤ n → Agree f g (words_of (drop p s))
    words_agree zero p h = agree_by p (λ q k. let no_way : ⊥ = omega arith in absurd no_way) _ refl
    words_agree (suc n) p h = agree_by p (λ q k. words_agree n q (omega arith)) _ refl

  words_alike : (c : Steps) (l : LanguageSet) → by_words c f l s ≡ by_words c g l s
  unfolding by_words
  words_alike c l =
      pick_cong _ _ _ _ _ (λ e. refl) (λ e. each_alike f g (words_of s) (words_agree (not_or _ _ e) (length s) 0 (omega arith)))

  prefix_alike : (kind : NameType) (x : Prefix) (a b : Spelt) → parted_as kind s ≡ x → a ≡ b → by_prefix x f s a ≡ by_prefix x g s b
  unfolding by_prefix
  prefix_alike kind (Leads size rest) a b e h =
      let q = parted_split kind s size rest e in
      ap₂ both (alike _ (rest_shorter s size rest q)) (alike _ (joined_shorter s size rest q))
  prefix_alike kind Whole a b e h = h

  name_alike : (c : Steps) (l : LanguageSet) → name_by c f l s ≡ name_by c g l s
  unfolding name_by
  name_alike c l = prefix_alike c.kind (parted_as c.kind s) _ _ refl (words_alike c l)

-- ---- the fuel does not show

enough : (f g : ℕ) (c : Steps) (l : LanguageSet) (s : Text) → length s < f → length s < g → name_from f c l s ≡ name_from g c l s
unfolding name_from
enough zero g c l s h k = absurd (not-suc-le-zero h)
enough (suc f) zero c l s h k = absurd (not-suc-le-zero k)
enough (suc f) (suc g) c l s h k = name_alike _ _ s (λ t m. enough f g c (c.guess t) t (omega arith) (omega arith)) c l

-- "Each is shorter than the name it came from": a name is its parts spelled afresh, and no fuel is ever short
pub name_once : (c : Steps) (l : LanguageSet) (s : Text) → spelled_name c l s ≡ name_by c (afresh_by c) l s
unfolding spelled_name name_from afresh_by
name_once c l s = name_alike _ _ s (λ t m. enough (length s) (suc (length t)) c (c.guess t) t (omega arith) (omega arith)) c l

-- ---- the three ways of a name

module _ (c : Steps) (l : LanguageSet) (s : Text) where
  pub name_parted : (size rest : ℕ) → parted_as c.kind s ≡ Leads size rest
      → spelled_name c l s ≡ both (afresh_by c (drop rest s)) (afresh_by c (joined_name size rest s))
  unfolding name_by by_prefix
  name_parted size rest e = name_once c l s ∙ rw e refl

  module _ (e : parted_as c.kind s ≡ Whole) where
    name_whole : spelled_name c l s ≡ by_words c (afresh_by c) l s
    unfolding name_by by_prefix
    name_whole = name_once c l s ∙ rw e refl

    pub name_plain : pick c.concat true (one_word s) ≡ true → spelled_name c l s ≡ one_part c l s
    unfolding by_words
    name_plain t = name_whole ∙ pick_true _ _ _ t

    pub name_words : pick c.concat true (one_word s) ≡ false → spelled_name c l s ≡ each_word (afresh_by c) (words_of s)
    unfolding by_words
    name_words t = name_whole ∙ pick_false _ _ _ t
