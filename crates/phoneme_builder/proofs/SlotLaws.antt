-- Laws of three numbers in one. Assumes nothing.
use borrow.Author.Rules.{rules}
use mathlib.Core.Path.{◌≡◌}
use Prim.Native.Nat.{ℕ, ◌<◌}
use native.Mathlib.Omega.{arith}
use Rattle.languages.specs.InnerContracts.{coded, codes_merged, IsCode, BitsBelow}
use Rattle.languages.proofs.CodedLaws.{merge_code, merge_none}
use Rattle.languages.specs.declared.sets.LanguageSet.{LanguageSet}
use Rattle.languages.specs.declared.sets.LanguageSet.TheVariants.{Any, NoLanguages, SomeLanguages}
use Rattle.phoneme_builder.specs.BufferContracts.{slot_of, langs_of, first_of, second_of, Merges, slot_merged}

module _ (g first second : ℕ) (hf : first < 256) (hs : second < 256) where
  pub first_packed : first_of (slot_of g first second) ≡ first
  first_packed = omega arith

  pub second_packed : second_of (slot_of g first second) ≡ second
  second_packed = omega arith

  pub langs_packed : langs_of (slot_of g first second) ≡ g
  langs_packed = omega arith

-- a set's number has 34 bits
pub coded_small : (g : LanguageSet) → BitsBelow 32 g → coded g < 17179869184
unfolding coded BitsBelow
coded_small Any h = omega arith
coded_small NoLanguages h = omega arith
coded_small (SomeLanguages x) h = omega arith

pub code_small : {g : ℕ} → IsCode g → g < 17179869184
code_small c = rw c.is (coded_small c.set c.below)

-- ---- merging

module _ (x g l m : ℕ) (el : l ≡ langs_of x) (em : m ≡ codes_merged l g) where
  pub merged_small : Merges x g → m < 17179869184
  merged_small c = rw (em, el) (code_small (merge_code c.own c.other))

  pub merged_is : (y row long : ℕ) → row ≡ first_of x → long ≡ second_of x → y ≡ slot_of m row long → y ≡ slot_merged x g
  merged_is y row long er ew e = rw (er, ew, em, el) at e

pub ruleset merged_laws = (merged_small, merged_is, rules)

-- no languages added to those of a slot: it stays as it was
pub kept_slot : (x : ℕ) → slot_merged x 0 ≡ x
kept_slot x =
    let parts : slot_of (langs_of x) (first_of x) (second_of x) ≡ x = omega arith in
    rw (merge_none (langs_of x)) parts
