-- The operations of which the laws speak are those of the code: what `narrow_codes` promises of the numbers of two sets, and `merge` of the sets
-- themselves, is theirs. Assumes nothing.
use Rattle.std.specs.Prelude.{Option, Some}
use mathlib.Core.Path.{◌≡◌, refl, sym, ap, ◌∙◌}
use mathlib.Core.Bool.{Bool, true, false}
use Prim.Native.Nat.{ℕ}
use lib.Dec.{eqb}
use denote.Triple.Entry.{Args}
use denote.Triple.Clauses.{Lasts, at_exit}
use contract.Lifetimes.{Lfts}
use Rattle.base.specs.Pick.{pick}
use Rattle.languages.specs.Sets.{narrowed, merged, is_empty}
use Rattle.languages.specs.InnerContracts.{BitsBelow, coded, left_of}
use Rattle.languages.specs.declared.sets.LanguageSet.{LanguageSet}
use Rattle.languages.specs.declared.sets.LanguageSet.TheVariants.{Any, SomeLanguages}
use Rattle.languages.proofs.NumberLaws.{set_one}
use Rattle.languages.proofs.CodedLaws.{narrow_and_test, left_not_empty}
use Rattle.languages.proofs as code
use Rattle.languages.proofs.sets.LanguageSet as sets
use Rattle.languages.specs.contracts as code_contracts
use Rattle.languages.specs.contracts.sets.LanguageSet as sets_contracts
use Rattle.rule_index.specs.contracts.guess_languages as guess_contracts
use Rattle.pack.specs.Guessing.{left_over}
use Rattle.rule_index.specs.GuessContracts.{guesser}
use Rattle.rule_index.proofs
use proofs.guess_languages

-- request 6: of two sets of at most 32 languages, narrowing and the test together
pub narrow_codes_narrows_and_tests : (κs : Lfts 0) (x y : LanguageSet) → BitsBelow 32 x → BitsBelow 32 y → (r : Option ℕ)
    (v : Lasts code_contracts.narrow_codes.ended κs (coded x, (coded y, tt)))
    → code.narrow_codes.Reads.Learnt κs (coded x, (coded y, tt)) r (at_exit code_contracts.narrow_codes.ended κs (coded x, (coded y, tt)) v)
    → r ≡ left_of (narrowed x y)
narrow_codes_narrows_and_tests κs x y p q r v told = told ∙ narrow_and_test x y p q

-- and of any two numbers: no empty set is to be had from it
pub narrow_codes_gives_no_empty_set : (κs : Lfts 0) (a b : ℕ) (s : LanguageSet) (v : Lasts code_contracts.narrow_codes.ended κs (a, (b, tt)))
    → code.narrow_codes.Reads.Learnt κs (a, (b, tt)) (Some (coded s)) (at_exit code_contracts.narrow_codes.ended κs (a, (b, tt)) v) → is_empty s ≡ false
narrow_codes_gives_no_empty_set κs a b s v told = left_not_empty a b s (sym told)

left_over_by : (m : ℕ) (t : Bool) → eqb m 0 ≡ t → is_empty (pick t Any (SomeLanguages m)) ≡ false
unfolding pick is_empty
left_over_by m true e = refl
left_over_by m false e = e

left_over_not_empty : (m : ℕ) → is_empty (left_over m) ≡ false
unfolding left_over
left_over_not_empty m = left_over_by m _ refl

-- nor from guessing, whatever the bytes of the pack and of the name are, and whatever the table holds
pub guessing_gives_no_empty_set : (κs : Lfts (guess_contracts.ended).signature.lifetimes) (a : Args (guess_contracts.ended).signature κs) (r : LanguageSet)
    (v : Lasts guess_contracts.ended κs a) → guess_languages.Reads.Learnt κs a r (at_exit guess_contracts.ended κs a v) → is_empty r ≡ false
unfolding guesser
guessing_gives_no_empty_set κs a r v told = ap is_empty (set_one r _ told) ∙ left_over_not_empty _

pub merge_is_merging : (κs : Lfts 0) (x y r : LanguageSet) (v : Lasts sets_contracts.merge.ended κs (x, (y, tt)))
    → sets.merge.Reads.Learnt κs (x, (y, tt)) r (at_exit sets_contracts.merge.ended κs (x, (y, tt)) v) → r ≡ merged x y
merge_is_merging κs x y r v told = set_one r _ told
