-- The character where no rule matches, and the bytes of a pack's names. Assumes nothing.
use borrow.Author.Rules.{rules}
use mathlib.Core.Path.{◌≡◌, refl, sym, ap, ◌∙◌}
use mathlib.Core.List.{List, [], ◌∷◌}
use Prim.Native.Nat.{ℕ, zero, suc, ◌-◌, ◌≤◌, ◌<◌, min}
use native.Mathlib.Omega.{arith}
use lib.ListN.{length, take, drop, length-drop}
use Rattle.letters.specs.Utf8.{decode_at}
use Rattle.letters.specs.declared.utf8.Step.{Step}
use Rattle.letters.specs.declared.utf8.Step.TheVariants.{Char, Ill, End}
use Rattle.letters.proofs.Utf8Laws.{char_at}
use Rattle.phoneme_builder.specs
use specs.Passes.{step_length}
use specs.InnerContracts.{StepIn, names_in}

-- ---- the character where none matches

module _ (word : List ℕ) (place : ℕ) (r : Step) (e : r ≡ decode_at word place) where
  pub bytes_char : (k n : ℕ) → r ≡ Char k n → n ≡ step_length (decode_at word place)
  unfolding step_length
  bytes_char k n q = sym (ap step_length (sym e ∙ q))

  pub bytes_ill : r ≡ Ill → 1 ≡ step_length (decode_at word place)
  unfolding step_length
  bytes_ill q = sym (ap step_length (sym e ∙ q))

  pub bytes_end : r ≡ End → 1 ≡ step_length (decode_at word place)
  unfolding step_length
  bytes_end q = sym (ap step_length (sym e ∙ q))

  pub step_char : (k n : ℕ) → r ≡ Char k n → StepIn word place n
  step_char k n q = let w = char_at word place k n (sym e ∙ q) in record { some = w.some; within = w.end }

pub step_one : (word : List ℕ) (place : ℕ) → place < length word → StepIn word place 1
step_one word place h = record { some = omega arith; within = omega arith }

pub ruleset char_laws = (bytes_char, bytes_ill, bytes_end, step_char, step_one, rules)

-- ---- the names

take_min : (l : List ℕ) (n : ℕ) → take (min n (length l)) l ≡ take n l
take_min [] n = nothing (min n 0) ∙ sym (nothing n)
  where
    nothing : (n : ℕ) → take {A = ℕ} n [] ≡ []
    nothing zero = refl
    nothing (suc n) = refl
take_min (x ∷ l) zero =
    let none : min zero (suc (length l)) ≡ 0 = omega arith in
    rw none
take_min (x ∷ l) (suc n) =
    let one : min (suc n) (suc (length l)) ≡ suc (min n (length l)) = omega arith in
    rw one (ap (◌∷◌ x) (take_min l n))

module _ (s : List ℕ) (guesses end : ℕ) (e : end ≡ min guesses (length s)) where
  names_some : take (end - 1) (drop 1 s) ≡ names_in s guesses
  unfolding names_in
  names_some =
      let all : end - 1 ≡ min (guesses - 1) (length (drop 1 s)) = simp length-drop (omega arith) in
      rw all (take_min (drop 1 s) (guesses - 1))

  names_none : end ≤ 1 → [] ≡ names_in s guesses
  names_none h =
      let none : end - 1 ≡ 0 = omega arith in
      sym (ap (λ (n : ℕ). take n (drop 1 s)) none) ∙ names_some

-- from place 1 on, or nothing where there is no place 1
pub names_from : (s : List ℕ) (guesses end m : ℕ) → end ≡ min guesses (length s) → m ≡ min end 1 → take (end - m) (drop m s) ≡ names_in s guesses
names_from s guesses zero m e em =
    let none : zero - m ≡ 0 = omega arith in
    rw none (names_none s guesses zero e (omega arith))
names_from s guesses (suc n) m e em =
    let one : m ≡ 1 = omega arith in
    rw one (names_some s guesses (suc n) e)
