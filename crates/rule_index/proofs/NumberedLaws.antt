-- Rules stored for their numbers, and tables that have the same rules for the first of them. Assumes nothing.
use mathlib.Core.Path.{◌≡◌, refl, ◌∙◌}
use mathlib.Core.List.{List, [], ◌∷◌}
use Prim.Native.Nat.{ℕ, ◌+◌, ◌*◌, ◌≤◌, ◌<◌}
use native.Mathlib.Omega.{arith}
use lib.ListN.{get_or, set}
use Rattle.rule_index.specs
use Rattle.pack.specs.PlaceContracts.{NUMBERS}
use specs.Rows.{places_row, required_row, Roomy, noted_at}
use specs.InnerContracts.{numbered_in, Agree}
use specs.declared.numbers.Marks.{Marks}
use Rattle.rule_index.proofs.CellLaws.{all_room, all_other, all_here, all_away, set_noted}

-- ---- a rule's four numbers

module _ {t : List (List ℕ)} (w : Roomy t) (e : ℕ) (h : e < NUMBERS) (place : ℕ) (marks : Marks) where
  pub numbered_room : Roomy (numbered_in t e place marks)
  numbered_room = all_room e h _ places_row t (omega arith) w

  pub numbered_here : (j : ℕ) → j < 4 → noted_at (numbered_in t e place marks) (places_row + 32 * j) e ≡ get_or (place ∷ marks.lead ∷ marks.before ∷ marks.behind ∷ []) j 0
  numbered_here j l = all_here e h _ places_row t (omega arith) w j l

  -- the rows of lists, and those of guessing rules
  pub numbered_before : (k : ℕ) → k < places_row → get_or (numbered_in t e place marks) k [] ≡ get_or t k []
  numbered_before k l = all_away e h _ places_row t k (λ j m p. omega arith)

  pub numbered_behind : (k : ℕ) → required_row ≤ k → get_or (numbered_in t e place marks) k [] ≡ get_or t k []
  numbered_behind k l = all_away e h _ places_row t k (λ j m p. omega arith)

  pub numbered_agree : Agree e t (numbered_in t e place marks)
  numbered_agree = record { same = λ f j l m. all_other e h _ places_row t (omega arith) w (places_row + 32 * j) f (λ k n p q. omega arith) }

-- ---- tables that have the same rules

pub agree_same : {n : ℕ} {t : List (List ℕ)} → Agree n t t
agree_same = record { same = λ e j h m. refl }

pub agree_then : {n m : ℕ} {t u v : List (List ℕ)} → n ≤ m → Agree n t u → Agree m u v → Agree n t v
agree_then l a b = record { same = λ e j h m. b.same e j (omega arith) m ∙ a.same e j h m }

pub agree_row : {n : ℕ} {t : List (List ℕ)} (w : Roomy t) (k : ℕ) → k < places_row → (row : List ℕ) → Agree n t (set t k row)
agree_row w k h row = record { same = λ e j l m. set_noted w k (omega arith) row h (places_row + 32 * j) e (omega arith) }
