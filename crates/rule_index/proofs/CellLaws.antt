-- What is stored as a number of the table is read again, and nothing else changes. Assumes nothing.
use borrow.Author.Rules.{rules}
use mathlib.Core.Path.{◌≡◌, refl, sym, ap, subst, ◌∙◌}
use mathlib.Core.List.{List, [], ◌∷◌}
use Prim.Native.Nat.{ℕ, zero, suc, ◌+◌, ◌*◌, ◌/◌, ◌%◌, ◌≤◌, ◌<◌}
use native.Mathlib.Decide.{ℕ_discrete}
use native.Mathlib.Omega.{arith}
use lib.ListN.{length, get_or, set, length-set}
use lib.Seq.{get_or-set_same, get_or-set_other}
use Rattle.rule_index.specs.Rows.{places_row, guess_row, rows, Roomy, noted_at, put_at, put_all}

-- ---- a number of the table

-- a row that is there lies in the table
pub row_within : (table : List (List ℕ)) (k : ℕ) → length (get_or table k []) ≡ 128 → k < length table
row_within [] k h = let no_way : ⊥ = omega arith in absurd no_way
row_within (x ∷ table) zero h = omega arith
row_within (x ∷ table) (suc k) h = omega (arith, row_within table k h)

-- one that is stored, and any other
cell_same : (table : List (List ℕ)) (a b x : ℕ) → length (get_or table a []) ≡ 128 → b < 128 → get_or (get_or (set table a (set (get_or table a []) b x)) a []) b 0 ≡ x
cell_same table a b x long h = rw (get_or-set_same table a _ [] (row_within table a long)) (get_or-set_same (get_or table a []) b x 0 (omega arith))

cell_other : (table : List (List ℕ)) (a b x c d : ℕ) → length (get_or table a []) ≡ 128 → (a ≡ c → b ≡ d → ⊥)
    → get_or (get_or (set table a (set (get_or table a []) b x)) c []) d 0 ≡ get_or (get_or table c []) d 0
cell_other table a b x c d long n = elim (ℕ_discrete a c) [
  | yes e ↦ subst (λ (k : ℕ). get_or (get_or (set table a (set (get_or table a []) b x)) k []) d 0 ≡ get_or (get_or table k []) d 0) e
      (rw (get_or-set_same table a _ [] (row_within table a long)) (get_or-set_other (get_or table a []) b d x 0 (λ q. n e (sym q))))
  | no e ↦ ap (λ (l : List ℕ). get_or l d 0) (get_or-set_other table a c _ [] (λ q. e (sym q)))
]

module _ (table : List (List ℕ)) (row i x : ℕ) (room : Roomy table) (low : row ≤ guess_row) (h : i < 4096) where
  long : length (get_or table (row + i / 128) []) ≡ 128
  long = room.wide (row + i / 128) (omega arith)

  pub put_same : noted_at (put_at table row i x) row i ≡ x
  unfolding noted_at put_at
  put_same = cell_same table (row + i / 128) (i % 128) x long (omega arith)

  pub put_other : (at j : ℕ) → (row + i / 128 ≡ at + j / 128 → i % 128 ≡ j % 128 → ⊥) → noted_at (put_at table row i x) at j ≡ noted_at table at j
  unfolding noted_at put_at
  put_other at j n = cell_other table (row + i / 128) (i % 128) x (at + j / 128) (j % 128) long n

  put_wide : (k : ℕ) → k < rows → length (get_or (put_at table row i x) k []) ≡ 128
  unfolding put_at
  put_wide k l = elim (ℕ_discrete (row + i / 128) k) [
    | yes e ↦ subst (λ (n : ℕ). length (get_or (set table (row + i / 128) (set (get_or table (row + i / 128) []) (i % 128) x)) n []) ≡ 128) e
        (rw (get_or-set_same table (row + i / 128) _ [] (row_within table (row + i / 128) long)) (length-set (get_or table (row + i / 128) []) (i % 128) x ∙ long))
    | no e ↦ ap length (get_or-set_other table (row + i / 128) k _ [] (λ q. e (sym q))) ∙ room.wide k l
  ]

  pub put_room : Roomy (put_at table row i x)
  put_room = record { wide = put_wide }

-- one more stored
pub put_on : (table t t' : List (List ℕ)) (row i x : ℕ) → t ≡ table → t' ≡ put_at t row i x → t' ≡ put_at table row i x
put_on table t t' row i x e f = f ∙ ap (λ (u : List (List ℕ)). put_at u row i x) e

pub put_three : (t t₁ t₂ t₃ : List (List ℕ)) (row i a b c : ℕ) → t₁ ≡ put_at t row i a → t₂ ≡ put_at t₁ (row + 32) i b → t₃ ≡ put_at t₂ (row + 32 + 32) i c → t₃ ≡ put_all t row i (a ∷ b ∷ c ∷ [])
unfolding put_all
put_three t t₁ t₂ t₃ row i a b c e f g = put_on _ _ _ _ _ _ (put_on _ _ _ _ _ _ e f) g

pub put_four : (t t₁ t₂ t₃ t₄ : List (List ℕ)) (row i a b c d : ℕ) → t₁ ≡ put_at t row i a → t₂ ≡ put_at t₁ (row + 32) i b → t₃ ≡ put_at t₂ (row + 32 + 32) i c → t₄ ≡ put_at t₃ (row + 32 + 32 + 32) i d
    → t₄ ≡ put_all t row i (a ∷ b ∷ c ∷ d ∷ [])
unfolding put_all
put_four t t₁ t₂ t₃ t₄ row i a b c d e f g h = put_on _ _ _ _ _ _ (put_three t t₁ t₂ t₃ row i a b c e f g) h

pub ruleset put_laws = (put_on, put_three, put_four, rules)

-- ---- numbers in rows one behind the other

module _ (i : ℕ) (h : i < 4096) where
  pub all_room : (l : List ℕ) (row : ℕ) (t : List (List ℕ)) → row + 32 * length l ≤ guess_row + 32 → Roomy t → Roomy (put_all t row i l)
  unfolding put_all
  all_room [] row t m w = w
  all_room (x ∷ l) row t m w = all_room l (row + 32) (put_at t row i x) (omega arith) (put_room t row i x w (omega arith) h)

  -- what is noted elsewhere stays
  pub all_other : (l : List ℕ) (row : ℕ) (t : List (List ℕ)) → row + 32 * length l ≤ guess_row + 32 → Roomy t → (at j : ℕ)
      → ((k : ℕ) → k < length l → row + 32 * k + i / 128 ≡ at + j / 128 → i % 128 ≡ j % 128 → ⊥) → noted_at (put_all t row i l) at j ≡ noted_at t at j
  unfolding put_all
  all_other [] row t m w at j n = refl
  all_other (x ∷ l) row t m w at j n =
      all_other l (row + 32) (put_at t row i x) (omega arith) (put_room t row i x w (omega arith) h) at j (λ k lt p q. n (suc k) (omega arith) (omega arith) q)
      ∙ put_other t row i x w (omega arith) h at j (λ p q. n 0 (omega arith) (omega arith) q)

  pub all_here : (l : List ℕ) (row : ℕ) (t : List (List ℕ)) → row + 32 * length l ≤ guess_row + 32 → Roomy t → (k : ℕ) → k < length l → noted_at (put_all t row i l) (row + 32 * k) i ≡ get_or l k 0
  unfolding put_all
  all_here [] row t m w k lt = absurd (omega arith)
  all_here (x ∷ l) row t m w zero lt =
      let here : row + 32 * 0 ≡ row = omega arith in
      all_other l (row + 32) (put_at t row i x) (omega arith) (put_room t row i x w (omega arith) h) (row + 32 * 0) i (λ k lt p q. omega arith)
      ∙ ap (λ (at : ℕ). noted_at (put_at t row i x) at i) here ∙ put_same t row i x w (omega arith) h
  all_here (x ∷ l) row t m w (suc k) lt =
      let there : row + 32 * suc k ≡ row + 32 + 32 * k = omega arith in
      ap (λ (at : ℕ). noted_at (put_all (put_at t row i x) (row + 32) i l) at i) there ∙ all_here l (row + 32) (put_at t row i x) (omega arith) (put_room t row i x w (omega arith) h) k (omega arith)

  pub all_away : (l : List ℕ) (row : ℕ) (t : List (List ℕ)) (k : ℕ) → ((j : ℕ) → j < length l → row + 32 * j + i / 128 ≡ k → ⊥) → get_or (put_all t row i l) k [] ≡ get_or t k []
  unfolding put_all put_at
  all_away [] row t k n = refl
  all_away (x ∷ l) row t k n = all_away l (row + 32) _ k (λ j lt p. n (suc j) (omega arith) (omega arith)) ∙ get_or-set_other t (row + i / 128) k _ [] (λ q. n 0 (omega arith) (omega arith))

-- ---- a row replaced

module _ {t : List (List ℕ)} (w : Roomy t) (k : ℕ) (h : k < rows) (row : List ℕ) where
  pub set_here : get_or (set t k row) k [] ≡ row
  set_here = get_or-set_same t k row [] (row_within t k (w.wide k h))

  set_wide : length row ≡ 128 → (j : ℕ) → j < rows → length (get_or (set t k row) j []) ≡ 128
  set_wide l j m = elim (ℕ_discrete j k) [
    | yes e ↦ rw (e, set_here) l
    | no e ↦ rw (get_or-set_other t k j row [] e) (w.wide j m)
  ]

  pub set_room : length row ≡ 128 → Roomy (set t k row)
  set_room l = record { wide = set_wide l }

  -- the rows of lists hold no numbers
  pub set_noted : k < places_row → (base i : ℕ) → places_row ≤ base → noted_at (set t k row) base i ≡ noted_at t base i
  unfolding noted_at
  set_noted l base i m = ap (λ (r : List ℕ). get_or r (i % 128) 0) (get_or-set_other t k (base + i / 128) row [] (λ q. omega arith))
