-- The numbers 4096 c + j in order lead through the rules that stay in the order of the finished list. Assumes nothing.
use mathlib.Core.Path.{◌≡◌, refl, sym, ap, ap₂, ◌∙◌}
use mathlib.Core.List.{List, [], ◌∷◌, ◌++◌, append-nil, append_assoc}
use Prim.Native.Nat.{ℕ, zero, suc, ◌+◌, ◌*◌, ◌/◌, ◌%◌, ◌≤◌, ◌<◌}
use native.Mathlib.Decide.{dec_lt, ℕ_discrete}
use native.Mathlib.Omega.{arith}
use lib.Dec.{eqb}
use lib.ListN.{length}
use borrow.Author.Tests.{lt-ltb, le-ltb}
use Rattle.base.specs.Pick.{pick}
use Rattle.held.specs.Met.{Met, Map, spread, codes, finished, entries, bytes_of_all}
use Rattle.held.specs.InnerContracts.{kept_rules, insert_number, keys_from, at_place, key_bytes, All, Rising, Within}
use Rattle.held.proofs.Places.{all_insert, rising_insert}
use Rattle.held.proofs.Kept.{under, under_append}
use Rattle.held.proofs.Finished.{From, under_there, sorted_is, finished_kept, kept_within}
use Rattle.base.proofs.PickLaws.{pick_true, pick_false, pick_cong, pick_map}

abbrev char : ℕ → ℕ
char k = k / 4096

-- ---- a number goes in: behind those of its character, and among no others

put_low : (v x : ℕ) (ks : List ℕ) → x < v → insert_number v (x ∷ ks) ≡ x ∷ insert_number v ks
unfolding insert_number
put_low v x ks h = pick_true _ _ _ (lt-ltb x v h)

put_here : (v x : ℕ) (ks : List ℕ) → v ≤ x → insert_number v (x ∷ ks) ≡ v ∷ x ∷ ks
unfolding insert_number
put_here v x ks h = pick_false _ _ _ (le-ltb x v h)

all_more : {A : Type 0} (P Q : A → Type 0) (l : List A) → ((x : A) → P x → Q x) → All P l → All Q l
unfolding All
all_more P Q [] h a = tt
all_more P Q (x ∷ l) h a = (h x a.0, all_more P Q l h a.1)

under_nil : (c : ℕ) → under char c [] ≡ []
unfolding under
under_nil c = refl

under_cons : (c x : ℕ) (a b : List ℕ) → under char c a ≡ under char c b → under char c (x ∷ a) ≡ under char c (x ∷ b)
unfolding under
under_cons c x a b e = ap (λ (l : List ℕ). pick (eqb (char x) c) (x ∷ l) l) e

module _ (c j : ℕ) (small : j < 4096) where
  -- numbers of earlier places that are not below it are of later characters
  none : (x : ℕ) (ks : List ℕ) → 4096 * c + j ≤ x → Rising x ks → All (λ k. k % 4096 < j) ks → under char c ks ≡ []
  unfolding under Rising All
  none x [] h o a = refl
  none x (k ∷ ks) h o a =
      let p = o.0 in
      let q = a.0 in
      under_there char c k ks (λ e. omega arith) ∙ none k ks (omega arith) o.1 a.1

  put : (d x : ℕ) (ks : List ℕ) → Rising x ks → All (λ k. k % 4096 < j) ks → under char c (insert_number (4096 * d + j) ks) ≡ under char c (ks ++ ((4096 * d + j) ∷ []))
  unfolding insert_number Rising All
  put d x [] o a = refl
  put d x (k ∷ ks) o a = elim (dec_lt k (4096 * d + j)) [
    | yes p ↦ rw (put_low (4096 * d + j) k ks p) (under_cons c k _ _ (put d k ks o.1 a.1))
    | no p ↦ rw (put_here (4096 * d + j) k ks (omega arith), under_append char c (k ∷ ks) ((4096 * d + j) ∷ [])) (elim (ℕ_discrete d c) [
      | yes e ↦
          let w : under char c (k ∷ ks) ≡ [] = none (4096 * c + j) (k ∷ ks) (omega arith) (omega arith, o.1) a in
          rw w (under_cons c (4096 * d + j) (k ∷ ks) [] (w ∙ sym (under_nil c)))
      | no e ↦
          let n : char (4096 * d + j) ≡ c → ⊥ = λ q. e (omega arith) in
          rw (under_there char c (4096 * d + j) (k ∷ ks) n, under_there char c (4096 * d + j) [] n, under_nil c) (sym (append-nil _))
    ])
  ]

pub key_append : {R : Type 0} (f : R → List ℕ) (all : List R) (a b : List ℕ) → key_bytes f all (a ++ b) ≡ key_bytes f all a ++ key_bytes f all b
unfolding key_bytes
key_append f all [] b = refl
key_append f all (k ∷ a) b = ap (λ (l : List ℕ). at_place f all (k % 4096) ++ l) (key_append f all a b) ∙ sym (append_assoc (at_place f all (k % 4096)) (key_bytes f all a) (key_bytes f all b))

module _ {R : Type 0} (first : R → ℕ) where
  -- the numbers as they are met, places going from j on
  keys_met : ℕ → List R → List ℕ
  keys_met j [] = []
  keys_met j (r ∷ rs) = (4096 * first r + j) ∷ keys_met (suc j) rs

  -- in order, the numbers of each character are as they are met
  under_keys : (c j : ℕ) (ks : List ℕ) (rs : List R) → j + length rs ≤ 4096 → Rising 0 ks → All (λ k. k % 4096 < j) ks
      → under char c (keys_from first j ks rs) ≡ under char c (ks ++ keys_met j rs)
  unfolding keys_from keys_met
  under_keys c j ks [] h o a = ap (under char c) (sym (append-nil ks))
  under_keys c j ks (r ∷ rs) h o a =
      let v = 4096 * first r + j in
      under_keys c (suc j) (insert_number v ks) rs (omega arith) (rising_insert 0 v ks (omega arith) o) (all_insert _ v ks (omega arith) (all_more _ _ ks (λ x p. omega arith) a))
      ∙ under_append char c (insert_number v ks) (keys_met (suc j) rs)
      ∙ ap (λ (l : List ℕ). l ++ under char c (keys_met (suc j) rs)) (put c j (omega arith) (first r) 0 ks o a)
      ∙ sym (under_append char c (ks ++ (v ∷ [])) (keys_met (suc j) rs))
      ∙ ap (under char c) (append_assoc ks (v ∷ []) (keys_met (suc j) rs))

  -- and lead to the rules of that character
  met_bytes : (f : R → List ℕ) (all : List R) (c j : ℕ) (rs : List R) → j + length rs ≤ 4096 → ((i : ℕ) → at_place f all (j + i) ≡ at_place f rs i)
      → key_bytes f all (under char c (keys_met j rs)) ≡ bytes_of_all f (under first c rs)
  unfolding keys_met under key_bytes bytes_of_all at_place
  met_bytes f all c j [] h p = refl
  met_bytes f all c j (r ∷ rs) h p =
      let e : char (4096 * first r + j) ≡ first r = omega arith in
      let q : (4096 * first r + j) % 4096 ≡ j = omega arith in
      let z : j + 0 ≡ j = omega arith in
      let g : at_place f all j ≡ f r = rw z at (p 0) in
      let y = met_bytes f all c (suc j) rs (omega arith) (λ i. let s : suc j + i ≡ j + suc i = omega arith in rw s (p (suc i))) in
      rw e (pick_map (key_bytes f all) _ _ _ ∙ pick_cong (eqb (first r) c) _ _ _ _ (λ x. ap₂ ◌++◌ (ap (at_place f all) q ∙ g) y) (λ x. y) ∙ sym (pick_map (bytes_of_all f) _ _ _))

  -- numbers in order, and below their bound
  rising_keys : (j : ℕ) (ks : List ℕ) (rs : List R) → Rising 0 ks → Rising 0 (keys_from first j ks rs)
  unfolding keys_from
  rising_keys j ks [] o = o
  rising_keys j ks (r ∷ rs) o = rising_keys (suc j) _ rs (rising_insert 0 (4096 * first r + j) ks (omega arith) o)

  bounded_keys : (j : ℕ) (ks : List ℕ) (rs : List R) → j + length rs ≤ 4096 → All (λ r. first r < codes) rs → All (λ k. k < 4096 * codes) ks → All (λ k. k < 4096 * codes) (keys_from first j ks rs)
  unfolding keys_from All
  bounded_keys j ks [] h w b = b
  bounded_keys j ks (r ∷ rs) h w b = let p = w.0 in bounded_keys (suc j) _ rs (omega arith) w.1 (all_insert _ (4096 * first r + j) ks (omega arith) b)

  -- ---- the rules in order

  bytes_append : (f : R → List ℕ) (a b : List R) → bytes_of_all f (a ++ b) ≡ bytes_of_all f a ++ bytes_of_all f b
  unfolding bytes_of_all
  bytes_append f [] b = refl
  bytes_append f (r ∷ a) b = ap (λ (l : List ℕ). f r ++ l) (bytes_append f a b) ∙ sym (append_assoc (f r) (bytes_of_all f a) (bytes_of_all f b))

  spread_bytes : (f : R → List ℕ) (all : List R) (m : Map ℕ) (w : Map R) (k a : ℕ) → ((c : ℕ) → key_bytes f all (m c) ≡ bytes_of_all f (w c)) → key_bytes f all (spread m k a) ≡ bytes_of_all f (spread w k a)
  unfolding spread key_bytes bytes_of_all
  spread_bytes f all m w zero a h = refl
  spread_bytes f all m w (suc k) a h =
      key_append f all (m a) (spread m k (suc a)) ∙ ap₂ ◌++◌ (h a) (spread_bytes f all m w k (suc a) h) ∙ sym (bytes_append f (w a) (spread w k (suc a)))

  rising_from : (x a : ℕ) (ks : List ℕ) → a ≤ char x → Rising x ks → From char a ks
  unfolding Rising
  rising_from x a [] h o = tt
  rising_from x a (k ∷ ks) h o = let p = o.0 in (omega arith, rising_from k (char k) ks (omega arith) o.1)

  -- THE LAW of the order: who walks the numbers writes the finished list
  pub finished_keys : (f : R → List ℕ) (t : Met R) → entries t ≤ 256 → Within first t
      → let rs = kept_rules first t in
      length rs ≤ 4096 → key_bytes f rs (keys_from first 0 [] rs) ≡ bytes_of_all f (finished first t)
  unfolding Rising All
  finished_keys f t short within h =
      let rs = kept_rules first t in
      let ks = keys_from first 0 [] rs in
      let z : (i : ℕ) → 0 + i ≡ i = λ i. omega arith in
      ap (key_bytes f rs) (sym (sorted_is char ks codes 0 (rising_from 0 0 ks (omega arith) (rising_keys 0 [] rs tt))
      (all_more _ _ ks (λ k p. omega arith) (bounded_keys 0 [] rs (omega arith) (kept_within first t short within) tt))))
      ∙ spread_bytes f rs (λ c. under char c ks) (λ c. under first c rs) codes 0
      (λ c. ap (key_bytes f rs) (under_keys c 0 [] rs (omega arith) tt tt) ∙ met_bytes f rs c 0 rs (omega arith) (λ i. ap (at_place f rs) (z i)))
      ∙ ap (bytes_of_all f) (sym (finished_kept first t short))
