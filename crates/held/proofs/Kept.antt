-- The two tables hold what is held: the first tells the last entry for each first character, and by it the second has the rules that
-- stay. Assumes nothing.
use mathlib.Core.Path.{◌≡◌, refl, sym, ap, ◌∙◌}
use mathlib.Core.Bool.{Bool, true, false, false≢true}
use mathlib.Core.List.{List, [], ◌∷◌, ◌++◌, append-nil, append_assoc}
use mathlib.Core.Logic.{⊎_elim}
use Prim.Native.Nat.{ℕ, suc, ◌+◌, ◌*◌, ◌-◌, ◌≤◌, ◌<◌, max}
use native.Mathlib.Decide.{dec_lt, dec_le, ℕ_discrete}
use native.Mathlib.Omega.{arith}
use lib.Dec.{eqb, leb, ltb}
use borrow.Author.Tests.{lt-ltb, le-ltb, le-leb, lt-leb, eq-eqb, ne_eqb, eqb-true}
use Rattle.base.specs.Pick.{pick}
use Rattle.held.specs.Met.{Met, end, rule, file, no_rules, held_after, entries}
use Rattle.held.specs.InnerContracts.{note_in, stays_in, noted, kept, kept_rules, brings, last_entry, from}
use Rattle.held.proofs.Laws.{or_true, or_left, or_right}
use Rattle.held.proofs.Entry.{held_from, last_high}
use Rattle.base.proofs.PickLaws.{pick_true, pick_false, pick_map}

-- ---- what the first table tells of c: the entry and one, or 0

told : ℕ → List ℕ → ℕ
told c [] = 0
told c (v ∷ vs) = pick (ltb v (512 * c)) (told c vs) (pick (ltb v (512 * c + 512)) (suc (v - 512 * c)) 0)

-- tests of a number against a character's numbers
told_low : (c v : ℕ) (vs : List ℕ) → v < 512 * c → told c (v ∷ vs) ≡ told c vs
unfolding told
told_low c v vs h = pick_true _ _ _ (lt-ltb v (512 * c) h)

told_here : (c v : ℕ) (vs : List ℕ) → 512 * c ≤ v → v < 512 * c + 512 → told c (v ∷ vs) ≡ suc (v - 512 * c)
unfolding told
told_here c v vs h g = pick_false _ _ _ (le-ltb v (512 * c) h) ∙ pick_true _ _ _ (lt-ltb v (512 * c + 512) g)

told_high : (c v : ℕ) (vs : List ℕ) → 512 * c + 512 ≤ v → told c (v ∷ vs) ≡ 0
unfolding told
told_high c v vs h = pick_false _ _ _ (le-ltb v (512 * c) (omega arith)) ∙ pick_false _ _ _ (le-ltb v (512 * c + 512) h)

module _ (c own v : ℕ) (vs : List ℕ) where
  note_low : v < 512 * c → note_in c own (v ∷ vs) ≡ v ∷ note_in c own vs
  unfolding note_in
  note_low h = pick_true _ _ _ (lt-ltb v (512 * c) h)

  note_here : 512 * c ≤ v → v < 512 * c + 512 → note_in c own (v ∷ vs) ≡ max v (512 * c + own) ∷ vs
  unfolding note_in
  note_here h g = pick_false _ _ _ (le-ltb v (512 * c) h) ∙ pick_true _ _ _ (lt-ltb v (512 * c + 512) g)

  note_high : 512 * c + 512 ≤ v → note_in c own (v ∷ vs) ≡ (512 * c + own) ∷ v ∷ vs
  unfolding note_in
  note_high h = pick_false _ _ _ (le-ltb v (512 * c) (omega arith)) ∙ pick_false _ _ _ (le-ltb v (512 * c + 512) h)

told_step : (c own v : ℕ) (vs : List ℕ) → own < 512 → told c (note_in c own vs) ≡ max (told c vs) (suc own)
    → told c (note_in c own (v ∷ vs)) ≡ max (told c (v ∷ vs)) (suc own)
told_step c own v vs l ih = elim (dec_lt v (512 * c)) [
  | yes p ↦ rw (note_low c own v vs p, told_low c v vs p, told_low c v (note_in c own vs) p) ih
  | no p ↦ elim (dec_lt v (512 * c + 512)) [
    | yes q ↦ rw (note_here c own v vs (omega arith) q, told_here c v vs (omega arith) q, told_here c (max v (512 * c + own)) vs (omega arith) (omega arith)) (omega arith)
    | no q ↦ rw (note_high c own v vs (omega arith), told_high c v vs (omega arith), told_here c (512 * c + own) (v ∷ vs) (omega arith) (omega arith)) (omega arith)
  ]
]

told_past : (c d own v : ℕ) (vs : List ℕ) → (d ≡ c → ⊥) → own < 512 → told c (note_in d own vs) ≡ told c vs
    → told c (note_in d own (v ∷ vs)) ≡ told c (v ∷ vs)
told_past c d own v vs n l ih = elim (dec_lt v (512 * d)) [
  | yes p ↦ rw (note_low d own v vs p) (unfold told in ap (λ (x : ℕ). pick (ltb v (512 * c)) x (pick (ltb v (512 * c + 512)) (suc (v - 512 * c)) 0)) ih)
  | no p ↦ elim (dec_lt v (512 * d + 512)) [
    | yes q ↦ rw (note_here d own v vs (omega arith) q) (elim (dec_lt c d) [
      | yes e ↦ told_high c _ vs (omega arith) ∙ sym (told_high c v vs (omega arith))
      | no e ↦ told_low c _ vs (omega arith) ∙ sym (told_low c v vs (omega arith))
    ])
    | no q ↦ rw (note_high d own v vs (omega arith)) (elim (dec_lt c d) [
      | yes e ↦ told_high c _ (v ∷ vs) (omega arith) ∙ sym (told_high c v vs (omega arith))
      | no e ↦ told_low c _ (v ∷ vs) (omega arith)
    ])
  ]
]

-- a number is noted: for c itself, and for another character
told_same : (c own : ℕ) (vs : List ℕ) → own < 512 → told c (note_in c own vs) ≡ max (told c vs) (suc own)
unfolding note_in told
told_same c own [] l = told_here c (512 * c + own) [] (omega arith) (omega arith) ∙ omega arith
told_same c own (v ∷ vs) l = told_step c own v vs l (told_same c own vs l)

told_other : (c d own : ℕ) (vs : List ℕ) → (d ≡ c → ⊥) → own < 512 → told c (note_in d own vs) ≡ told c vs
unfolding note_in told
told_other c d own [] n l = elim (dec_lt c d) [
  | yes p ↦ told_high c (512 * d + own) [] (omega arith)
  | no p ↦ told_low c (512 * d + own) [] (omega arith)
]
told_other c d own (v ∷ vs) n l = told_past c d own v vs n l (told_other c d own vs n l)

-- a rule stays by it
stays_told : (c n : ℕ) (vs : List ℕ) → 0 < told c vs → stays_in c n vs ≡ leb (told c vs - 1) n
unfolding stays_in told
stays_told c n [] h = absurd (omega arith)
stays_told c n (v ∷ vs) h = elim (dec_lt v (512 * c)) [
  | yes p ↦
      let e = told_low c v vs p in
      pick_true _ _ _ (lt-ltb v (512 * c) p) ∙ rw e (stays_told c n vs (rw e at h))
  | no p ↦ pick_false _ _ _ (le-ltb v (512 * c) (omega arith)) ∙ elim (dec_lt v (512 * c + 512)) [
    | yes q ↦ rw (told_here c v vs (omega arith) q) (elim (dec_le v (512 * c + n)) [
      | yes e ↦ le-leb v (512 * c + n) e ∙ sym (le-leb (suc (v - 512 * c) - 1) n (omega arith))
      | no e ↦ lt-leb v (512 * c + n) (omega arith) ∙ sym (lt-leb (suc (v - 512 * c) - 1) n (omega arith))
    ])
    | no q ↦ let w : told c (v ∷ vs) ≡ 0 = told_high c v vs (omega arith) in absurd (omega arith)
  ]
]

-- those rules of a list whose first character is c
unfoldable pub under : {R : Type 0} → (R → ℕ) → ℕ → List R → List R
under first c [] = []
under first c (r ∷ rs) = pick (eqb (first r) c) (r ∷ under first c rs) (under first c rs)

pub under_append : {R : Type 0} (first : R → ℕ) (c : ℕ) (a b : List R) → under first c (a ++ b) ≡ under first c a ++ under first c b
unfolding under
under_append first c [] b = refl
under_append {R} first c (r ∷ a) b = ap (λ (l : List R). pick (eqb (first r) c) (r ∷ l) l) (under_append first c a b) ∙ sym (pick_map (λ (l : List R). l ++ under first c b) _ _ _)

module _ {R : Type 0} (first : R → ℕ) (c : ℕ) where
  note_told : (r : R) (own : ℕ) (vs : List ℕ) → own < 512 → pick (eqb (first r) c) (max (told c vs - 1) own) (told c vs - 1) ≡ told c (note_in (first r) own vs) - 1
  note_told r own vs l = elim (ℕ_discrete (first r) c) [
    | yes p ↦ pick_true _ _ _ (eq-eqb (first r) c p) ∙ rw (p, told_same c own vs l) (omega arith)
    | no p ↦ pick_false _ _ _ (ne_eqb (first r) c p) ∙ rw (told_other c (first r) own vs p l) refl
  ]

  -- the first table tells the last entry
  last_told : (t : Met R) (own n : ℕ) (vs : List ℕ) → own ≤ n → n + entries t < 512 → last_entry first c own n (told c vs - 1) t ≡ told c (noted first own n vs t) - 1
  unfolding last_entry noted entries
  last_told end own n vs h l = refl
  last_told (rule r t) own n vs h l = rw (note_told r own vs (omega arith)) (last_told t own n (note_in (first r) own vs) h l)
  last_told (file i t) own n vs h l =
      rw (last_told i (n + 1) (n + 1) vs (omega arith) (omega arith)) (last_told t own (n + 1 + entries i) (noted first (n + 1) (n + 1) vs i) (omega arith) (omega arith))

  told_grows : (t : Met R) (own n : ℕ) (vs : List ℕ) → own ≤ n → n + entries t < 512 → told c vs ≤ told c (noted first own n vs t)
  unfolding noted entries
  told_grows end own n vs h l = omega arith
  told_grows (rule r t) own n vs h l =
      let w = told_grows t own n (note_in (first r) own vs) h l in
      elim (ℕ_discrete (first r) c) [
        | yes p ↦ let e : told c (note_in (first r) own vs) ≡ max (told c vs) (suc own) = rw p (told_same c own vs (omega arith)) in omega arith
        | no p ↦ omega (arith, told_other c (first r) own vs p (omega arith))
      ]
  told_grows (file i t) own n vs h l =
      omega (arith, told_grows i (n + 1) (n + 1) vs (omega arith) (omega arith), told_grows t own (n + 1 + entries i) (noted first (n + 1) (n + 1) vs i) (omega arith) (omega arith))

  told_brings : (t : Met R) (own n : ℕ) (vs : List ℕ) → own ≤ n → n + entries t < 512 → brings first c t ≡ true → 0 < told c (noted first own n vs t)
  unfolding noted entries brings
  told_brings end own n vs h l b = absurd (false≢true b)
  told_brings (rule r t) own n vs h l b = ⊎_elim
      (λ p.
      let e : told c (note_in (first r) own vs) ≡ max (told c vs) (suc own) = rw (eqb-true (first r) c p) (told_same c own vs (omega arith)) in
      let w = told_grows t own n (note_in (first r) own vs) h l in
      omega arith)
      (λ p. told_brings t own n (note_in (first r) own vs) h l p)
      (or_true _ _ b)
  told_brings (file i t) own n vs h l b = ⊎_elim
      (λ p.
      let v = told_brings i (n + 1) (n + 1) vs (omega arith) (omega arith) p in
      let w = told_grows t own (n + 1 + entries i) (noted first (n + 1) (n + 1) vs i) (omega arith) (omega arith) in
      omega arith)
      (λ p. told_brings t own (n + 1 + entries i) _ (omega arith) (omega arith) p)
      (or_true _ _ b)

  -- a rule that is met, and the rules of c
  kept_rule : (l n : ℕ) (vs : List ℕ) (r : R) (rs fr : List R) → (eqb (first r) c ≡ true → stays_in c n vs ≡ leb l n)
      → under first c (pick (stays_in (first r) n vs) (rs ++ (r ∷ [])) rs) ++ fr ≡ under first c rs ++ pick (eqb (first r) c) (pick (leb l n) (r ∷ fr) fr) fr
  unfolding under pick
  kept_rule l n vs r rs fr h = elim (ℕ_discrete (first r) c) [
    | yes p ↦ let e = eq-eqb (first r) c p in rw (e, p, h e) (mine e (leb l n))
    | no p ↦ let e = ne_eqb (first r) c p in rw e (other e (stays_in (first r) n vs))
  ]
    where
      mine : eqb (first r) c ≡ true → (b : Bool) → under first c (pick b (rs ++ (r ∷ [])) rs) ++ fr ≡ under first c rs ++ pick b (r ∷ fr) fr
      mine e true = rw (under_append first c rs (r ∷ []), pick_true _ (r ∷ []) [] e) (append_assoc (under first c rs) (r ∷ []) fr)
      mine e false = refl

      other : eqb (first r) c ≡ false → (b : Bool) → under first c (pick b (rs ++ (r ∷ [])) rs) ++ fr ≡ under first c rs ++ fr
      other e true = rw (under_append first c rs (r ∷ []), pick_false _ (r ∷ []) [] e) (append_assoc (under first c rs) [] fr)
      other e false = refl

  -- by a table that tells the last entry l, the rules from it on stay
  kept_from : (l : ℕ) (vs : List ℕ) (t : Met R) (n : ℕ) (rs : List R) → (brings first c t ≡ true → (m : ℕ) → stays_in c m vs ≡ leb l m)
      → under first c (kept first vs n rs t) ≡ under first c rs ++ from first c l n t
  unfolding kept from brings
  kept_from l vs end n rs h = sym (append-nil _)
  kept_from l vs (rule r t) n rs h = kept_from l vs t n _ (λ p. h (or_right _ _ p)) ∙ kept_rule l n vs r rs (from first c l n t) (λ p. h (or_left _ _ p) n)
  kept_from l vs (file i t) n rs h =
      kept_from l vs t (n + 1 + entries i) _ (λ p. h (or_right _ _ p))
      ∙ ap (λ (x : List R). x ++ from first c l (n + 1 + entries i) t) (kept_from l vs i (n + 1) rs (λ p. h (or_left _ _ p)))
      ∙ append_assoc (under first c rs) (from first c l (n + 1) i) (from first c l (n + 1 + entries i) t)

  -- THE LAW of the tables: of each first character the rules that stay are those that are held
  pub kept_held : (t : Met R) → entries t ≤ 256 → under first c (kept_rules first t) ≡ held_after first no_rules t c
  unfolding under told
  kept_held t h =
      kept_from (last_entry first c 0 0 0 t) (noted first 0 0 [] t) t 0 [] (λ p m.
      stays_told c m _ (told_brings t 0 0 [] (omega arith) (omega arith) p)
      ∙ ap (λ (k : ℕ). leb k m) (sym (last_told t 0 0 [] (omega arith) (omega arith))))
      ∙ sym (held_from first c t)

  -- where no include is followed every rule stays
  pub stays_all : (t : Met R) → entries t ≡ 0 → brings first c t ≡ true → stays_in c 0 (noted first 0 0 [] t) ≡ true
  unfolding told
  stays_all t z p = stays_told c 0 _ (told_brings t 0 0 [] (omega arith) (omega arith) p)
      ∙ le-leb (told c (noted first 0 0 [] t) - 1) 0 (omega (arith, last_told t 0 0 [] (omega arith) (omega arith), last_high first c t 0 0 0 (omega arith) (omega arith)))
