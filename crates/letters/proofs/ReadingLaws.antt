-- The pieces of a slice, as a trace; and a walk over them, as far as place p: what is left decides. Assumes nothing.
use Rattle.std.specs.Prelude.{Option, Some, None}
use mathlib.Core.Path.{◌≡◌, refl, sym, ap, ◌∙◌}
use mathlib.Core.Bool.{Bool, true, false}
use mathlib.Core.List.{List, [], ◌∷◌}
use Prim.Native.Nat.{ℕ, zero, suc, ◌+◌, ◌-◌, ◌^◌, ◌≤◌, ◌<◌, zero-le}
use native.Mathlib.Omega.{arith}
use lib.ListN.{length, get_or}
use mir.Syntax.{w64}
use mir.Val.{Fits}
use borrow.Author.Rules.{rules}
use Rattle.letters.specs.Utf8.{decode_at}
use Rattle.letters.specs.Reading.{Symbol, symbol, stray_byte, symbols_on, symbols_from, symbols_of, ill_in, first_ill, in_range, outside_in, first_outside}
use Rattle.letters.specs.declared.utf8.Step.{Step}
use Rattle.letters.specs.declared.utf8.Step.TheVariants.{Char, Ill, End}
use Rattle.letters.proofs.Utf8Laws.{char_at, ill_in_lem}
use Rattle.base.proofs.PickLaws.{pick_true, pick_false}
use Rattle.base.proofs.Arms.{clash}

-- l is what stands in s from p on
pub data Pieces (s : List ℕ) : ℕ → List Symbol → Type 0 where
  end : {p : ℕ} → decode_at s p ≡ End → Pieces s p []
  one : {p k n : ℕ} {l : List Symbol} → decode_at s p ≡ Char k n → Pieces s (p + n) l → Pieces s p (symbol p k ∷ l)
  bad : {p : ℕ} {l : List Symbol} → decode_at s p ≡ Ill → Pieces s (p + 1) l → Pieces s p (stray_byte p (get_or s p 0) ∷ l)

pieces_by : (s : List ℕ) (p : ℕ) (x : Step) (f : ℕ) → decode_at s p ≡ x → length s - p ≤ suc f → ((q : ℕ) → length s - q ≤ f → Pieces s q (symbols_from f s q)) → Pieces s p (symbols_on x s p (symbols_from f s))
unfolding symbols_on
pieces_by s p (Char k n) f e h ih = let w = char_at s p k n e in one e (ih (p + n) (omega arith))
pieces_by s p Ill f e h ih = let w = ill_in_lem s p e in bad e (ih (p + 1) (omega arith))
pieces_by s p End f e h ih = end e

past_end : (s : List ℕ) (p : ℕ) (x : Step) → decode_at s p ≡ x → length s ≤ p → Pieces s p []
past_end s p (Char k n) e h = let w = char_at s p k n e in absurd (omega arith)
past_end s p Ill e h = let w = ill_in_lem s p e in absurd (omega arith)
past_end s p End e h = end e

pub pieces_from_lem : (f : ℕ) (s : List ℕ) (p : ℕ) → length s - p ≤ f → Pieces s p (symbols_from f s p)
unfolding symbols_from
pieces_from_lem zero s p h = past_end s p (decode_at s p) refl (omega arith)
pieces_from_lem (suc f) s p h = pieces_by s p (decode_at s p) f refl h (λ q g. pieces_from_lem f s q g)

pub pieces_of : (s : List ℕ) → Pieces s 0 (symbols_of s)
unfolding symbols_of
pieces_of s = pieces_from_lem (length s) s 0 (omega arith)

-- ---- a walk that computes g of the pieces: g of what is left from p on is g of the whole

pub record Walk (A : Type 0) (g : List Symbol → A) (s : List ℕ) (p : ℕ) : Type 0 where
  pub left : List Symbol
  pub pieces : Pieces s p left
  pub within : p ≤ length s
  pub is : g (symbols_of s) ≡ g left

pub walk_start : (A : Type 0) (g : List Symbol → A) (s : List ℕ) → Walk A g s 0
walk_start A g s = record { left = symbols_of s; pieces = pieces_of s; within = zero-le; is = refl }

pub char_left : {s : List ℕ} {p k n : ℕ} {l : List Symbol} → Pieces s p l → decode_at s p ≡ Char k n → (m : List Symbol) × (l ≡ symbol p k ∷ m) × Pieces s (p + n) m
char_left (end e) q = clash (cc)
char_left {n = n} (one {n = n'} {l = m} e r) q = let x : n' ≡ n = cc in (m, cc, rw x at r)
char_left (bad e r) q = clash (cc)

pub ill_left : {s : List ℕ} {p : ℕ} {l : List Symbol} → Pieces s p l → decode_at s p ≡ Ill → (m : List Symbol) × (l ≡ stray_byte p (get_or s p 0) ∷ m) × Pieces s (p + 1) m
ill_left (end e) q = clash (cc)
ill_left (one e r) q = clash (cc)
ill_left (bad {l = m} e r) q = (m, refl, r)

pub end_left : {s : List ℕ} {p : ℕ} {l : List Symbol} → Pieces s p l → decode_at s p ≡ End → l ≡ []
end_left (end e) q = refl
end_left (one e r) q = clash (cc)
end_left (bad e r) q = clash (cc)

module _ {A : Type 0} {g : List Symbol → A} {s : List ℕ} {p : ℕ} (w : Walk A g s p) where
  -- a character that g passes over, one at which it is decided, an ill-formed sequence, the end
  pub walk_on : (k n : ℕ) → decode_at s p ≡ Char k n → ((m : List Symbol) → g (symbol p k ∷ m) ≡ g m) → Walk A g s (p + n)
  walk_on k n e h =
      let c = char_left w.pieces e in
      let b = char_at s p k n e in
      record { left = c.0; pieces = c.2; within = b.end; is = w.is ∙ ap g c.1 ∙ h c.0 }

  pub walk_stop : (k n : ℕ) (x : A) → decode_at s p ≡ Char k n → ((m : List Symbol) → g (symbol p k ∷ m) ≡ x) → g (symbols_of s) ≡ x
  walk_stop k n x e h = let c = char_left w.pieces e in w.is ∙ ap g c.1 ∙ h c.0

  pub walk_ill : (x : A) → decode_at s p ≡ Ill → ((m : List Symbol) → g (stray_byte p (get_or s p 0) ∷ m) ≡ x) → g (symbols_of s) ≡ x
  walk_ill x e h = let c = ill_left w.pieces e in w.is ∙ ap g c.1 ∙ h c.0

  pub walk_end : decode_at s p ≡ End → g (symbols_of s) ≡ g []
  walk_end e = w.is ∙ ap g (end_left w.pieces e)

-- ---- the first ill-formed sequence

module _ {s : List ℕ} {p : ℕ} (w : Walk (Option ℕ) ill_in s p) (r : Step) (e : r ≡ decode_at s p) where
  pub ill_on : (k n : ℕ) → r ≡ Char k n → Walk (Option ℕ) ill_in s (p + n)
  unfolding ill_in
  ill_on k n q = walk_on w k n (sym e ∙ q) (λ m. refl)

  pub ill_found : r ≡ Ill → Some p ≡ first_ill s
  unfolding ill_in first_ill
  ill_found q = sym (walk_ill w (Some p) (sym e ∙ q) (λ m. refl))

  pub ill_none : r ≡ End → None ≡ first_ill s
  unfolding ill_in first_ill
  ill_none q = sym (walk_end w (sym e ∙ q))

-- ---- the first place outside the range

module _ {s : List ℕ} {p : ℕ} (w : Walk (Option ℕ) outside_in s p) (r : Step) (e : r ≡ decode_at s p) where
  pub outside_on : (k n : ℕ) (t : Bool) → r ≡ Char k n → t ≡ in_range k → t ≡ true → Walk (Option ℕ) outside_in s (p + n)
  unfolding outside_in
  outside_on k n t q i h = walk_on w k n (sym e ∙ q) (λ m. pick_true _ _ _ (sym i ∙ h))

  pub outside_here : (k n : ℕ) (t : Bool) → r ≡ Char k n → t ≡ in_range k → t ≡ false → Some p ≡ first_outside s
  unfolding outside_in first_outside
  outside_here k n t q i h = sym (walk_stop w k n (Some p) (sym e ∙ q) (λ m. pick_false _ _ _ (sym i ∙ h)))

  pub outside_ill : r ≡ Ill → Some p ≡ first_outside s
  unfolding outside_in first_outside
  outside_ill q = sym (walk_ill w (Some p) (sym e ∙ q) (λ m. refl))

  pub outside_none : r ≡ End → None ≡ first_outside s
  unfolding outside_in first_outside
  outside_none q = sym (walk_end w (sym e ∙ q))

-- a step forward: it fits a usize, it ends within s, less is left
pub step_less : (s : List ℕ) (p k n : ℕ) (r : Step) → r ≡ decode_at s p → r ≡ Char k n → length s - (p + n) < length s - p
step_less s p k n r e q = let b = char_at s p k n (sym e ∙ q) in omega arith

pub step_end : (s : List ℕ) (p k n : ℕ) (r : Step) → r ≡ decode_at s p → r ≡ Char k n → p + n ≤ length s
step_end s p k n r e q = (char_at s p k n (sym e ∙ q)).end

pub step_fits : (s : List ℕ) (p k n : ℕ) (r : Step) → r ≡ decode_at s p → r ≡ Char k n → length s < 2 ^ 64 → Fits w64 (p + n)
step_fits s p k n r e q h = record { fits = omega (arith, step_end s p k n r e q) }

-- the same over an ill-formed byte
module _ (s : List ℕ) (p : ℕ) (r : Step) (e : r ≡ decode_at s p) (q : r ≡ Ill) where
  pub ill_end : p + 1 ≤ length s
  ill_end = omega (arith, ill_in_lem s p (sym e ∙ q))

  pub ill_less : length s - (p + 1) < length s - p
  ill_less = omega (arith, ill_in_lem s p (sym e ∙ q))

  pub ill_fits : length s < 2 ^ 64 → Fits w64 (p + 1)
  ill_fits h = record { fits = omega (arith, ill_end) }

-- steps of a loop over the characters of a slice
pub ruleset step_laws = (step_less, step_fits, ill_less, ill_fits)

pub ruleset ill_laws = (walk_start, ill_on, ill_found, ill_none, step_laws, rules)

pub ruleset outside_laws = (walk_start, outside_on, outside_here, outside_ill, outside_none, step_laws, rules)
