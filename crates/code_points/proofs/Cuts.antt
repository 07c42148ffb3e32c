-- A well-formed text that is cut at a byte below 80, or joined, is well formed: expressions, words and names. Assumes nothing.
use mathlib.Core.Path.{◌≡◌, refl, ap, ◌∙◌}
use mathlib.Core.Bool.{Bool, true, false}
use mathlib.Core.List.Memᴰ
use mathlib.Core.List.{List, [], ◌∷◌, ◌++◌, Memᴰ}
use mathlib.Core.Logic.{⊎_elim}
use Prim.Native.Nat.{ℕ, suc}
use lib.Dec.{leb, eqb}
use lib.ListN.{length, take, drop}
use borrow.Author.Tests.{eqb-true}
use Rattle.base.specs.Pick.{pick}
use Rattle.texts.specs.Parts.{tail, front, first_is, last_is, place_of, prefix_of}
use Rattle.texts.proofs.Laws.{prefix_split}
use Rattle.phonemes.specs.Expressions.{round, unround, bar, opening, on_first, cut_at, inside, extra, pieces_in, text_of}
use Rattle.choices.specs.Texts.{Text}
use Rattle.code_points.proofs.Bytes.{State, border, step, after, Formed, formed_rest, sign_border}
use Rattle.base.proofs.PickLaws.{pick_all}

pub data Every {A : Type 0} (P : A → Type 0) : List A → Type 0 where
  none : Every P []
  more : {x : A} {l : List A} → P x → Every P l → Every P (x ∷ l)

pub every_append : {A : Type 0} {P : A → Type 0} {l m : List A} → Every P l → Every P m → Every P (l ++ m)
every_append none b = b
every_append (more p a) b = more p (every_append a b)

pub every_at : {A : Type 0} {P : A → Type 0} {l : List A} → Every P l → (x : A) → Memᴰ x l → P x
every_at none x m = absurd (Memᴰ.not-nil m)
every_at {P = P} (more {x = y} p a) x m = ⊎_elim (λ e. rw e p) (λ n. every_at a x n) (Memᴰ.cases_cons m)

-- ---- at one sign b

-- the byte at the front is the sign
sign_at : (q : State) (b x : ℕ) (s : Text) → leb b 0x7F ≡ true → eqb x b ≡ true → after q (x ∷ s) ≡ border → (q ≡ border) × Formed s
sign_at q b x s h e f = sign_border q x s (ap (λ (n : ℕ). leb n 0x7F) (eqb-true x b e) ∙ h) f

module _ (b : ℕ) (h : leb b 0x7F ≡ true) where
  before_by : (q : State) (x : ℕ) (s : Text) (t : Bool) → eqb x b ≡ t → after (step q x) (take (place_of b s) s) ≡ border → after q (x ∷ s) ≡ border
      → after q (take (pick t 0 (suc (place_of b s))) (x ∷ s)) ≡ border
  unfolding pick after
  before_by q x s true e ih f = (sign_at q b x s h e f).0
  before_by q x s false e ih f = ih

  -- what stands before its first
  pub before_formed : (q : State) (s : Text) → after q s ≡ border → after q (take (place_of b s) s) ≡ border
  unfolding place_of after
  before_formed q [] f = f
  before_formed q (x ∷ s) f = before_by q x s (eqb x b) refl (before_formed (step q x) s f) f

  -- the parts between: the first goes on from q
  data Parts (q : State) : List Text → Type 0 where
    parts : {p : Text} {ps : List Text} → after q p ≡ border → Every Formed ps → Parts q (p ∷ ps)

  parts_all : {ps : List Text} → Parts border ps → Every Formed ps
  parts_all (parts f e) = more f e

  parts_on : (q : State) (x : ℕ) {ps : List Text} → Parts (step q x) ps → Parts q (on_first x ps)
  unfolding on_first after
  parts_on q x (parts f e) = parts f e

  cut_by : (q : State) (x : ℕ) (s : Text) (t : Bool) → eqb x b ≡ t → ((r : State) → after r s ≡ border → Parts r (cut_at b s)) → after q (x ∷ s) ≡ border
      → Parts q (pick t ([] ∷ cut_at b s) (on_first x (cut_at b s)))
  unfolding pick after
  cut_by q x s true e ih f = let w = sign_at q b x s h e f in parts w.0 (parts_all (ih border w.1))
  cut_by q x s false e ih f = parts_on q x (ih (step q x) f)

  cut_parts : (q : State) (s : Text) → after q s ≡ border → Parts q (cut_at b s)
  unfolding cut_at after
  cut_parts q [] f = parts f none
  cut_parts q (x ∷ s) f = cut_by q x s (eqb x b) refl (λ r g. cut_parts r s g) f

  pub cut_formed : (s : Text) → Formed s → Every Formed (cut_at b s)
  cut_formed s f = parts_all (cut_parts border s f)

  -- without the sign at its front, or at its end
  pub tail_formed : (s : Text) → first_is b s ≡ true → Formed s → Formed (tail s)
  unfolding first_is tail
  tail_formed [] e f = f
  tail_formed (x ∷ s) e f = (sign_at border b x s h e f).1

  pub front_formed : (q : State) (s : Text) → last_is b s ≡ true → after q s ≡ border → after q (front s) ≡ border
  unfolding last_is front after
  front_formed q [] e f = f
  front_formed q (x ∷ []) e f = (sign_at q b x [] h e f).0
  front_formed q (x ∷ y ∷ s) e f = front_formed (step q x) (y ∷ s) e f

-- between a sign at its front and one at its end
pub between_formed : (b c : ℕ) → leb b 0x7F ≡ true → leb c 0x7F ≡ true → (e : Text) → first_is b e ≡ true → last_is c e ≡ true → Formed e → Formed (front (tail e))
unfolding tail last_is front after
between_formed b c h g [] p q f = f
between_formed b c h g (x ∷ []) p q f = refl
between_formed b c h g (x ∷ y ∷ l) p q f = front_formed c g border (y ∷ l) q (tail_formed b h (x ∷ y ∷ l) p f)

-- ---- what follows a prefix

pub behind_formed : (p s : Text) → prefix_of p s ≡ true → Formed p → Formed s → Formed (drop (length p) s)
behind_formed p s e f g = formed_rest p (drop (length p) s) f (rw (prefix_split p s e) g)

-- ---- expressions

extra_formed : (t : Text) → Every Formed (extra t)
unfolding extra after
extra_formed t =
    let empty : Every Formed ([] ∷ []) = more refl none in
    pick_all (Every Formed) (first_is bar t) _ _ empty (pick_all (Every Formed) (last_is bar t) _ _ empty none)

pieces_by : (e : Text) (t : Bool) → first_is round e ≡ t → pick t (last_is unround e) true ≡ true → Formed e
    → Every Formed (pick t (cut_at bar (inside e) ++ extra (inside e)) (e ∷ []))
unfolding pick inside
pieces_by e true a b f = every_append (cut_formed bar refl (inside e) (between_formed round unround refl refl e a b f)) (extra_formed (inside e))
pieces_by e false a b f = more f none

-- the alternatives of a well-formed expression whose round bracket is closed
pub pieces_formed : (e : Text) → pick (first_is round e) (last_is unround e) true ≡ true → Formed e → Every Formed (pieces_in e)
unfolding pieces_in
pieces_formed e b f = pieces_by e (first_is round e) refl b f

pub text_formed : (a : Text) → Formed a → Formed (text_of a)
unfolding text_of
text_formed a f = before_formed opening refl border a f
