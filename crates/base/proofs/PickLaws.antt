-- Laws of a choice by a test, and of tests: `search` and unification see `pick t a b` as it is written. Assumes nothing.
use mathlib.Core.Bool.{Bool, true, false, false≢true}
use mathlib.Core.Path.{◌≡◌, refl, sym, ◌∙◌}
use Rattle.base.specs.Pick.{pick, and}
use mathlib.Core.Logic.{◌⊎◌, inl, inr}
use borrow.Author.Tests.{lt-ltb, le-ltb, le-leb, lt-leb, eq-eqb, ne_eqb}

pub pick_yes : {A : Type 0} (t : Bool) (x a b : A) → t ≡ true → x ≡ a → x ≡ pick t a b
unfolding pick
pick_yes t x a b p e = rw p e

pub pick_no : {A : Type 0} (t : Bool) (x a b : A) → t ≡ false → x ≡ b → x ≡ pick t a b
unfolding pick
pick_no t x a b p e = rw p e

-- the equation itself, for `rw`
pub pick_true : {A : Type 0} (t : Bool) (a b : A) → t ≡ true → pick t a b ≡ a
unfolding pick
pick_true t a b p = rw p refl

pub pick_false : {A : Type 0} (t : Bool) (a b : A) → t ≡ false → pick t a b ≡ b
unfolding pick
pick_false t a b p = rw p refl

-- two picks by one test are equal where their arms are, each under its test
pub pick_cong : {A : Type 0} (t : Bool) (a a' b b' : A) → (t ≡ true → a ≡ a') → (t ≡ false → b ≡ b') → pick t a b ≡ pick t a' b'
unfolding pick
pick_cong true a a' b b' p q = p refl
pick_cong false a a' b b' p q = q refl

-- backwards: what a result tells of the test
pub pick_inv : {A : Type 0} (t : Bool) (a b x : A) → pick t a b ≡ x → ((t ≡ true) × (a ≡ x)) ⊎ ((t ≡ false) × (b ≡ x))
unfolding pick
pick_inv true a b x e = inl (refl, e)
pick_inv false a b x e = inr (refl, e)

-- what holds of both arms
pub pick_all : {A : Type 0} (P : A → Type 0) (t : Bool) (a b : A) → P a → P b → P (pick t a b)
unfolding pick
pick_all P true a b p q = p
pick_all P false a b p q = q

pub pick_same : {A : Type 0} (t : Bool) (a : A) → pick t a a ≡ a
unfolding pick
pick_same true a = refl
pick_same false a = refl

pub pick_and : {A : Type 0} (t u : Bool) (a b : A) → pick (and t u) a b ≡ pick t (pick u a b) b
unfolding pick and
pick_and true u a b = refl
pick_and false u a b = refl

pub pick_map : {A B : Type 0} (h : A → B) (t : Bool) (a b : A) → h (pick t a b) ≡ pick t (h a) (h b)
unfolding pick
pick_map h true a b = refl
pick_map h false a b = refl

-- a test that says no, passed
pub pick_past : (t b : Bool) → pick t false b ≡ true → (t ≡ false) × (b ≡ true)
unfolding pick
pick_past true b e = absurd (false≢true e)
pick_past false b e = (refl, e)

-- a test that a call made: t is the callee's result
pub yes_by : {t u : Bool} → t ≡ u → t ≡ true → u ≡ true
yes_by p q = sym p ∙ q

pub no_by : {t u : Bool} → t ≡ u → t ≡ false → u ≡ false
no_by p q = sym p ∙ q

pub and_yes : (t u : Bool) → t ≡ true → u ≡ true → and t u ≡ true
unfolding and
and_yes t u p q = rw p q

pub and_first : (t u : Bool) → t ≡ false → and t u ≡ false
unfolding and
and_first t u p = rw p refl

pub and_second : (t u : Bool) → t ≡ true → u ≡ false → and t u ≡ false
unfolding and
and_second t u p q = rw p q

-- at a return: the second test alone, or no
pub and_rest : (t u x : Bool) → t ≡ true → x ≡ u → x ≡ and t u
unfolding and
and_rest t u x p e = rw p e

pub and_none : (t u x : Bool) → t ≡ false → x ≡ false → x ≡ and t u
unfolding and
and_none t u x p e = rw p e

pub and_no : (t u : Bool) → false ≡ u → false ≡ and t u
unfolding and
and_no true u e = e
and_no false u e = refl

pub and_inv : (t u : Bool) → and t u ≡ true → (t ≡ true) × (u ≡ true)
unfolding and
and_inv true u e = (refl, e)
and_inv false u e = absurd (false≢true e)

pub and_assoc : (a b c : Bool) → and (and a b) c ≡ and a (and b c)
unfolding and
and_assoc true b c = refl
and_assoc false b c = refl

-- the tests that the code makes, as the definitions write them
pub ruleset tests = (lt-ltb, le-ltb, le-leb, lt-leb, eq-eqb, ne_eqb, yes_by, no_by, and_yes, and_first, and_second)

-- a definition by `pick`, at a return: `search cases`, under `unfolding` of the definition
pub ruleset cases = (pick_yes, pick_no, and_rest, and_none, tests)
