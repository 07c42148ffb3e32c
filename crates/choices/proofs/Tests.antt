-- A test for demand 3's second condition, that computes: list the choices made as far as each place and compare them. Assumes nothing.
use mathlib.Core.Path.{◌≡◌, refl, sym, ap, ◌∙◌}
use mathlib.Core.Bool.{Bool, true, false}
use mathlib.Core.List.{List, [], ◌∷◌, ◌++◌, append_assoc, append-nil}
use Prim.Native.Nat.{ℕ, zero, suc}
use lib.ListN.{take}
use lib.Dec.{eqb}
use borrow.Author.Tests.{eqb-true}
use Rattle.base.specs.Pick.{pick}
use Rattle.choices.specs.Texts.{Text, by_order}
use Rattle.letters.specs.Order.{order_of}
use Rattle.std.specs.declared.cmp.Ordering.{Ordering}
use Rattle.std.specs.declared.cmp.Ordering.TheVariants.{Less, Equal, Greater}
use Rattle.choices.specs.Apply.{Places, Entry, candidates, start}
use Rattle.choices.specs.Choices.{Choice, end, choose, spelt, leaves, Holds, first, later}
use Rattle.languages.specs.declared.sets.LanguageSet.{LanguageSet}
use Rattle.languages.specs.declared.sets.LanguageSet.TheVariants.{Any, NoLanguages, SomeLanguages}
use Rattle.letters.proofs.StrictOrder.{compare_refl}
use Rattle.base.proofs.Arms.{clash}
use Rattle.choices.proofs.ApplyLaws.{holds_eq, candidates_has}

-- ---- the choices, listed: no limit, and equal texts side by side

unfoldable pub every : Places → List Entry → List Entry
every [] l = l
every (alts ∷ places) l = every places (candidates l alts)

pub every_has : {g : LanguageSet} {places : Places} (l : List Entry) (t : Text) (c : Choice g places) → Holds l t g
    → Holds (every places l) (t ++ spelt c) (leaves c)
unfolding every spelt leaves
every_has l t end h = holds_eq (sym (append-nil t)) refl h
every_has l t (choose {alts = alts} a m ne c) h =
    holds_eq (append_assoc t a.text (spelt c)) refl (every_has (candidates l alts) (t ++ a.text) c (candidates_has l alts a h m ne))

-- ---- equal texts have equal languages

unfoldable pub same_set : LanguageSet → LanguageSet → Bool
same_set Any Any = true
same_set Any NoLanguages = false
same_set Any (SomeLanguages y) = false
same_set NoLanguages Any = false
same_set NoLanguages NoLanguages = true
same_set NoLanguages (SomeLanguages y) = false
same_set (SomeLanguages x) Any = false
same_set (SomeLanguages x) NoLanguages = false
same_set (SomeLanguages x) (SomeLanguages y) = eqb x y

same_set_eq : (g h : LanguageSet) → same_set g h ≡ true → g ≡ h
unfolding same_set
same_set_eq Any Any e = refl
same_set_eq Any NoLanguages e = clash (cc)
same_set_eq Any (SomeLanguages y) e = clash (cc)
same_set_eq NoLanguages Any e = clash (cc)
same_set_eq NoLanguages NoLanguages e = refl
same_set_eq NoLanguages (SomeLanguages y) e = clash (cc)
same_set_eq (SomeLanguages x) Any e = clash (cc)
same_set_eq (SomeLanguages x) NoLanguages e = clash (cc)
same_set_eq (SomeLanguages x) (SomeLanguages y) e = ap SomeLanguages (eqb-true x y e)

both : (p q : Bool) → pick p q false ≡ true → (p ≡ true) × (q ≡ true)
unfolding pick
both true q e = (refl, e)
both false q e = clash (cc)

-- e against each of l
unfoldable pub fits : Entry → List Entry → Bool
fits e [] = true
fits e (x ∷ l) = pick (by_order (order_of e.text x.text) true (same_set e.langs x.langs) true) (fits e l) false

fits_by : (e x : Entry) (o : Ordering) → order_of e.text x.text ≡ o → by_order o true (same_set e.langs x.langs) true ≡ true
    → e.text ≡ x.text → e.langs ≡ x.langs
unfolding by_order
fits_by e x Less q f p =
    let s : order_of e.text x.text ≡ Equal = ap (λ (t : Text). order_of t x.text) p ∙ compare_refl x.text in
    clash (cc)
fits_by e x Equal q f p = same_set_eq e.langs x.langs f
fits_by e x Greater q f p =
    let s : order_of e.text x.text ≡ Equal = ap (λ (t : Text). order_of t x.text) p ∙ compare_refl x.text in
    clash (cc)

fits_eq : (e : Entry) (l : List Entry) {t : Text} {g : LanguageSet} → fits e l ≡ true → Holds l t g → e.text ≡ t → e.langs ≡ g
unfolding fits
fits_eq e [] f x3 s = elim x3 [ ]
fits_eq e (x ∷ l) f (first p q) s = fits_by e x (order_of e.text x.text) refl (both _ _ f).0 (s ∙ sym p) ∙ q
fits_eq e (x ∷ l) f (later h) s = fits_eq e l (both _ _ f).1 h s

unfoldable pub agreeing : List Entry → Bool
agreeing [] = true
agreeing (e ∷ l) = pick (fits e l) (agreeing l) false

agreeing_eq : (l : List Entry) {t : Text} {g h : LanguageSet} → agreeing l ≡ true → Holds l t g → Holds l t h → g ≡ h
unfolding agreeing
agreeing_eq [] f x3 _ = elim x3 [ ]
agreeing_eq (e ∷ l) f (first p q) (first p' q') = sym q ∙ q'
agreeing_eq (e ∷ l) f (first p q) (later k) = sym q ∙ fits_eq e l (both _ _ f).0 k p
agreeing_eq (e ∷ l) f (later k) (first p q) = sym (fits_eq e l (both _ _ f).0 k p) ∙ q
agreeing_eq (e ∷ l) f (later k) (later i) = agreeing_eq l (both _ _ f).1 k i

-- ---- as far as each place

unfoldable pub all_agree : Places → List Entry → Bool
all_agree [] l = agreeing l
all_agree (alts ∷ places) l = pick (agreeing l) (all_agree places (candidates l alts)) false

all_agree_at : (k : ℕ) (places : Places) (l : List Entry) → all_agree places l ≡ true → agreeing (every (take k places) l) ≡ true
unfolding all_agree every
all_agree_at zero [] l f = f
all_agree_at zero (alts ∷ places) l f = (both _ _ f).0
all_agree_at (suc k) [] l f = f
all_agree_at (suc k) (alts ∷ places) l f = all_agree_at k places (candidates l alts) (both (agreeing l) _ f).1

pub alike_by_test : (g : LanguageSet) (places : Places) → all_agree places (start g) ≡ true → (k : ℕ) (c d : Choice g (take k places))
    → spelt c ≡ spelt d → leaves c ≡ leaves d
alike_by_test g places f k c d e =
    agreeing_eq (every (take k places) (start g)) (all_agree_at k places (start g) f) (every_has (start g) [] c (first refl refl))
    (holds_eq (sym e) refl (every_has (start g) [] d (first refl refl)))
