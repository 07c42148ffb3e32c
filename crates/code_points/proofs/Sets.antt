-- Sets of texts: what is entered, appended and united is well formed where it was before, and in order. Assumes nothing.
use mathlib.Core.Path.{◌≡◌, refl, sym, ap, ◌∙◌}
use mathlib.Core.Bool.{Bool, true, false}
use mathlib.Core.List.Memᴰ
use mathlib.Core.List.{List, [], ◌∷◌, map, map-append}
use Prim.Native.Nat.{ℕ}
use lib.Dec.{leb, ltb}
use lib.ListN.{length}
use Rattle.base.specs.Pick.{pick}
use Rattle.letters.specs.Order.{order_of, same_text}
use Rattle.letters.specs.Reading.{codes_of}
use Rattle.std.specs.declared.cmp.Ordering.{Ordering}
use Rattle.std.specs.declared.cmp.Ordering.TheVariants.{Less, Equal, Greater}
use Rattle.letters.proofs.CodeOrder.{order_by_codes}
use Rattle.languages.specs.Sets.{merged}
use Rattle.languages.specs.declared.sets.LanguageSet.{LanguageSet}
use Rattle.choices.specs.Texts.{Text, by_order}
use Rattle.choices.specs.Apply.{Alternative, Entry, texts_of, NextSet, overlong, next_set, insert, under, candidates, enter, apply}
use Rattle.choices.specs.Choices.{First, Increasing}
use Rattle.choices.proofs.SetLaws.{insert_increasing}
use Rattle.phoneme_builder.specs.Sets.{Spelling, refusal, sorted, lengthened, all_short, appended, holds_text, remerged, united}
use Rattle.phoneme_builder.specs.Sets as sets
use Rattle.code_points.specs.CodePoints.{AllWellFormed, InCodeOrder}
use Rattle.code_points.proofs.Bytes.{border, Formed, formed_append, formed_of, never_ill}
use Rattle.code_points.proofs.Cuts.{Every, none, more, every_append, every_at}
use Rattle.base.proofs.PickLaws.{pick_all}

-- well formed, and in the order of the bytes
pub record Proper (ts : List Text) : Type 0 where
  pub formed : Every Formed ts
  pub increasing : Increasing ts

-- ---- so they are in the order of the code points

every_in : {ts : List Text} → Every Formed ts → AllWellFormed ts
unfolding AllWellFormed
every_in e t m = never_ill t (every_at e t m)

pub every_of : (ts : List Text) → AllWellFormed ts → Every Formed ts
unfolding AllWellFormed
every_of [] k = none
every_of (t ∷ ts) k = more (formed_of t (k t (Memᴰ.head refl))) (every_of ts (λ u m. k u (Memᴰ.tail m)))

first_by_codes : (s : Text) (ts : List Text) → Formed s → Every Formed ts → First s ts → First (codes_of s) (map codes_of ts)
unfolding First
first_by_codes s [] f e i = tt
first_by_codes s (t ∷ ts) f (more g e) i = sym (order_by_codes s t (never_ill s f) (never_ill t g)) ∙ i

increasing_by_codes : (ts : List Text) → Every Formed ts → Increasing ts → Increasing (map codes_of ts)
unfolding Increasing
increasing_by_codes [] e i = tt
increasing_by_codes (t ∷ ts) (more f e) i = (first_by_codes t ts f e i.0, increasing_by_codes ts e i.1)

pub in_code_order : (ts : List Text) → Proper ts → InCodeOrder ts
in_code_order ts w = record { formed = every_in w.formed; increasing = increasing_by_codes ts w.formed w.increasing }

-- ---- one text more

by_order_lem : {A : Type 0} (P : A → Type 0) (o : Ordering) (a b c : A) → P a → P b → P c → P (by_order o a b c)
unfolding by_order
by_order_lem P Less a b c p q r = p
by_order_lem P Equal a b c p q r = q
by_order_lem P Greater a b c p q r = r

insert_formed : (e : Entry) (l : List Entry) → Formed e.text → Every Formed (texts_of l) → Every Formed (texts_of (insert e l))
unfolding insert
insert_formed e [] f w = more f none
insert_formed e (x ∷ l) f (more g w) =
    by_order_lem (λ (m : List Entry). Every Formed (texts_of m)) (order_of x.text e.text) _ _ _ (more g (insert_formed e l f w)) (more g w) (more f (more g w))

insert_proper : (e : Entry) (l : List Entry) → Formed e.text → Proper (texts_of l) → Proper (texts_of (insert e l))
insert_proper e l f w = record { formed = insert_formed e l f w.formed; increasing = insert_increasing e l w.increasing }

pub empty_proper : Proper []
unfolding Increasing
empty_proper = record { formed = none; increasing = tt }

-- ---- apply

-- a set, where nothing was refused
unfoldable pub ProperSet : NextSet → Type 0
ProperSet overlong = Unit {0}
ProperSet (next_set l) = Proper (texts_of l)

abbrev pub FormedAlternative : Alternative → Type 0
FormedAlternative a = Formed a.text

under_formed : (e : Entry) (alts : List Alternative) → Formed e.text → Every FormedAlternative alts → Every Formed (texts_of (under e alts))
unfolding under
under_formed e [] f w = none
under_formed e (a ∷ alts) f (more g w) =
    let rest = under_formed e alts f w in
    pick_all (λ (m : List Entry). Every Formed (texts_of m)) _ _ _ rest (more (formed_append border e.text a.text f g) rest)

candidates_formed : (l : List Entry) (alts : List Alternative) → Every Formed (texts_of l) → Every FormedAlternative alts → Every Formed (texts_of (candidates l alts))
unfolding candidates
candidates_formed [] alts f w = none
candidates_formed (e ∷ l) alts (more g f) w = rw map-append (every_append (under_formed e alts g w) (candidates_formed l alts f w))

enter_proper : (limit : ℕ) (cs l : List Entry) → Every Formed (texts_of cs) → Proper (texts_of l) → ProperSet (enter limit cs l)
unfolding enter ProperSet
enter_proper limit [] l f w = w
enter_proper limit (c ∷ cs) l (more g f) w =
    pick_all ProperSet (leb limit (length l)) _ _ w (pick_all ProperSet (ltb 128 (length c.text)) _ _ tt (enter_proper limit cs (insert c l) f (insert_proper c l g w)))

pub apply_proper : (limit : ℕ) (alts : List Alternative) (l : List Entry) → Every FormedAlternative alts → Every Formed (texts_of l) → ProperSet (apply limit alts l)
unfolding apply
apply_proper limit alts l w f = enter_proper limit (candidates l alts) [] (candidates_formed l alts f w) empty_proper

-- ---- append

lengthened_formed : (c : Text) (l : List Entry) → Formed c → Every Formed (texts_of l) → Every Formed (texts_of (map (lengthened c) l))
lengthened_formed c [] g f = none
lengthened_formed c (e ∷ l) g (more h f) = more (formed_append border e.text c h g) (lengthened_formed c l g f)

sorted_proper : (l : List Entry) → Every Formed (texts_of l) → Proper (texts_of (sorted l))
unfolding sorted
sorted_proper [] f = empty_proper
sorted_proper (e ∷ l) (more g f) = insert_proper e (sorted l) g (sorted_proper l f)

pub appended_proper : (c : Text) (l : List Entry) → Formed c → Every Formed (texts_of l) → ProperSet (appended c l)
unfolding appended ProperSet
appended_proper c l g f = pick_all ProperSet (all_short (map (lengthened c) l)) _ _ (sorted_proper (map (lengthened c) l) (lengthened_formed c l g f)) tt

-- ---- unite

-- merging changes no text
texts_by_lem : (t : Bool) (x : Entry) (g : LanguageSet) (l m : List Entry) → texts_of m ≡ texts_of l
    → texts_of (pick t (record { text = x.text; langs = merged x.langs g } ∷ l) (x ∷ m)) ≡ texts_of (x ∷ l)
unfolding pick
texts_by_lem true x g l m e = refl
texts_by_lem false x g l m e = ap (λ (ts : List Text). x.text ∷ ts) e

texts_remerged : (t : Text) (g : LanguageSet) (l : List Entry) → texts_of (remerged t g l) ≡ texts_of l
unfolding remerged
texts_remerged t g [] = refl
texts_remerged t g (x ∷ l) = texts_by_lem (same_text x.text t) x g l (remerged t g l) (texts_remerged t g l)

unfoldable pub ProperSpelling : Spelling → Type 0
ProperSpelling (refusal k) = Unit {0}
ProperSpelling (sets.texts l flag) = Proper (texts_of l)

pub united_proper : (g : LanguageSet) (xs l : List Entry) (rest : List Entry → Spelling) → Every Formed (texts_of xs) → Proper (texts_of l)
    → ((m : List Entry) → Proper (texts_of m) → ProperSpelling (rest m)) → ProperSpelling (united g xs l rest)
unfolding united ProperSpelling
united_proper g [] l rest f w k = k l w
united_proper g (x ∷ xs) l rest (more h f) w k =
    pick_all ProperSpelling (holds_text x.text l) _ _ (united_proper g xs (remerged x.text g l) rest f (rw texts_remerged w) k)
    (pick_all ProperSpelling (leb 256 (length l)) _ _ tt (united_proper g xs (insert x l) rest f (insert_proper x l h w) k))
