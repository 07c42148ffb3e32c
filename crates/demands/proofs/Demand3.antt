-- Demand 3 for the main pass over a word. Assumes nothing.
use Prim.Native.Nat.{ℕ, suc, ◌<◌}
use mathlib.Core.Path.{◌≡◌, refl, sym, ap, ◌∙◌, path_j}
use mathlib.Core.Bool.{Bool, true, false}
use mathlib.Core.List.{List, [], ◌∷◌, ◌++◌, append_assoc, append-nil}
use native.Mathlib.Omega.{arith}
use lib.Dec.{leb}
use lib.ListN.{length, take}
use borrow.Author.Tests.{leb-true, leb-false}
use Rattle.languages.specs.Sets.{narrowed, is_empty}
use Rattle.languages.specs.declared.sets.LanguageSet.{LanguageSet}
use Rattle.choices.specs.Texts.{Text}
use Rattle.choices.specs.Apply.{Alternative, Places, Entry, texts_of, NextSet, overlong, next_set, apply, start}
use Rattle.choices.specs.Choices.{◌∈◌, Choice, end, choose, spelt, leaves, Holds, first, later, First, Increasing}
use Rattle.base.proofs.Arms.{clash}
use Rattle.choices.proofs.SetLaws.{times_one}
use Rattle.choices.proofs.ApplyLaws.{Applied, From, from, holds_eq, apply_from, apply_has, apply_increasing}
use Rattle.rule_index.specs.Matching.{Matcher}
use Rattle.phoneme_builder.specs.Passes.{Turn, rule, letter, turns_of, ran, applied, after_letter, unmatched, run}
use Rattle.demands.specs.Applies.{ApplyOf, Reached}
use Rattle.demands.specs.Demands.{rule_places, StayedFewer, AlikeAgree, Demand3OfWord}
use Rattle.demands.proofs.Applies.{flagged_inv, first_apply, behind_rule, behind_letter, run_flag}

-- ---- how a main pass went

data Passing (limit : ℕ) : List Turn → List Entry → List Entry → Type 0 where
  over : {l : List Entry} → Passing limit [] l l
  step : {alts : List Alternative} {turns : List Turn} {l m r : List Entry}
      → Applied limit alts l m → Passing limit turns m r → Passing limit (rule alts ∷ turns) l r
  skip : {c : Text} {turns : List Turn} {l r : List Entry} → Passing limit turns l r → Passing limit (letter c ∷ turns) l r

ran_eq : {l r : List Entry} {f g : Bool} → ran l f ≡ ran r g → l ≡ r
ran_eq e = cc

rule_passing : (limit : ℕ) (alts : List Alternative) (turns : List Turn) (l r : List Entry) (f : Bool) (o : NextSet) → apply limit alts l ≡ o
    → ((m : List Entry) (d : Bool) → run false limit turns m ≡ ran r d → Passing limit turns m r)
    → applied limit o (run false limit turns) ≡ ran r f → Passing limit (rule alts ∷ turns) l r
unfolding applied
rule_passing limit alts turns l r f overlong q ih e = clash (cc)
rule_passing limit alts turns l r f (next_set m) q ih e =
    let came = flagged_inv _ _ r f e in
    step (record { is = q }) (ih m came.0 came.1)

passing : (limit : ℕ) (turns : List Turn) (l r : List Entry) (f : Bool) → run false limit turns l ≡ ran r f → Passing limit turns l r
unfolding run after_letter unmatched
passing limit [] l r f e = rw (← ran_eq e) over
passing limit (rule alts ∷ turns) l r f e = rule_passing limit alts turns l r f (apply limit alts l) refl (λ m d. passing limit turns m r d) e
passing limit (letter c ∷ turns) l r f e = skip (passing limit turns l r f e)

-- ---- every spelling is the text of a choice, from any set

-- a text of l with what a choice from its languages adds
data Spelled (l : List Entry) (places : Places) : Text → LanguageSet → Type 0 where
  spelled : {t : Text} {g : LanguageSet} → Holds l t g → (c : Choice g places) → Spelled l places (t ++ spelt c) (leaves c)

spelled_eq : {l : List Entry} {places : Places} {t u : Text} {g : LanguageSet} → t ≡ u → Spelled l places t g → Spelled l places u g
spelled_eq p s = rw (← p) s

-- one place in front
spelled_more : {l : List Entry} {alts : List Alternative} {places : Places} {t : Text} {g : LanguageSet}
    → From l alts t g → (c : Choice g places) → Spelled l (alts ∷ places) (t ++ spelt c) (leaves c)
unfolding spelt leaves
spelled_more (from {t = t} a h m ne) c = spelled_eq (sym (append_assoc t a.text (spelt c))) (spelled h (choose a m ne c))

spelled_step : {limit : ℕ} {alts : List Alternative} {places : Places} {l m : List Entry} {t : Text} {g : LanguageSet}
    → Applied limit alts l m → Spelled m places t g → Spelled l (alts ∷ places) t g
spelled_step e (spelled h c) = spelled_more (apply_from e h) c

pass_sound : {limit : ℕ} {turns : List Turn} {l r : List Entry} {t : Text} {g : LanguageSet}
    → Passing limit turns l r → Holds r t g → Spelled l (rule_places turns) t g
unfolding spelt leaves rule_places
pass_sound {t} over h = spelled_eq (append-nil t) (spelled h end)
pass_sound (step e run) h = spelled_step e (pass_sound run h)
pass_sound (skip run) h = pass_sound run h

-- ---- strictly increasing

pass_increasing : {limit : ℕ} {turns : List Turn} {l r : List Entry} → Passing limit turns l r → Increasing (texts_of l) → Increasing (texts_of r)
pass_increasing over i = i
pass_increasing (step e run) i = pass_increasing run (apply_increasing e)
pass_increasing (skip run) i = pass_increasing run i

-- ---- the two conditions, from any set

record Fewer (limit : ℕ) (l : List Entry) (turns : List Turn) : Type 0 where
  at : (new : List Entry) → ApplyOf false limit turns l new → length new < limit

record Agree (l : List Entry) (places : Places) : Type 0 where
  at : (k : ℕ) (t u : Text) (g h : LanguageSet) → Holds l t g → Holds l u h → (c : Choice g (take k places)) (d : Choice h (take k places))
      → t ++ spelt c ≡ u ++ spelt d → leaves c ≡ leaves d

module _ {limit : ℕ} {alts : List Alternative} {turns : List Turn} {l m : List Entry} (e : Applied limit alts l m) where
  fewer_here : Fewer limit l (rule alts ∷ turns) → length m < limit
  fewer_here f = f.at m (first_apply false limit e)

  fewer_after : Fewer limit l (rule alts ∷ turns) → Fewer limit m turns
  fewer_after f = record { at = λ new a. f.at new (behind_rule false limit e a) }

fewer_skip : {limit : ℕ} {c : Text} {turns : List Turn} {l : List Entry} → Fewer limit l (letter c ∷ turns) → Fewer limit l turns
unfolding unmatched
fewer_skip {limit} {l = l} f = record { at = λ new a. f.at new (behind_letter false limit l refl a) }

module _ {limit : ℕ} {alts : List Alternative} {places : Places} {l m : List Entry} (e : Applied limit alts l m) where
  agree_by : Agree l (alts ∷ places) → (k : ℕ) (t u : Text) (g h : LanguageSet) → From l alts t g → From l alts u h
      → (c : Choice g (take k places)) (d : Choice h (take k places)) → t ++ spelt c ≡ u ++ spelt d → leaves c ≡ leaves d
  unfolding spelt leaves
  agree_by a k t u g h (from {t = v} x hx mx nx) (from {t = w} y hy my ny) c d p =
      a.at (suc k) v w _ _ hx hy (choose x mx nx c) (choose y my ny d) (sym (append_assoc v x.text (spelt c)) ∙ p ∙ append_assoc w y.text (spelt d))

  agree_after : Agree l (alts ∷ places) → Agree m places
  agree_after a = record { at = λ k t u g h j i c d p. agree_by a k t u g h (apply_from e j) (apply_from e i) c d p }

  -- the languages that a joined text got are those of each choice that spells it
  agree_here : Agree l (alts ∷ places) → (t u : Text) (g h : LanguageSet) (x : Alternative) → Holds l t g → x ∈ alts
      → is_empty (narrowed g x.langs) ≡ false → From l alts u h → u ≡ t ++ x.text → h ≡ narrowed g x.langs
  unfolding spelt leaves
  agree_here a t u g h x hx mx nx (from {t = w} y hy my ny) p =
      a.at 1 w t _ g hy hx (choose y my ny end) (choose x mx nx end) (rw (append-nil y.text, append-nil x.text) p)

-- ---- under them, each choice's text is there, with the languages that it leaves

pass_has : {limit : ℕ} {turns : List Turn} {l r : List Entry} {t : Text} {g : LanguageSet}
    → Passing limit turns l r → Fewer limit l turns → Agree l (rule_places turns) → Holds l t g → (c : Choice g (rule_places turns)) → Holds r (t ++ spelt c) (leaves c)
unfolding spelt leaves rule_places
pass_has {t} over f a h end = holds_eq (sym (append-nil t)) refl h
pass_has {t} {g} (step e run) f a h (choose x mx nx c) =
    let came = apply_has e (fewer_here e f) x h mx nx in
    let agrees = agree_here e a t (t ++ x.text) g came.0 x h mx nx (apply_from e came.1) refl in
    holds_eq (append_assoc t x.text (spelt c)) refl (pass_has run (fewer_after e f) (agree_after e a) (holds_eq refl agrees came.1) c)
pass_has (skip run) f a h c = pass_has run (fewer_skip f) a h c

-- ---- from the start

-- a choice from equal languages
moved : {g h : LanguageSet} {places : Places} → g ≡ h → (c : Choice h places) → (d : Choice g places) × (spelt d ≡ spelt c) × (leaves d ≡ leaves c)
moved {g} {places} p =
    path_j (λ (h : LanguageSet) (q : g ≡ h). (c : Choice h places) → (d : Choice g places) × (spelt d ≡ spelt c) × (leaves d ≡ leaves c))
    (λ c. (c, refl, refl)) p

from_start : {g : LanguageSet} {places : Places} {t : Text} {h : LanguageSet} → Spelled (start g) places t h
    → (c : Choice g places) × (spelt c ≡ t) × (leaves c ≡ h)
from_start (spelled (first p q) c) =
    let m = moved q c in
    (m.0, m.1 ∙ ap (λ (s : Text). s ++ spelt c) p, m.2)
from_start (spelled (later x) c) = elim x [ ]

start_agree : (g : LanguageSet) (turns : List Turn) → AlikeAgree g turns → (k : ℕ) (t u : Text) (i h : LanguageSet)
    → Holds (start g) t i → Holds (start g) u h → (c : Choice i (take k (rule_places turns))) (d : Choice h (take k (rule_places turns)))
    → t ++ spelt c ≡ u ++ spelt d → leaves c ≡ leaves d
unfolding AlikeAgree
start_agree g turns a k t u i h (first p q) (first p' q') c d e =
    let m = moved q c in
    let n = moved q' d in
    sym m.2 ∙ a k m.0 n.0 (m.1 ∙ (rw (← p, ← p') at e) ∙ sym n.1) ∙ n.2
start_agree g turns a k t u i h (first p q) (later x) c d e = elim x [ ]
start_agree g turns a k t u i h (later x) _ c d e = elim x [ ]

-- the two conditions, and a choice's text
has_choice : (limit : ℕ) (g : LanguageSet) (turns : List Turn) (l : List Entry) → Passing limit turns (start g) l
    → StayedFewer limit g turns → AlikeAgree g turns → (c : Choice g (rule_places turns)) → Holds l (spelt c) (leaves c)
unfolding StayedFewer
has_choice limit g turns l run f a c = pass_has run (record { at = f }) (record { at = start_agree g turns a }) (first refl refl) c

-- ---- the flag and the first condition

module _ {limit : ℕ} {g : LanguageSet} {turns : List Turn} where
  fewer_by : (new : List Entry) (t : Bool) → leb limit (length new) ≡ t → (Reached false limit turns (start g) → ⊥) → ApplyOf false limit turns (start g) new → length new < limit
  fewer_by new true e out a = absurd (out (record { new = new; by = a; many = leb-true limit (length new) e }))
  fewer_by new false e out a = leb-false limit (length new) e

  fewer : (Reached false limit turns (start g) → ⊥) → StayedFewer limit g turns
  unfolding StayedFewer
  fewer out new a = fewer_by new (leb limit (length new)) refl out a

  reached_none : StayedFewer limit g turns → Reached false limit turns (start g) → ⊥
  unfolding StayedFewer
  reached_none f h =
      let few = f h.new h.by in
      let many = h.many in
      omega arith

not_up : {P : Type 0} (f : Bool) → (f ≡ true → P) → (P → ⊥) → f ≡ false
not_up true u out = absurd (out (u refl))
not_up false u out = refl

-- ---- of any turns, whatever pack and word they come from

of_turns : (limit : ℕ) (g : LanguageSet) (turns : List Turn) (l : List Entry) (f : Bool) → run false limit turns (start g) ≡ ran l f → Demand3OfWord limit g turns l f
unfolding Increasing First
of_turns limit g turns l f e =
    let run = passing limit turns (start g) l f e in
    let rising : Increasing (texts_of l) = pass_increasing run (tt, tt) in
    let flag = run_flag false limit turns (start g) l f e in
    let has = has_choice limit g turns l run in
    let down : f ≡ false → StayedFewer limit g turns = λ d. fewer (λ h. let u = flag.raised_by h in clash (cc)) in
    record {
      sound = λ t h k. from_start (pass_sound run k);
      increasing = rising;
      once = λ few a c. times_one l rising (has few a c);
      leaving = has;
      down_fewer = down;
      fewer_down = λ few. not_up f flag.up (reached_none few);
      down_once = λ d a c. times_one l rising (has (down d) a c);
    }

-- for any main rules, word, start languages and limit, where nothing is refused
pub demand_3_of_a_word : (names : List ℕ) (rules : Matcher) (word : Text) (g : LanguageSet) (limit : ℕ) (l : List Entry) (flag : Bool)
    → run false limit (turns_of names rules word) (start g) ≡ ran l flag → Demand3OfWord limit g (turns_of names rules word) l flag
demand_3_of_a_word names rules word g limit l flag e = of_turns limit g (turns_of names rules word) l flag e
