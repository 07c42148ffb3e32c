-- The numbers of an answer: no two answers have the same, so the promise of a call allows one. Assumes nothing.
use mathlib.Core.Path.{◌≡◌, refl, sym, ap, ap₂, ◌∙◌}
use mathlib.Core.Bool.{Bool, true, false}
use mathlib.Core.List.{List}
use Prim.Native.Nat.{ℕ}
use native.Mathlib.Omega.{arith}
use lib.Dec.{leb}
use lib.ListN.{length}
use Rattle.base.specs.Pick.{pick}
use Rattle.refusals.specs.Numbers.{number_of}
use Rattle.refusals.specs.declared.Refusal.{Refusal}
use Rattle.refusals.proofs.NumberLaws.{number_one, number_some}
use Rattle.engine.specs.Calls.{CallOutcome, refused_by, key, Numbers, done_as, refused_as, numbers_in, spelled_numbers, filled_by, SpellIs}
use Rattle.engine.specs.declared.spelling.Spelled.{Spelled}
use Rattle.engine.specs.declared.spelling.Spelled.TheVariants.{Done, Refused}
use Rattle.engine.specs.InnerContracts.{spelled_in}

-- a refusal is not "done"
not_done : {A : Type 0} (why : Refusal) {n p : ℕ} {f : Bool} → done_as n f ≡ refused_as (number_of why) p → A
not_done why e =
    let zero_is : 0 ≡ number_of why = ap (λ (x : Numbers). x.code) e in
    let no_way : ⊥ = omega (arith, zero_is, number_some why) in
    absurd no_way

-- no two answers have the same numbers
pub numbers_one : (r r' : Spelled) → spelled_numbers r ≡ spelled_numbers r' → r ≡ r'
unfolding spelled_numbers
numbers_one (Done n f) (Done m g) e = ap₂ Done (ap (λ (x : Numbers). x.place) e) (ap (λ (x : Numbers). x.flag) e)
numbers_one (Done n f) (Refused why p) e = not_done why e
numbers_one (Refused why p) (Done n f) e = not_done why (sym e)
numbers_one (Refused why p) (Refused other q) e =
    ap₂ Refused (number_one why other (ap (λ (x : Numbers). x.code) e)) (ap (λ (x : Numbers). x.place) e)

-- the answer of a call by its cases has the numbers of the call
numbers_by_lem : (b : Bool) (r r' : Spelled) → spelled_numbers (pick b r r') ≡ pick b (spelled_numbers r) (spelled_numbers r')
unfolding pick
numbers_by_lem true r r' = refl
numbers_by_lem false r r' = refl

pub numbers_told : (x : CallOutcome) (room : ℕ) → spelled_numbers (spelled_in x room) ≡ numbers_in x room
unfolding spelled_numbers numbers_in spelled_in
numbers_told (refused_by why place) room = refl
numbers_told (key t f) room = numbers_by_lem (leb (length t) room) _ _

module _ {x : CallOutcome} {out out' : List ℕ} {r : Spelled} where
  pub told_is : SpellIs x out r out' → r ≡ spelled_in x (length out)
  told_is w = numbers_one _ _ (w.result ∙ sym (numbers_told x (length out)))

  pub spell_is : r ≡ spelled_in x (length out) → out' ≡ filled_by x out → SpellIs x out r out'
  spell_is e b = record { result = ap spelled_numbers e ∙ numbers_told x (length out); buffer = b }
