-- The line of a name, in the part of the buffer that is left. Assumes nothing.
use mathlib.Core.Path.{◌≡◌, refl, sym, ap, ap₂, ◌∙◌}
use mathlib.Core.Bool.{Bool, true, false}
use mathlib.Core.List.{List, [], ◌∷◌}
use mathlib.Core.Logic.{◌⊎◌, inl, inr}
use Prim.Native.Nat.{ℕ, ◌+◌, ◌-◌, ◌≤◌, ◌<◌, min}
use native.Mathlib.Decide.{dec_le}
use native.Mathlib.Omega.{arith}
use lib.Dec.{eqb, leb}
use lib.ListN.{length}
use lib.Seq.{sets}
use borrow.Author.Tests.{le-leb, lt-leb, ne_eqb, leb-true, leb-false}
use Rattle.base.specs.Pick.{pick, and}
use Rattle.base.proofs.Arms.{clash}
use Rattle.choices.specs.Texts.{Text}
use Rattle.refusals.specs.Numbers.{number_of}
use Rattle.refusals.specs.declared.Refusal.{Refusal}
use Rattle.refusals.specs.declared.Refusal.TheVariants.{NoRoom}
use Rattle.engine.specs.Calls.{CallOutcome, refused_by, key, refused_as, spelled_numbers}
use Rattle.engine.specs.Lines.{answer_line, refusal_line, whole_line, most, holds_line, needed, line_with}
use Rattle.engine.specs.LineContracts.{SpaceIn, SpaceOf, answer_room, LineFor, behind_filled, BehindIs, head_of, line_length, DoneIs, refused_line, length_needed, waits_for, RefusedIs}
use Rattle.engine.specs.declared.lines.Space.{Space}
use Rattle.std.specs.Prelude.{Result, Ok, Err}
use Rattle.engine.specs.declared.spelling.Spelled.{Spelled}
use Rattle.engine.specs.declared.spelling.Spelled.TheVariants.{Done, Refused}
use Rattle.base.proofs.PickLaws.{pick_true, pick_false, and_first, and_inv}
use Rattle.engine.specs.InnerContracts.{spelled_in}
use Rattle.engine.proofs.LineLaws.{answer_long, answer_stands, line_told, needed_nine, needed_other, sets_none, told_nine}
use Rattle.engine.proofs.BelowLaws.{Below, call_below}
use borrow.Author.Rules.{rules}

-- ---- the line of a name

-- what a line is by what the call came to
pub line_answer : (size : ℕ) (t : Text) (f : Bool) → length t + 5 ≤ min size most
    → line_with size (key t f) ≡ answer_line (spelled_numbers (Done (length t) f)) t
unfolding line_with whole_line holds_line
line_answer size t f h =
    pick_true _ _ _ (le-leb (length (answer_line (spelled_numbers (Done (length t) f)) t)) (min size most) (omega (arith, answer_long (length t) f t)))

pub needed_answer : (t : Text) (f : Bool) → needed (key t f) ≡ line_length (length t)
unfolding needed whole_line
needed_answer t f = omega (arith, answer_long (length t) f t)

pub line_long : (size : ℕ) (t : Text) (f : Bool) → min size most < length t + 5
    → line_with size (key t f) ≡ refusal_line (refused_as 9 (line_length (length t)))
unfolding line_with whole_line holds_line spelled_numbers number_of
line_long size t f h =
    pick_false _ _ _ (lt-leb (length (answer_line (spelled_numbers (Done (length t) f)) t)) (min size most) (omega (arith, answer_long (length t) f t)))
    ∙ ap (λ (n : ℕ). refusal_line (refused_as 9 n)) (needed_answer t f)

pub line_other : (size : ℕ) (why : Refusal) (place : ℕ) → line_with size (refused_by why place) ≡ refusal_line (refused_as (number_of why) place)
unfolding line_with whole_line spelled_numbers
line_other size why place = refl

pub needed_refusal : (why : Refusal) (place : ℕ) → needed (refused_by why place) ≡ min (length (refusal_line (refused_as (number_of why) place))) most
unfolding needed whole_line spelled_numbers
needed_refusal why place = refl

-- what an answer in its place tells of the call
record Answered (x : CallOutcome) (space : Space) (o o₁ : List ℕ) (written : ℕ) (flag : Bool) : Type 0 where
  text : Text
  is : x ≡ key text flag
  long : length text ≡ written
  room_is : written ≤ answer_room space
  stands : o₁ ≡ sets o (space.at + 4) text

record Long (x : CallOutcome) (space : Space) (o o₁ : List ℕ) (code place : ℕ) : Type 0 where
  text : Text
  flag : Bool
  is : x ≡ key text flag
  code_is : code ≡ 9
  place_is : place ≡ min (length text) most
  over : answer_room space < length text
  same : o₁ ≡ o

record Other (x : CallOutcome) (o o₁ : List ℕ) (why : Refusal) (place : ℕ) : Type 0 where
  is : x ≡ refused_by why place
  low : number_of why < 9
  same : o₁ ≡ o

module _ (space : Space) (o o₁ : List ℕ) where
  answered_by_lem : (t : Text) (f : Bool) (written : ℕ) (flag b : Bool) → leb (length t) (answer_room space) ≡ b
      → Done written flag ≡ pick b (Done (length t) f) (Refused NoRoom (min (length t) most)) → o₁ ≡ pick b (sets o (space.at + 4) t) o
      → Answered (key t f) space o o₁ written flag
  unfolding pick
  answered_by_lem t f written flag true e p q =
      let long : length t ≡ written = cc in
      record { text = t; is = cc; long = long; room_is = omega (arith, leb-true (length t) (answer_room space) e); stands = q }
  answered_by_lem t f written flag false e p q = clash (cc)

  long_by : (t : Text) (f : Bool) (why : Refusal) (place : ℕ) (b : Bool) → leb (length t) (answer_room space) ≡ b
      → Refused why place ≡ pick b (Done (length t) f) (Refused NoRoom (min (length t) most)) → o₁ ≡ pick b (sets o (space.at + 4) t) o
      → Long (key t f) space o o₁ (number_of why) place
  unfolding pick number_of
  long_by t f why place true e p q = clash (cc)
  long_by t f why place false e p q =
      let why_is : why ≡ NoRoom = cc in
      record { text = t; flag = f; is = refl; code_is = ap number_of why_is; place_is = cc; over = leb-false _ _ e; same = q }

  module _ (r : Spelled) where
    answered_of : (x : CallOutcome) (written : ℕ) (flag : Bool) → BehindIs x space o r o₁ → r ≡ Done written flag → Answered x space o o₁ written flag
    unfolding spelled_in behind_filled
    answered_of (refused_by k place) written flag p e = let no : Done written flag ≡ Refused k place = sym e ∙ p.result in clash (cc)
    answered_of (key t f) written flag p e = answered_by_lem t f written flag _ refl (sym e ∙ p.result) p.buffer

    refused_of : (x : CallOutcome) (why : Refusal) (place : ℕ) → Below x → BehindIs x space o r o₁ → r ≡ Refused why place
        → Long x space o o₁ (number_of why) place ⊎ Other x o o₁ why place
    unfolding Below spelled_in behind_filled
    refused_of (refused_by k at) why place l p e =
        let same : Refused k at ≡ Refused why place = sym p.result ∙ e in
        let why_is : k ≡ why = cc in
        inr (record { is = cc; low = rw why_is at l; same = p.buffer })
    refused_of (key t f) why place l p e = inl (long_by t f why place _ refl (sym e ∙ p.result) p.buffer)

module _ {o : List ℕ} {space : Space} (w : SpaceOf o space) where
  pub space_in : (o₁ : List ℕ) → length o₁ ≡ length o → SpaceIn o₁ space
  space_in o₁ e = record { within = w.within; inside = omega (arith, e, w.size_is) }

  -- an answer whose line has room in the whole buffer
  line_room : {x : CallOutcome} (t : Text) (f : Bool) → x ≡ key t f → length t + 5 ≤ space.size
      → line_with (length o) x ≡ answer_line (spelled_numbers (Done (length t) f)) t
  line_room t f p h = ap (line_with (length o)) p ∙ line_answer (length o) t f (omega (arith, w.size_is))

  line_nine : {x : CallOutcome} (t : Text) (f : Bool) (place : ℕ) → x ≡ key t f → min (length o) most < length t + 5
      → line_length place ≡ line_length (length t) → line_with (length o) x ≡ refused_line 9 place
  unfolding refused_line
  line_nine t f place p over q =
      ap (line_with (length o)) p ∙ line_long (length o) t f over ∙ ap (λ (n : ℕ). refusal_line (refused_as 9 n)) (sym (told_nine place ∙ q))

  module _ {x : CallOutcome} {o₁ o₂ : List ℕ} {r : Result ℕ ℕ} where
    -- an answer that has no room here: its line waits, or is that of 9
    line_long_by : {place : ℕ} (t : Text) (f b : Bool) → waits_for 9 place space.size ≡ b → x ≡ key t f → place ≡ min (length t) most
        → space.size - space.at < length t + 5 → o₁ ≡ o
        → RefusedIs 9 place o₁ o₂ space r → LineFor x o o₂ space r
    unfolding waits_for and
    line_long_by {place} t f true h p q over same d =
        let small : place + 5 ≤ space.size = leb-true _ _ (and_inv (eqb 9 9) (leb (place + 5) space.size) h).1 in
        let left = d.waits h in
        let told : length_needed 9 place ≡ needed x = needed_nine place ∙ omega (arith, ap needed p, needed_answer t f, q) in
        rw (line_room t f p (omega (arith, w.size_is, q))) (record {
          fits = λ s. absurd (omega (arith, over, answer_long (length t) f t));
          stops = λ _. (left.0 ∙ ap Err told, left.1 ∙ same);
        })
    line_long_by {place} t f false h p q over same d =
        let large : space.size < place + 5 = leb-false _ _ h in
        let length_is : line_length place ≡ line_length (length t) = omega (arith, q) in
        let told : length_needed 9 place ≡ needed x = needed_nine place ∙ length_is ∙ sym (ap needed p ∙ needed_answer t f) in
        let line_is : line_with (length o) x ≡ refused_line 9 place = line_nine t f place p (omega (arith, w.size_is, large, q)) length_is in
        rw (line_is, ← told, ← same) (d.line h)

    line_done : {written : ℕ} {flag : Bool} → Answered x space o o₁ written flag → DoneIs written flag o₁ o₂ space r → LineFor x o o₂ space r
    line_done {written} {flag} p d = elim (dec_le (written + 5) (space.size - space.at)) [
      | yes here ↦
          let long = answer_long (length p.text) flag p.text in
          let put = d.fits here in
          rw (line_room p.text flag p.is (omega (arith, p.long))) (record {
            fits = λ s. (
              put.0 ∙ ap Ok (omega (arith, p.long, long)),
              put.1
                  ∙ ap₂ (λ (l : List ℕ) (n : ℕ). sets (sets l space.at (head_of flag)) (space.at + 4 + n) (10 ∷ [])) p.stands (sym p.long)
                  ∙ answer_stands o space.at (length p.text) flag p.text,
            );
            stops = λ s. absurd (omega (arith, p.long, long));
          })
      | no here ↦
          let empty : length p.text ≡ 0 = omega (arith, p.long, p.room_is) in
          line_long_by p.text flag _ refl p.is (omega (arith, p.long)) (omega (arith, p.long)) (p.stands ∙ sets_none p.text o _ empty)
          (d.stops (omega arith))
    ]

    line_refused : (why : Refusal) {place : ℕ} → Long x space o o₁ (number_of why) place ⊎ Other x o o₁ why place
        → RefusedIs (number_of why) place o₁ o₂ space r → LineFor x o o₂ space r
    unfolding waits_for
    line_refused why {place} (inl p) d =
        line_long_by p.text p.flag _ refl p.is p.place_is (omega (arith, p.over)) p.same (rw p.code_is at d)
    line_refused why {place} (inr p) d =
        let other : number_of why ≡ 9 → ⊥ = λ z. omega (arith, p.low) in
        let line_is : line_with (length o) x ≡ refused_line (number_of why) place =
        ap (line_with (length o)) p.is ∙ line_other (length o) why place ∙ sym (line_told (number_of why) place other) in
        let told : length_needed (number_of why) place ≡ needed x =
        needed_other (number_of why) place other ∙ sym (ap needed p.is ∙ needed_refusal why place) in
        rw (line_is, ← told, ← p.same) (d.line (and_first _ _ (ne_eqb (number_of why) 9 other)))

    module _ {s : Spelled} (p : BehindIs x space o s o₁) where
      pub put_done : {written : ℕ} {flag : Bool} → s ≡ Done written flag → DoneIs written flag o₁ o₂ space r → LineFor x o o₂ space r
      put_done q d = line_done (answered_of space o o₁ s x _ _ p q) d

      pub put_refused : {why : Refusal} {code place : ℕ} → Below x → s ≡ Refused why place → code ≡ number_of why
          → RefusedIs code place o₁ o₂ space r → LineFor x o o₂ space r
      put_refused {why} low q n d = line_refused why (refused_of space o o₁ s x why _ low p q) (rw n at d)

pub ruleset put_laws = (space_in, put_done, put_refused, call_below, rules)
