-- The line of a refusal and of an answer, and a law for each way that the small functions of `lines` can go. Assumes nothing.
use mathlib.Core.Path.{◌≡◌, refl, sym, ap, ◌∙◌}
use mathlib.Core.Bool.{Bool, true, false, false≢true}
use mathlib.Core.List.{List, [], ◌∷◌, ◌++◌}
use Prim.Native.Nat.{ℕ, zero, suc, ◌+◌, ◌-◌, ◌*◌, ◌/◌, ◌%◌, ◌^◌, ◌≤◌, ◌<◌, min}
use native.Mathlib.Decide.{dec_le}
use native.Mathlib.Omega.{arith}
use mir.Val.{bool_byte}
use lib.Dec.{leb}
use lib.ListN.{length, set, length-append}
use lib.Seq.{sets, set_comm}
use borrow.Author.Tests.{lt-ltb, le-ltb, le-leb, lt-leb, eq-eqb, ne_eqb, ltb-false, leb-true, leb-false}
use Rattle.base.proofs.Stores.{sets_then}
use Rattle.writing.specs.InnerContracts.{cap, Put}
use Rattle.writing.proofs.Laws.{slice_room, put_then, put_long}
use Rattle.choices.specs.Texts.{Text}
use Rattle.engine.specs.Calls.{refused_as, spelled_numbers}
use Rattle.engine.specs.Lines.{decimal_by, decimal, flag_digit, answer_line, refusal_line, most}
use Rattle.engine.specs.LineContracts.{SpaceIn, head_of, line_length, DoneIs, place_told, refused_line, length_told, length_needed, waits_for, RefusedIs, stopped_at}
use Rattle.engine.specs.declared.lines.Lines.TheVariants as lines
use Rattle.engine.specs.declared.lines.Space.{Space}
use Rattle.std.specs.Prelude.{Result, Ok, Err}
use Rattle.engine.specs.declared.spelling.Spelled.TheVariants.{Done}
use Rattle.base.proofs.PickLaws.{pick_true, pick_false, pick_cong, and_rest, and_none}
use borrow.Author.Rules.{rules}

-- ---- a number

by_more : (f g n : ℕ) → n ≤ f → n ≤ g → decimal_by f n ≡ decimal_by g n
unfolding decimal_by
by_more zero zero n p q = refl
by_more zero (suc g) n p q = sym (pick_true _ _ _ (lt-ltb n 10 (omega arith)))
by_more (suc f) zero n p q = pick_true _ _ _ (lt-ltb n 10 (omega arith))
by_more (suc f) (suc g) n p q =
    pick_cong _ _ _ _ _ (λ e. refl)
    (λ e. ap (λ (t : Text). t ++ (48 + n % 10) ∷ []) (by_more f g (n / 10) (omega (arith, ltb-false n 10 e)) (omega (arith, ltb-false n 10 e))))

decimal_one : (n : ℕ) → n < 10 → decimal n ≡ (48 + n % 10) ∷ []
unfolding decimal decimal_by
decimal_one zero h = refl
decimal_one (suc n) h = pick_true _ _ _ (lt-ltb _ _ h)

decimal_more : (n : ℕ) → 10 ≤ n → decimal n ≡ decimal (n / 10) ++ (48 + n % 10) ∷ []
unfolding decimal decimal_by
decimal_more zero h = absurd (omega arith)
decimal_more (suc n) h =
    pick_false _ _ _ (le-ltb _ _ h) ∙ ap (λ (t : Text). t ++ (48 + suc n % 10) ∷ []) (by_more n (suc n / 10) (suc n / 10) (omega arith) (omega arith))

module _ (n : ℕ) (o o₁ : List ℕ) (at p : ℕ) where
  pub digit_one : n < 10 → Put o o₁ at p ((48 + n % 10) ∷ []) → Put o o₁ at p (decimal n)
  digit_one h x = rw (decimal_one n h) x

  pub digit_more : (o₂ : List ℕ) (q : ℕ) → 10 ≤ n → Put o o₁ at p (decimal (n / 10)) → Put o₁ o₂ p q ((48 + n % 10) ∷ []) → Put o o₂ at q (decimal n)
  digit_more o₂ q h x y = rw (decimal_more n h) (put_then x y)

-- ---- the line of a refusal

pub refusal_put : (code place : ℕ) {o o₁ o₂ o₃ o₄ : List ℕ} {at p q e r : ℕ}
    → Put o o₁ at p (decimal code) → Put o₁ o₂ p q (32 ∷ []) → Put o₂ o₃ q e (decimal place) → Put o₃ o₄ e r (10 ∷ [])
    → Put o o₄ at r (refusal_line (refused_as code place))
unfolding refusal_line
refusal_put code place w x y z = put_then w (put_then x (put_then y z))

-- for 9 and for others
pub told_nine : (n : ℕ) → place_told 9 n ≡ line_length n
unfolding place_told
told_nine n = pick_true _ _ _ refl

pub needed_nine : (n : ℕ) → length_needed 9 n ≡ line_length n
unfolding length_told
needed_nine n = pick_true _ _ _ refl

module _ (code place : ℕ) (h : code ≡ 9 → ⊥) where
  told_other : place_told code place ≡ place
  unfolding place_told
  told_other = pick_false _ _ _ (ne_eqb _ _ h)

  pub line_told : refused_line code place ≡ refusal_line (refused_as code place)
  unfolding refused_line
  line_told = ap (λ (n : ℕ). refusal_line (refused_as code n)) told_other

  pub needed_other : length_needed code place ≡ min (length (refusal_line (refused_as code place))) most
  unfolding length_told
  needed_other = pick_false _ _ _ (ne_eqb _ _ h) ∙ ap (λ (t : Text). min (length t) most) line_told

module _ (code place : ℕ) (o : List ℕ) (space : Space) (told n few told-length : ℕ) (none none' : List ℕ) (t : Bool)
    (w : t ≡ waits_for code place space.size)
    (p : told ≡ place_told code place) (x : Put none none' 0 n (refusal_line (refused_as code told))) (f : few ≡ min n most)
    (l : told-length ≡ length_told code place few) where
  line_here : refusal_line (refused_as code told) ≡ refused_line code place
  unfolding refused_line
  line_here = ap (λ (m : ℕ). refusal_line (refused_as code m)) p

  long_here : told-length ≡ length_needed code place
  long_here = l ∙ ap (length_told code place) (omega (arith, f, x.ends, ap length line_here))

  pub refused_waits : t ≡ true → RefusedIs code place o o space (Err told-length)
  refused_waits e = record { waits = λ _. (ap Err long_here, refl); line = λ z. absurd (false≢true (sym z ∙ sym w ∙ e)) }

  module _ (e : t ≡ false) (h : SpaceIn o space) where
    pub refused_fits : (o' : List ℕ) (next : ℕ) → n ≤ space.size - space.at → Put o o' space.at next (refusal_line (refused_as code told))
        → RefusedIs code place o o' space (Ok next)
    refused_fits o' next g y = record {
      waits = λ z. absurd (false≢true (sym e ∙ w ∙ z));
      line = λ _. record {
        fits =
            λ _. (
              ap Ok (omega (arith, h.within, h.inside, x.ends, y.ends, y.room, ap length line_here)),
              y.wrote ∙ ap (sets o space.at) line_here,
            );
        stops = λ s. absurd (omega (arith, h.inside, x.ends, y.room, ap length line_here));
      };
    }

    pub refused_stops : space.size - space.at < n → RefusedIs code place o o space (Err told-length)
    refused_stops g = record {
      waits = λ _. (ap Err long_here, refl);
      line = λ _. record { fits = λ s. absurd (omega (arith, x.ends, ap length line_here)); stops = λ _. (ap Err long_here, refl) };
    }

-- ---- the line of an answer

head_by : (flag : Bool) → 48 ∷ 32 ∷ (48 + bool_byte flag) ∷ 32 ∷ [] ≡ head_of flag
unfolding head_of flag_digit
head_by true = refl
head_by false = refl

pub head_is : (flag : Bool) {o o' : List ℕ} {at r : ℕ} → Put o o' at r (48 ∷ 32 ∷ (48 + bool_byte flag) ∷ 32 ∷ []) → Put o o' at r (head_of flag)
head_is flag x = rw (← head_by flag) x

pub digit_small : (flag : Bool) → 48 + bool_byte flag < 2 ^ 8
digit_small true = omega arith
digit_small false = omega arith

module _ (written : ℕ) (flag : Bool) (o : List ℕ) (space : Space) (h : SpaceIn o space) (t : Bool)
    (e : t ≡ leb (written + 5) (space.size - space.at)) where
  pub done_within : t ≡ true → length o * 1 < cap → space.at + 4 + written < 2 ^ 64
  done_within y room = let here : written + 5 ≤ space.size - space.at = leb-true _ _ (sym e ∙ y) in omega (arith, h.within, h.inside)

  pub done_fits : (o₁ o₂ : List ℕ) (p next : ℕ) → t ≡ true → Put o o₁ space.at p (head_of flag)
      → Put o₁ o₂ (space.at + 4 + written) next (10 ∷ []) → DoneIs written flag o o₂ space (Ok next)
  done_fits o₁ o₂ p next y x z =
      let here : written + 5 ≤ space.size - space.at = leb-true _ _ (sym e ∙ y) in
      record {
        fits =
            λ _. (
              ap Ok (omega (arith, h.within, h.inside, x.room, z.ends)),
              z.wrote ∙ ap (λ (l : List ℕ). sets l (space.at + 4 + written) (10 ∷ [])) x.wrote,
            );
        stops = λ s. absurd (omega arith);
      }

  pub done_over : (o₂ : List ℕ) (r : Result ℕ ℕ) → t ≡ false → RefusedIs 9 written o o₂ space r → DoneIs written flag o o₂ space r
  done_over o₂ r n x =
      let over : space.size - space.at < written + 5 = leb-false _ _ (sym e ∙ n) in
      record { fits = λ s. absurd (omega arith); stops = λ _. x }

set_apart : (ws l : List ℕ) (i v j : ℕ) → i < j → set (sets l j ws) i v ≡ sets (set l i v) j ws
set_apart [] l i v j h = refl
set_apart (w ∷ ws) l i v j h =
    set_apart ws (set l j w) i v (suc j) (omega arith) ∙ ap (λ (m : List ℕ). sets m (suc j) ws) (set_comm l j i w v (λ e. absurd (omega arith)))

-- two runs of which the first ends where the second begins, or before
sets_apart : (vs ws l : List ℕ) (i j : ℕ) → i + length vs ≤ j → sets (sets l j ws) i vs ≡ sets (sets l i vs) j ws
sets_apart [] ws l i j h = refl
sets_apart (v ∷ vs) ws l i j h =
    ap (λ (m : List ℕ). sets m (suc i) vs) (set_apart ws l i v j (omega arith)) ∙ sets_apart vs ws (set l i v) (suc i) j (omega arith)

pub sets_none : (vs l : List ℕ) (i : ℕ) → length vs ≡ 0 → sets l i vs ≡ l
sets_none [] l i h = refl
sets_none (v ∷ vs) l i h = absurd (omega arith)

pub answer_long : (written : ℕ) (flag : Bool) (t : Text) → length (answer_line (spelled_numbers (Done written flag)) t) ≡ 5 + length t
unfolding answer_line spelled_numbers decimal decimal_by
answer_long written flag t = omega (arith, length-append t (10 ∷ []))

pub answer_stands : (o : List ℕ) (at written : ℕ) (flag : Bool) (t : Text)
    → sets (sets (sets o (at + 4) t) at (head_of flag)) (at + 4 + length t) (10 ∷ []) ≡ sets o at (answer_line (spelled_numbers (Done written flag)) t)
unfolding answer_line spelled_numbers decimal decimal_by head_of
answer_stands o at written flag t =
    ap (λ (l : List ℕ). sets l (at + 4 + length t) (10 ∷ [])) (sets_apart (head_of flag) t o at (at + 4) (omega arith))
    ∙ sets_then (sets o at (head_of flag)) (at + 4) t (10 ∷ [])
    ∙ sets_then o at (head_of flag) (t ++ 10 ∷ [])

-- ---- what waits for an emptier buffer

module _ (n room : ℕ) where
  pub room_large : 5 ≤ room → leb n (room - 5) ≡ leb (n + 5) room
  room_large h = elim (dec_le n (room - 5)) [
    | yes k ↦ le-leb n (room - 5) k ∙ sym (le-leb (n + 5) room (omega arith))
    | no k ↦ lt-leb n (room - 5) (omega arith) ∙ sym (lt-leb (n + 5) room (omega arith))
  ]

  pub room_small : room < 5 → false ≡ leb (n + 5) room
  room_small h = sym (lt-leb (n + 5) room (omega arith))

module _ (code place size : ℕ) where
  pub waits_room : (t : Bool) → code ≡ 9 → t ≡ leb (place + 5) size → t ≡ waits_for code place size
  unfolding waits_for
  waits_room t e w = and_rest _ _ _ (eq-eqb _ _ e) w

  pub waits_other : (code ≡ 9 → ⊥) → false ≡ waits_for code place size
  unfolding waits_for
  waits_other e = and_none _ _ _ (ne_eqb _ _ e) refl

-- ---- the small functions, as `search` applies them

module _ (code place n l : ℕ) where
  pub told_yes : code ≡ 9 → l ≡ line_length place → l ≡ place_told code place
  unfolding place_told
  told_yes h e = e ∙ sym (pick_true _ _ _ (eq-eqb _ _ h))

  pub told_no : (code ≡ 9 → ⊥) → place ≡ place_told code place
  unfolding place_told
  told_no h = sym (pick_false _ _ _ (ne_eqb _ _ h))

  pub length_yes : code ≡ 9 → l ≡ line_length place → l ≡ length_told code place n
  unfolding length_told
  length_yes h e = e ∙ sym (pick_true _ _ _ (eq-eqb _ _ h))

  pub length_no : (code ≡ 9 → ⊥) → n ≡ length_told code place n
  unfolding length_told
  length_no h = sym (pick_false _ _ _ (ne_eqb _ _ h))

module _ (read written n : ℕ) where
  pub stopped_first : written ≡ 0 → lines.NoRoom n ≡ stopped_at read written n
  unfolding stopped_at
  stopped_first h = sym (pick_true _ _ _ (eq-eqb _ _ h))

  pub stopped_later : (written ≡ 0 → ⊥) → lines.Done read written ≡ stopped_at read written n
  unfolding stopped_at
  stopped_later h = sym (pick_false _ _ _ (ne_eqb _ _ h))

pub ruleset lines_laws = (
  told_yes,
  told_no,
  length_yes,
  length_no,
  stopped_first,
  stopped_later,
  slice_room,
  put_long,
  digit_one,
  digit_more,
  refused_waits,
  refused_fits,
  refused_stops,
  done_within,
  done_fits,
  done_over,
  room_large,
  room_small,
  waits_room,
  waits_other,
  rules,
)
