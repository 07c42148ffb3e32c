-- From a spelled name to a call's answer: what fits, what is written, and the refusals in their order. Assumes nothing.
use mathlib.Core.Path.{◌≡◌, refl, sym, ap, ap₂, ◌∙◌}
use mathlib.Core.Bool.{Bool, true, false}
use mathlib.Core.List.{List, [], ◌∷◌, map}
use Prim.Native.Nat.{ℕ, zero, suc, ◌-◌, ◌+◌, ◌≤◌, ◌<◌, min, zero-le}
use native.Mathlib.Nat.{zero-add, sub-zero}
use native.Mathlib.Omega.{arith}
use lib.Dec.{eqb, leb}
use lib.ListN.{length, take, drop, length-take}
use lib.Seq.{sets, take_at, sets-eq, length-sets}
use borrow.Author.Tests.{le-leb, lt-leb, leb-true, leb-false}
use Rattle.base.specs.Pick.{pick}
use Rattle.base.proofs.One.{one}
use Rattle.lower_case.specs.Lower.{lower_text}
use Rattle.lower_case.proofs.LowerLaws.{lower_text_length}
use Rattle.writing.specs.InnerContracts.{cap, Put}
use Rattle.languages.specs.declared.sets.LanguageSet.{LanguageSet}
use Rattle.languages.specs.declared.sets.LanguageSet.TheVariants.{Any}
use Rattle.name_parts.specs.Words.{one_word}
use Rattle.name_parts.specs.Joining.{spaced}
use Rattle.prefixes.specs.declared.prefixes.NameType.{NameType}
use Rattle.prefixes.specs.declared.prefixes.Prefix.{Prefix}
use Rattle.prefixes.specs.declared.prefixes.Prefix.TheVariants.{Leads, Whole}
use Rattle.name_parts.proofs.Laws.{spaced_long}
use Rattle.base.proofs.Arms.{clash}
use Rattle.pack.specs.Packs.{refused, pack_of}
use Rattle.pack.proofs.Laws.{languages_few}
use Rattle.refusals.specs.declared.Refusal.{Refusal}
use Rattle.refusals.specs.declared.Refusal.TheVariants.{PackBroken, NoSuchLanguage, NoRoom}
use Rattle.choices.specs.Texts.{Text}
use Rattle.engine.specs.Spelling.{Spelt, unspelt, spelt_as, parted_as, spelled_name}
use Rattle.engine.specs.Calls.{have_languages, steps_by, steps_of, start_set, spelled_by, CallOutcome, refused_by, outcome_of, on_pack, checked_then, numbers_in, spelled_numbers, filled_by, SpellIs}
use Rattle.rule_index.specs.InnerContracts.{pack_in}
use Rattle.engine.specs.InnerContracts.{UsablePack, OpenedIs, CallReady, FineFor, outcome_for, outcome_on, is_guessed, call_for, started_by, found_by, FoundIs, steps_at, start_at, spelt_part, spelt_name, spelt_fine, LoweredIs, end_of, WroteIs, SpeltInto, whole_by, SpeltWhole, answered_by, whole_and, CopiedOut, none, over, copied, FitsOut, CopyOutIs, spelled_in}
use Rattle.engine.specs.declared.call.Call.{Call}
use Rattle.engine.specs.declared.call.Request.{Request}
use Rattle.engine.specs.declared.encode.AnswerEnd.{AnswerEnd}
use Rattle.engine.specs.declared.spelling.Spelled.{Spelled}
use Rattle.engine.specs.declared.spelling.Spelled.TheVariants.{Done, Refused}
use Rattle.engine.specs.declared.call.Start.{Start}
use Rattle.engine.specs.declared.call.Start.TheVariants.{Guessed, Given}
use Rattle.engine.specs.declared.call.PackNumbers.{PackNumbers}
use Rattle.engine.specs.declared.spelling.NameRefused.{NameRefused}
use Rattle.std.specs.Prelude.{Result, Ok, Err, Option}
use Rattle.engine.proofs.NumberLaws.{numbers_one, spell_is}
use Rattle.engine.proofs.SpellingLaws.{name_plain}
use Rattle.engine.proofs.EncodeLaws.{ready_started, name_started}
use Rattle.engine.proofs.CallLaws.{fine_name, call_by, known_limits, start_below}
use Rattle.base.proofs.PickLaws.{pick_true, pick_false, pick_all}
use Rattle.lower_case.specs.InnerContracts.{lowered_buffer, LoweredInto}
use Rattle.pack.specs.InnerContracts.{guessed_at}
use borrow.Author.Rules.{rules}

-- ---- a name spelled as one word

parted_by : (x : Prefix) (u : Bool) → (x ≡ Whole → ⊥) → false ≡ whole_and x u
unfolding whole_and
parted_by (Leads size rest) u n = refl
parted_by Whole u n = absurd (n refl)

module _ (kind : NameType) (name : Text) (x : Prefix) (e : x ≡ parted_as kind name) (u : Bool) where
  pub single_parted : (x ≡ Whole → ⊥) → false ≡ whole_and (parted_as kind name) u
  single_parted n = rw (← e) (parted_by x u n)

  pub single_whole : (t : Bool) → x ≡ Whole → t ≡ u → t ≡ whole_and (parted_as kind name) u
  unfolding whole_and
  single_whole t q h = rw (← e, q) h

single_inv : (x : Prefix) (u : Bool) → whole_and x u ≡ true → (x ≡ Whole) × (u ≡ true)
unfolding whole_and
single_inv (Leads size rest) u e = clash (cc)
single_inv Whole u e = (refl, e)

-- ---- how long it is, and whether it fits

answered_by_lem : {r : Result AnswerEnd Refusal} {o o' : List ℕ} (x : Spelt) → SpeltInto x o o' 0 r → answered_by r (length o) ≡ spelled_in (outcome_of x) (length o)
unfolding end_of WroteIs answered_by outcome_of spelled_in
answered_by_lem {o = o} (unspelt why) q = ap (λ (r : Result AnswerEnd Refusal). answered_by r (length o)) q.told
answered_by_lem {o = o} (spelt_as t f) q = ap (λ (r : Result AnswerEnd Refusal). answered_by r (length o)) q.told ∙ fits_by _ refl
  where
    fits_by : (b : Bool) → leb (min (0 + length t) cap) (length o) ≡ b
        → pick (leb (min (0 + length t) cap) (length o)) (Done (min (0 + length t) cap) f) (Refused NoRoom (min (min (0 + length t) cap) 4294967295))
        ≡ pick (leb (length t) (length o)) (Done (length t) f) (Refused NoRoom (min (length t) 4294967295))
    fits_by true e =
        let k : (min (0 + length t) cap) ≤ length o = leb-true _ _ e in
        let same : (min (0 + length t) cap) ≡ length t = omega (arith, q.is.room) in
        pick_true _ _ _ e ∙ ap (λ (n : ℕ). Done n f) same ∙ sym (pick_true _ _ _ (le-leb (length t) (length o) (omega arith)))
    fits_by false e =
        let k : length o < (min (0 + length t) cap) = leb-false _ _ e in
        let same : min (min (0 + length t) cap) 4294967295 ≡ min (length t) 4294967295 = omega arith in
        pick_false _ _ _ e ∙ ap (Refused NoRoom) same ∙ sym (pick_false _ _ _ (lt-leb (length t) (length o) (omega arith)))

-- ---- what is written

whole_filled : (x : Spelt) (o : List ℕ) → whole_by x o 0 ≡ filled_by (outcome_of x) o
unfolding whole_by outcome_of filled_by
whole_filled (unspelt k) o = refl
whole_filled (spelt_as t f) o = rw (zero-add (length t))

whole_long : (x : Spelt) (o : List ℕ) → length (whole_by x o 0) ≡ length o
unfolding whole_by
whole_long (unspelt k) o = refl
whole_long (spelt_as t f) o = pick_all (λ (l : List ℕ). length l ≡ length o) _ _ _ (length-sets o 0 t) refl

-- a name that is one word is spelled once
pub single_told : (s : List ℕ) (call : Call) (name : Text) (t : Bool)
    → t ≡ whole_and (parted_as call.kind name) (pick call.concat true (one_word name)) → t ≡ true
    → {r : Result AnswerEnd Refusal} {o o' : List ℕ} → SpeltWhole (spelt_part s call name) o o' 0 r → SpeltWhole (spelt_name s call name) o o' 0 r
unfolding spelt_part spelt_name steps_at steps_by
single_told s call name t et y w =
    let whole = single_inv _ _ (sym et ∙ y) in
    rw (name_plain (steps_at s call) (start_at s call name) name whole.0 whole.1) w

-- what `copy_out` tells
module _ (r : Result AnswerEnd Refusal) (apart o : List ℕ) where
  pub copied_none : (why : Refusal) → r ≡ Err why → CopyOutIs r apart o o true
  unfolding CopyOutIs
  copied_none why e = none why e refl

  module _ (a : AnswerEnd) (e : r ≡ Ok a) where
    pub copied_over : length o < a.at → CopyOutIs r apart o o true
    unfolding CopyOutIs
    copied_over h = over a e h refl

    pub copied_long : a.at ≤ length o → CopyOutIs r apart o o false
    unfolding CopyOutIs
    copied_long h = record { end = a; is = e; fits = h; same = refl }

    pub copied_all : {o' : List ℕ} {p : ℕ} → a.at ≤ length o → a.at ≤ length apart → Put o o' 0 p (take (a.at - 0) (drop 0 apart)) → CopyOutIs r apart o o' true
    unfolding CopyOutIs
    copied_all h k w =
        let n : a.at - 0 ≡ a.at = omega arith in
        copied a e w.room h k (w.wrote ∙ ap (λ (m : ℕ). sets o 0 (take m apart)) n)

pub ruleset copy_laws = (copied_none, copied_over, copied_long, copied_all, rules)

-- a name spelled apart, into u, and copied: it is told as a whole
module _ {u u' o o₁ : List ℕ} {r : Result AnswerEnd Refusal} where
  kept_by : (x : Spelt) → SpeltInto x u u' 0 r → CopiedOut r u' o o₁ → SpeltWhole x o o₁ 0 r
  unfolding end_of WroteIs whole_by
  kept_by (unspelt k) m (none why q e) = record { told = record { told = m.told; is = tt }; whole = e }
  kept_by (unspelt k) m (over a q h e) = let no_way = sym m.told ∙ q in clash (cc)
  kept_by (unspelt k) m (copied a q c h l e) = let no_way = sym m.told ∙ q in clash (cc)
  kept_by (spelt_as t f) m (none why q e) = let no_way = sym m.told ∙ q in clash (cc)
  kept_by (spelt_as t f) m (over a q h e) =
      let ends : min (0 + length t) cap ≡ a.at = (let same = sym m.told ∙ q in cc) in
      let past : length o < 0 + length t = omega arith in
      record {
        told = record {
          told = m.told;
          is = record {
            ends = refl;
            wrote = λ (l : 0 + length t ≤ length o). let no_way : ⊥ = omega arith in absurd no_way;
            same = ap length e;
            room = omega arith;
          };
        };
        whole = e ∙ sym (pick_false _ _ _ (lt-leb _ _ past));
      }
  kept_by (spelt_as t f) m (copied a q c h l e) =
      let ends : min (0 + length t) cap ≡ a.at = (let same = sym m.told ∙ q in cc) in
      let long : a.at ≡ length t = omega arith in
      let text : take a.at u' ≡ t =
      ap₂ take long (m.is.wrote (omega (arith, long, l, m.is.same)))
      ∙ rw (sets-eq t u 0 (omega (arith, long, l, m.is.same))) (take_at t _ (length t) refl) in
      let stands = e ∙ ap (sets o 0) text in
      let fits : 0 + length t ≤ length o = omega (arith, long, h) in
      record {
        told = record { told = m.told; is = record { ends = refl; wrote = λ k. stands; same = ap length stands ∙ length-sets o 0 t; room = c } };
        whole = stands ∙ sym (pick_true _ _ _ (le-leb _ _ fits));
      }

again_by : {u u' o o₂ : List ℕ} {r k : Result AnswerEnd Refusal} (x : Spelt) → SpeltInto x u u' 0 r → (a : AnswerEnd) → r ≡ Ok a → a.at ≤ length o → SpeltInto x o o₂ 0 k → SpeltWhole x o o₂ 0 k
unfolding end_of WroteIs whole_by
again_by (unspelt k) m a e h q = let no_way = sym m.told ∙ e in clash (cc)
again_by {o = o} (spelt_as t f) m a e h q =
    let ends : min (0 + length t) cap ≡ a.at = (let same = sym m.told ∙ e in cc) in
    let fits : 0 + length t ≤ length o = omega (arith, q.is.room) in
    record { told = q; whole = q.is.wrote fits ∙ sym (pick_true _ _ _ (le-leb _ _ fits)) }

module _ {x : Spelt} {u u' o o₁ : List ℕ} {r : Result AnswerEnd Refusal} {t : Bool} (m : SpeltInto x u u' 0 r) (k : CopyOutIs r u' o o₁ t) where
  pub kept_told : t ≡ true → SpeltWhole x o o₁ 0 r
  unfolding CopyOutIs
  kept_told y = let all : CopiedOut r u' o o₁ = rw y at k in kept_by x m all

  pub again_told : {o₂ : List ℕ} {b : Result AnswerEnd Refusal} → t ≡ false → SpeltInto x o₁ o₂ 0 b → SpeltWhole x o o₂ 0 b
  unfolding CopyOutIs
  again_told n q =
      let w : FitsOut r o o₁ = rw n at k in
      again_by x m w.end w.is w.fits (rw w.same at q)

pub ruleset lowered_laws = (single_told, kept_told, again_told, zero-le, rules)

-- what is told as a whole is a call's answer
answer_told : (x : Spelt) {a : Result AnswerEnd Refusal} {ans : Spelled} {o o' : List ℕ} → SpeltWhole x o o' 0 a → ans ≡ answered_by a (length o')
    → SpellIs (outcome_of x) o ans o'
answer_told x {o = o} w e =
    spell_is (e ∙ ap (answered_by _) (ap length w.whole ∙ whole_long x o) ∙ answered_by_lem x w.told) (w.whole ∙ whole_filled x o)

take_map : {A B : Type 0} (n : ℕ) (l : List A) (f : A → B) → take n (map f l) ≡ map f (take n l)
take_map zero l f = refl
take_map (suc n) [] f = refl
take_map (suc n) (x ∷ l) f = ap (λ (r : List _). f x ∷ r) (take_map n l f)

-- ---- a name lower-cased at the front of a buffer, and its hyphens there made spaces

module _ (name o o₁ : List ℕ) (r : Option ℕ) (h : (length name ≤ 96) × (length o ≡ 96)) (w : LoweredInto name o r o₁) where
  lower_fits : length (lower_text name) ≤ length o
  lower_fits = omega (arith, h.0, h.1, lower_text_length name)

  lowered_is : o₁ ≡ sets o 0 (lower_text name)
  unfolding lowered_buffer
  lowered_is = w.buffer ∙ pick_true _ _ _ (le-leb _ _ lower_fits)

  pub lowered_in : length name ≤ length o₁
  lowered_in = omega (arith, h.0, h.1, ap length lowered_is, length-sets o 0 (lower_text name))

  lowered_part : take (length name) o₁ ≡ lower_text name
  lowered_part =
      ap₂ take (sym (lower_text_length name)) lowered_is
      ∙ rw (sets-eq (lower_text name) o 0 (omega (arith, lower_fits))) (take_at (lower_text name) _ (length (lower_text name)) refl)

  pub lowered_told : (s : List ℕ) (call by : Call) (o₂ : List ℕ)
      → by ≡ started_by call (guessed_at s call.guesses call.languages (take (length name - 0) (drop 0 o₁))) → o₂ ≡ spaced o₁
      → LoweredIs s call name o₂ by
  unfolding spaced
  lowered_told s call by o₂ e e₂ = record {
    inside = omega (arith, lowered_in, ap length e₂, spaced_long o₁);
    text = ap (take (length name)) e₂ ∙ take_map (length name) o₁ _ ∙ ap (map (λ (b : ℕ). pick (eqb b 45) 32 b)) lowered_part;
    started =
        e ∙ ap (λ (t : Text). started_by call (guessed_at s call.guesses call.languages t))
        (ap (λ (n : ℕ). take n o₁) (sub-zero (length name)) ∙ lowered_part);
  }

module _ (s : List ℕ) (call : Call) (name low : List ℕ) (by : Call) (w : LoweredIs s call name low by) where
  pub low_in : length name ≤ length low
  low_in = w.inside

  module _ (table : List (List ℕ)) (ready : CallReady s table call) where
    pub low_ready : CallReady s table by
    low_ready = ready_started ready _ w.started

    pub low_told : (out out' : List ℕ) (a : Result AnswerEnd Refusal) → SpeltWhole (spelt_name s by (take (length name - 0) (drop 0 low))) out out' 0 a
        → SpeltWhole (spelt_fine s call name) out out' 0 a
    unfolding spelt_fine
    low_told out out' a q =
        rw (name_started ready _ w.started _ ∙ ap (spelled_name (steps_at s call) (start_at s call (lower_text name)))
        (ap (λ (n : ℕ). take n low) (sub-zero (length name)) ∙ w.text)) at q

pub part_short : (name o : List ℕ) → length name ≤ 96 → length (take (length name - 0) (drop 0 o)) ≤ 96
part_short name o h = omega (arith, length-take (length name - 0) o)

pub ruleset low_laws = (low_in, low_ready, low_told, part_short, rules)

-- ---- a name that is fine, on a pack

refused_told : {why : Refusal} {p : ℕ} {x : CallOutcome} (o : List ℕ) → x ≡ refused_by why p → SpellIs x o (Refused why p) o
unfolding spelled_numbers numbers_in filled_by
refused_told o e = rw e (record { result = refl; buffer = refl })

start_is : (start : Start) (g : LanguageSet) → pick (is_guessed start) g (start_set start Any) ≡ start_set start g
unfolding is_guessed start_set pick
start_is Guessed g = refl
start_is (Given kind bits) g = refl

module _ {s : List ℕ} {table : List (List ℕ)} {q : Request} {name : Text} (w : FineFor s table q name) where
  pub opened_broken : {p : ℕ} (o : List ℕ) → q.opened ≡ Err p → SpellIs (outcome_on s q name) o (Refused PackBroken p) o
  unfolding on_pack OpenedIs
  opened_broken o e = let no : pack_of s ≡ refused _ = rw e at w.opened in refused_told o (ap (on_pack q.settings q.start s name) no)

  module _ {n : PackNumbers} (e : q.opened ≡ Ok n) where
    usable : UsablePack s table n.languages n.guesses n.any
    unfolding OpenedIs
    usable = rw e at w.opened

    pub opened_few : n.languages ≤ 32
    opened_few = omega (arith, usable.languages_are, languages_few s (pack_in s) n.guesses usable.is usable.guesses_are)

    module _ {t : Bool} (et : t ≡ have_languages n.languages q.start) where
      on_pack_lem : outcome_on s q name ≡ pick t (outcome_of (spelled_by (steps_of s (pack_in s) q.settings) q.start (lower_text name)))
          (refused_by NoSuchLanguage 0)
      unfolding on_pack
      on_pack_lem =
          ap (on_pack q.settings q.start s name) usable.is
          ∙ ap (λ (b : Bool). pick b (outcome_of (spelled_by (steps_of s (pack_in s) q.settings) q.start (lower_text name)))
          (refused_by NoSuchLanguage 0)) (ap (λ (m : ℕ). have_languages m q.start) (sym usable.languages_are) ∙ sym et)

      pub opened_none : (o : List ℕ) → t ≡ false → SpellIs (outcome_on s q name) o (Refused NoSuchLanguage 0) o
      opened_none o y = refused_told o (on_pack_lem ∙ pick_false _ _ _ y)

      module _ (y : t ≡ true) {call : Call} (ec : call ≡ call_for q.settings q.start n) where
        pub opened_ready : CallReady s table call
        unfolding call_for
        opened_ready =
            let limits = known_limits q.settings q.start w.known in
            rw ec (record { pack = usable; few = limits.0; known = limits.1; below = start_below q.start n.languages (sym et ∙ y) limits.2 })

        spelled_is : spelt_fine s call name ≡ spelled_by (steps_of s (pack_in s) q.settings) q.start (lower_text name)
        unfolding spelt_fine call_for steps_at start_at steps_of steps_by spelled_by
        spelled_is = rw (ec, start_is)

        pub opened_told : {a : Result AnswerEnd Refusal} {ans : Spelled} {o o' : List ℕ}
            → SpeltWhole (spelt_fine s call name) o o' 0 a → ans ≡ answered_by a (length o')
            → SpellIs (outcome_on s q name) o ans o'
        opened_told h ea = rw (on_pack_lem ∙ pick_true _ _ _ y ∙ ap outcome_of (sym spelled_is)) (answer_told (spelt_fine s call name) h ea)

pub ruleset opened_laws = (opened_broken, opened_few, opened_none, opened_ready, opened_told, rules)

-- ---- the refusals before that

module _ (q : Request) (name : Text) (r : Result (Unit {0}) NameRefused) (found : FoundIs (checked_then q.settings q.start name) r) (s : List ℕ) where
  pub at_wrong : (o : List ℕ) (why : Refusal) (p : ℕ) → r ≡ Err (record { why = why; place = p }) → SpellIs (outcome_for q s name) o (Refused why p) o
  unfolding found_by
  at_wrong o why p e = refused_told o (call_by q.settings q.start name r found s (Err (record { why = why; place = p })) e)

  pub at_fine : (table : List (List ℕ)) → OpenedIs s table q.opened → r ≡ Ok tt → FineFor s table q name
  at_fine table w e = let fine = fine_name q.settings q.start name r found e in record { opened = w; known = fine.0; short = fine.1 }

  pub at_opened : (o o' : List ℕ) (ans : Spelled) → r ≡ Ok tt → SpellIs (outcome_on s q name) o ans o' → SpellIs (outcome_for q s name) o ans o'
  unfolding found_by
  at_opened o o' ans e w = rw (call_by q.settings q.start name r found s (Ok tt) e) w

pub ruleset at_laws = (at_wrong, at_fine, at_opened, rules)

-- the promise of a call allows one answer and one content of the buffer
pub spell_one : {x : CallOutcome} {out o o' : List ℕ} {r r' : Spelled} → SpellIs x out r o → SpellIs x out r' o' → (r ≡ r') × (o ≡ o')
spell_one a b = (numbers_one _ _ (one a.result b.result), one a.buffer b.buffer)
