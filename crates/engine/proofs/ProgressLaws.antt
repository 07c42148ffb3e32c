-- A block that holds a whole line is read on or answered by 9, with the length needed; and every line fits into 32 bytes. Assumes nothing.
use Rattle.std.specs.Prelude.{Option, Some, None}
use mathlib.Core.Path.{◌≡◌, refl, sym, ap, ◌∙◌}
use mathlib.Core.Bool.{Bool, true, false}
use mathlib.Core.List.{List, [], ◌∷◌, ◌++◌}
use mathlib.Core.Logic.{◌⊎◌, inl, inr, ⊎_elim}
use Prim.Native.Nat.{ℕ, zero, suc, ◌+◌, ◌-◌, ◌*◌, ◌/◌, ◌%◌, ◌≤◌, ◌<◌, min, zero-le}
use native.Mathlib.Decide.{dec_le}
use native.Mathlib.Omega.{arith}
use lib.Dec.{ltb}
use lib.ListN.{length, take, drop, length-append}
use borrow.Author.Tests.{lt-ltb, le-leb, lt-leb, ltb-false}
use Rattle.base.specs.Pick.{pick}
use Rattle.texts.specs.Parts.{place_of}
use Rattle.letters.specs.Utf8.{decode_at}
use Rattle.letters.specs.Reading.{symbols_on, symbols_from, symbols_of, ill_in, first_ill, outside_in, first_outside}
use Rattle.letters.specs.declared.utf8.Step.{Step}
use Rattle.letters.specs.declared.utf8.Step.TheVariants.{Char, Ill, End}
use Rattle.letters.proofs.Utf8Laws.{char_at, ill_in_lem}
use Rattle.writing.specs.InnerContracts.{cap}
use Rattle.base.proofs.Arms.{clash}
use Rattle.strings.specs.Reading.{Read, cut, got, read_byte, place_in}
use Rattle.pack.specs.Packs.{Verdict, accepted, refused, read_names, read_guesses, read_list, section, list_sections, end_section, pack_of}
use Rattle.rule_lines.specs.Rules.{Rule}
use Rattle.choices.specs.Texts.{Text}
use Rattle.refusals.specs.Numbers.{number_of}
use Rattle.refusals.specs.declared.Refusal.{Refusal}
use Rattle.refusals.specs.declared.Refusal.TheVariants.{NotUtf8, OutsideRange, NameTooLong}
use Rattle.engine.specs.Spelling.{Spelt, unspelt, spelt_as}
use Rattle.engine.specs.Calls.{CallOutcome, refused_by, key, outcome_of, unless, on_pack, letters_then, checked_then, call_of, refused_as}
use Rattle.engine.specs.Lines.{decimal_by, decimal, refusal_line, most, holds_line, needed, line_with, line_for, lines_from, whole_lines, and_taken, taken, BlockNumbers, block_numbers, took, no_room, numbers_by, block_by, LinesIs}
use Rattle.engine.specs.LineContracts.{line_length}
use Rattle.engine.specs.declared.call.Settings.{Settings}
use Rattle.engine.specs.declared.call.Start.{Start}
use Rattle.engine.specs.declared.lines.Lines.{Lines}
use Rattle.engine.specs.declared.lines.Lines.TheVariants.{NoRoom}
use Rattle.engine.proofs.LinesLaws.{lines_more, take_fits}
use Rattle.engine.proofs.LineLaws.{answer_long}
use Rattle.engine.proofs.BelowLaws.{Below, call_below}
use Rattle.engine.proofs.NameLineLaws.{line_answer, line_long, line_other, needed_answer, needed_refusal}
use Rattle.base.proofs.PickLaws.{pick_true, pick_false, pick_all}

-- ---- digits

-- a number below 10 to the k + 1 has at most k + 1 digits
unfoldable tens : ℕ → ℕ
tens zero = 10
tens (suc k) = 10 * tens k

digits_by : (k f n : ℕ) (b : Bool) → ltb n 10 ≡ b → ((m : ℕ) → m < tens k → length (decimal_by f m) ≤ suc k) → n < 10 * tens k
    → length (pick b ((48 + n % 10) ∷ []) (decimal_by f (n / 10) ++ (48 + n % 10) ∷ [])) ≤ suc (suc k)
unfolding pick
digits_by k f n true e ih h = omega arith
digits_by k f n false e ih h = omega (arith, ih (n / 10) (omega arith), length-append (decimal_by f (n / 10)) ((48 + n % 10) ∷ []))

digits_few : (k f n : ℕ) → n < tens k → length (decimal_by f n) ≤ suc k
unfolding decimal_by tens
digits_few k zero n h = omega arith
digits_few zero (suc f) n h =
    rw (pick_true (ltb n 10) ((48 + n % 10) ∷ []) (decimal_by f (n / 10) ++ (48 + n % 10) ∷ []) (lt-ltb n 10 h)) (omega arith)
digits_few (suc k) (suc f) n h = digits_by k f n _ refl (λ m l. digits_few k f m l) h

code_short : (n : ℕ) → n < 10 → length (decimal n) ≤ 1
unfolding decimal tens
code_short n h = digits_few 0 n n h

place_short : (n : ℕ) → n < 100000000000000000000 → length (decimal n) ≤ 20
unfolding decimal tens
place_short n h = digits_few 19 n n h

refusal_short : (k p : ℕ) → k < 10 → p < 100000000000000000000 → length (refusal_line (refused_as k p)) ≤ 23
unfolding refusal_line
refusal_short k p h l =
    omega (
      arith,
      code_short k h,
      place_short p l,
      length-append (decimal k) ((32 ∷ []) ++ (decimal p ++ 10 ∷ [])),
      length-append (decimal p) (10 ∷ []),
    )

-- ---- where a refusal's place is

found_ill : (f : ℕ) (s : List ℕ) (p q : ℕ) (r : Step) → decode_at s p ≡ r → ((m : ℕ) → ill_in (symbols_from f s m) ≡ Some q → q < length s)
    → ill_in (symbols_on r s p (symbols_from f s)) ≡ Some q → q < length s
unfolding ill_in symbols_on
found_ill f s p q (Char c n) d ih e = ih (p + n) e
found_ill f s p q Ill d ih e = let here : p ≡ q = cc in rw (← here) (ill_in_lem s p d)
found_ill f s p q End d ih e = clash (cc)

ill_place : (f : ℕ) (s : List ℕ) (p q : ℕ) → ill_in (symbols_from f s p) ≡ Some q → q < length s
unfolding symbols_from ill_in
ill_place zero s p q e = clash (cc)
ill_place (suc f) s p q e = found_ill f s p q _ refl (λ m k. ill_place f s m q k) e

outside_by : (b : Bool) (rest : Option ℕ) (s : List ℕ) (p q : ℕ) → p < length s → (rest ≡ Some q → q < length s) → pick b rest (Some p) ≡ Some q → q < length s
unfolding pick
outside_by true rest s p q h ih e = ih e
outside_by false rest s p q h ih e = let here : p ≡ q = cc in rw (← here) h

found_outside : (f : ℕ) (s : List ℕ) (p q : ℕ) (r : Step) → decode_at s p ≡ r → ((m : ℕ) → outside_in (symbols_from f s m) ≡ Some q → q < length s)
    → outside_in (symbols_on r s p (symbols_from f s)) ≡ Some q → q < length s
unfolding outside_in symbols_on
found_outside f s p q (Char c n) d ih e = outside_by _ _ s p q (char_at s p c n d).start (ih (p + n)) e
found_outside f s p q Ill d ih e = let here : p ≡ q = cc in rw (← here) (ill_in_lem s p d)
found_outside f s p q End d ih e = clash (cc)

outside_place : (f : ℕ) (s : List ℕ) (p q : ℕ) → outside_in (symbols_from f s p) ≡ Some q → q < length s
unfolding symbols_from outside_in
outside_place zero s p q e = clash (cc)
outside_place (suc f) s p q e = found_outside f s p q _ refl (λ m k. outside_place f s m q k) e

unfoldable FaultIn : ℕ → Verdict → Type 0
FaultIn b (accepted p) = Unit {0}
FaultIn b (refused place) = place ≤ b

section_in : {A : Type 0} (b place : ℕ) (fine : A → Bool) (rd : Read A) (k : A → List ℕ → Verdict) → place ≤ b
    → ((a : A) (r : List ℕ) → FaultIn b (k a r)) → FaultIn b (section place fine rd k)
unfolding FaultIn section
section_in b place fine cut k h l = h
section_in b place fine (got a r) k h l = pick_all (FaultIn b) (fine a) _ _ (l a r) h

place_in_lem : (s r : List ℕ) → place_in s r ≤ length s
unfolding place_in
place_in_lem s r = omega arith

lists_in_lem : (s names : List ℕ) (n : ℕ) (r : List ℕ) (k : List (List Rule) → List ℕ → Verdict)
    → ((ls : List (List Rule)) (t : List ℕ) → FaultIn (length s) (k ls t)) → FaultIn (length s) (list_sections s names n r k)
unfolding list_sections
lists_in_lem s names zero r k l = l [] r
lists_in_lem s names (suc n) r k l = section_in _ _ _ (read_list r) _ (place_in_lem s r) (λ rules q. lists_in_lem s names n q _ (λ ls t. l (rules ∷ ls) t))

pack_in_lem : (s : List ℕ) → FaultIn (length s) (pack_of s)
unfolding pack_of end_section FaultIn
pack_in_lem s =
    section_in _ _ _ (read_names s) _ zero-le (λ names a.
    section_in _ _ _ (read_guesses a) _ (place_in_lem s a) (λ guesses b.
    section_in _ _ _ (read_byte b) _ (place_in_lem s b) (λ n c. lists_in_lem s _ n c _ (λ ls d. pick_all (FaultIn (length s)) _ _ _ tt (place_in_lem s d)))))

unfoldable PlaceIn : ℕ → CallOutcome → Type 0
PlaceIn b (refused_by k place) = place ≤ b
PlaceIn b (key t f) = Unit {0}

spelt_in : (b : ℕ) (x : Spelt) → PlaceIn b (outcome_of x)
unfolding PlaceIn outcome_of
spelt_in b (unspelt k) = zero-le
spelt_in b (spelt_as t f) = tt

unless_in : (b : ℕ) (why : Refusal) (at : Option ℕ) (rest : CallOutcome) → ((q : ℕ) → at ≡ Some q → q ≤ b) → PlaceIn b rest
    → PlaceIn b (unless why at rest)
unfolding PlaceIn unless
unless_in b why (Some place) rest h k = h place refl
unless_in b why None rest h k = k

on_pack_in : (c : Settings) (start : Start) (s name : List ℕ) (b : ℕ) (v : Verdict) → length s ≤ b → FaultIn (length s) v
    → PlaceIn b (on_pack c start s name v)
unfolding PlaceIn FaultIn on_pack
on_pack_in c start s name b (refused place) h l = omega arith
on_pack_in c start s name b (accepted p) h l = pick_all (PlaceIn b) _ _ _ (spelt_in b _) zero-le

letters_in : (name : Text) (rest : CallOutcome) (b : ℕ) (t : Bool) → ltb 96 (length name) ≡ t → 96 ≤ b → PlaceIn b rest
    → PlaceIn b (pick t (refused_by NameTooLong 0) (unless NotUtf8 (first_ill name) (unless OutsideRange (first_outside name) rest)))
unfolding PlaceIn pick first_ill first_outside symbols_of
letters_in name rest b true e h k = zero-le
letters_in name rest b false e h k =
    let few : length name ≤ 96 = ltb-false _ _ e in
    unless_in b NotUtf8 _ _ (λ q l. let m = ill_place (length name) name 0 q l in omega arith)
    (unless_in b OutsideRange _ _ (λ q l. let m = outside_place (length name) name 0 q l in omega arith) k)

call_in : (c : Settings) (start : Start) (s name : List ℕ) → PlaceIn (length s + 96) (call_of c start s name)
unfolding call_of checked_then letters_then PlaceIn
call_in c start s name =
    pick_all (PlaceIn (length s + 96)) _ _ _
    (letters_in name _ _ _ refl (omega arith) (on_pack_in c start s name _ _ (omega arith) (pack_in_lem s))) zero-le

-- ---- a line and its buffer

line_fits_by : (size b : ℕ) (x : CallOutcome) → 32 ≤ size → b < 100000000000000000000 → Below x → PlaceIn b x
    → length (line_with size x) ≤ min size most
unfolding Below PlaceIn
line_fits_by size b (refused_by k place) h l code there =
    omega (arith, refusal_short (number_of k) place (omega arith) (omega arith), ap length (line_other size k place))
line_fits_by size b (key t f) h l code there = elim (dec_le (length t + 5) (min size most)) [
  | yes m ↦ omega (arith, ap length (line_answer size t f m), answer_long (length t) f t)
  | no m ↦ omega (arith, ap length (line_long size t f (omega arith)), refusal_short 9 (line_length (length t)) (omega arith) (omega arith))
]

line_fits : (c : Settings) (start : Start) (s : List ℕ) (size : ℕ) (name : Text) → 32 ≤ size → length s < cap
    → length (line_for (call_of c start s) size name) ≤ min size most
unfolding line_for
line_fits c start s size name h l =
    line_fits_by size (length s + 96) (call_of c start s name) h (omega arith) (call_below c start s name) (call_in c start s name)

-- in a buffer of the length needed a name's line is the whole one
needed_fits : (size : ℕ) (x : CallOutcome) → needed x < most → needed x ≤ size → length (line_with size x) ≤ min size most
needed_fits size (refused_by k place) few h = omega (arith, ap length (line_other size k place), needed_refusal k place)
needed_fits size (key t f) few h =
    let room : length t + 5 ≤ min size most = omega (arith, needed_answer t f) in
    omega (arith, ap length (line_answer size t f room), answer_long (length t) f t)

-- ---- the first name of a block

module _ (call : Text → CallOutcome) (block : List ℕ) (there : place_of 10 block < length block) where
  -- the first line of a block that holds a whole one
  abbrev first_name : Text
  first_name = take (place_of 10 block) block

  names_are : whole_lines block ≡ first_name ∷ lines_from (length block - 1) (drop (suc (place_of 10 block)) block)
  unfolding whole_lines
  names_are =
      let n : length block ≡ suc (length block - 1) = omega arith in
      ap (λ (k : ℕ). lines_from k block) n ∙ lines_more (length block - 1) block there

  numbers_are : (size : ℕ)
      → block_by call block size ≡ pick (holds_line size (line_for call size first_name)) (took (taken call block size))
      (no_room (needed (call first_name)))
  unfolding block_by numbers_by
  numbers_are size = ap (λ (ns : List Text). numbers_by call size ns (taken call block size)) names_are

  -- where its line fits, it is read
  first_read : (size : ℕ) → length (line_for call size first_name) ≤ min size most → 0 < (taken call block size).read
  unfolding taken and_taken
  first_read size h =
      rw (
        names_are,
        take_fits (line_for call size) (min size most) first_name
            (lines_from (length block - 1) (drop (suc (place_of 10 block)) block)) h,
      ) (omega arith)

  block_read : (size : ℕ) → length (line_for call size first_name) ≤ min size most
      → ((block_by call block size).code ≡ 0) × (0 < (block_by call block size).first)
  unfolding holds_line
  block_read size h = rw (numbers_are size ∙ pick_true _ _ _ (le-leb _ _ h)) (refl, first_read size h)

  block_nine : (size : ℕ) → min size most < length (line_for call size first_name) → block_by call block size ≡ no_room (needed (call first_name))
  unfolding holds_line
  block_nine size h = numbers_are size ∙ pick_false _ _ _ (lt-leb _ _ h)

  block_either : (size : ℕ)
      → (((block_by call block size).code ≡ 0) × (0 < (block_by call block size).first)) ⊎ (block_by call block size ≡ no_room (needed (call first_name)))
  block_either size = elim (dec_le (length (line_for call size first_name)) (min size most)) [
    | yes h ↦ inl (block_read size h)
    | no h ↦ inr (block_nine size (omega arith))
  ]

  -- a buffer of the length that 9 tells is enough
  block_needed : (size size₂ n : ℕ) → block_by call block size ≡ no_room n → n < most → n ≤ size₂
      → ((block_by call block size₂).code ≡ 0) × (0 < (block_by call block size₂).first)
  unfolding line_for
  block_needed size size₂ n e few h = needed_by (block_either size) where
    needed_by : (((block_by call block size).code ≡ 0) × (0 < (block_by call block size).first)) ⊎
        (block_by call block size ≡ no_room (needed (call first_name))) → ((block_by call block size₂).code ≡ 0) × (0 < (block_by call block size₂).first)
    needed_by (inl x) = clash (omega (arith, x.0, ap (λ (b : BlockNumbers). b.code) e))
    needed_by (inr x) =
        let is : needed (call first_name) ≡ n = ap (λ (b : BlockNumbers). b.first) (sym x ∙ e) in
        block_read size₂ (needed_fits size₂ (call first_name) (omega (arith, is)) (omega (arith, is)))

  module _ {out o : List ℕ} {r : Lines} (x : LinesIs call block out r o) where
    -- with any buffer, a block that holds a whole line is read on, or answered by 9
    pub lines_progress : (((block_numbers r).code ≡ 0) × (0 < (block_numbers r).first)) ⊎ ((block_numbers r).code ≡ 9)
    lines_progress = ⊎_elim (λ h. inl (rw x.result h)) (λ h. inr (ap (λ (b : BlockNumbers). b.code) (x.result ∙ h))) (block_either (length out))

    -- and where it is, a buffer of the length needed is enough to read on
    pub lines_needed : {out₂ o₂ : List ℕ} {r₂ : Lines} (n : ℕ) → r ≡ NoRoom n → n < most → n ≤ length out₂ → LinesIs call block out₂ r₂ o₂
        → ((block_numbers r₂).code ≡ 0) × (0 < (block_numbers r₂).first)
    unfolding block_numbers
    lines_needed {out₂} n e few h y = rw y.result (block_needed (length out) (length out₂) n (sym x.result ∙ ap block_numbers e) few h)

-- with a buffer of 32 bytes or more it is read on always: no name and no pack can stop it
pub lines_enough : (c : Settings) (start : Start) (s block out o : List ℕ) (r : Lines) → LinesIs (call_of c start s) block out r o
    → 32 ≤ length out → length s < cap → place_of 10 block < length block → ((block_numbers r).code ≡ 0) × (0 < (block_numbers r).first)
lines_enough c start s block out o r x h l there =
    rw x.result (block_read (call_of c start s) block there (length out) (line_fits c start s (length out) _ h l))
