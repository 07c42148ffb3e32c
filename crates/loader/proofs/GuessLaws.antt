-- The guessing file: a rule judged and written, the loop over its lines, and that what is kept is good in a pack. Assumes nothing.
use mathlib.Core.Path.{◌≡◌, refl, sym, ap, ◌∙◌}
use mathlib.Core.Bool.{Bool, true, false, not}
use mathlib.Core.List.{List, [], ◌∷◌, ◌++◌}
use Prim.Native.Nat.{ℕ, zero, suc, ◌+◌, ◌*◌, ◌^◌, ◌≤◌, ◌<◌}
use native.Mathlib.Omega.{arith}
use borrow.Author.Rules.{rules}
use lib.Bits.{bit_or, bit_and, or_lt, and_zero_r}
use lib.Dec.{eqb, leb}
use lib.ListN.{length}
use lib.Pow.{pow_pos}
use mir.Syntax.{w64}
use mir.Val.{Fits}
use Rattle.std.specs.Int.{from_bool}
use borrow.Author.Tests.{lt-ltb, le-ltb, ltb-false, ne_eqb}
use Rattle.base.specs.Pick.{pick}
use Rattle.base.proofs.Bits.{and_or}
use Rattle.refusals.specs.declared.Refusal.{Refusal}
use Rattle.refusals.specs.declared.Refusal.TheVariants.{LineUnreadable, OutsideForms, NameUnlisted, TooMuch}
use Rattle.strings.specs.Reading.{strings_of}
use Rattle.languages.proofs.NumberLaws.{listed_one}
use Rattle.languages.proofs.Laws.{is_listed_lem, bit_held}
use Rattle.phonemes.specs.Expressions.{plus, on_first, cut_at, with_bits, names_mask}
use Rattle.lang.specs.Patterns.{in_forms}
use Rattle.writing.specs.InnerContracts.{Put, cap}
use Rattle.base.proofs.Arms.{clash}
use Rattle.writing.proofs.Laws.{put_none, put_then, put_long, put_place}
use Rattle.pack.specs.Packs.{Guess, guess, guess_good, guesses_good}
use Rattle.pack_bytes.specs.Bytes.{text_bytes, mask_bytes, guess_bytes}
use Rattle.rules_parser.specs as rules_parser
use rules_parser.Fields.{part_of}
use rules_parser.Files.{item_at}
use Rattle.rules_parser.proofs.Laws.{passed_goes, tells_goes, guess_pattern}
use rules_parser.declared.fields.Text.{Text}
use rules_parser.declared.lines.FileKind.TheVariants.{Guesses}
use rules_parser.declared.lines.Clause.{Clause}
use rules_parser.declared.lines.Clause.TheVariants as told
use rules_parser.declared.files.Item.{Item}
use rules_parser.declared.files.Item.TheVariants.{Passed, Tells, Wrong}
use Rattle.rule_lists.specs.Outcomes.{Loading, fine, not_loaded, and_load}
use Rattle.loader.specs as specs
use specs.Files.{Kept, keeps, fault}
use specs.Guesses.{accept_of, with_mask, judged_guess, guess_of, guesses_in, counted_guesses, guesses_of}
use specs.InnerContracts.{guess_part, judgment, judged_as, guess_put, GuessesWritten, GuessesAre}
use Rattle.std.specs.Prelude.{Result, Ok, Err, Option, Some, None}
use Rattle.rule_lists.specs.declared.refused.Refused.{Refused}
use Rattle.rule_lists.specs.InnerContracts.{refusal_at}
use specs.declared.guesses.GuessPart.{GuessPart}
use Rattle.loader.proofs.FileLaws.{fine_is, then_fine, told_from, told_start, told_end, told_wrong, told_passed, told_fault, told_kept, each_told, each_all, AtLine, line_start, passed_line, told_line, line_steps}
use Rattle.base.proofs.PickLaws.{pick_true, pick_false, pick_all, and_yes}
use Rattle.held.specs.Met.{bytes_of_all}
use Rattle.pack_bytes.specs.InnerContracts.{text_put}

-- ---- a rule judged

module _ (names pattern joined : List ℕ) where
  pub judge_long : 255 < length pattern → Err TooMuch ≡ judged_as names pattern joined
  unfolding judged_as judgment judged_guess
  judge_long h = sym (ap judgment (pick_true _ _ _ (lt-ltb 255 (length pattern) h)))

  module _ (h : length pattern ≤ 255) (t : Bool) (e : t ≡ in_forms pattern) where
    judge_by : judgment (pick t (with_mask true pattern (names_mask names (cut_at plus joined))) (fault OutsideForms)) ≡ judged_as names pattern joined
    unfolding judged_as judged_guess
    judge_by = ap judgment (rw (← e) (sym (pick_false _ _ _ (le-ltb 255 (length pattern) h))))

    pub judge_bad : t ≡ false → Err OutsideForms ≡ judged_as names pattern joined
    unfolding judgment pick
    judge_bad q = rw q at judge_by

    module _ (q : t ≡ true) (x : Option ℕ) (g : x ≡ names_mask names (cut_at plus joined)) where
      listed_by : judgment (with_mask true pattern x) ≡ judged_as names pattern joined
      unfolding pick
      listed_by = rw (q, ← g) at judge_by

      pub judge_mask : (m : ℕ) → x ≡ Some m → Ok m ≡ judged_as names pattern joined
      unfolding judgment with_mask
      judge_mask m p = rw p at listed_by

      pub judge_unlisted : x ≡ None → Err NameUnlisted ≡ judged_as names pattern joined
      unfolding judgment with_mask
      judge_unlisted p = rw p at listed_by

pub ruleset judges = (rules, listed_one, judge_long, judge_bad, judge_mask, judge_unlisted)

-- what a judgment tells, whether the rule accepts or not
abbrev judged_by : Bool → List ℕ → Bool → Bool → Option ℕ → Kept Guess
judged_by v pattern t u x = pick t (fault TooMuch) (pick u (with_mask v pattern x) (fault OutsideForms))

kept_as : Bool → List ℕ → Result ℕ Refusal → Kept Guess
kept_as v pattern (Ok m) = keeps (guess (accept_of v) m pattern)
kept_as v pattern (Err c) = fault c

judged_is : (v : Bool) (pattern : List ℕ) (t u : Bool) (x : Option ℕ)
    → judged_by v pattern t u x ≡ kept_as v pattern (judgment (judged_by true pattern t u x))
unfolding judgment with_mask pick kept_as
judged_is v pattern true u x = refl
judged_is v pattern false true (Some k) = refl
judged_is v pattern false true None = refl
judged_is v pattern false false x = refl

kept_inv : (v : Bool) (pattern : List ℕ) (t u : Bool) (x : Option ℕ) (g : Guess) → judged_by v pattern t u x ≡ keeps g
    → (m : ℕ) × (t ≡ false) × (u ≡ true) × (x ≡ Some m) × (guess (accept_of v) m pattern ≡ g)
unfolding with_mask pick
kept_inv v pattern true u x g e = clash (cc)
kept_inv v pattern false true (Some m) g e = (m, refl, refl, refl, cc)
kept_inv v pattern false true None g e = clash (cc)
kept_inv v pattern false false x g e = clash (cc)

-- ---- a rule written

module _ (o o₁ o₂ o₃ : List ℕ) (at p q r : ℕ) where
  pub guess_put_lem : (v : Bool) (m : ℕ) (pattern : List ℕ) (b : ℕ) → b ≡ from_bool v → Put o o₁ at p (b ∷ []) → Put o₁ o₂ p q (mask_bytes m)
      → Put o₂ o₃ q r (text_put pattern)
      → Put o o₃ at r (guess_put v m pattern)
  unfolding guess_put accept_of
  guess_put_lem true m pattern b e x y z = put_then (rw e at x) (put_then y z)
  guess_put_lem false m pattern b e x y z = put_then (rw e at x) (put_then y z)

put_bytes : (v : Bool) (m : ℕ) (pattern : List ℕ) → length pattern ≤ 255 → guess_put v m pattern ≡ guess_bytes (guess (accept_of v) m pattern)
unfolding guess_put guess_bytes text_put text_bytes
put_bytes v m pattern h = ap (λ (n : ℕ). accept_of v ∷ (mask_bytes m ++ (n ∷ pattern))) (omega arith)

-- ---- the loop: what is left of the file, written behind n rules

from_next : (n : ℕ) (g : Guess) (x : Loading (List Guess)) (o o₁ : List ℕ) (at p : ℕ) (r : Result GuessPart Refused) (o' : List ℕ) → Put o o₁ at p (guess_bytes g)
    → GuessesWritten (n + 1) x o₁ p r o' → GuessesWritten n (and_load x (λ gs. fine (g ∷ gs))) o at r o'
unfolding GuessesWritten and_load bytes_of_all
from_next n g (fine gs) o o₁ at p r o' y w =
    let size : n + 1 + length gs ≡ n + suc (length gs) = omega arith in
    (w.0, w.1 ∙ ap (λ (k : ℕ). Ok (guess_part k w.0)) size, put_then y w.2)
from_next n g (not_loaded c l f) o o₁ at p r o' y w = w

other : (names s : List ℕ) (t : Clause) → ((a b : Text) (v : Bool) → t ≡ told.Guess a b v → ⊥) → guess_of names s t ≡ fault LineUnreadable
unfolding guess_of
other names s (told.Rule a b c d) h = refl
other names s (told.Include a) h = refl
other names s (told.Guess a b v) h = absurd (h a b v refl)
other names s (told.Name a) h = refl

-- n rules were written up to the place `at` of o, and the file is read up to its place p, in line l
pub record Writing (names s : List ℕ) (f : ℕ) (o₀ : List ℕ) (at₀ : ℕ) (o : List ℕ) (at n p l : ℕ) : Type 0 where
  pub line_at : AtLine s p l
  pub rules : n ≤ p
  pub room : length o < cap
  pub long : length o ≡ length o₀
  pub place : at ≤ cap
  pub is : (r : Result GuessPart Refused) (o' : List ℕ) → GuessesWritten n (told_from (guess_of names s) f Guesses s l p) o at r o' → GuessesAre names s f o₀ at₀ r o'

pub writing_start : (names s : List ℕ) (f : ℕ) (o : List ℕ) (at : ℕ) → length s * 1 < cap → length o * 1 < cap → at ≤ cap
    → Writing names s f o at o at 0 0 1
unfolding GuessesAre guesses_in
writing_start names s f o at b h k = record {
  line_at = line_start s b;
  rules = omega arith;
  room = omega arith;
  long = refl;
  place = k;
  is = λ r o' w. rw (told_start (guess_of names s) f Guesses s) at w;
}

module _ {names s : List ℕ} {f : ℕ} {o₀ : List ℕ} {at₀ : ℕ} {o : List ℕ} {at n p l : ℕ} (w : Writing names s f o₀ at₀ o at n p l) where
  -- what is left comes to a refusal
  stops : (c : Refusal) → told_from (guess_of names s) f Guesses s l p ≡ not_loaded c l f → GuessesAre names s f o₀ at₀ (Err (refusal_at c l f)) o
  unfolding GuessesWritten
  stops c e = w.is _ o (rw e refl)

  pub writing_done : length s ≤ p → GuessesAre names s f o₀ at₀ (Ok (guess_part n at)) o
  unfolding GuessesWritten bytes_of_all
  writing_done h =
      w.is _ o (rw (told_end (guess_of names s) f Guesses s l p h) (at, ap (λ (i : ℕ). Ok (guess_part i at)) (omega arith), put_none o at w.room w.place))

  pub writing_count : Fits w64 (n + 1)
  writing_count = record { fits = omega (arith, w.rules, w.line_at.within, w.line_at.small) }

  module _ (x : Item) (e : x ≡ item_at Guesses s p) where
    pub writing_wrong : p < length s → x ≡ Wrong → GuessesAre names s f o₀ at₀ (Err (refusal_at LineUnreadable l f)) o
    writing_wrong h q = stops LineUnreadable (told_wrong (guess_of names s) f Guesses s l p h (sym e ∙ q))

    pub writing_passed : (k i : ℕ) → x ≡ Passed k i → Writing names s f o₀ at₀ o at n i (l + k)
    writing_passed k i q = record {
      line_at = passed_line Guesses s p l w.line_at x e k i q;
      rules = omega (arith, w.rules, passed_goes Guesses s p k i (sym e ∙ q));
      room = w.room;
      long = w.long;
      place = w.place;
      is = λ r o' y. w.is r o' (rw (told_passed (guess_of names s) f Guesses s l p k i (sym e ∙ q)) y);
    }

    module _ (t : Clause) (i : ℕ) (q : x ≡ Tells t i) where
      here_tells : item_at Guesses s p ≡ Tells t i
      here_tells = sym e ∙ q

      faulty : (c : Refusal) → guess_of names s t ≡ fault c → GuessesAre names s f o₀ at₀ (Err (refusal_at c l f)) o
      faulty c m = stops c (told_fault (guess_of names s) f Guesses s l p t i c here_tells m)

      pub writing_other : ((a b : Text) (v : Bool) → t ≡ told.Guess a b v → ⊥) → GuessesAre names s f o₀ at₀ (Err (refusal_at LineUnreadable l f)) o
      writing_other h = faulty LineUnreadable (other names s t h)

      module _ (a b : Text) (v : Bool) (g : t ≡ told.Guess a b v) (pattern joined : List ℕ) (ea : pattern ≡ part_of s a) (eb : joined ≡ part_of s b)
          (j : Result ℕ Refusal) (ej : j ≡ judged_as names pattern joined) where
        judged : (k : Result ℕ Refusal) → j ≡ k → judged_guess names v pattern joined ≡ kept_as v pattern k
        unfolding judged_as judged_guess
        judged k z = judged_is v pattern _ _ _ ∙ ap (kept_as v pattern) (sym ej ∙ z)

        here : guess_of names s t ≡ judged_guess names v pattern joined
        unfolding guess_of
        here = rw (g, ← ea, ← eb) refl

        pub writing_fault : (c : Refusal) → j ≡ Err c → GuessesAre names s f o₀ at₀ (Err (refusal_at c l f)) o
        unfolding kept_as
        writing_fault c z = faulty c (here ∙ judged (Err c) z)

        pub writing_kept : (m : ℕ) → j ≡ Ok m → (o₁ : List ℕ) (r : ℕ) → Put o o₁ at r (guess_put v m pattern)
            → Writing names s f o₀ at₀ o₁ r (n + 1) i (l + 1)
        unfolding kept_as judged_guess
        writing_kept m z o₁ r y =
            let bytes = rw (put_bytes v m pattern (ltb-false _ _ (kept_inv v pattern _ _ _ _ (judged (Ok m) z)).1)) at y in
            record {
              line_at = told_line Guesses s p l w.line_at x e t i q;
              rules = omega (arith, w.rules, tells_goes Guesses s p t i here_tells);
              room = omega (arith, w.room, put_long o o₁ at r _ y);
              long = put_long o o₁ at r _ y ∙ w.long;
              place = put_place o o₁ at r _ y;
              is = λ u o' x. w.is u o' (rw (told_kept (guess_of names s) f Guesses s l p t i _ here_tells (here ∙ judged (Ok m) z)) (from_next n _ _ o o₁ at r u o' bytes x));
            }

pub ruleset writes = (
  line_steps,
  writing_start,
  writing_done,
  writing_count,
  writing_wrong,
  writing_passed,
  writing_other,
  writing_fault,
  writing_kept,
)

-- ---- what is kept is good in a pack

with_inv : (a b : Option ℕ) (m : ℕ) → with_bits a b ≡ Some m → (x : ℕ) × (y : ℕ) × (a ≡ Some x) × (b ≡ Some y) × (bit_or x y ≡ m)
unfolding with_bits
with_inv (Some x) (Some y) m e = (x, y, refl, refl, cc)
with_inv (Some x) None m e = clash (cc)
with_inv None b m e = clash (cc)

or_by : (x y n : ℕ) → bit_or x y ≡ n → 0 < x → 0 < n
or_by x y zero e h = let none : x ≡ 0 = sym (and_or x y) ∙ ap (bit_and x) e ∙ and_zero_r x in absurd (omega arith)
or_by x y (suc n) e h = omega arith

cut_by : (x : ℕ) (ps : List (List ℕ)) → 0 < length (on_first x ps)
unfolding on_first
cut_by x [] = omega arith
cut_by x (p ∷ ps) = omega arith

cut_some : (b : ℕ) (l : List ℕ) → 0 < length (cut_at b l)
unfolding cut_at
cut_some b [] = omega arith
cut_some b (x ∷ l) = pick_all (λ (ps : List (List ℕ)). 0 < length ps) (eqb x b) _ _ (omega arith) (cut_by x (cut_at b l))

-- the mask of names that are listed has only their bits, and one at least
module _ (names : List ℕ) where
  mask_held : (ns : List (List ℕ)) (m : ℕ) → names_mask names ns ≡ Some m → m < 2 ^ length (strings_of names)
  unfolding names_mask
  mask_held [] m e = let z : 0 ≡ m = cc in rw (← z) (pow_pos (length (strings_of names)))
  mask_held (n ∷ ns) m e =
      let i = with_inv _ _ m e in
      rw (← i.4) (or_lt _ i.0 i.1 (bit_held names n i.0 _ refl i.2) (mask_held ns i.1 i.3))

  mask_some : (ns : List (List ℕ)) (m : ℕ) → 0 < length ns → names_mask names ns ≡ Some m → 0 < m
  unfolding names_mask
  mask_some [] m h e = absurd (omega arith)
  mask_some (n ∷ ns) m h e =
      let i = with_inv _ _ m e in
      let l = is_listed_lem names n i.0 _ refl i.2 in
      or_by i.0 i.1 m i.4 (rw l.bit (pow_pos l.place))

accept_good : (v : Bool) → leb (accept_of v) 1 ≡ true
unfolding accept_of
accept_good true = refl
accept_good false = refl

-- a line that is kept
kept_good : (names s : List ℕ) (p : ℕ) (t : Clause) (n : ℕ) (g : Guess) → item_at Guesses s p ≡ Tells t n → guess_of names s t ≡ keeps g
    → guess_good (length (strings_of names)) g ≡ true
unfolding guess_of judged_guess guess_good
kept_good names s p (told.Rule a b c d) n g e k = clash (cc)
kept_good names s p (told.Include a) n g e k = clash (cc)
kept_good names s p (told.Name a) n g e k = clash (cc)
kept_good names s p (told.Guess a b v) n g e k =
    let i = kept_inv v (part_of s a) _ _ _ g k in
    let some = mask_some names _ i.0 (cut_some plus (part_of s b)) i.3 in
    let more = ap not (ne_eqb i.0 0 (λ z. omega arith)) in
    rw (← i.4) (and_yes _ _ (accept_good v) (and_yes _ _ more
    (and_yes _ _ (lt-ltb _ _ (mask_held names _ i.0 i.3)) (and_yes _ _ (guess_pattern s p a b v n e) i.2))))

counted_inv : (t : Bool) (gs hs : List Guess) → pick t (fine gs) (not_loaded TooMuch 0 0) ≡ fine hs → (t ≡ true) × (gs ≡ hs)
unfolding pick
counted_inv true gs hs e = (refl, fine_is e)
counted_inv false gs hs e = clash (cc)

-- `names` is the bytes of the languages xs, each behind its length byte
pub guesses_good_lem : (names : List ℕ) (xs : List (List ℕ)) → strings_of names ≡ xs → (f : ℕ) (s : List ℕ) (gs : List Guess)
    → guesses_of names f s ≡ fine gs → guesses_good (length xs) gs ≡ true
unfolding guesses_of guesses_in counted_guesses guesses_good
guesses_good_lem names xs listed f s gs e =
    let w = then_fine _ _ gs e in
    let c = counted_inv _ w.0 gs w.2 in
    rw (← listed, ← c.1) (and_yes _ _ c.0 (each_all _ (each_told (guess_of names s) f Guesses s _ (kept_good names s) w.0 w.1)))
