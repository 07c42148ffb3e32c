-- A guessing rule by its places, the test of one, and the loop over the section. Assumes nothing.
use Rattle.std.proofs.lemmas.Option.{same_Some}
use Rattle.pack.specs.Places.{guess_span}
use Rattle.pack.specs.declared.guessing.GuessAt.{GuessAt}
use Rattle.strings.specs.declared.Number.{Number}
use Rattle.strings.specs.declared.Span.{Span}
use Prim.{Unit}
use mathlib.Core.Path.{◌≡◌, refl, sym, ap, ap₂, ◌∙◌}
use mathlib.Core.Bool.{Bool, true, false, not}
use mathlib.Core.List.{List, [], ◌∷◌}
use Prim.Native.Nat.{ℕ, ◌+◌, ◌-◌, ◌*◌, ◌%◌, ◌^◌, ◌≤◌, ◌<◌, min}
use native.Mathlib.Nat.{one-mul}
use native.Mathlib.Omega.{arith}
use lib.Dec.{eqb, ltb, lit<}
use lib.Pow.{shl_exact, pow_pos}
use lib.ListN.{length, get_or, take, drop, length-take, length-drop}
use lib.Seq.{drop-drop}
use borrow.Author.Rules.{rules}
use Rattle.std.specs.Prelude.{Option, Some, None}
use borrow.Author.Tests.{le-leb, lt-leb, lt-ltb, le-ltb, eq-eqb, ne_eqb}
use Rattle.base.specs.Pick.{pick, and}
use Rattle.rule.specs.Matching.{rule_text}
use Rattle.lang.specs.Patterns.{in_forms}
use Rattle.strings.specs.Reading.{Read, cut, got, and_read, read_byte, read_number, read_many, place_in}
use Rattle.pack.specs
use specs.Packs.{Guess, guess, read_guess, read_guesses, all, guess_good, guesses_good}
use specs.Guessing.{all_listed}
use specs.InnerContracts.{end_in, all_from, guesses_from, placed_guess, guess_stands_at}
use Rattle.strings.specs.InnerContracts.{ByteIs, number_at, string_at}
use Rattle.pack.proofs
use proofs.Readers.{guess_ends}
use proofs.RuleLaws.{then_text}
use Rattle.strings.proofs.Readers.{EndOf, end_here, place_drop, then_inv, byte_ends, number_ends, byte_some, byte_none, count_of, mask_of, mask_cut, text_is, text_cut, text_then}
use Rattle.base.proofs.Arms.{clash}
use proofs.Judging.{runs_out, fails, section_ends, section_faulty, judge_fine, judge_faulty, walk_on, walk_off, walk_end, counted_cut, counted_much, counted_many}
use Rattle.base.proofs.PickLaws.{and_first, and_second}

-- ---- a guessing rule at a place

pub guess_none : (s : List ℕ) (at : ℕ) → length s ≤ at → None ≡ guess_stands_at s at
unfolding guess_stands_at placed_guess read_guess and_read
guess_none s at h = rw (byte_none s at h) refl

module _ (s : List ℕ) (at : ℕ) (h : at < length s) (y : Option Number) (g : y ≡ number_at 4 s (at + 1)) where
  pub guess_cut_mask : y ≡ None → None ≡ guess_stands_at s at
  unfolding guess_stands_at placed_guess read_guess and_read
  guess_cut_mask q = rw (byte_some s at h, mask_cut s (at + 1) y g q) refl

  module _ (told : Number) (q : y ≡ Some told) where
    mask_reads : read_number 4 (drop (at + 1) s) ≡ got told.value (drop told.next s)
    mask_reads = (mask_of s (at + 1) y told g q).reads

    module _ (x : Option Span) (f : x ≡ string_at s told.next) where
      pub guess_cut_text : x ≡ None → None ≡ guess_stands_at s at
      unfolding guess_stands_at placed_guess read_guess and_read
      guess_cut_text p = rw (byte_some s at h, mask_reads, text_cut s told.next x f p) refl

      pub guess_whole : (part : Span) (b : ℕ) → x ≡ Some part → ByteIs s at b → Some (guess_span b told.value part.start part.end) ≡ guess_stands_at s at
      unfolding guess_stands_at placed_guess read_guess and_read
      guess_whole part b p k =
          let w = text_is s told.next x f part p in
          let accept : b ≡ get_or s at 0 = k.is in
          let end : part.end ≡ place_in s (drop part.end s) = sym (place_drop s part.end w.fits) in
          let start : part.start ≡ place_in s (drop part.end s) - length (take (part.end - part.start) (drop part.start s)) =
          omega (arith, place_drop s part.end w.fits, length-take (part.end - part.start) (drop part.start s), length-drop part.start s) in
          rw (byte_some s at h, mask_reads, w.reads) (cc)

pub ruleset guess_at_laws = (guess_none, guess_cut_mask, guess_cut_text, guess_whole, rules)

-- what stands there
pub record GuessIs (s : List ℕ) (at b m a e : ℕ) : Type 0 where
  pub order : a ≤ e
  pub fits : e ≤ length s
  pub reads : read_guess (drop at s) ≡ got (guess b m (take (e - a) (drop a s))) (drop e s)

rest_drop : (s r q : List ℕ) (d : ℕ) → r ≡ drop d s → (v : EndOf r q) → q ≡ drop (d + v.at) s
rest_drop s r q d e v = v.is ∙ ap (drop v.at) e ∙ drop-drop v.at d s

is_by : (s : List ℕ) (at : ℕ) (spans : GuessAt) (x : Read Guess) → read_guess (drop at s) ≡ x → placed_guess s x ≡ Some spans → GuessIs s at spans.accept spans.mask spans.pattern.start spans.pattern.end
unfolding read_guess placed_guess
is_by s at spans cut g h = clash (cc)
is_by s at spans (got g q) r k =
    let i = then_inv (read_byte (drop at s)) _ g q r in
    let j = then_inv (read_number 4 i.1) _ g q i.3 in
    let v = byte_ends (drop at s) i.0 i.1 i.2 in
    let u = number_ends 4 i.1 j.0 j.1 j.2 in
    let d : ℕ = at + v.at + u.at in
    let there : j.1 ≡ drop d s = rest_drop s i.1 j.1 (at + v.at) (rest_drop s (drop at s) i.1 at refl v) u in
    let w = then_text (text_then s d (λ p t. got (guess i.0 j.0 p) t) g q (rw there at j.3)) in
    let parts = w.rest in
    let rest : drop (d + 1 + length w.text) s ≡ q = cc in
    let is : guess i.0 j.0 w.text ≡ g = cc in
    let told = same_Some _ _ k in
    let accept : g.accept ≡ spans.accept = ap (λ (x : GuessAt). x.accept) told in
    let mask : g.mask ≡ spans.mask = ap (λ (x : GuessAt). x.mask) told in
    let pattern : w.text ≡ g.pattern = ap (λ (y : Guess). y.pattern) is in
    let end : place_in s q ≡ spans.pattern.end = ap (λ (x : GuessAt). x.pattern.end) told in
    let start : place_in s q - length g.pattern ≡ spans.pattern.start = ap (λ (x : GuessAt). x.pattern.start) told in
    let place : place_in s q ≡ d + 1 + length w.text = sym (ap (place_in s) rest) ∙ place_drop s (d + 1 + length w.text) w.read.fits in
    let size : length w.text ≡ length g.pattern = ap length pattern in
    let from : spans.pattern.start ≡ d + 1 = omega arith in
    let n : spans.pattern.end - spans.pattern.start ≡ length w.text = omega arith in
    let text : g.pattern ≡ take (spans.pattern.end - spans.pattern.start) (drop spans.pattern.start s) = sym pattern ∙ sym w.read.text ∙ ap₂ (λ (i j : ℕ). take i (drop j s)) (sym n) (sym from) in
    let to : d + 1 + length w.text ≡ spans.pattern.end = sym place ∙ end in
    let fits = w.read.fits in
    record {
      order = omega arith;
      fits = omega arith;
      reads = r ∙ ap₂ (λ (y : Guess) (l : List ℕ). got y l) (λ i. record { accept = accept i; mask = mask i; pattern = text i }) (sym rest ∙ ap (λ (i : ℕ). drop i s) to);
    }

cut_by : (s : List ℕ) (at : ℕ) (x : Read Guess) → read_guess (drop at s) ≡ x → placed_guess s x ≡ None → read_guess (drop at s) ≡ cut
unfolding placed_guess
cut_by s at cut g h = g
cut_by s at (got r q) g h = clash (cc)

module _ (s : List ℕ) (at : ℕ) (x : Option GuessAt) (g : x ≡ guess_stands_at s at) where
  pub guess_is : (spans : GuessAt) → x ≡ Some spans → GuessIs s at spans.accept spans.mask spans.pattern.start spans.pattern.end
  unfolding guess_stands_at
  guess_is spans q = is_by s at spans _ refl (sym g ∙ q)

  pub guess_cut : x ≡ None → read_guess (drop at s) ≡ cut
  unfolding guess_stands_at
  guess_cut q = cut_by s at _ refl (sym g ∙ q)

-- ---- the listed bits, and the test of a guessing rule

pub listed_full : (n : ℕ) → 32 ≤ n → 4294967295 ≡ all_listed (min 32 n)
unfolding all_listed
listed_full n h = let e : min 32 n ≡ 32 = omega arith in sym (ap (λ (k : ℕ). 2 ^ k - 1) e)

one_bit : (n : ℕ) → n < 32 → (1 * 2 ^ n) % 2 ^ 32 ≡ 2 ^ n
one_bit n h = shl_exact 1 n 32 (lit< tt) (omega arith) ∙ one-mul (2 ^ n)

pub listed_room : (n : ℕ) → n < 32 → 1 ≤ (1 * 2 ^ n) % 2 ^ 32
listed_room n h = rw (one_bit n h) (pow_pos n)

pub listed_some : (n : ℕ) → n < 32 → (1 * 2 ^ n) % 2 ^ 32 - 1 ≡ all_listed (min 32 n)
unfolding all_listed
listed_some n h = let e : min 32 n ≡ n = omega arith in ap (λ (k : ℕ). k - 1) (one_bit n h) ∙ sym (ap (λ (k : ℕ). 2 ^ k - 1) e)

pub ruleset listed_laws = (listed_full, listed_room, listed_some, rules)

listed_is : (n x : ℕ) → n ≤ 32 → x ≡ all_listed (min 32 n) → x ≡ 2 ^ n - 1
unfolding all_listed
listed_is n x h p = let e : min 32 n ≡ n = omega arith in p ∙ ap (λ (k : ℕ). 2 ^ k - 1) e

not_zero : (m : ℕ) → (m ≡ 0 → ⊥) → not (eqb m 0) ≡ true
not_zero m h = ap not (ne_eqb m 0 h)

module _ (n b m : ℕ) (p : List ℕ) where
  pub guess_accept : 1 < b → false ≡ guess_good n (guess b m p)
  unfolding guess_good
  guess_accept h = sym (and_first _ _ (lt-leb _ _ h))

  pub guess_zero : b ≤ 1 → m ≡ 0 → false ≡ guess_good n (guess b m p)
  unfolding guess_good
  guess_zero h e = sym (and_second _ _ (le-leb _ _ h) (and_first _ _ (ap not (eq-eqb m 0 e))))

  module _ (x : ℕ) (h : b ≤ 1) (e : m ≡ 0 → ⊥) (few : n ≤ 32) (l : x ≡ all_listed (min 32 n)) where
    pub guess_unlisted : x < m → false ≡ guess_good n (guess b m p)
    unfolding guess_good
    guess_unlisted o =
        let high : 2 ^ n ≤ m = omega (arith, listed_is n x few l, pow_pos n) in
        sym (and_second _ _ (le-leb _ _ h) (and_second _ _ (not_zero m e) (and_first _ _ (le-ltb _ _ high))))

    low : m ≤ x → ltb m (2 ^ n) ≡ true
    low o = let below : m < 2 ^ n = omega (arith, listed_is n x few l, pow_pos n) in lt-ltb _ _ below

    module _ (o : m ≤ x) (t : Bool) (q : t ≡ rule_text p) where
      pub guess_no_text : t ≡ false → false ≡ guess_good n (guess b m p)
      unfolding guess_good
      guess_no_text v = sym (and_second _ _ (le-leb _ _ h) (and_second _ _ (not_zero m e) (and_second _ _ (low o) (and_first _ _ (sym q ∙ v)))))

      pub guess_all : (u : Bool) → t ≡ true → u ≡ in_forms p → u ≡ guess_good n (guess b m p)
      unfolding guess_good and
      guess_all u v f = rw (le-leb b 1 h, not_zero m e, low o, sym q ∙ v) f

pub ruleset guess_test_laws = (guess_accept, guess_zero, guess_unlisted, guess_no_text, guess_all, rules)

-- ---- one after the other

module _ (s : List ℕ) (at n : ℕ) (x : Option GuessAt) (g : x ≡ guess_stands_at s at) where
  pub next_guess_cut : x ≡ None → None ≡ end_in s (guess_good n) (read_guess (drop at s))
  unfolding end_in
  next_guess_cut q = sym (judge_faulty _ _ _ _ (runs_out (guess_cut s at x g q)))

  module _ (spans : GuessAt) (q : x ≡ Some spans) where
    pub guess_order : spans.pattern.start ≤ spans.pattern.end
    guess_order = (guess_is s at x g spans q).order

    pub guess_fits : spans.pattern.end ≤ length s
    guess_fits = (guess_is s at x g spans q).fits

    module _ (t : Bool) (k : t ≡ guess_good n (guess spans.accept spans.mask (take (spans.pattern.end - spans.pattern.start) (drop spans.pattern.start s)))) where
      pub next_guess_bad : t ≡ false → None ≡ end_in s (guess_good n) (read_guess (drop at s))
      unfolding end_in
      next_guess_bad v = sym (judge_faulty _ _ _ _ (fails _ _ (guess_is s at x g spans q).reads (sym k ∙ v)))

      pub next_guess_good : t ≡ true → Some spans.pattern.end ≡ end_in s (guess_good n) (read_guess (drop at s))
      unfolding end_in
      next_guess_good v =
          let w = guess_is s at x g spans q in
          sym (judge_fine _ _ _ _ _ _ w.reads (sym k ∙ v) ∙ ap Some (place_drop s spans.pattern.end w.fits))

pub ruleset next_guess_laws = (next_guess_cut, guess_order, guess_fits, next_guess_bad, next_guess_good, rules)

pub record Guessing (s : List ℕ) (n start count at i : ℕ) : Type 0 where
  pub within : at ≤ length s
  pub is : end_in s (guesses_from n) (read_many read_guess count (drop start s)) ≡ end_in s (guesses_from n) (read_many read_guess (count - i) (drop at s))

pub guessing_start : (s : List ℕ) (n start count : ℕ) → start ≤ length s → Guessing s n start count start 0
guessing_start s n start count h = let all : count - 0 ≡ count = omega arith in record { within = h; is = rw all refl }

module _ {s : List ℕ} {n start count at i : ℕ} (w : Guessing s n start count at i) where
  module _ (x : Option ℕ) (g : x ≡ end_in s (guess_good n) (read_guess (drop at s))) (h : i < count) where
    pub guessing_next : (e : ℕ) → x ≡ Some e → Guessing s n start count e (i + 1)
    unfolding guesses_from
    guessing_next e q =
        let o = section_ends s (guess_good n) read_guess (drop at s) x g guess_ends (end_here s at w.within) e q in
        record {
          within = o.fits;
          is = w.is ∙ walk_on s read_guess (λ (u : Unit {0}) y. guess_good n y) (λ u y. u) (λ u. true) tt count i _ o.value _ h o.reads o.passes;
        }

    pub guessing_bad : x ≡ None → None ≡ end_in s (guesses_from n) (read_many read_guess count (drop start s))
    unfolding guesses_from
    guessing_bad q =
        sym (w.is ∙ walk_off s read_guess (λ (u : Unit {0}) y. guess_good n y) (λ u y. u) (λ u. true) tt count i _ h (section_faulty s (guess_good n) read_guess (drop at s) x g q))

  pub guessing_done : count ≤ i → Some at ≡ end_in s (guesses_from n) (read_many read_guess count (drop start s))
  unfolding guesses_from pick
  guessing_done h = sym (w.is ∙ walk_end s read_guess (λ (u : Unit {0}) y. guess_good n y) (λ u y. u) (λ u. true) tt count i at h w.within)

pub ruleset guessing_laws = (guessing_start, guessing_next, guessing_bad, guessing_done, rules)

-- ---- the section

guesses_are : (n : ℕ) (gs : List Guess) → guesses_from n gs ≡ all (guess_good n) gs
unfolding guesses_from all_from all
guesses_are n [] = refl
guesses_are n (x ∷ xs) = ap (and (guess_good n x)) (guesses_are n xs)

section_is : (n : ℕ) (gs : List Guess) → length gs ≤ 4096 → guesses_good n gs ≡ guesses_from n gs
unfolding guesses_good and
section_is n gs h = rw (le-leb (length gs) 4096 h) (sym (guesses_are n gs))

section_not : (n : ℕ) (gs : List Guess) → 4096 < length gs → guesses_good n gs ≡ false
unfolding guesses_good
section_not n gs h = and_first _ _ (lt-leb _ _ h)

module _ (s : List ℕ) (n at : ℕ) (r : Option Number) (p : r ≡ number_at 2 s at) where
  pub guesses_cut : r ≡ None → None ≡ end_in s (guesses_good n) (read_guesses (drop at s))
  unfolding read_guesses
  guesses_cut = counted_cut s read_guess (guesses_good n) (guesses_from n) 4096 (section_not n) (section_is n) at r p

  module _ (told : Number) (q : r ≡ Some told) where
    pub guesses_much : 4096 < told.value → None ≡ end_in s (guesses_good n) (read_guesses (drop at s))
    unfolding read_guesses
    guesses_much = counted_much s read_guess (guesses_good n) (guesses_from n) 4096 (section_not n) (section_is n) at r p told q

    pub guesses_start : told.next ≤ length s
    guesses_start = (count_of s at r told p q).fits

    pub guesses_many : (x : Option ℕ) → told.value ≤ 4096 → x ≡ end_in s (guesses_from n) (read_many read_guess told.value (drop told.next s)) → x ≡ end_in s (guesses_good n) (read_guesses (drop at s))
    unfolding read_guesses
    guesses_many = counted_many s read_guess (guesses_good n) (guesses_from n) 4096 (section_not n) (section_is n) at r p told q

pub ruleset guesses_laws = (guesses_cut, guesses_much, guesses_start, guesses_many, rules)
