-- The table's rules, each by one test that antt computes over all 384 entries; storing a character; and lower-casing as far as place p.
-- Assumes nothing.
use Rattle.std.specs.Prelude.{Option, Some, None}
use mathlib.Core.Path.{◌≡◌, refl, sym, ap, ap₂, ◌∙◌}
use mathlib.Core.Bool.{Bool, true, false}
use mathlib.Core.List.{List, ◌++◌, append_assoc}
use Prim.Native.Nat.{ℕ, ◌+◌, ◌-◌, ◌<◌, ◌≤◌, zero-le}
use native.Mathlib.Decide.{dec_lt}
use native.Mathlib.Numerals.{add-one}
use native.Mathlib.Omega.{arith}
use lib.Dec.{ltb, leb, eqb, ltb→lt, eqb→eq}
use lib.ListN.{length, get_or, take, drop, set, length-set, length-append}
use lib.Seq.{sets, length-sets, sets-eq, drop-drop}
use borrow.Rule.Slice.PartMut.{put_mid}
use native.Mathlib.Nat.{add-sub_cancel_left}
use borrow.Author.Rules.{rules}
use borrow.Author.Tests.{lt-ltb, le-ltb, le-leb, lt-leb}
use Rattle.base.specs.Pick.{pick}
use Rattle.base.proofs.Table.{at as in_table}
use Rattle.base.proofs.One.{one as one_of_lem}
use Rattle.base.proofs.Stores.{sets_then}
use Rattle.letters.specs.Utf8.{decode_at, encode}
use Rattle.letters.specs.Reading.{Symbol, symbols_of}
use Rattle.lower_case.specs.Lower.{lower_table, lower_of, lower_in, lower_text}
use Rattle.letters.specs.declared.utf8.Step.{Step}
use Rattle.letters.specs.declared.utf8.Step.TheVariants.{Char, Ill, End}
use Rattle.letters.proofs.Utf8Laws.{char_at, char_length_lem, ill_in_lem, end_at, encode_one, encode_two, encode_three, encode_four}
use Rattle.letters.proofs.ReadingLaws.{Pieces, end, one, bad, pieces_of, char_left, ill_left, end_left, step_laws}
use Rattle.base.proofs.PickLaws.{pick_true, pick_false}
use Rattle.lower_case.specs.InnerContracts.{lowered_answer, lowered_buffer, LoweredInto}

-- ---- the table: an entry x at its place k is below 384, its own lower case, and as long as k in UTF-8

below : ℕ → ℕ → Bool
below k x = ltb x 384

twice : ℕ → ℕ → Bool
twice k x = eqb (get_or lower_table x 0) x

long : ℕ → ℕ → Bool
long k x = eqb (length (encode x)) (length (encode k))

pub entry_below : (k : ℕ) → k < 384 → get_or lower_table k 0 < 384
unfolding lower_table below
entry_below k h = ltb→lt (get_or lower_table k 0) 384 (in_table below lower_table tt k h)

entry_twice : (k : ℕ) → k < 384 → get_or lower_table (get_or lower_table k 0) 0 ≡ get_or lower_table k 0
unfolding lower_table twice
entry_twice k h = eqb→eq (get_or lower_table (get_or lower_table k 0) 0) (get_or lower_table k 0) (in_table twice lower_table tt k h)

entry_long : (k : ℕ) → k < 384 → length (encode (get_or lower_table k 0)) ≡ length (encode k)
unfolding lower_table long encode pick
entry_long k h = eqb→eq (length (encode (get_or lower_table k 0))) (length (encode k)) (in_table long lower_table tt k h)

pub lower_in_lem : (c : ℕ) → c < 384 → get_or lower_table c 0 ≡ lower_of c
unfolding lower_of
lower_in_lem c h = sym (pick_true _ _ _ (lt-ltb c 384 h))

pub lower_past : (c : ℕ) → 384 ≤ c → c ≡ lower_of c
unfolding lower_of
lower_past c h = sym (pick_false _ _ _ (le-ltb c 384 h))

-- what holds of each entry and of every number past the table
lower_all : (P : ℕ → ℕ → Type 0) → ((c : ℕ) → c < 384 → P c (get_or lower_table c 0)) → ((c : ℕ) → 384 ≤ c → P c c) → (c : ℕ) → P c (lower_of c)
lower_all P f g c = elim (dec_lt c 384) [ yes h ↦ rw (← lower_in_lem c h) (f c h) | no n ↦ rw (← lower_past c (omega arith)) (g c (omega arith)) ]

-- lower-casing twice is lower-casing once, and keeps the length in UTF-8 (01, Letters), at every number
pub lower_twice : (c : ℕ) → lower_of (lower_of c) ≡ lower_of c
lower_twice = lower_all (λ (c x : ℕ). lower_of x ≡ x) (λ c h. sym (lower_in_lem _ (entry_below c h)) ∙ entry_twice c h) (λ c h. sym (lower_past c h))

pub lower_length : (c : ℕ) → length (encode (lower_of c)) ≡ length (encode c)
lower_length = lower_all (λ (c x : ℕ). length (encode x) ≡ length (encode c)) entry_long (λ c h. refl)

pub lower_four : (c : ℕ) → c < 0x200000 → lower_of c < 0x200000
lower_four = lower_all (λ (c x : ℕ). c < 0x200000 → x < 0x200000) (λ c h l. omega (arith, entry_below c h)) (λ c h l. l)

-- ---- storing a character: its places lie within the buffer, and the stores are those of its encoding

pub put_is : (out bytes part : List ℕ) (at : ℕ) → at + length bytes ≤ length out → part ≡ bytes → put_mid at (at + length bytes - at) out part ≡ sets out at bytes
put_is out bytes part at h e = rw (e, add-sub_cancel_left, drop-drop) (sym (append_assoc (take at out) bytes (drop (at + length bytes) out)) ∙ sym (sets-eq bytes out at h))

pub ruleset put_laws = (encode_one, encode_two, encode_three, encode_four, rules)

-- ---- lower-casing into out₀, as far as place p: the lower case of what is left, stored from p on, makes the whole

length_in : {s : List ℕ} {p : ℕ} {l : List Symbol} → Pieces s p l → p ≤ length s → p + length (lower_in l) ≡ length s
unfolding lower_in
length_in {s} {p} (end e) h = let z = end_at s p e in omega arith
length_in {s} {p} (one {k = k} {n = n} {l = l} e r) h =
    let b = char_at s p k n e in
    let i = length_in r b.end in
    omega (arith, length-append (encode (lower_of k)) (lower_in l), lower_length k, char_length_lem s p k n e)
length_in {s} {p} (bad e r) h = let z = ill_in_lem s p e in let i = length_in r (omega arith) in omega arith

-- lower-casing keeps the length of a text
pub lower_text_length : (s : List ℕ) → length (lower_text s) ≡ length s
unfolding lower_text
lower_text_length s = let i = length_in (pieces_of s) zero-le in omega arith

pub record Lowering (s out₀ out : List ℕ) (p : ℕ) : Type 0 where
  pub left : List Symbol
  pub pieces : Pieces s p left
  pub within : p ≤ length s
  pub room : length s ≤ length out₀
  pub same : length out ≡ length out₀
  pub is : sets out p (lower_in left) ≡ sets out₀ 0 (lower_text s)

pub lowering_start : (s out : List ℕ) → length s ≤ length out → Lowering s out out 0
unfolding lower_text
lowering_start s out h = record { left = symbols_of s; pieces = pieces_of s; within = zero-le; room = h; same = refl; is = refl }

module _ {s out₀ out : List ℕ} {p : ℕ} (w : Lowering s out₀ out p) (r : Step) (e : r ≡ decode_at s p) where
  pub lowering_room : (k n c : ℕ) → r ≡ Char k n → c ≡ lower_of k → p + length (encode c) ≤ length out
  lowering_room k n c q f =
      let b = char_at s p k n (sym e ∙ q) in
      omega (arith, ap (λ (x : ℕ). length (encode x)) f, lower_length k, char_length_lem s p k n (sym e ∙ q), w.room, w.same)

  pub lowering_four : (k n c : ℕ) → r ≡ Char k n → c ≡ lower_of k → c < 0x200000
  lowering_four k n c q f = rw f (lower_four k (char_at s p k n (sym e ∙ q)).four)

  pub lowering_on : (k n c : ℕ) (out' : List ℕ) → r ≡ Char k n → c ≡ lower_of k → out' ≡ sets out p (encode c) → Lowering s out₀ out' (p + n)
  unfolding lower_in
  lowering_on k n c out' q f g =
      let d = sym e ∙ q in
      let b = char_at s p k n d in
      let x = char_left w.pieces d in
      let long : length (encode c) ≡ n = ap (λ (y : ℕ). length (encode y)) f ∙ lower_length k ∙ char_length_lem s p k n d in
      record {
        left = x.0;
        pieces = x.2;
        within = b.end;
        room = w.room;
        same = ap length g ∙ length-sets out p (encode c) ∙ w.same;
        is =
            ap₂ (λ (o : List ℕ) (i : ℕ). sets o (p + i) (lower_in x.0)) g (sym long)
            ∙ sets_then out p (encode c) (lower_in x.0)
            ∙ ap (λ (y : ℕ). sets out p (encode y ++ lower_in x.0)) f
            ∙ ap (λ (l : List Symbol). sets out p (lower_in l)) (sym x.1)
            ∙ w.is;
      }

  pub lowering_ill : r ≡ Ill → Lowering s out₀ (set out p (get_or s p 0)) (p + 1)
  unfolding lower_in
  lowering_ill q =
      let d = sym e ∙ q in
      let x = ill_left w.pieces d in
      record {
        left = x.0;
        pieces = x.2;
        within = (let z = ill_in_lem s p d in omega arith);
        room = w.room;
        same = length-set out p (get_or s p 0) ∙ w.same;
        is =
            ap (λ (i : ℕ). sets (set out p (get_or s p 0)) i (lower_in x.0)) (add-one p)
            ∙ ap (λ (l : List Symbol). sets out p (lower_in l)) (sym x.1)
            ∙ w.is;
      }

  pub lowering_less : r ≡ Ill → length s - (p + 1) < length s - p
  lowering_less q = let z = ill_in_lem s p (sym e ∙ q) in omega arith

  pub lowering_in : r ≡ Ill → p < length s
  lowering_in q = ill_in_lem s p (sym e ∙ q)

  pub lowering_in_out : r ≡ Ill → p < length out
  lowering_in_out q = let z = ill_in_lem s p (sym e ∙ q) in omega (arith, w.room, w.same)

  fits_all : leb (length (lower_text s)) (length out₀) ≡ true
  fits_all = le-leb (length (lower_text s)) (length out₀) (omega (arith, lower_text_length s, w.room))

  pub lowering_done : r ≡ End → LoweredInto s out₀ (Some p) out
  unfolding lowered_answer lowered_buffer lower_in
  lowering_done q =
      let d = sym e ∙ q in
      let x : p ≡ length (lower_text s) = omega (arith, end_at s p d, w.within, lower_text_length s) in
      record {
        result = ap Some x ∙ sym (pick_true _ _ _ fits_all);
        buffer = ap (λ (l : List Symbol). sets out p (lower_in l)) (sym (end_left w.pieces d)) ∙ w.is ∙ sym (pick_true _ _ _ fits_all);
      }

pub no_room_lem : (s out : List ℕ) → length out < length s → LoweredInto s out None out
unfolding lowered_answer lowered_buffer
no_room_lem s out h =
    let f : leb (length (lower_text s)) (length out) ≡ false = lt-leb (length (lower_text s)) (length out) (omega (arith, lower_text_length s)) in
    record { result = sym (pick_false _ _ _ f); buffer = sym (pick_false _ _ _ f) }

pub ruleset lowering_laws = (lowering_start, lowering_room, lowering_four, lowering_on, lowering_ill, lowering_less, lowering_in, lowering_in_out, lowering_done, no_room_lem, step_laws, rules)

-- the promise of `lower_into` allows one answer and one buffer
pub lowered_one : {s out o o' : List ℕ} {r r' : (Option ℕ)} → LoweredInto s out r o → LoweredInto s out r' o' → (r ≡ r') × (o ≡ o')
lowered_one a b = (one_of_lem a.result b.result, one_of_lem a.buffer b.buffer)
