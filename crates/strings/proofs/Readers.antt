-- What is read at a place of s, and that what is left behind it is an end of s. Assumes nothing.
use Rattle.strings.specs.declared.Number.{Number}
use Rattle.strings.specs.Places.{number}
use Rattle.strings.specs.declared.Span.{Span}
use Rattle.std.specs.Prelude.{Option, Some, None}
use mathlib.Core.Path.{◌≡◌, refl, sym, ap, ap₂, ◌∙◌}
use mathlib.Core.Bool.{Bool, true, false}
use mathlib.Core.List.{List, [], ◌∷◌}
use Prim.Native.Nat.{ℕ, zero, suc, ◌+◌, ◌-◌, ◌*◌, ◌≤◌, ◌<◌, zero-le}
use native.Mathlib.Nat.{add-zero, not-suc-le-zero}
use native.Mathlib.Numerals.{add-one}
use native.Mathlib.Omega.{arith}
use lib.Dec.{leb, ltb}
use lib.ListN.{length, get_or, take, drop, drop_of_length-le, length-drop, length-take}
use lib.Seq.{drop-cons, drop-drop, get_or-take, get_or-drop}
use Rattle.std.specs.Int.{w16, w32, from_be_bytes}
use borrow.Author.Rules.{rules}
use borrow.Author.Tests.{lt-leb, le-leb, ltb-true, ltb-false, leb-true, leb-false}
use Rattle.base.specs.Pick.{pick}
use Rattle.strings.proofs.Laws.{StringIs, string_whole, string_cut}
use Rattle.strings.specs.Reading.{Read, cut, got, and_read, read_byte, read_more, read_number, read_text, read_many, place_in}
use Rattle.strings.specs.InnerContracts.{number_in, number_at, string_at, read_some, behind}
use Rattle.base.proofs.PickLaws.{pick_true, pick_false}
use Rattle.base.proofs.Arms.{clash}

-- ---- r is what is left of s from a place on

pub record EndOf (s r : List ℕ) : Type 0 where
  pub at : ℕ
  pub within : at ≤ length s
  pub is : r ≡ drop at s

pub end_here : (s : List ℕ) (at : ℕ) → at ≤ length s → EndOf s (drop at s)
end_here s at h = record { at = at; within = h; is = refl }

pub end_then : {s r q : List ℕ} → EndOf s r → EndOf r q → EndOf s q
end_then {s} {r} v w = record {
  at = v.at + w.at;
  within = omega (arith, v.within, w.within, ap length v.is, length-drop v.at s);
  is = w.is ∙ ap (drop w.at) v.is ∙ drop-drop w.at v.at s;
}

pub end_length : {s r : List ℕ} (v : EndOf s r) → length r ≡ length s - v.at
end_length {s} v = ap length v.is ∙ length-drop v.at s

pub end_place : {s r : List ℕ} (v : EndOf s r) → place_in s r ≡ v.at
unfolding place_in
end_place {s} {r} v = omega (arith, v.within, end_length v)

pub end_is : {s r : List ℕ} → EndOf s r → r ≡ drop (place_in s r) s
end_is {s} v = v.is ∙ ap (λ (n : ℕ). drop n s) (sym (end_place v))

pub end_within : {s r : List ℕ} → EndOf s r → place_in s r ≤ length s
end_within v = omega (arith, v.within, end_place v)

pub place_drop : (s : List ℕ) (at : ℕ) → at ≤ length s → place_in s (drop at s) ≡ at
unfolding end_here
place_drop s at h = end_place (end_here s at h)

-- ---- readers leave an end of what they are given

abbrev pub Ends : {A : Type 0} → (List ℕ → Read A) → Type 0
Ends {A} f = (l : List ℕ) (a : A) (r : List ℕ) → f l ≡ got a r → EndOf l r

pub then_inv : {A B : Type 0} (x : Read A) (k : A → List ℕ → Read B) (b : B) (q : List ℕ) → and_read x k ≡ got b q
    → (a : A) × (r : List ℕ) × (x ≡ got a r) × (k a r ≡ got b q)
unfolding and_read
then_inv cut k b q e = clash (cc)
then_inv (got a r) k b q e = (a, r, refl, e)

pub then_ends : {A B : Type 0} (f : List ℕ → Read A) (k : A → List ℕ → Read B) → Ends f → ((a : A) → Ends (k a)) → Ends (λ l. and_read (f l) k)
then_ends f k v w l b q e = let i = then_inv (f l) k b q e in end_then (v l i.0 i.1 i.2) (w i.0 i.1 b q i.3)

pub got_ends : {A : Type 0} (x : A) → Ends (λ q. got x q)
got_ends x l a r e = record { at = 0; within = zero-le; is = cc }

pub byte_ends : Ends read_byte
unfolding read_byte
byte_ends [] a r e = clash (cc)
byte_ends (b ∷ l) a r e = record { at = 1; within = omega arith; is = cc }

more_ends : (k h : ℕ) → Ends (read_more k h)
unfolding read_more
more_ends zero h l a r e = record { at = 0; within = zero-le; is = cc }
more_ends (suc k) h [] a r e = clash (cc)
more_ends (suc k) h (b ∷ l) a r e = end_then (end_here (b ∷ l) 1 (omega arith)) (more_ends k (h * 256 + b) l a r e)

pub number_ends : (k : ℕ) → Ends (read_number k)
unfolding read_number
number_ends k = more_ends k 0

text_by_lem : (n : ℕ) (l a r : List ℕ) (t : Bool) → leb n (length l) ≡ t → pick t (got (take n l) (drop n l)) cut ≡ got a r → EndOf (n ∷ l) r
unfolding pick
text_by_lem n l a r false p e = clash (cc)
text_by_lem n l a r true p e = record { at = suc n; within = omega (arith, leb-true); is = cc }

pub text_ends : Ends read_text
unfolding read_text
text_ends [] a r e = clash (cc)
text_ends (n ∷ l) a r e = text_by_lem n l a r _ refl e

pub many_ends : {A : Type 0} (f : List ℕ → Read A) → Ends f → (n : ℕ) → Ends (read_many f n)
unfolding read_many
many_ends f v zero l a r e = record { at = 0; within = zero-le; is = cc }
many_ends f v (suc n) l a r e =
    then_ends f (λ x q. and_read (read_many f n q) (λ rest t. got (x ∷ rest) t)) v
    (λ x. then_ends (read_many f n) (λ rest t. got (x ∷ rest) t) (many_ends f v n) (λ rest. got_ends (x ∷ rest))) l a r e

-- as many are read as are asked for
pub many_length : {A : Type 0} (f : List ℕ → Read A) (n : ℕ) (l : List ℕ) (xs : List A) (r : List ℕ) → read_many f n l ≡ got xs r → length xs ≡ n
unfolding read_many
many_length f zero l xs r e = let n : xs ≡ [] = cc in ap length n
many_length f (suc n) l xs r e =
    let i = then_inv (f l) _ xs r e in
    let j = then_inv (read_many f n i.1) _ xs r i.3 in
    let whole : i.0 ∷ j.0 ≡ xs = cc in
    let rest : length j.0 ≡ n = many_length f n i.1 j.0 j.1 j.2 in
    sym (ap length whole) ∙ ap suc rest

-- ---- a byte, a number, a text at a place

pub byte_some : (s : List ℕ) (at : ℕ) → at < length s → read_byte (drop at s) ≡ got (get_or s at 0) (drop (at + 1) s)
unfolding read_byte
byte_some s at h = rw (add-one, drop-cons s at 0) refl

pub byte_none : (s : List ℕ) (at : ℕ) → length s ≤ at → read_byte (drop at s) ≡ cut
unfolding read_byte
byte_none s at h = rw (drop_of_length-le s h) refl

more_some : (k h : ℕ) (s : List ℕ) (at : ℕ) → at < length s → read_more (suc k) h (drop at s) ≡ read_more k (h * 256 + get_or s at 0) (drop (at + 1) s)
unfolding read_more
more_some k h s at l = rw (add-one, drop-cons s at 0) refl

more_at : (k h : ℕ) (s : List ℕ) (at next b : ℕ) → next ≡ at + 1 → b ≡ get_or s at 0 → at < length s → read_more (suc k) h (drop at s) ≡ read_more k (h * 256 + b) (drop next s)
more_at k h s at next b e q l = rw (e, q) (more_some k h s at l)

more_none : (k h : ℕ) (s : List ℕ) (at : ℕ) → length s ≤ at → read_more (suc k) h (drop at s) ≡ cut
unfolding read_more
more_none k h s at l = rw (drop_of_length-le s l) refl

-- the bytes suffice
more_zero : (h : ℕ) (s : List ℕ) (at : ℕ) → read_more zero h (drop at s) ≡ got h (drop (at + zero) s)
unfolding read_more
more_zero h s at = ap (λ (m : ℕ). got h (drop m s)) (sym (add-zero at))

more_fits : (k h : ℕ) (s : List ℕ) (at : ℕ) → at + k ≤ length s → (n : ℕ) × (read_more k h (drop at s) ≡ got n (drop (at + k) s))
more_fits zero h s at l = (h, more_zero h s at)
more_fits (suc k) h s at l =
    let r = more_fits k (h * 256 + get_or s at 0) s (at + 1) (omega arith) in
    let e : at + 1 + k ≡ at + suc k = omega arith in
    (r.0, more_some k h s at (omega arith) ∙ r.1 ∙ ap (λ (m : ℕ). got r.0 (drop m s)) e)

-- or they do not
cut_by : (k h : ℕ) (s : List ℕ) (at : ℕ) (t : Bool) → ltb at (length s) ≡ t → (at < length s → read_more k (h * 256 + get_or s at 0) (drop (at + 1) s) ≡ cut)
    → read_more (suc k) h (drop at s) ≡ cut
cut_by k h s at false p c = more_none k h s at (ltb-false _ _ p)
cut_by k h s at true p c = let l : at < length s = ltb-true _ _ p in more_some k h s at l ∙ c l

more_cut : (k h : ℕ) (s : List ℕ) (at : ℕ) → length s < at + suc k → read_more (suc k) h (drop at s) ≡ cut
more_cut zero h s at l = more_none zero h s at (omega arith)
more_cut (suc k) h s at l = cut_by (suc k) h s at _ refl (λ _. more_cut k (h * 256 + get_or s at 0) s (at + 1) (omega arith))

-- a number of k bytes at a place
pub record NumberIs (k : ℕ) (s : List ℕ) (at n e : ℕ) : Type 0 where
  pub ends : e ≡ at + k
  pub fits : e ≤ length s
  pub reads : read_number k (drop at s) ≡ got n (drop e s)

number_by : (k : ℕ) (s : List ℕ) (at : ℕ) (told : Number) (t : Bool) → leb (at + suc k) (length s) ≡ t → number_in s (read_number (suc k) (drop at s)) ≡ Some told → NumberIs (suc k) s at told.value told.next
unfolding read_number number_in
number_by k s at told false p g = let c = ap (number_in s) (more_cut k 0 s at (leb-false _ _ p)) in clash (cc)
number_by k s at told true p g =
    let l : at + suc k ≤ length s = leb-true _ _ p in
    let r = more_fits (suc k) 0 s at l in
    let c = ap (number_in s) r.1 in
    let same : r.0 ≡ told.value = cc in
    let place : place_in s (drop (at + suc k) s) ≡ told.next = cc in
    let ends : told.next ≡ at + suc k = sym place ∙ place_drop s (at + suc k) l in
    record { ends = ends; fits = omega (arith, ends, l); reads = r.1 ∙ ap₂ (λ (m x : ℕ). got m (drop x s)) same (sym ends) }

none_by : (k : ℕ) (s : List ℕ) (at : ℕ) (t : Bool) → leb (at + suc k) (length s) ≡ t → number_in s (read_number (suc k) (drop at s)) ≡ None → read_number (suc k) (drop at s) ≡ cut
unfolding read_number number_in
none_by k s at false p e = more_cut k 0 s at (leb-false _ _ p)
none_by k s at true p e = let c = ap (number_in s) (more_fits (suc k) 0 s at (leb-true _ _ p)).1 in clash (cc)

module _ (s : List ℕ) (at : ℕ) (r : Option Number) where
  pub count_of : (told : Number) → r ≡ number_at 2 s at → r ≡ Some told → NumberIs 2 s at told.value told.next
  unfolding number_at
  count_of told p q = number_by 1 s at told _ refl (sym p ∙ q)

  pub count_cut : r ≡ number_at 2 s at → r ≡ None → read_number 2 (drop at s) ≡ cut
  unfolding number_at
  count_cut p q = none_by 1 s at _ refl (sym p ∙ q)

  pub mask_of : (told : Number) → r ≡ number_at 4 s at → r ≡ Some told → NumberIs 4 s at told.value told.next
  unfolding number_at
  mask_of told p q = number_by 3 s at told _ refl (sym p ∙ q)

  pub mask_cut : r ≡ number_at 4 s at → r ≡ None → read_number 4 (drop at s) ≡ cut
  unfolding number_at
  mask_cut p q = none_by 3 s at _ refl (sym p ∙ q)

-- ---- how the code reads numbers

-- the bytes that the code takes, as the number that they are
taken : (k i : ℕ) (s : List ℕ) (at n : ℕ) → i < k → at + i ≡ n → get_or (take k (drop at s)) i 0 ≡ get_or s n 0
taken k i s at n h e = get_or-take k (drop at s) i 0 h ∙ get_or-drop at s i 0 ∙ ap (λ (m : ℕ). get_or s m 0) e

pub count_none : (s : List ℕ) (at : ℕ) → length s < at + 2 → None ≡ number_at 2 s at
unfolding number_at read_number number_in
count_none s at h = sym (ap (number_in s) (more_cut 1 0 s at (omega arith)))

pub count_some : (s : List ℕ) (at : ℕ) (bs : List ℕ) → at + 2 ≤ length s → bs ≡ take 2 (drop at s) → Some (number (from_be_bytes w16 bs) (at + 2)) ≡ number_at 2 s at
unfolding number_at read_number number_in read_more
count_some s at bs h e =
    ap₂ (λ (n e : ℕ). Some (number n e)) (rw e (omega (arith, taken 2 0 s at at (omega arith) (add-zero at), taken 2 1 s at (at + 1) (omega arith) refl))) (sym (place_drop s (at + 2) h))
    ∙ sym (ap (number_in s) (more_at 1 0 s at _ _ refl refl (omega arith) ∙ more_at 0 _ s _ (at + 2) _ (omega arith) refl (omega arith)))

pub mask_none : (s : List ℕ) (at : ℕ) → length s < at + 4 → None ≡ number_at 4 s at
unfolding number_at read_number number_in
mask_none s at h = sym (ap (number_in s) (more_cut 3 0 s at (omega arith)))

pub mask_some : (s : List ℕ) (at : ℕ) (bs : List ℕ) → at + 4 ≤ length s → bs ≡ take 4 (drop at s) → Some (number (from_be_bytes w32 bs) (at + 4)) ≡ number_at 4 s at
unfolding number_at read_number number_in read_more
mask_some s at bs h e =
    ap₂ (λ (n e : ℕ). Some (number n e))
    (rw e (omega (arith, taken 4 0 s at at (omega arith) (add-zero at), taken 4 1 s at (at + 1) (omega arith) refl, taken 4 2 s at (at + 2) (omega arith) refl, taken 4 3 s at (at + 3) (omega arith) refl))) (sym (place_drop s (at + 4) h))
    ∙ sym (ap (number_in s) (more_at 3 0 s at _ _ refl refl (omega arith) ∙ more_at 2 _ s _ (at + 2) _ (omega arith) refl (omega arith)
    ∙ more_at 1 _ s _ (at + 3) _ (omega arith) refl (omega arith) ∙ more_at 0 _ s _ (at + 4) _ (omega arith) refl (omega arith)))

pub ruleset number_laws = (count_none, count_some, mask_none, mask_some, rules)

-- ---- a text at a place

text_at_lem : (s : List ℕ) (p : ℕ) → p < length s
    → read_text (drop p s) ≡ pick (leb (get_or s p 0) (length s - (p + 1))) (got (take (get_or s p 0) (drop (p + 1) s)) (drop (p + 1 + get_or s p 0) s)) cut
unfolding read_text
text_at_lem s p h = rw (drop-cons s p 0) (simp (length-drop, drop-drop, add-one))

text_none : (s : List ℕ) (p : ℕ) → length s ≤ p → read_text (drop p s) ≡ cut
unfolding read_text
text_none s p h = rw (drop_of_length-le s h) refl

pub record TextIs (s : List ℕ) (p a e : ℕ) : Type 0 where
  pub begins : a ≡ p + 1
  pub size : e ≡ a + get_or s p 0
  pub fits : e ≤ length s
  pub reads : read_text (drop p s) ≡ got (take (e - a) (drop a s)) (drop e s)

text_whole : (s : List ℕ) (p a e : ℕ) → StringIs s p a e → TextIs s p a e
text_whole s p a e w =
    let from : p + 1 ≡ a = sym w.begins in
    let to : p + 1 + get_or s p 0 ≡ e = sym w.ends in
    let n : get_or s p 0 ≡ e - a = omega (arith, w.begins, w.ends) in
    let room : get_or s p 0 ≤ length s - (p + 1) = omega (arith, w.fits, w.ends) in
    record {
      begins = w.begins;
      size = omega (arith, w.begins, w.ends);
      fits = w.fits;
      reads =
          text_at_lem s p (omega (arith, w.fits, w.ends)) ∙ pick_true _ _ _ (le-leb _ _ room)
          ∙ ap₂ (λ (x y : List ℕ). got x y) (ap₂ (λ (x y : ℕ). take x (drop y s)) n from) (ap (λ (x : ℕ). drop x s) to);
    }

text_cut_by : (s : List ℕ) (p : ℕ) (t : Bool) → ltb p (length s) ≡ t → length s < p + 1 + get_or s p 0 → read_text (drop p s) ≡ cut
text_cut_by s p false q h = text_none s p (ltb-false _ _ q)
text_cut_by s p true q h =
    let l : p < length s = ltb-true _ _ q in
    let short : length s - (p + 1) < get_or s p 0 = omega arith in
    text_at_lem s p l ∙ pick_false _ _ _ (lt-leb _ _ short)

module _ (s : List ℕ) (p : ℕ) (r : Option Span) (g : r ≡ string_at s p) where
  pub text_is : (part : Span) → r ≡ Some part → TextIs s p part.start part.end
  text_is part q = text_whole s p part.start part.end (string_whole s p part r g q)

  pub text_cut : r ≡ None → read_text (drop p s) ≡ cut
  text_cut q = text_cut_by s p _ refl (string_cut s p r g q)

-- and from what is read, where it stands
pub record TextRead (s : List ℕ) (p : ℕ) (t : List ℕ) : Type 0 where
  pub size : get_or s p 0 ≡ length t
  pub fits : p + 1 + length t ≤ length s
  pub text : take (length t) (drop (p + 1) s) ≡ t

-- what follows a text is read behind it
pub data TextThen {B : Type 0} (s : List ℕ) (p : ℕ) (k : List ℕ → List ℕ → Read B) (b : B) (q : List ℕ) : Type 0 where
  reads_on : (t : List ℕ) → TextRead s p t → k t (drop (p + 1 + length t) s) ≡ got b q → TextThen s p k b q

module _ (s : List ℕ) (p a e : ℕ) (t q : List ℕ) (w : TextIs s p a e) (g : read_text (drop p s) ≡ got t q) where
  text_here : take (e - a) (drop a s) ≡ t
  text_here = let h = sym w.reads ∙ g in cc

  text_size : e - a ≡ length t
  text_size = omega (arith, ap length text_here, length-take (e - a) (drop a s), length-drop a s, w.fits, w.size, w.begins)

  read_by : TextRead s p t
  read_by = record {
    size = omega (arith, text_size, w.size);
    fits = omega (arith, text_size, w.begins, w.size, w.fits);
    text = ap₂ (λ (x y : ℕ). take x (drop y s)) (sym text_size) (sym w.begins) ∙ text_here;
  }

  rest_by : q ≡ drop (p + 1 + length t) s
  rest_by =
      let h = sym w.reads ∙ g in
      let rest : drop e s ≡ q = cc in
      let to : e ≡ p + 1 + length t = omega (arith, text_size, w.begins, w.size) in
      sym rest ∙ ap (λ (x : ℕ). drop x s) to

module _ (s : List ℕ) (p : ℕ) (t q : List ℕ) (h : read_text (drop p s) ≡ got t q) where
  text_read_by : (x : Option Span) → x ≡ string_at s p → TextRead s p t
  text_read_by (Some w) g = read_by s p w.start w.end t q (text_is s p _ g w refl) h
  text_read_by None g = let c = sym (text_cut s p _ g refl) ∙ h in clash (cc)

  text_rest_by : (x : Option Span) → x ≡ string_at s p → q ≡ drop (p + 1 + length t) s
  text_rest_by (Some w) g = rest_by s p w.start w.end t q (text_is s p _ g w refl) h
  text_rest_by None g = let c = sym (text_cut s p _ g refl) ∙ h in clash (cc)

  pub text_read : TextRead s p t
  text_read = text_read_by _ refl

  pub text_rest : q ≡ drop (p + 1 + length t) s
  text_rest = text_rest_by _ refl

then_by : {B : Type 0} (s : List ℕ) (p : ℕ) (k : List ℕ → List ℕ → Read B) (b : B) (q : List ℕ) (x : Read (List ℕ)) → read_text (drop p s) ≡ x → and_read x k ≡ got b q → TextThen s p k b q
unfolding and_read
then_by s p k b q cut h e = clash (cc)
then_by s p k b q (got t r) h e = reads_on t (text_read s p t r h) (ap (k t) (sym (text_rest s p t r h)) ∙ e)

pub text_then : {B : Type 0} (s : List ℕ) (p : ℕ) (k : List ℕ → List ℕ → Read B) (b : B) (q : List ℕ) → and_read (read_text (drop p s)) k ≡ got b q → TextThen s p k b q
text_then s p k b q e = then_by s p k b q _ refl e

-- ---- one of a kind after the other, up to where bytes run out

pub some_one : {A : Type 0} (f : List ℕ → Read A) (n : ℕ) (l : List ℕ) (a : A) (r : List ℕ) → 0 < n → f l ≡ got a r → read_some f n l ≡ a ∷ read_some f (n - 1) r
unfolding read_some behind
some_one f zero l a r h e = absurd (not-suc-le-zero h)
some_one f (suc n) l a r h e = let m : suc n - 1 ≡ n = omega arith in rw (e, m) refl

pub some_cut : {A : Type 0} (f : List ℕ → Read A) (n : ℕ) (l : List ℕ) → f l ≡ cut → read_some f n l ≡ []
unfolding read_some behind
some_cut f zero l e = refl
some_cut f (suc n) l e = rw e refl
