-- Sections judged by what is read, and the loops that read one of a kind after the other. Assumes nothing.
use Rattle.strings.specs.declared.Number.{Number}
use mathlib.Core.Path.{◌≡◌, refl, sym, ap, ◌∙◌}
use mathlib.Core.Bool.{Bool, true, false}
use mathlib.Core.List.{List, ◌∷◌}
use Prim.Native.Nat.{ℕ, suc, ◌+◌, ◌-◌, ◌≤◌, ◌<◌}
use native.Mathlib.Omega.{arith}
use lib.ListN.{length, drop}
use Rattle.base.specs.Pick.{pick}
use Rattle.strings.specs.Reading.{Read, cut, got, and_read, read_number, read_many, place_in}
use Rattle.strings.specs.InnerContracts.{number_at}
use Rattle.pack.specs
use specs.PlaceContracts.{judge}
use specs.InnerContracts.{end_in, all_from}
use Rattle.std.specs.Prelude.{Option, Some, None}
use Rattle.strings.proofs.Readers.{EndOf, Ends, end_then, end_is, end_within, place_drop, many_length, count_of, count_cut}
use Rattle.base.proofs.Arms.{clash}
use Rattle.base.proofs.PickLaws.{pick_true, pick_false, pick_same, pick_and}

-- ---- what a judgement tells

-- bytes run out, or what is read is not good
pub data Faulty {A : Type 0} (good : A → Bool) (rd : Read A) : Type 0 where
  runs_out : rd ≡ cut → Faulty good rd
  fails : (a : A) (r : List ℕ) → rd ≡ got a r → good a ≡ false → Faulty good rd

pub data Judged {A R : Type 0} (bad : R) (good : A → Bool) (rd : Read A) (k : A → List ℕ → R) (y : R) : Type 0 where
  fine : (a : A) (r : List ℕ) → rd ≡ got a r → good a ≡ true → k a r ≡ y → Judged bad good rd k y
  faulty : Faulty good rd → bad ≡ y → Judged bad good rd k y

judged_by_lem : {A R : Type 0} (bad : R) (good : A → Bool) (a : A) (r : List ℕ) (k : A → List ℕ → R) (y : R) (t : Bool) → good a ≡ t → pick t (k a r) bad ≡ y
    → Judged bad good (got a r) k y
unfolding pick
judged_by_lem bad good a r k y true p e = fine a r refl p e
judged_by_lem bad good a r k y false p e = faulty (fails a r refl p) e

pub judged : {A R : Type 0} (bad : R) (good : A → Bool) (rd : Read A) (k : A → List ℕ → R) (y : R) → judge bad good rd k ≡ y → Judged bad good rd k y
unfolding judge
judged bad good cut k y e = faulty (runs_out refl) e
judged bad good (got a r) k y e = judged_by_lem bad good a r k y _ refl e

module _ {A R : Type 0} (bad : R) (good : A → Bool) (rd : Read A) (k : A → List ℕ → R) where
  pub judge_fine : (a : A) (r : List ℕ) → rd ≡ got a r → good a ≡ true → judge bad good rd k ≡ k a r
  unfolding judge
  judge_fine a r e g = rw e (pick_true _ _ _ g)

  pub judge_faulty : Faulty good rd → judge bad good rd k ≡ bad
  unfolding judge
  judge_faulty (runs_out e) = rw e refl
  judge_faulty (fails a r e g) = rw e (pick_false _ _ _ g)

-- two tests that agree on what is read
pub judge_same : {A R : Type 0} (bad : R) (g h : A → Bool) (rd : Read A) (k : A → List ℕ → R) → ((a : A) (r : List ℕ) → rd ≡ got a r → g a ≡ h a) → judge bad g rd k ≡ judge bad h rd k
unfolding judge
judge_same bad g h cut k e = refl
judge_same bad g h (got a r) k e = ap (λ (t : Bool). pick t (k a r) bad) (e a r refl)

-- ---- where a section ends

-- a section of s that ends at e: what it holds, and what is left of s
pub record Ending {A : Type 0} (s : List ℕ) (good : A → Bool) (rd : Read A) (e : ℕ) : Type 0 where
  pub value : A
  pub reads : rd ≡ got value (drop e s)
  pub passes : good value ≡ true
  pub fits : e ≤ length s

ending_by : {A : Type 0} (s : List ℕ) (good : A → Bool) (f : List ℕ → Read A) (l : List ℕ) (e : ℕ) → Ends f → EndOf s l → Judged None good (f l) (λ a r. Some (place_in s r)) (Some e)
    → Ending s good (f l) e
ending_by s good f l e v w (faulty x y) = clash (cc)
ending_by s good f l e v w (fine a r g h y) =
    let o = end_then w (v l a r g) in
    let at : place_in s r ≡ e = cc in
    record {
      value = a;
      reads = g ∙ ap (got a) (end_is o ∙ ap (λ (n : ℕ). drop n s) at);
      passes = h;
      fits = omega (arith, end_within o);
    }

faulty_by : {A : Type 0} (s : List ℕ) (good : A → Bool) (rd : Read A) → Judged None good rd (λ a r. Some (place_in s r)) None → Faulty good rd
faulty_by s good rd (faulty x y) = x
faulty_by s good rd (fine a r g h y) = clash (cc)

module _ {A : Type 0} (s : List ℕ) (good : A → Bool) (f : List ℕ → Read A) (l : List ℕ) (x : Option ℕ) (g : x ≡ end_in s good (f l)) where
  pub section_ends : Ends f → EndOf s l → (e : ℕ) → x ≡ Some e → Ending s good (f l) e
  unfolding end_in
  section_ends v w e q = ending_by s good f l e v w (judged None good (f l) _ (Some e) (sym g ∙ q))

  pub section_faulty : x ≡ None → Faulty good (f l)
  unfolding end_in
  section_faulty q = faulty_by s good (f l) (judged None good (f l) _ None (sym g ∙ q))

-- ---- n of a kind, with a test of each in turn

suc_of : (n i : ℕ) → i < n → n - i ≡ suc (n - (i + 1))
suc_of n i h = omega arith

module _ {A S : Type 0} (s : List ℕ) (f : List ℕ → Read A) (ok : S → A → Bool) (next : S → A → S) (final : S → Bool) where
  abbrev judged_in : S → Read (List A) → Option ℕ
  judged_in st = end_in s (all_from ok next final st)

  over : (st : S) (a : A) (x : Read (List A))
      → judged_in st (and_read x (λ rest q. got (a ∷ rest) q)) ≡ pick (ok st a) (judged_in (next st a) x) None
  unfolding end_in judge and_read all_from
  over st a cut = sym (pick_same (ok st a) None)
  over st a (got rest q) = pick_and (ok st a) (all_from ok next final (next st a) rest) (Some (place_in s q)) None

  one : (st : S) (n : ℕ) (l : List ℕ) (a : A) (r : List ℕ) → f l ≡ got a r
      → judged_in st (read_many f (suc n) l) ≡ pick (ok st a) (judged_in (next st a) (read_many f n r)) None
  unfolding read_many and_read
  one st n l a r e = ap (λ (x : Read A). judged_in st (and_read x (λ y q. and_read (read_many f n q) (λ rest t. got (y ∷ rest) t)))) e ∙ over st a (read_many f n r)

  none : (st : S) (n : ℕ) (l : List ℕ) → f l ≡ cut → judged_in st (read_many f (suc n) l) ≡ None
  unfolding read_many and_read end_in judge
  none st n l e = ap (λ (x : Read A). judged_in st (and_read x (λ y q. and_read (read_many f n q) (λ rest t. got (y ∷ rest) t)))) e

  pub walk_on : (st : S) (n i : ℕ) (l : List ℕ) (a : A) (r : List ℕ) → i < n → f l ≡ got a r → ok st a ≡ true
      → judged_in st (read_many f (n - i) l) ≡ judged_in (next st a) (read_many f (n - (i + 1)) r)
  walk_on st n i l a r h e g =
      ap (λ (m : ℕ). judged_in st (read_many f m l)) (suc_of n i h) ∙ one st (n - (i + 1)) l a r e ∙ pick_true _ _ _ g

  off : (st : S) (n : ℕ) (l : List ℕ) → Faulty (ok st) (f l) → judged_in st (read_many f (suc n) l) ≡ None
  off st n l (runs_out e) = none st n l e
  off st n l (fails a r e g) = one st n l a r e ∙ pick_false _ _ _ g

  pub walk_off : (st : S) (n i : ℕ) (l : List ℕ) → i < n → Faulty (ok st) (f l) → judged_in st (read_many f (n - i) l) ≡ None
  walk_off st n i l h x = ap (λ (m : ℕ). judged_in st (read_many f m l)) (suc_of n i h) ∙ off st (n - (i + 1)) l x

  none_left : (st : S) (at : ℕ) → at ≤ length s → judged_in st (read_many f 0 (drop at s)) ≡ pick (final st) (Some at) None
  unfolding read_many end_in judge all_from
  none_left st at w = ap (λ (e : ℕ). pick (final st) (Some e) None) (place_drop s at w)

  pub walk_end : (st : S) (n i at : ℕ) → n ≤ i → at ≤ length s → judged_in st (read_many f (n - i) (drop at s)) ≡ pick (final st) (Some at) None
  walk_end st n i at h w = let none : n - i ≡ 0 = omega arith in ap (λ (m : ℕ). judged_in st (read_many f m (drop at s))) none ∙ none_left st at w

-- more than `most` of a kind
pub much_by : {A : Type 0} (f : List ℕ → Read A) (whole : List A → Bool) (most : ℕ) → ((xs : List A) → most < length xs → whole xs ≡ false)
    → (l : List ℕ) (n : ℕ) (x : Read (List A)) → read_many f n l ≡ x → most < n → Faulty whole x
much_by f whole most over l n cut e h = runs_out refl
much_by f whole most over l n (got xs q) e h = fails xs q refl (over xs (omega (arith, many_length f n l xs q e)))

-- ---- a count of two bytes, at most `most`, and as many of a kind: `each` is the test of a list that is not too long

module _ {A : Type 0} (s : List ℕ) (f : List ℕ → Read A) (whole each : List A → Bool) (most : ℕ)
    (over : (xs : List A) → most < length xs → whole xs ≡ false) (under : (xs : List A) → length xs ≤ most → whole xs ≡ each xs)
    (at : ℕ) (r : Option Number) (p : r ≡ number_at 2 s at) where
  pub counted_cut : r ≡ None → None ≡ end_in s whole (and_read (read_number 2 (drop at s)) (λ m t. read_many f m t))
  unfolding end_in and_read judge
  counted_cut q = rw (count_cut s at r p q) refl

  module _ (told : Number) (q : r ≡ Some told) where
    counted_reads : and_read (read_number 2 (drop at s)) (λ m t. read_many f m t) ≡ read_many f told.value (drop told.next s)
    unfolding and_read
    counted_reads = rw (count_of s at r told p q).reads refl

    pub counted_much : most < told.value → None ≡ end_in s whole (and_read (read_number 2 (drop at s)) (λ m t. read_many f m t))
    unfolding end_in
    counted_much h = sym (ap (end_in s whole) counted_reads ∙ judge_faulty _ _ _ _ (much_by f whole most over _ told.value _ refl h))

    pub counted_many : (x : Option ℕ) → told.value ≤ most → x ≡ end_in s each (read_many f told.value (drop told.next s)) → x ≡ end_in s whole (and_read (read_number 2 (drop at s)) (λ m t. read_many f m t))
    unfolding end_in
    counted_many x h e = e ∙ sym (ap (end_in s whole) counted_reads ∙ judge_same _ _ _ _ _ (λ xs t g. under xs (omega (arith, many_length f told.value (drop told.next s) xs t g))))
