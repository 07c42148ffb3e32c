-- A law for each way that the code can go, and what the forms are made of. Assumes nothing.
use mathlib.Core.Path.{◌≡◌, refl, sym, ap, ap₂, ◌∙◌}
use mathlib.Core.Bool.{Bool, true, false, not}
use mathlib.Core.List.{List, [], ◌∷◌, ◌++◌}
use Prim.Native.Nat.{ℕ, suc, ◌-◌, ◌≤◌, ◌<◌, zero-le}
use native.Mathlib.Omega.{arith}
use lib.Dec.{eqb, ltb, eqb-suc-zero}
use lib.ListN.{length, take, drop}
use borrow.Author.Rules.{rules}
use borrow.Author.Tests.{lt-ltb, le-ltb, eq-eqb, ne_eqb}
use Rattle.base.specs.Pick.{pick, and}
use Rattle.letters.specs.Utf8.{decode_at}
use Rattle.letters.specs.Reading.{codes_of}
use Rattle.letters.specs.Order.{same_text}
use Rattle.letters.specs.declared.utf8.Step.{Step}
use Rattle.letters.specs.declared.utf8.Step.TheVariants.{Char, Ill, End}
use Rattle.texts.specs.Parts.{tail, front, first_is, last_is, place_of, has, prefix_of, suffix_of, caret, dollar, opening, closing, without_caret, without_dollar}
use Rattle.texts.proofs.Laws.{front_is}
use Rattle.regex_optim.specs.Contexts.{Form, outside, literal_form, box_form, box_inner, boxed, form_in, form_of, left_form, right_form, kind_of, takes_none, empty_box, code_at, first_char, code_of, back_char, whole_char, char_fits, fits}
use Rattle.regex_optim.specs.InnerContracts.{box_char, box_fits, literal_fits, box_kind, literal_kind, empty_rest}
use Rattle.std.specs.Prelude.{Option, Some, None}
use Rattle.regex_optim.specs.declared.OptimizedRegex.{OptimizedRegex}
use Rattle.base.proofs.Arms.{clash}
use Rattle.base.proofs.PickLaws.{pick_true, pick_false, pick_all, and_first, and_rest, and_inv}

-- ---- one character

module _ (x : List ℕ) (r : Step) (e : r ≡ decode_at x 0) where
  pub first_code_lem : (k n : ℕ) → r ≡ Char k n → Some k ≡ first_char x
  unfolding first_char code_at
  first_code_lem k n q = sym (ap code_at (sym e ∙ q))

  pub first_ill_lem : r ≡ Ill → None ≡ first_char x
  unfolding first_char code_at
  first_ill_lem q = sym (ap code_at (sym e ∙ q))

  pub first_end : r ≡ End → None ≡ first_char x
  unfolding first_char code_at
  first_end q = sym (ap code_at (sym e ∙ q))

pub back_short : (x : List ℕ) (n : ℕ) → length x < n → None ≡ back_char x n
unfolding back_char
back_short x n h = sym (pick_true _ _ _ (lt-ltb _ _ h))

module _ (x : List ℕ) (n : ℕ) (h : n ≤ length x) (r : Step) (e : r ≡ decode_at x (length x - n)) where
  back_by : (y : Step) → r ≡ y → back_char x n ≡ code_of n y
  unfolding back_char
  back_by y q = pick_false _ _ _ (le-ltb _ _ h) ∙ ap (code_of n) (sym e ∙ q)

  pub back_code : (k m : ℕ) → r ≡ Char k m → m ≡ n → Some k ≡ back_char x n
  unfolding code_of
  back_code k m q f = sym (back_by (Char k m) q ∙ pick_true _ _ _ (eq-eqb m n f))

  pub back_other : (k m : ℕ) → r ≡ Char k m → (m ≡ n → ⊥) → None ≡ back_char x n
  unfolding code_of
  back_other k m q f = sym (back_by (Char k m) q ∙ pick_false _ _ _ (ne_eqb m n f))

  pub back_ill : r ≡ Ill → None ≡ back_char x n
  unfolding code_of
  back_ill q = sym (back_by Ill q)

  pub back_end : r ≡ End → None ≡ back_char x n
  unfolding code_of
  back_end q = sym (back_by End q)

pub whole_by_lem : (x : List ℕ) (r : Option ℕ) → r ≡ back_char x (length x) → r ≡ whole_char x
unfolding whole_char
whole_by_lem x r e = e

pub ruleset char_laws = (first_code_lem, first_ill_lem, first_end, back_short, back_code, back_other, back_ill, back_end, whole_by_lem, rules)

-- ---- parts of a context

pub inner_none : (t : List ℕ) → length t < 2 → [] ≡ box_inner t
unfolding box_inner tail front
inner_none [] h = refl
inner_none (x ∷ []) h = refl
inner_none (x ∷ y ∷ t) h = absurd (omega arith)

pub inner_some : (t : List ℕ) → 2 ≤ length t → take (length t - 1 - 1) (drop 1 t) ≡ box_inner t
unfolding box_inner tail
inner_some [] h = absurd (omega arith)
inner_some (x ∷ t) h = let e : suc (length t) - 1 - 1 ≡ length t - 1 = omega arith in ap (λ (n : ℕ). take n t) e ∙ front_is t

module _ (t : List ℕ) (f : Bool) (e : f ≡ first_is opening t) where
  pub boxed_not : f ≡ false → false ≡ boxed t
  unfolding boxed and
  boxed_not q = rw (← e, q) refl

  module _ (l : Bool) (g : l ≡ last_is closing t) where
    pub boxed_open : f ≡ true → l ≡ false → false ≡ boxed t
    unfolding boxed and
    boxed_open q h = rw (← e, q, ← g, h) refl

    pub boxed_by : (i : List ℕ) (u : Bool) → i ≡ box_inner t → u ≡ has opening i → f ≡ true → l ≡ true → not u ≡ boxed t
    unfolding boxed and
    boxed_by i u j w q h = rw (← e, q, ← g, h, ← j, ← w) refl

-- ---- the forms, by their anchors

kind_literal : (s e : Bool) (t : List ℕ) → kind_of (literal_form s e t) ≡ literal_kind (length t) s e
unfolding kind_of literal_form literal_kind pick
kind_literal true true [] = refl
kind_literal true true (x ∷ t) = rw (eqb-suc-zero (length t)) refl
kind_literal true false [] = refl
kind_literal true false (x ∷ t) = rw (eqb-suc-zero (length t)) refl
kind_literal false true [] = refl
kind_literal false true (x ∷ t) = rw (eqb-suc-zero (length t)) refl
kind_literal false false t = refl

kind_box : (s e hit : Bool) (l : List ℕ) → kind_of (box_form s e hit l) ≡ box_kind s e
unfolding kind_of box_form box_kind pick
kind_box true true hit l = refl
kind_box true false hit l = refl
kind_box false true hit l = refl
kind_box false false hit l = refl

suffix_nil : (x : List ℕ) → suffix_of [] x ≡ true
unfolding suffix_of prefix_of
suffix_nil x = pick_false _ _ _ (le-ltb (length x) 0 zero-le)

nil_same : (x : List ℕ) → eqb (length x) 0 ≡ same_text [] x
unfolding same_text
nil_same [] = refl
nil_same (y ∷ x) = ne_eqb (suc (length x)) 0 (λ e. omega arith)

fits_literal : (s e : Bool) (t x : List ℕ) → fits (literal_form s e t) x ≡ literal_fits t s e x
unfolding fits literal_form literal_fits pick prefix_of
fits_literal true true [] x = nil_same x
fits_literal true true (y ∷ t) x = refl
fits_literal true false [] x = refl
fits_literal true false (y ∷ t) x = refl
fits_literal false true [] x = sym (suffix_nil x)
fits_literal false true (y ∷ t) x = refl
fits_literal false false t x = refl

pub fits_box : (s e hit : Bool) (l x : List ℕ) → fits (box_form s e hit l) x ≡ char_fits hit l (box_char s e x)
unfolding fits box_form box_char pick char_fits
fits_box true true hit l x = refl
fits_box true false hit l x = refl
fits_box false true hit l x = refl
fits_box false false hit l x = refl

module _ (s e : Bool) (t : List ℕ) (h : Bool) (g : h ≡ has opening t) where
  pub in_literal : h ≡ false → form_in s e t ≡ literal_form s e t
  unfolding form_in
  in_literal q = pick_false _ _ _ (sym g ∙ q)

  pub kind_by_literal : (r : Option OptimizedRegex) → h ≡ false → r ≡ literal_kind (length t) s e → r ≡ kind_of (form_in s e t)
  kind_by_literal r q f = f ∙ sym (ap kind_of (in_literal q) ∙ kind_literal s e t)

  module _ (u : Bool) (b : u ≡ boxed t) where
    pub in_box : h ≡ true → u ≡ true → form_in s e t ≡ box_form s e (not (first_is caret (box_inner t))) (without_caret (box_inner t))
    unfolding form_in
    in_box q v = pick_true _ _ _ (sym g ∙ q) ∙ pick_true _ _ _ (sym b ∙ v)

    pub in_none : h ≡ true → u ≡ false → form_in s e t ≡ outside
    unfolding form_in
    in_none q v = pick_true _ _ _ (sym g ∙ q) ∙ pick_false _ _ _ (sym b ∙ v)

    pub kind_by_box : (r : Option OptimizedRegex) → h ≡ true → u ≡ true → r ≡ box_kind s e → r ≡ kind_of (form_in s e t)
    kind_by_box r q v f = f ∙ sym (ap kind_of (in_box q v) ∙ kind_box s e _ _)

    pub kind_by_none : h ≡ true → u ≡ false → None ≡ kind_of (form_in s e t)
    unfolding kind_of
    kind_by_none q v = sym (ap kind_of (in_none q v))

not_pick : (h : Bool) → not h ≡ pick h false true
unfolding pick
not_pick true = refl
not_pick false = refl

-- what begins with `[` has one, and what does not is no box
opening_first : (t : List ℕ) → first_is opening t ≡ true → has opening t ≡ true
unfolding first_is has place_of
opening_first [] q = clash (cc)
opening_first (x ∷ t) q = ap (λ (n : ℕ). ltb n (suc (length t))) (pick_true _ _ _ q) ∙ lt-ltb 0 (suc (length t)) (omega arith)

-- where the test comes first, and then that nothing is outside the forms
module _ (w o x : Bool) where
  pub test_first : w ≡ x → w ≡ true → not o ≡ pick o false x
  test_first e v = not_pick o ∙ ap (pick o false) (sym v ∙ e)

  pub test_fails : w ≡ x → w ≡ false → false ≡ pick o false x
  test_fails e v = pick_all (λ (b : Bool). false ≡ b) o false x refl (sym v ∙ e)

pub only_fits : (i x : List ℕ) (s e : Bool) (w o : Bool) → w ≡ box_fits i s e x → o ≡ has opening i → w ≡ true → not o ≡ pick (has opening i) false (box_fits i s e x)
only_fits i x s e w o f h v = rw (← h) (test_first w o _ f v)

pub only_fails : (i x : List ℕ) (s e : Bool) (w : Bool) → w ≡ box_fits i s e x → w ≡ false → false ≡ pick (has opening i) false (box_fits i s e x)
only_fails i x s e w f v = test_fails w _ _ f v

module _ (s e : Bool) (t : List ℕ) (f : Bool) (g : f ≡ first_is opening t) where
  module _ (q : f ≡ true) (l : Bool) (k : l ≡ last_is closing t) where
    opened : true ≡ has opening t
    opened = sym (opening_first t (sym g ∙ q))

    box_by : (x : List ℕ) (o : Bool) → o ≡ has opening (box_inner t) → l ≡ true → pick o false (box_fits (box_inner t) s e x) ≡ fits (form_in s e t) x
    unfolding fits pick box_fits
    box_by x true h v = sym (ap (λ (y : Form). fits y x) (in_none s e t true opened false (boxed_by t f g l k (box_inner t) true refl h q v) refl refl))
    box_by x false h v = sym (ap (λ (y : Form). fits y x) (in_box s e t true opened true (boxed_by t f g l k (box_inner t) false refl h q v) refl refl) ∙ fits_box s e _ _ x)

    pub fits_by_box : (i x : List ℕ) (r : Bool) → l ≡ true → i ≡ box_inner t → r ≡ pick (has opening i) false (box_fits i s e x) → r ≡ fits (form_in s e t) x
    fits_by_box i x r v j h = h ∙ ap (λ (y : List ℕ). pick (has opening y) false (box_fits y s e x)) j ∙ box_by x _ refl v

    pub fits_by_none : (x : List ℕ) → l ≡ false → false ≡ fits (form_in s e t) x
    unfolding fits
    fits_by_none x v = sym (ap (λ (y : Form). fits y x) (in_none s e t true opened false (boxed_open t f g l k q v) refl refl))

  module _ (q : f ≡ false) (x : List ℕ) where
    literal_by : (h : Bool) → h ≡ has opening t → pick h false (literal_fits t s e x) ≡ fits (form_in s e t) x
    unfolding fits pick
    literal_by true o = sym (ap (λ (y : Form). fits y x) (in_none s e t true o false (boxed_not t f g q) refl refl))
    literal_by false o = sym (ap (λ (y : Form). fits y x) (in_literal s e t false o refl) ∙ fits_literal s e t x)

    module _ (w : Bool) (l : w ≡ literal_fits t s e x) where
      pub fits_by_literal : (h : Bool) → h ≡ has opening t → w ≡ true → not h ≡ fits (form_in s e t) x
      fits_by_literal h o v = test_first w h _ l v ∙ literal_by h o

      pub fits_by_other : w ≡ false → false ≡ fits (form_in s e t) x
      fits_by_other v = test_fails w _ _ l v ∙ literal_by (has opening t) refl

-- ---- anchors put on and taken off again

first_snoc : (c : List ℕ) → first_is caret (c ++ (dollar ∷ [])) ≡ first_is caret c
unfolding first_is
first_snoc [] = refl
first_snoc (x ∷ c) = refl

last_snoc : (c : List ℕ) → last_is dollar (c ++ (dollar ∷ [])) ≡ true
unfolding last_is
last_snoc [] = refl
last_snoc (x ∷ []) = refl
last_snoc (x ∷ y ∷ c) = last_snoc (y ∷ c)

front_snoc : (c : List ℕ) (b : ℕ) → front (c ++ (b ∷ [])) ≡ c
unfolding front
front_snoc [] b = refl
front_snoc (x ∷ []) b = refl
front_snoc (x ∷ y ∷ c) b = ap (λ (l : List ℕ). x ∷ l) (front_snoc (y ∷ c) b)

caret_snoc : (c : List ℕ) → without_caret (c ++ (dollar ∷ [])) ≡ without_caret c ++ (dollar ∷ [])
unfolding without_caret first_is tail pick
caret_snoc [] = refl
caret_snoc (x ∷ c) = over (eqb x caret)
  where
    over : (t : Bool) → pick t (c ++ (dollar ∷ [])) (x ∷ c ++ (dollar ∷ [])) ≡ pick t c (x ∷ c) ++ (dollar ∷ [])
    over true = refl
    over false = refl

pub left_is : (c : List ℕ) → left_form c ≡ form_in (first_is caret c) true (without_caret c)
unfolding left_form form_of without_dollar
left_is c =
    ap (λ (b : Bool). form_in b (last_is dollar (c ++ (dollar ∷ []))) (without_dollar (without_caret (c ++ (dollar ∷ []))))) (first_snoc c)
    ∙ ap₂ (λ (b : Bool) (l : List ℕ). form_in (first_is caret c) b (without_dollar l)) (last_snoc c) (caret_snoc c)
    ∙ ap (form_in (first_is caret c) true) (pick_true _ _ _ (last_snoc (without_caret c)) ∙ front_snoc (without_caret c) dollar)

last_cons : (c : List ℕ) → last_is dollar (caret ∷ c) ≡ last_is dollar c
unfolding last_is
last_cons [] = refl
last_cons (x ∷ c) = refl

pub right_is : (c : List ℕ) → right_form c ≡ form_in true (last_is dollar c) (without_dollar c)
unfolding right_form form_of without_caret first_is tail pick
right_is c = ap (λ (b : Bool). form_in true b (without_dollar c)) (last_cons c)

module _ (c : List ℕ) (b : Bool) (l : List ℕ) where
  pub left_kind : (r : Option OptimizedRegex) → b ≡ first_is caret c → l ≡ without_caret c → r ≡ kind_of (form_in b true l) → r ≡ kind_of (left_form c)
  left_kind r p q e = e ∙ ap₂ (λ (x : Bool) (y : List ℕ). kind_of (form_in x true y)) p q ∙ sym (ap kind_of (left_is c))

  pub right_kind : (r : Option OptimizedRegex) → b ≡ last_is dollar c → l ≡ without_dollar c → r ≡ kind_of (form_in true b l) → r ≡ kind_of (right_form c)
  right_kind r p q e = e ∙ ap₂ (λ (x : Bool) (y : List ℕ). kind_of (form_in true x y)) p q ∙ sym (ap kind_of (right_is c))

  pub left_fit : (x : List ℕ) (r : Bool) → b ≡ first_is caret c → l ≡ without_caret c → r ≡ fits (form_in b true l) x → r ≡ fits (left_form c) x
  left_fit x r p q e = e ∙ ap₂ (λ (z : Bool) (y : List ℕ). fits (form_in z true y) x) p q ∙ sym (ap (λ (f : Form). fits f x) (left_is c))

  pub right_fit : (x : List ℕ) (r : Bool) → b ≡ last_is dollar c → l ≡ without_dollar c → r ≡ fits (form_in true b l) x → r ≡ fits (right_form c) x
  right_fit x r p q e = e ∙ ap₂ (λ (z : Bool) (y : List ℕ). fits (form_in true z y) x) p q ∙ sym (ap (λ (f : Form). fits f x) (right_is c))

-- ---- a box that nothing fits

empty_literal : (s e : Bool) (t : List ℕ) → empty_box (literal_form s e t) ≡ false
unfolding empty_box literal_form
empty_literal true true [] = refl
empty_literal true true (x ∷ t) = refl
empty_literal true false [] = refl
empty_literal true false (x ∷ t) = refl
empty_literal false true [] = refl
empty_literal false true (x ∷ t) = refl
empty_literal false false t = refl

pub literal_not_empty : (s e : Bool) (t : List ℕ) → has opening t ≡ false → empty_box (form_in s e t) ≡ false
literal_not_empty s e t q = ap empty_box (in_literal s e t false (sym q) refl) ∙ empty_literal s e t

-- a box takes none where nothing stands in it; what is negated has its `^`
inner_takes : (i : List ℕ) → takes_none (not (first_is caret i)) (without_caret i) ≡ eqb (length i) 0
unfolding takes_none first_is without_caret tail pick and
inner_takes [] = refl
inner_takes (x ∷ i) = over (eqb x caret)
  where
    over : (t : Bool) → and (not t) (eqb (length (pick t i (x ∷ i))) 0) ≡ eqb (suc (length i)) 0
    over true = sym (eqb-suc-zero (length i))
    over false = refl

-- a context has an anchor on at least one side: a left one at its end, a right one at its start
abbrev pub Anchored : Bool → Bool → Type 0
Anchored s e = pick s true e ≡ true

pub anchored_left : (s : Bool) → Anchored s true
anchored_left s = pick_all (λ (b : Bool). b ≡ true) s true true refl refl

pub anchored_right : (e : Bool) → Anchored true e
unfolding pick
anchored_right e = refl

pub box_empty : (s e hit : Bool) (l : List ℕ) → Anchored s e → empty_box (box_form s e hit l) ≡ takes_none hit l
unfolding empty_box box_form pick
box_empty true true hit l a = refl
box_empty true false hit l a = refl
box_empty false true hit l a = refl
box_empty false false hit l a = clash (cc)

turned : (a b : Bool) → pick b a false ≡ and a b
unfolding pick and
turned true true = refl
turned true false = refl
turned false true = refl
turned false false = refl

module _ (s e : Bool) (t : List ℕ) (a : Anchored s e) where
  empty_by : (h u : Bool) → h ≡ has opening t → u ≡ boxed t → empty_box (form_in s e t) ≡ pick u (eqb (length (box_inner t)) 0) false
  unfolding empty_box pick boxed
  empty_by true true g b = ap empty_box (in_box s e t true g true b refl refl) ∙ box_empty s e _ _ a ∙ inner_takes (box_inner t)
  empty_by true false g b = ap empty_box (in_none s e t true g false b refl refl)
  empty_by false true g b = let opens = opening_first t (and_inv _ _ (sym b)).0 in clash (cc)
  empty_by false false g b = ap empty_box (in_literal s e t false g refl) ∙ empty_literal s e t

  empty_is : empty_box (form_in s e t) ≡ empty_rest t
  unfolding empty_rest
  empty_is = empty_by _ _ refl refl ∙ turned (eqb (length (box_inner t)) 0) (boxed t)

module _ (c l : List ℕ) (r : Bool) where
  pub left_empty_box : l ≡ without_caret c → r ≡ empty_rest l → r ≡ empty_box (left_form c)
  left_empty_box q e = e ∙ ap empty_rest q ∙ sym (ap empty_box (left_is c) ∙ empty_is _ true _ (anchored_left _))

  pub right_empty_box : l ≡ without_dollar c → r ≡ empty_rest l → r ≡ empty_box (right_form c)
  right_empty_box q e = e ∙ ap empty_rest q ∙ sym (ap empty_box (right_is c) ∙ empty_is true _ _ (anchored_right _))

module _ (t i : List ℕ) (j : i ≡ box_inner t) where
  pub inside_none : (u : Bool) → length i ≡ 0 → u ≡ boxed t → u ≡ empty_rest t
  unfolding empty_rest
  inside_none u h b = and_rest _ _ u (eq-eqb _ 0 (ap length (sym j) ∙ h)) b

  pub inside_some : (length i ≡ 0 → ⊥) → false ≡ empty_rest t
  unfolding empty_rest
  inside_some h = sym (and_first _ _ (ne_eqb _ 0 (λ q. h (ap length j ∙ q))))

-- ---- an empty context always fits
pub left_empty : (c x : List ℕ) → length c ≡ 0 → true ≡ fits (left_form c) x
unfolding without_caret first_is pick form_in has place_of literal_form fits
left_empty [] x h = sym (ap (λ (f : Form). fits f x) (left_is []))
left_empty (y ∷ c) x h = let no_way : ⊥ = omega arith in absurd no_way

pub right_empty : (c x : List ℕ) → length c ≡ 0 → true ≡ fits (right_form c) x
unfolding without_dollar last_is pick form_in has place_of literal_form fits
right_empty [] x h = sym (ap (λ (f : Form). fits f x) (right_is []))
right_empty (y ∷ c) x h = let no_way : ⊥ = omega arith in absurd no_way

pub box_fit : (i l x : List ℕ) (n : Bool) (a : Option ℕ) (s e r : Bool) → n ≡ first_is caret i → l ≡ without_caret i → a ≡ box_char s e x → r ≡ char_fits (not n) l a → r ≡ box_fits i s e x
unfolding box_fits
box_fit i l x n a s e r p q w f = rw (← p, ← q, ← w) f

module _ (hit : Bool) (l : List ℕ) (a : Option ℕ) (k : ℕ) (t : Bool) where
  pub char_member : a ≡ Some k → t ≡ has k (codes_of l) → t ≡ true → hit ≡ char_fits hit l a
  unfolding char_fits
  char_member e m q = sym (ap (char_fits hit l) e ∙ pick_true _ _ _ (sym m ∙ q))

  pub char_other : a ≡ Some k → t ≡ has k (codes_of l) → t ≡ false → not hit ≡ char_fits hit l a
  unfolding char_fits
  char_other e m q = sym (ap (char_fits hit l) e ∙ pick_false _ _ _ (sym m ∙ q))

pub char_absent : (hit : Bool) (l : List ℕ) (a : Option ℕ) → a ≡ None → false ≡ char_fits hit l a
unfolding char_fits
char_absent hit l a e = sym (ap (char_fits hit l) e)

pub ruleset part_laws = (inner_none, inner_some, boxed_not, boxed_open, boxed_by, inside_none, inside_some, left_empty_box, right_empty_box, rules)

pub ruleset form_laws = (kind_by_literal, kind_by_box, kind_by_none, only_fits, only_fails, fits_by_literal, fits_by_other, fits_by_box, fits_by_none, left_empty, right_empty, left_kind, right_kind, left_fit, right_fit, box_fit, char_member, char_other, char_absent, rules)
