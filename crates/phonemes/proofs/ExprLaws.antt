-- A law for each way out of the code over one alternative and over the whole expression. Assumes nothing.
use Rattle.phonemes.specs.declared.answers.ExpressionFault.TheVariants.{Malformed, UnlistedName}
use Rattle.phonemes.specs.declared.answers.ExpressionFault.{ExpressionFault}
use Rattle.std.specs.Prelude.{Option, Some, None, Result, Ok, Err}
use mathlib.Core.Path.{◌≡◌, refl, sym, ap, ap₂, ◌∙◌}
use mathlib.Core.Bool.{Bool, true, false}
use mathlib.Core.List.{List, [], ◌∷◌, ◌++◌, append-nil}
use Prim.Native.Nat.{ℕ, suc, ◌+◌, ◌-◌, ◌^◌, ◌≤◌, ◌<◌, zero-le}
use native.Mathlib.Nat.{add-zero, zero-add}
use native.Mathlib.Omega.{arith}
use lib.Dec.{ltb}
use lib.ListN.{length, take, drop, drop_of_length-le, length-drop}
use lib.Seq.{length-take-le}
use mir.Syntax.{w64}
use mir.Val.{Fits}
use borrow.Author.Rules.{rules}
use borrow.Author.Tests.{lt-ltb, le-ltb}
use Rattle.base.specs.Pick.{pick, and}
use Rattle.languages.specs.declared.sets.LanguageSet.{LanguageSet}
use Rattle.languages.specs.declared.sets.LanguageSet.TheVariants.{Any, SomeLanguages}
use Rattle.texts.specs.Parts.{tail, front, first_is, last_is, place_of, has}
use Rattle.texts.proofs.Laws.{front_is, place_most}
use Rattle.phonemes.specs
use specs.Expressions.{round, unround, bar, plus, opening, closing, cut_at, inside, extra, pieces_in, all_of, formed_piece, formed, box_of, names_mask, piece_mask, is_listed, text_of, mask_set, set_of, checked_of}
use specs.InnerContracts.{has_extra, listed_piece, expression_told, judged_pieces, piece_from}
use specs.declared
use declared.answers.Alternative.TheVariants.{At}
use Rattle.base.proofs.PickLaws.{pick_true, pick_false, pick_cong, and_first}

-- ---- parts of an expression and of an alternative

pub inside_none : (e : List ℕ) → length e < 2 → [] ≡ inside e
unfolding inside tail front
inside_none [] h = refl
inside_none (x ∷ []) h = refl
inside_none (x ∷ y ∷ e) h = absurd (omega arith)

pub inside_some : (e : List ℕ) → 2 ≤ length e → take (length e - 1 - 1) (drop 1 e) ≡ inside e
unfolding inside tail
inside_some [] h = absurd (omega arith)
inside_some (x ∷ e) h = let n : suc (length e) - 1 - 1 ≡ length e - 1 = omega arith in ap (λ (k : ℕ). take k e) n ∙ front_is e

module _ (a : List ℕ) (p : ℕ) (e : p ≡ place_of opening a) where
  pub box_open : length a ≤ p + 1 → [] ≡ box_of a
  unfolding box_of front
  box_open h = sym (ap front (drop_of_length-le a {i = suc (place_of opening a)} (omega arith)))

  pub box_some : p + 1 < length a → take (length a - 1 - (p + 1)) (drop (p + 1) a) ≡ box_of a
  unfolding box_of
  box_some h =
      let n : length a - 1 - (p + 1) ≡ length (drop (p + 1) a) - 1 = omega (arith, length-drop (p + 1) a) in
      let m : p + 1 ≡ suc (place_of opening a) = omega arith in
      ap (λ (k : ℕ). take k (drop (p + 1) a)) n ∙ front_is (drop (p + 1) a) ∙ ap (λ (k : ℕ). front (drop k a)) m

  pub has_yes : p < length a → has opening a ≡ true
  unfolding has
  has_yes h = ap (λ (k : ℕ). ltb k (length a)) (sym e) ∙ lt-ltb p (length a) h

  pub has_no : length a ≤ p → has opening a ≡ false
  unfolding has
  has_no h = ap (λ (k : ℕ). ltb k (length a)) (sym e) ∙ le-ltb p (length a) h

  pub formed_box : (r : Bool) → p < length a → r ≡ last_is closing a → r ≡ formed_piece a
  unfolding formed_piece
  formed_box r h f = f ∙ sym (pick_true _ _ _ (has_yes h))

  pub formed_plain : length a ≤ p → true ≡ formed_piece a
  unfolding formed_piece
  formed_plain h = sym (pick_false _ _ _ (has_no h))

  module _ (names : List ℕ) where
    pub mask_box : (l : List ℕ) (r : Option ℕ) → p < length a → l ≡ box_of a → r ≡ names_mask names (cut_at plus l) → r ≡ piece_mask names a
    unfolding piece_mask
    mask_box l r h f g = g ∙ ap (λ (x : List ℕ). names_mask names (cut_at plus x)) f ∙ sym (pick_true _ _ _ (has_yes h))

    pub mask_plain : length a ≤ p → Some 0 ≡ piece_mask names a
    unfolding piece_mask
    mask_plain h = sym (pick_false _ _ _ (has_no h))

    pub set_plain : length a ≤ p → Any ≡ set_of names a
    unfolding set_of
    set_plain h = sym (pick_false _ _ _ (has_no h))

    module _ (m : Option ℕ) (f : m ≡ piece_mask names a) where
      pub set_box : (k : ℕ) → p < length a → m ≡ Some k → SomeLanguages k ≡ set_of names a
      unfolding set_of mask_set
      set_box k h q = sym (pick_true _ _ _ (has_yes h) ∙ ap mask_set (sym f ∙ q))

      pub set_unlisted : p < length a → m ≡ None → SomeLanguages 0 ≡ set_of names a
      unfolding set_of mask_set
      set_unlisted h q = sym (pick_true _ _ _ (has_yes h) ∙ ap mask_set (sym f ∙ q))

module _ (names a : List ℕ) (m : Option ℕ) (f : m ≡ piece_mask names a) where
  pub listed_yes : (k : ℕ) → m ≡ Some k → true ≡ listed_piece names a
  unfolding listed_piece is_listed
  listed_yes k q = sym (ap is_listed (sym f ∙ q))

  pub listed_no : m ≡ None → false ≡ listed_piece names a
  unfolding listed_piece is_listed
  listed_no q = sym (ap is_listed (sym f ∙ q))

pub text_long : (a : List ℕ) → length (text_of a) ≡ place_of opening a
unfolding text_of
text_long a = length-take-le (place_of opening a) a (place_most opening a)

pub piece_is : (names a : List ℕ) (start next p : ℕ) (s : LanguageSet) → p ≡ place_of opening a → s ≡ set_of names a
    → At start (start + p) s next ≡ piece_from names a start next
unfolding piece_from
piece_is names a start next p s e f = ap₂ (λ (n : ℕ) (x : LanguageSet). At start (start + n) x next) (e ∙ sym (text_long a)) f

-- a place in a piece is one in the expression
pub piece_fits : (b : ℕ) (a x : List ℕ) (start p : ℕ) → x ≡ a → p ≡ place_of b x → start + length a < 2 ^ 64 → Fits w64 (start + p)
piece_fits b a x start p q e h = record { fits = omega (arith, place_most b x, ap length q) }

pub ruleset piece_laws = (inside_none, inside_some, box_open, box_some, formed_box, formed_plain, mask_box, mask_plain, set_plain, set_box, set_unlisted, listed_yes, listed_no, piece_is, piece_fits, rules)

-- ---- an expression is judged as its pieces are, one after the other

and_true : (t : Bool) → and t true ≡ t
unfolding and
and_true true = refl
and_true false = refl

-- one piece and then the others are judged as all are
judged_by_lem : (known f l : Bool) (x : Result ℕ ExpressionFault) (g h : Bool) (m : ℕ) → x ≡ pick g (expression_told m (and (and known l) h)) (Err Malformed)
    → pick f x (Err Malformed) ≡ pick (pick f g false) (expression_told m (and known (pick l h false))) (Err Malformed)
unfolding pick expression_told and
judged_by_lem true true true x g h m e = e
judged_by_lem true true false x g h m e = e
judged_by_lem false true l x g h m e = e
judged_by_lem known false l x g h m e = refl

judged_all : (names : List ℕ) (n : ℕ) (known : Bool) (ps : List (List ℕ))
    → judged_pieces names n known ps ≡ pick (all_of formed_piece ps) (expression_told (n + length ps) (and known (all_of (listed_piece names) ps))) (Err Malformed)
unfolding judged_pieces all_of pick
judged_all names n known [] = ap₂ expression_told (sym (add-zero n)) (sym (and_true known))
judged_all names n known (a ∷ ps) =
    judged_by_lem known (formed_piece a) (listed_piece names a) _ (all_of formed_piece ps) (all_of (listed_piece names) ps) (n + suc (length ps))
    (judged_all names (n + 1) (and known (listed_piece names a)) ps
    ∙ ap (λ (m : ℕ). pick (all_of formed_piece ps) (expression_told m (and (and known (listed_piece names a)) (all_of (listed_piece names) ps))) (Err Malformed)) (omega arith))

-- an empty piece is formed and has no names: it counts one more
nil_formed : formed_piece [] ≡ true
unfolding formed_piece has place_of
nil_formed = pick_false _ _ _ (le-ltb 0 0 zero-le)

nil_listed : (names : List ℕ) → listed_piece names [] ≡ true
unfolding listed_piece piece_mask has place_of is_listed
nil_listed names = ap is_listed (pick_false _ _ _ (le-ltb 0 0 zero-le))

judged_nil : (names : List ℕ) (n : ℕ) (known : Bool) (ps : List (List ℕ)) → judged_pieces names n known (ps ++ ([] ∷ [])) ≡ judged_pieces names (n + 1) known ps
unfolding judged_pieces
judged_nil names n known [] = pick_true _ _ _ nil_formed ∙ ap (expression_told (n + 1)) (ap (and known) (nil_listed names) ∙ and_true known)
judged_nil names n known (a ∷ ps) = pick_cong (formed_piece a) _ _ _ _ (λ q. judged_nil names (n + 1) (and known (listed_piece names a)) ps) (λ q. refl)

extra_over : (f l : Bool) → pick f ([] ∷ []) (pick l ([] ∷ []) []) ≡ pick {A = List (List ℕ)} (pick f true l) ([] ∷ []) []
unfolding pick
extra_over true l = refl
extra_over false l = refl

module _ (t : List ℕ) (x : Bool) (p : x ≡ has_extra t) where
  pub extra_yes : x ≡ true → extra t ≡ [] ∷ []
  unfolding extra has_extra
  extra_yes q = extra_over (first_is bar t) (last_is bar t) ∙ pick_true _ _ _ (sym p ∙ q)

  pub extra_no : x ≡ false → extra t ≡ []
  unfolding extra has_extra
  extra_no q = extra_over (first_is bar t) (last_is bar t) ∙ pick_false _ _ _ (sym p ∙ q)

module _ (e : List ℕ) (f : Bool) (p : f ≡ first_is round e) where
  pub pieces_single : f ≡ false → pieces_in e ≡ e ∷ []
  unfolding pieces_in
  pieces_single q = pick_false _ _ _ (sym p ∙ q)

  pub pieces_round : (t : List ℕ) → f ≡ true → t ≡ inside e → pieces_in e ≡ cut_at bar t ++ extra t
  unfolding pieces_in
  pieces_round t q w = pick_true _ _ _ (sym p ∙ q) ∙ ap (λ (y : List ℕ). cut_at bar y ++ extra y) (sym w)

-- the whole expression, its brackets seen to
whole_is : (names : List ℕ) (ps : List (List ℕ)) → judged_pieces names 0 true ps
    ≡ pick (all_of formed_piece ps) (pick (all_of (listed_piece names) ps) (Ok (length ps)) (Err UnlistedName)) (Err Malformed)
unfolding expression_told and
whole_is names ps = judged_all names 0 true ps ∙ ap (λ (m : ℕ). pick (all_of formed_piece ps) (pick (all_of (listed_piece names) ps) (Ok m) (Err UnlistedName)) (Err Malformed)) (zero-add (length ps))

checked_by : (names e : List ℕ) (ps : List (List ℕ)) → pieces_in e ≡ ps → pick (first_is round e) (last_is unround e) true ≡ true → checked_of names e ≡ judged_pieces names 0 true ps
unfolding checked_of formed listed_piece and
checked_by names e ps s b =
    ap₂ (λ (t : Bool) (l : List (List ℕ)). pick (and t (all_of formed_piece l)) (pick (all_of (λ (a : List ℕ). is_listed (piece_mask names a)) l) (Ok (length l)) (Err UnlistedName)) (Err Malformed)) b s
    ∙ sym (whole_is names ps)

module _ (names e : List ℕ) (f : Bool) (p : f ≡ first_is round e) where
  pub check_single : (r : Result ℕ ExpressionFault) → f ≡ false → r ≡ judged_pieces names 0 true (e ∷ []) → r ≡ checked_of names e
  check_single r q g = g ∙ sym (checked_by names e (e ∷ []) (pieces_single e f p q) (pick_false _ _ _ (sym p ∙ q)))

  module _ (q : f ≡ true) (l : Bool) (o : l ≡ last_is unround e) where
    pub check_open : l ≡ false → (Err Malformed) ≡ checked_of names e
    unfolding checked_of formed
    check_open c = sym (pick_false _ _ _ (and_first _ _ (pick_true _ _ _ (sym p ∙ q) ∙ sym o ∙ c)))

    module _ (c : l ≡ true) (t : List ℕ) (w : t ≡ inside e) (x : Bool) (k : x ≡ has_extra t) where
      round_by : (m : List (List ℕ)) → extra t ≡ m → checked_of names e ≡ judged_pieces names 0 true (cut_at bar t ++ m)
      round_by m g =
          checked_by names e (cut_at bar t ++ m)
          (pieces_round e f p t q w ∙ ap (λ (y : List (List ℕ)). cut_at bar t ++ y) g)
          (pick_true _ _ _ (sym p ∙ q) ∙ sym o ∙ c)

      pub check_extra : (r : Result ℕ ExpressionFault) → x ≡ true → r ≡ judged_pieces names 1 true (cut_at bar t) → r ≡ checked_of names e
      check_extra r h g = g ∙ sym (round_by ([] ∷ []) (extra_yes t x k h) ∙ judged_nil names 0 true (cut_at bar t))

      pub check_bars : (r : Result ℕ ExpressionFault) → x ≡ false → r ≡ judged_pieces names 0 true (cut_at bar t) → r ≡ checked_of names e
      check_bars r h g = g ∙ sym (round_by [] (extra_no t x k h) ∙ ap (judged_pieces names 0 true) (append-nil (cut_at bar t)))

module _ (names e : List ℕ) (g : Bool) (p : g ≡ formed_piece e) where
  pub single_good : (u : Bool) (r : Result ℕ ExpressionFault) → g ≡ true → u ≡ listed_piece names e → r ≡ expression_told 1 u → r ≡ judged_pieces names 0 true (e ∷ [])
  unfolding judged_pieces and
  single_good u r q f s = s ∙ ap (expression_told 1) f ∙ sym (pick_true _ _ _ (sym p ∙ q))

  pub single_malformed : g ≡ false → (Err Malformed) ≡ judged_pieces names 0 true (e ∷ [])
  unfolding judged_pieces
  single_malformed q = sym (pick_false _ _ _ (sym p ∙ q))

pub ruleset check_laws = (single_good, single_malformed, check_single, check_open, check_extra, check_bars, rules)
