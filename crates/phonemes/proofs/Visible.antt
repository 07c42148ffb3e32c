-- What the quick test says of an expression: it is good by its round brackets. Assumes nothing.
use Rattle.phonemes.specs.declared.answers.ExpressionFault.TheVariants.{Malformed}
use Rattle.std.specs.Prelude.{Ok, Err}
use mathlib.Core.Path.{◌≡◌, refl, ap, ◌∙◌}
use mathlib.Core.Bool.{Bool, true, false}
use mathlib.Core.List.{List, [], ◌∷◌, ◌++◌}
use Prim.Native.Nat.{ℕ}
use lib.ListN.{length}
use Rattle.base.specs.Pick.{pick, and}
use Rattle.texts.specs.Parts.{first_is, last_is}
use Rattle.rule.proofs.Visible.{Clear, none, more, clear_has, clear_tail, clear_front}
use Rattle.phonemes.specs
use specs.Expressions.{round, unround, bar, opening, on_first, cut_at, inside, extra, pieces_in, all_of, formed_piece, formed, piece_mask, is_listed, checked_of}
use Rattle.base.proofs.PickLaws.{pick_true, pick_false, pick_all}

data Cleared : List (List ℕ) → Type 0 where
  no_part : Cleared []
  part : {p : List ℕ} {ps : List (List ℕ)} → Clear p → Cleared ps → Cleared (p ∷ ps)

on_first_lem : {x : ℕ} {ps : List (List ℕ)} → (x ≡ opening → ⊥) → Cleared ps → Cleared (on_first x ps)
unfolding on_first
on_first_lem n no_part = part (more n none) no_part
on_first_lem n (part c cs) = part (more n c) cs

clear_cut : (b : ℕ) {l : List ℕ} → Clear l → Cleared (cut_at b l)
unfolding cut_at
clear_cut b none = part none no_part
clear_cut b (more n c) = pick_all Cleared _ _ _ (part none (clear_cut b c)) (on_first_lem n (clear_cut b c))

join : {ps qs : List (List ℕ)} → Cleared ps → Cleared qs → Cleared (ps ++ qs)
join no_part ds = ds
join (part c cs) ds = part c (join cs ds)

clear_pieces : {e : List ℕ} → Clear e → Cleared (pieces_in e)
unfolding pieces_in inside extra
clear_pieces c =
    pick_all Cleared _ _ _
    (join (clear_cut bar (clear_front (clear_tail c))) (pick_all Cleared _ _ _ (part none no_part) (pick_all Cleared _ _ _ (part none no_part) no_part)))
    (part c no_part)

all_of_lem : (f : List ℕ → Bool) {ps : List (List ℕ)} → ((p : List ℕ) → Clear p → f p ≡ true) → Cleared ps → all_of f ps ≡ true
unfolding all_of
all_of_lem f h no_part = refl
all_of_lem f h (part c cs) = pick_true _ _ _ (h _ c) ∙ all_of_lem f h cs

-- ---- so an expression is good by its round brackets

and_all : (a b : Bool) → b ≡ true → and a b ≡ a
unfolding and
and_all true b q = q
and_all false b q = refl

module _ (names e : List ℕ) (c : Clear e) where
  all_formed : all_of formed_piece (pieces_in e) ≡ true
  unfolding formed_piece
  all_formed = all_of_lem formed_piece (λ p d. pick_false _ _ _ (clear_has d)) (clear_pieces c)

  all_listed_lem : all_of (λ (a : List ℕ). is_listed (piece_mask names a)) (pieces_in e) ≡ true
  unfolding piece_mask is_listed
  all_listed_lem = all_of_lem (λ (a : List ℕ). is_listed (piece_mask names a)) (λ p d. ap is_listed (pick_false _ _ _ (clear_has d))) (clear_pieces c)

  clear_formed : formed e ≡ pick (first_is round e) (last_is unround e) true
  unfolding formed
  clear_formed = and_all _ _ all_formed

  pub clear_good : pick (first_is round e) (last_is unround e) true ≡ true → checked_of names e ≡ Ok (length (pieces_in e))
  unfolding checked_of
  clear_good q = pick_true _ _ _ (clear_formed ∙ q) ∙ pick_true _ _ _ all_listed_lem

  pub clear_malformed : pick (first_is round e) (last_is unround e) true ≡ false → checked_of names e ≡ Err Malformed
  unfolding checked_of
  clear_malformed q = pick_false _ _ _ (clear_formed ∙ q)
