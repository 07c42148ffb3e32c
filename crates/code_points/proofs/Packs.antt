-- The rules of an accepted pack: their strings are well formed, and so is what is spelled by them. Assumes nothing.
use Rattle.std.specs.Prelude.{Ok}
use mathlib.Core.Path.{◌≡◌, refl, sym, ap, ◌∙◌}
use mathlib.Core.Bool.{Bool, true, false}
use mathlib.Core.List.{List, [], ◌∷◌, ◌++◌}
use mathlib.Core.Logic.{⊎_elim}
use Prim.Native.Nat.{ℕ, zero, suc, ◌+◌, max}
use native.Mathlib.Omega.{arith}
use lib.ListN.{length, get_or, drop}
use lib.Seq.{drop-drop}
use Rattle.base.specs.Pick.{pick}
use Rattle.texts.specs.Parts.{first_is, last_is, prefix_of}
use Rattle.texts.proofs.Laws.{prefix_split}
use Rattle.rule.specs.Matching.{rule_matches}
use Rattle.phonemes.specs.Expressions.{round, unround, formed, checked_of}
use Rattle.pack.specs.Packs.{Pack, pack_of, accepted, all, list_good}
use Rattle.rule_lines.specs.Rules.{Rule, rule_good}
use Rattle.pack.proofs.Laws.{GoodRule, good_rule, ListsAt, no_list, one_list, is_pack}
use Rattle.choices.specs.Texts.{Text}
use Rattle.base.proofs.Arms.{clash}
use Rattle.rule_index.specs.Matching.{Match, by, first_match}
use Rattle.engine.specs.Calls.{list_numbered}
use Rattle.code_points.proofs.Bytes.{formed_of}
use Rattle.code_points.proofs.Cuts.{pieces_formed}
use Rattle.code_points.proofs.Passes.{Fitting, Sound}
use Rattle.base.proofs.PickLaws.{pick_inv, and_inv}

-- ---- one rule

matched_prefix : (p l r text : Text) (place : ℕ) → rule_matches p l r text place ≡ true → prefix_of p (drop place text) ≡ true
unfolding rule_matches
matched_prefix p l r text place e = ⊎_elim (λ w. clash (cc w.1)) (λ w. (and_inv _ _ w.1).0) (pick_inv _ _ _ _ e)

closed : (names e : Text) (n : ℕ) → checked_of names e ≡ Ok n → pick (first_is round e) (last_is unround e) true ≡ true
unfolding checked_of formed
closed names e n g = ⊎_elim (λ w. (and_inv _ _ w.0).0) (λ w. clash (cc w.1)) (pick_inv _ _ _ _ g)

fitting : (names : List ℕ) (r : Rule) → GoodRule names r → (word : Text) (place : ℕ) → prefix_of r.pattern (drop place word) ≡ true → Fitting r word place
fitting names r g word place e =
    let long : place + length r.pattern ≡ place + max 1 (length r.pattern) = omega (arith, g.pattern_some) in
    record {
      stands =
          ap (λ (s : Text). r.pattern ++ s) (ap (λ (n : ℕ). drop n word) (sym long) ∙ sym (drop-drop (length r.pattern) place word))
          ∙ prefix_split r.pattern (drop place word) e;
      pattern = formed_of r.pattern g.pattern_formed;
      pieces = pieces_formed r.expression (closed names r.expression g.alternatives g.expression) (formed_of r.expression g.expression_formed);
    }

-- ---- a list of rules

first_by : (names : List ℕ) (r x : Rule) (m : Match) (word : Text) (place : ℕ) (t : Bool) → rule_good names r ≡ true → (m ≡ by x → Fitting x word place)
    → rule_matches r.pattern r.left r.right word place ≡ t → pick t (by r) m ≡ by x → Fitting x word place
unfolding pick
first_by names r x m word place true g ih q e =
    let same : r ≡ x = cc in
    rw same at (fitting names r (good_rule names r g) word place (matched_prefix r.pattern r.left r.right word place q))
first_by names r x m word place false g ih q e = ih e

sound_rules : (names : List ℕ) (rs : List Rule) → all (rule_good names) rs ≡ true → Sound (first_match rs)
unfolding Sound first_match all
sound_rules names [] g word place x e = clash (cc)
sound_rules names (r ∷ rs) g word place x e =
    let w = and_inv _ _ g in
    first_by names r x (first_match rs word place) word place (rule_matches r.pattern r.left r.right word place) w.0 (sound_rules names rs w.1 word place x) refl e

-- ---- an accepted pack

pub rules_good : (names : List ℕ) (rs : List Rule) → list_good names rs ≡ true → all (rule_good names) rs ≡ true
unfolding list_good
rules_good names rs g = (and_inv _ _ (and_inv _ _ g).1).0

lists_good : {s names : List ℕ} {n at e : ℕ} {ls : List (List Rule)} → ListsAt s names n at ls e → (k : ℕ) → all (rule_good names) (get_or ls k []) ≡ true
unfolding all
lists_good no_list zero = refl
lists_good no_list (suc k) = refl
lists_good (one_list w l) zero = rules_good _ w.value w.passes
lists_good (one_list w l) (suc k) = lists_good l k

pub sound_list : (s : List ℕ) (p : Pack) → pack_of s ≡ accepted p → (k : ℕ) → Sound (first_match (list_numbered p k))
unfolding list_numbered
sound_list s p e k = sound_rules _ (get_or p.lists k []) (lists_good (is_pack s p e).lists k)
