-- Laws of meeting a rule: one for each way out of `on_rule`. Assumes nothing.
use mathlib.Core.Path.{◌≡◌, refl, sym, ◌∙◌}
use mathlib.Core.Bool.{Bool, true, false}
use mathlib.Core.List.{List}
use Prim.Native.Nat.{ℕ, ◌≤◌}
use borrow.Author.Rules.{rules}
use Rattle.rule_lines.specs.Rules.{Rule}
use Rattle.held.specs.InnerContracts.{stays_in}
use Rattle.rule_lists.specs.TableContracts.{Notes, StaysIs, AddsRow, SpotIs}
use Rattle.rule_lists.specs.InnerContracts.{Known, ruled, state_of, StateHolds, Ready, RuledIs}
use Rattle.rule_lists.specs.declared.tables.Spot.{Spot}
use Rattle.rule_lists.specs.declared.walk.Task.{Task}
use Rattle.rule_lists.specs.declared.walk.Task.TheVariants.{Survey, Collect}
use Rattle.rule_lists.specs.declared.walk.State.{State}
use Rattle.rule_lists.proofs.TableLaws.{add_is}
use Rattle.base.proofs.Arms.{clash}
use Rattle.base.proofs.PickLaws.{pick_true, pick_false}
use Rattle.rule_lists.specs.Lists.{first_code_of}

pub ready_whole : {bundle : List ℕ} {task : Task} {st : State} {lasts : List ℕ} {rows : List Spot} → Ready bundle task st lasts rows → task ≡ Collect → st.noted ≤ 4096
ready_whole y e = y.whole e

module _ (bundle : List ℕ) (task : Task) (own : ℕ) (st : State) (spot : Spot) (lasts : List ℕ) (rows : List Spot) where
  pub ruled_survey : task ≡ Survey → (m k : ℕ) (lasts' : List ℕ) (rows' : List Spot) → Notes lasts st.noted spot.code own m lasts' → AddsRow rows st.kept spot k rows'
      → RuledIs bundle task own st spot lasts rows (state_of st.followed m k) lasts' rows'
  unfolding ruled first_code_of
  ruled_survey e m k lasts' rows' o p = record {
    followed = refl;
    noted = λ q. clash (cc);
    holds = λ a r h s. rw e (record { noted = rw s.first at (o.is a.lasts h.noted); kept = add_is bundle rows rows' st.kept k spot a.rules r p h.kept s });
  }

  module _ (e : task ≡ Collect) (x : Bool) (y : StaysIs lasts st.noted spot.code st.followed x) where
    stays_by : (a : Known) (r : Rule) → StateHolds bundle lasts rows st a → SpotIs bundle spot r
        → x ≡ stays_in (first_code_of r) st.followed a.lasts
    unfolding first_code_of
    stays_by a r h s = rw s.first at (y.is a.lasts h.noted)

    pub ruled_kept : x ≡ true → (k : ℕ) (rows' : List Spot) → AddsRow rows st.kept spot k rows'
        → RuledIs bundle task own st spot lasts rows (state_of st.followed st.noted k) lasts rows'
    unfolding ruled
    ruled_kept t k rows' o = record {
      followed = refl;
      noted = λ q. refl;
      holds = λ a r h s. rw (e, pick_true _ _ _ (sym (stays_by a r h s) ∙ t)) (record { noted = h.noted; kept = add_is bundle rows rows' st.kept k spot a.rules r o h.kept s });
    }

    pub ruled_passed : x ≡ false → RuledIs bundle task own st spot lasts rows (state_of st.followed st.noted st.kept) lasts rows
    unfolding ruled
    ruled_passed t = record {
      followed = refl;
      noted = λ q. refl;
      holds = λ a r h s. rw (e, pick_false _ _ _ (sym (stays_by a r h s) ∙ t)) (record { noted = h.noted; kept = h.kept });
    }

pub ruleset ruled_laws = (ready_whole, ruled_survey, ruled_kept, ruled_passed, rules)
