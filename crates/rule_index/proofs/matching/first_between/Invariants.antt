use Rattle.rule_index.proofs.MatchLaws.{Finding}
use Rattle.rule_index.specs.Matching.{first_match}
use Rattle.rule_index.specs.InnerContracts.{rules_between}
use Prim.Native.Nat.{◌-◌}
use Rattle.rule_index.proofs.matching.first_between.Given as goal

abbrev pub invariant-loop-at : goal.invariant-loop-at
invariant-loop-at l = Finding l.pack l.word l.place (first_match (rules_between l.stop l.pack l.start l.stop) l.word l.place) l.at l.stop

abbrev pub decreases-loop-at : goal.decreases-loop-at
decreases-loop-at l = l.stop - l.at
