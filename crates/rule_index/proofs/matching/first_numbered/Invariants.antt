use Rattle.rule_index.proofs.MatchLaws.{NumbersLeft}
use Rattle.rule_index.specs.Matching.{first_match}
use Rattle.rule_index.specs.InnerContracts.{numbered}
use Prim.Native.Nat.{◌-◌}
use Rattle.rule_index.proofs.matching.first_numbered.Given as goal

abbrev pub invariant-loop-number : goal.invariant-loop-number
invariant-loop-number l = NumbersLeft l.pack l.table l.word l.place (first_match (numbered l.pack l.table l.word l.place l.start (l.stop - l.start)) l.word l.place) l.number l.stop
