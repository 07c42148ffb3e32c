use Rattle.std.proofs.Common.{length, ◌+◌, ◌-◌, ◌*◌}
use Rattle.rule_lists.proofs.GoingLaws.{Going}
use Rattle.rule_lists.proofs.walk.+follow_walk.Given as goal

-- each walk goes to includes, and each include to a walk that may nest one file fewer
abbrev pub decreases-follow : goal.decreases-follow
decreases-follow l = l.at.left * 2

abbrev pub decreases-walk : goal.decreases-walk
decreases-walk l = l.source.left * 2 + 1

abbrev pub invariant-walk-loop-p : goal.invariant-walk-loop-p
invariant-walk-loop-p l = Going l.source l.task l.bundle l.names l.st0 l.initial.lasts l.initial.rows l.s l.lasts l.rows l.st l.p l.line

abbrev pub decreases-walk-loop-p : goal.decreases-walk-loop-p
decreases-walk-loop-p l = length l.s - l.p
