use Rattle.rule_index.proofs.MatchLaws.{finding_laws, finding_cut, finding_found, finding_less}
use Rattle.rule_index.proofs.matching.first_between.Goals as goal
use native.Mathlib.Omega.{arith}

pub returns-then-rule_matches : goal.returns-then-rule_matches
returns-then-rule_matches c =
    finding_found c.loop-at.invariant _ c.rule_at.ensures _ c.in_ok-rule.was c.loop-at-test.true _ c.rule_matches.ensures _ c.if-rule_matches.true (omega (arith, c.max.ensures))

pub loop-at-smaller : goal.loop-at-smaller
loop-at-smaller c = finding_less c.loop-at.invariant _ c.rule_at.ensures _ c.in_ok-rule.was c.loop-at-test.true

pub returns : goal.returns
returns c = search finding_laws

pub returns-in_err-rule : goal.returns-in_err-rule
returns-in_err-rule c = rw c.from_residual.ensures (finding_cut c.loop-at.invariant _ c.rule_at.ensures c.in_err-rule.was)
