use Rattle.pack.proofs.RuleLaws.{rule_below, rule_bad, rule_fine}
use Rattle.pack.proofs.rules.next_rule.Goals as goal
use Rattle.pack.proofs.rules.next_rule.Goals.{else-least-code-via-then-least-code+else-rule_good, else-least-code-via-else-least-code}

pub returns-then-rule_good : goal.returns-then-rule_good
returns-then-rule_good c =
    rule_fine _ _ _ c.rule_at.ensures _ c.in_ok-rule.was _ _ _ c.first_code-code.ensures c.if-least-code.true _ c.rule_good.ensures c.if-rule_good.true

pub returns-else-least-code : goal.returns-else-least-code
returns-else-least-code c =
    elim c.else-least-code.branch [
      | else-least-code-via-then-least-code+else-rule_good w ↦
          rule_bad _ _ _ c.rule_at.ensures _ c.in_ok-rule.was _ _ _ c.first_code-code.ensures w.if-least-code.true _ w.rule_good.ensures w.if-rule_good.false
      | else-least-code-via-else-least-code w ↦ rule_below _ _ _ c.rule_at.ensures _ c.in_ok-rule.was _ _ _ c.first_code-code.ensures w.if-least-code.false
    ]
