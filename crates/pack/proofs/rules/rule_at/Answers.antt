use mathlib.Core.Path.{◌∙◌}
use Rattle.pack.proofs.RuleLaws.{rule_cut_3, rule_cut_4, rule_whole}
use Rattle.pack.proofs.rules.rule_at.Goals as goal

pub returns-in_err-right : goal.returns-in_err-right
returns-in_err-right c =
    c.from_residual-in_err-right.ensures ∙ rule_cut_3 _ _ _ c.string_at.ensures _ c.in_ok-pattern.was _ c.string_at-2.ensures _ c.in_ok-left.was _ c.string_at-3.ensures c.in_err-right.was

pub returns-in_err-expression : goal.returns-in_err-expression
returns-in_err-expression c =
    c.from_residual-in_err-expression.ensures
    ∙ rule_cut_4 _ _ _ c.string_at.ensures _ c.in_ok-pattern.was _ c.string_at-2.ensures _ c.in_ok-left.was _ c.string_at-3.ensures _ c.in_ok-right.was _ c.string_at-4.ensures c.in_err-expression.was

pub returns : goal.returns
returns c =
    rule_whole _ _ _ c.string_at.ensures _ c.in_ok-pattern.was _ c.string_at-2.ensures _ c.in_ok-left.was _ c.string_at-3.ensures _ c.in_ok-right.was _ c.string_at-4.ensures _ c.in_ok-expression.was
