use Rattle.rules_parser.proofs.LineLaws.{in_order}
use Rattle.base.proofs.PickLaws.{cases}
use Rattle.rules_parser.specs.Lines.{four_at, last_two}
use Rattle.rules_parser.proofs.lines.four.Goals as goal

pub returns-in_err-left : goal.returns-in_err-left
unfolding four_at last_two
returns-in_err-left c = search (in_order, cases, c.in_ok-pattern.was, c.in_err-left.was)

pub returns-in_err-right : goal.returns-in_err-right
unfolding four_at last_two
returns-in_err-right c = search (in_order, cases, c.in_ok-pattern.was, c.in_ok-left.was, c.in_err-right.was)

pub returns-in_err-expression : goal.returns-in_err-expression
unfolding four_at last_two
returns-in_err-expression c = search (in_order, cases, c.in_ok-pattern.was, c.in_ok-left.was, c.in_ok-right.was, c.in_err-expression.was)

pub returns-then-tail : goal.returns-then-tail
unfolding four_at last_two
returns-then-tail c = search (in_order, cases, c.in_ok-pattern.was, c.in_ok-left.was, c.in_ok-right.was, c.in_ok-expression.was) depth 9

pub returns-else-tail : goal.returns-else-tail
unfolding four_at last_two
returns-else-tail c = search (in_order, cases, c.in_ok-pattern.was, c.in_ok-left.was, c.in_ok-right.was, c.in_ok-expression.was) depth 9
