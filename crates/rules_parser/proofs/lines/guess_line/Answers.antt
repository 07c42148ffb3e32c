use Rattle.rules_parser.proofs.LineLaws.{in_order}
use Rattle.base.proofs.PickLaws.{cases}
use Rattle.rules_parser.specs.Lines.{guess_at, guess_end}
use Rattle.rules_parser.proofs.lines.guess_line.Goals as goal

pub returns-in_err-names : goal.returns-in_err-names
unfolding guess_at guess_end
returns-in_err-names c = search (in_order, cases, c.in_ok-pattern.was, c.in_err-names.was)

pub returns-in_err-accept : goal.returns-in_err-accept
unfolding guess_at guess_end
returns-in_err-accept c = search (in_order, cases, c.in_ok-pattern.was, c.in_ok-names.was, c.in_err-accept.was)

pub returns-then-ends : goal.returns-then-ends
unfolding guess_at guess_end
returns-then-ends c = search (in_order, cases, c.in_ok-pattern.was, c.in_ok-names.was, c.in_ok-accept.was)

pub returns-else-ends : goal.returns-else-ends
unfolding guess_at guess_end
returns-else-ends c = search (in_order, cases, c.in_ok-pattern.was, c.in_ok-names.was, c.in_ok-accept.was)
