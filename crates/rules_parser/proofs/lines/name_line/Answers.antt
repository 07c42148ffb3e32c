use Rattle.rules_parser.proofs.LineLaws.{in_order}
use Rattle.base.proofs.PickLaws.{cases}
use Rattle.rules_parser.specs.Lines.{name_at}
use Rattle.rules_parser.proofs.lines.name_line.Goals as goal

pub returns-then-ends : goal.returns-then-ends
unfolding name_at
returns-then-ends c = search (in_order, cases, c.in_ok-name.was)

pub returns-else-ends : goal.returns-else-ends
unfolding name_at
returns-else-ends c = search (in_order, cases, c.in_ok-name.was)
