use Rattle.std.proofs.Common.{◌∙◌}
use Rattle.lower_case.specs.Lower.{lower_table}
use Rattle.lower_case.proofs.LowerLaws.{lower_in_lem}
use Rattle.lower_case.proofs.lower_case.lower.Goals as goal

pub returns-then-code-lt384 : goal.returns-then-code-lt384
unfolding lower_table
returns-then-code-lt384 c = c.from.ensures ∙ lower_in_lem c.args.code c.if-code-lt384.true
