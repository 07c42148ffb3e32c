use Rattle.rule_lines.proofs.Laws.{string_laws}
use Rattle.rule_lines.proofs.expression_good.Goals as goal

pub returns-then-is_rule_text : goal.returns-then-is_rule_text
returns-then-is_rule_text c = search string_laws
