use Rattle.rule_lines.proofs.Laws.{context_laws}
use Rattle.rule_lines.proofs.right_good.Goals as goal

pub returns-then-is_rule_text : goal.returns-then-is_rule_text
returns-then-is_rule_text c = search context_laws
