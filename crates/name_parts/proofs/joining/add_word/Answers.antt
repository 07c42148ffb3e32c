use Rattle.name_parts.proofs.JoinLaws.{join_laws}
use Rattle.name_parts.proofs.joining.add_word.Goals as goal

pub returns-then-drops_out : goal.returns-then-drops_out
returns-then-drops_out c = search join_laws

pub returns : goal.returns
returns c = search join_laws
