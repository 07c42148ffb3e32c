use Rattle.name_parts.proofs.JoinLaws.{join_laws}
use Rattle.name_parts.proofs.joining.join_prefix.Goals as goal

pub returns : goal.returns
returns c = search join_laws
