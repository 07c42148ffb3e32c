use Rattle.name_parts.proofs.JoinLaws.{add_end}
use Rattle.name_parts.proofs.joining.add_words.Goals as goal

pub returns : goal.returns
returns c = add_end _ _ _ _ _ _ _ _ c.loop-w.invariant c.in_default.ensures
