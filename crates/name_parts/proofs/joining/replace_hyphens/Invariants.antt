use Rattle.name_parts.proofs.JoinLaws.{Parting}
use Rattle.name_parts.proofs.joining.replace_hyphens.Given as goal

abbrev pub invariant-loop-b : goal.invariant-loop-b
invariant-loop-b l = Parting l.initial.name l.name l.b-index
