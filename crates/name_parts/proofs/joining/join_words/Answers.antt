use Rattle.name_parts.proofs.JoinLaws.{join_here, join_laws}
use Rattle.name_parts.proofs.joining.join_words.Goals as goal

pub returns-in-Some : goal.returns-in-Some
returns-in-Some c =
    let taken = c.in-Some.ensures in
    join_here _ _ _ _ _ c.loop-w.invariant _ taken.0 taken.1 _ taken.2 _ c.kept_of-k.ensures _ c.drops_out.ensures c.if-drops_out.false _ _ _ _ c.copy-n.ensures c.add_words.ensures

pub returns : goal.returns
returns c = let none = c.in_default.ensures in search join_laws
