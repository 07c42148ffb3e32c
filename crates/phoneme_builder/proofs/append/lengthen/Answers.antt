use Rattle.phoneme_builder.proofs.AppendLaws.{lengthen_laws}
use Rattle.phoneme_builder.proofs.append.lengthen.Goals as goal

pub returns-then-e-c-gt-ROW : goal.returns-then-e-c-gt-ROW
returns-then-e-c-gt-ROW c = search lengthen_laws
