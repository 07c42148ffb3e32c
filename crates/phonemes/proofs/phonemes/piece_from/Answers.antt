use Rattle.phonemes.proofs.ExprLaws.{piece_laws}
use Rattle.phonemes.proofs.phonemes.piece_from.Goals as goal

pub overflow_add-result : goal.overflow_add-result
overflow_add-result c = search piece_laws
