use Rattle.std.proofs.Common.{refl}
use Rattle.texts.proofs.Laws.{caret_off}
use Rattle.texts.proofs.without_caret.Goals as goal

pub returns : goal.returns
returns c = caret_off _ _ _ _ refl c.unwrap_or.ensures c.strip_prefix.ensures.cases
