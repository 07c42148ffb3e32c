use Rattle.std.proofs.Common.{refl}
use Rattle.texts.proofs.Laws.{dollar_off}
use Rattle.texts.proofs.without_dollar.Goals as goal

pub returns : goal.returns
returns c = dollar_off _ _ _ _ refl c.unwrap_or.ensures c.strip_suffix.ensures.cases
