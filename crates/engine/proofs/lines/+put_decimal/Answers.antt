use Rattle.engine.proofs.LineLaws.{lines_laws}
use Rattle.engine.proofs.lines.+put_decimal.Goals as goal

pub returns-then-n-lt10 : goal.returns-then-n-lt10
returns-then-n-lt10 t c = search lines_laws

pub returns : goal.returns
returns t c = search lines_laws
