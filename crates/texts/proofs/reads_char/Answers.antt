use Rattle.texts.proofs.Chars.{seeking_laws}
use Rattle.texts.proofs.reads_char.Goals as goal

pub loop-code-preserved-in-Char : goal.loop-code-preserved-in-Char
loop-code-preserved-in-Char c = search seeking_laws
