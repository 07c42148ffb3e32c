use Rattle.texts.proofs.SignatureLaws.{Signing}
use Rattle.texts.proofs.signatures.signature.Given as goal

abbrev pub invariant-loop-b : goal.invariant-loop-b
invariant-loop-b l = Signing l.s l.b-index l.bits
