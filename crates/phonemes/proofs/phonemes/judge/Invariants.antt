use Rattle.phonemes.proofs.CutLaws.{Judging}
use lib.ListN.{length}
use Rattle.phonemes.proofs.phonemes.judge.Given as goal

abbrev pub invariant-loop-part : goal.invariant-loop-part
invariant-loop-part l = Judging l.names l.t l.more (length l.yielded) l.count l.known
