use Rattle.phonemes.proofs.CutLaws.{Naming}
use lib.ListN.{length}
use Rattle.phonemes.proofs.phonemes.names_mask.Given as goal

abbrev pub invariant-loop-name : goal.invariant-loop-name
invariant-loop-name l = Naming l.names l.joined (length l.yielded) l.mask
