use Rattle.texts.proofs.Chars.{Seeking}
use lib.ListN.{length}
use Prim.Native.Nat.{◌-◌}
use Rattle.texts.proofs.reads_char.Given as goal

abbrev pub invariant-loop-code : goal.invariant-loop-code
invariant-loop-code l = Seeking l.k l.l l.p

abbrev pub decreases-loop-code : goal.decreases-loop-code
decreases-loop-code l = length l.l - l.p
