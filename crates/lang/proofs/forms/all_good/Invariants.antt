use Rattle.lang.proofs.FormLaws.{Passing}
use lib.ListN.{length}
use Rattle.lang.proofs.forms.all_good.Given as goal

abbrev pub invariant-loop-rest : goal.invariant-loop-rest
invariant-loop-rest l = Passing l.t l.rest

abbrev pub decreases-loop-rest : goal.decreases-loop-rest
decreases-loop-rest l = length l.rest
