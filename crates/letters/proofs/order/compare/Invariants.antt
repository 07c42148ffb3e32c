use Rattle.letters.specs.OrderContracts.{Left}
use Rattle.std.specs.declared.cmp.Ordering.{Ordering}
use Rattle.letters.specs.Order.{order_of}
use Rattle.letters.proofs.order.compare.Given as goal

abbrev pub invariant-loop-i : goal.invariant-loop-i
invariant-loop-i l = Left Ordering order_of l.a l.b l.i
