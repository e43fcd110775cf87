use Rattle.audit_base.specs.Orders.{order_at}
use Rattle.audit_base.specs.Units as units
use Rattle.order_list.specs.Sums.{IsSumUpto}
use Rattle.call_audit.proofs.dues.ahead_of.Given as goal

abbrev pub invariant-loop-order : goal.invariant-loop-order
invariant-loop-order l = IsSumUpto (λ o. units.quantity_if_ahead (order_at l.orders l.fn.index).side o (order_at l.orders l.fn.index)) l.orders l.order l.sum
