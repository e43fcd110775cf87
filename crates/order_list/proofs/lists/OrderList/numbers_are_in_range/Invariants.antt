use Rattle.std.proofs.Common.{All, take}
use Rattle.audit_base.specs.Orders.{OrderInRange}
use Rattle.order_list.proofs.lists.OrderList.numbers_are_in_range.Given as goal

abbrev pub invariant-loop-index : goal.invariant-loop-index
invariant-loop-index l = All OrderInRange (take l.index l.self)
