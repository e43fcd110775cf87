-- The due of an order: the quantity that it trades in every conforming list.
use Rattle.std.specs.Prelude.{ℕ, Bool, ◌&&◌, List, slice_index}
use Rattle.audit_base.specs.declared.terms.Side.{Side}
use Rattle.audit_base.specs.declared.orders.Order.{Order}
use Rattle.audit_base.specs.declared.flaws.DueOrder.{DueOrder}
use Rattle.audit_base.specs.Orders.{side_at, is_uncancelled_on}
use Rattle.audit_base.specs.Priority.{outranks}
use Rattle.audit_base.specs.Units.{due_by_rank}

-- no record cancels the order, and it is of this side and better than the other
abbrev pub is_ahead : Side → Order → Order → Bool
is_ahead side o other = is_uncancelled_on side o && outranks side o other

-- an order with what it traded and its due
abbrev pub order_with_due : List Order → List ℕ → ℕ → ℕ → DueOrder
order_with_due orders traded most i = record {
  order = record { index = i; traded = slice_index traded i };
  due = due_by_rank orders (side_at orders i) most i;
}
