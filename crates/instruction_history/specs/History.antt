-- What a history keeps: an order list in which the keys name the orders.
use Rattle.std.specs.Prelude.{◌≡◌, List, option_and_then}
use Rattle.audit_base.specs.declared.names.Key.{Key}
use Rattle.audit_base.specs.declared.orders.Order.{Order}
use Rattle.audit_base.specs.Histories.{Regular}
use Rattle.audit_base.specs.declared.terms.Side.{Side}
use Rattle.audit_base.specs.Orders.{order_with_key, order_on_side_with_key, IsOrderList, OrdersInRange, HaveOwnKeys}
use Rattle.order_list.specs.declared.keys.Keys.{Keys}
use Rattle.order_list.specs.Keys.{index_on, record_seen_in}

-- the orders are a regular order list with keys of their own, and each key of an order
-- names it with its side
pub record IsHistory (orders : List Order) (keys : Keys) : Type 0 where
  pub order_list : IsOrderList orders
  pub regular : Regular orders
  pub numbers : OrdersInRange orders
  pub own_keys : HaveOwnKeys orders
  pub named : (key : Key) → option_and_then (λ s. s.index) (record_seen_in keys key)
      ≡ order_with_key orders key
  pub sided : (side : Side) (key : Key) →
      option_and_then (index_on side) (record_seen_in keys key)
      ≡ order_on_side_with_key orders side key

-- the orders are a regular order list with keys of their own
pub record IsHistoryOrders (orders : List Order) : Type 0 where
  pub order_list : IsOrderList orders
  pub regular : Regular orders
  pub numbers : OrdersInRange orders
  pub own_keys : HaveOwnKeys orders
