-- Whether an order is active, by its Size and what it has traded.
use Rattle.std.specs.Prelude.{◌<◌, ◌^◌, ℕ, suc, Bool, ◌==◌, ◌&&◌, ◌||◌, List}
use Rattle.audit_base.specs.declared.orders.Deal.{Deal}
use Rattle.audit_base.specs.declared.orders.Order.{Order}
use Rattle.audit_base.specs.Continuous.{size_of_order, traded_before}
use Rattle.audit_base.specs.Orders.{may_rest, order_at}
use Rattle.continuous_audit.specs.Records.{AreTradedBefore}
use Rattle.continuous_picture.specs.Sizes.{AreSizesOf}
use Rattle.order_arrivals.specs.DealtOrders.{IsMarket}
use Rattle.order_arrivals.specs.Resting.{has_left_with}
use Rattle.order_book.specs.declared.books.Resting.{Resting}
use Rattle.continuous_picture.specs.declared.active.StateAfterRecord.{StateAfterRecord}

-- an order may rest, or it is the order of the record at a place
abbrev pub may_be_active : Order → ℕ → Bool
may_be_active order place = may_rest order.life || (order.place == place)

-- an order of a record up to a place is active after the record there
abbrev pub active_with : Order → ℕ → ℕ → ℕ → Bool
active_with order place size traded =
    may_be_active order place && has_left_with order (suc place) size traded

-- the orders and the deals
abbrev pub known_orders : StateAfterRecord → List Order
known_orders k = k.market.now.orders.now

abbrev pub known_deals : StateAfterRecord → List Deal
known_deals k = k.market.now.deals.now

-- what each order has traded up to a place, and its Size
pub record IsKnownAt (k : StateAfterRecord) : Type 0 where
  pub market : IsMarket k.market.now
  pub fits : k.place < 2 ^ 33
  pub sizes : AreSizesOf (known_orders k) (known_deals k) k.sizes.now
  pub traded : AreTradedBefore (known_orders k) (known_deals k) (suc k.place) k.traded.now

-- an order is active, by what is known of it
abbrev pub is_known_active : StateAfterRecord → ℕ → Bool
is_known_active k order = active_with (order_at (known_orders k) order) k.place
    (size_of_order (known_orders k) (known_deals k) order)
    (traded_before (known_orders k) (known_deals k) (suc k.place) order)

-- the same of an order in a book
abbrev pub is_active_in_book : StateAfterRecord → Resting → Bool
is_active_in_book k r = is_known_active k r.index
