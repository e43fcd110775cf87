-- What is known after the deals of an order.
use Rattle.std.specs.Prelude.{◌<◌, ℕ, suc, List, length}
use Rattle.audit_base.specs.ContinuousOffences.{traded_shown_after}
use Rattle.audit_base.specs.Orders.{place_at}
use Rattle.audit_base.specs.declared.flaws.TradedOrder.{TradedOrder}
use Rattle.audit_base.specs.declared.orders.Deal.{Deal}
use Rattle.audit_base.specs.declared.orders.Order.{Order}
use Rattle.continuous_audit.specs.Records.{AreTradedBefore}
use Rattle.continuous_offences.specs.declared.state_after_deals.StateAfterDeals.{StateAfterDeals}
use Rattle.order_arrivals.specs.Arrivals.{AreArrivals}
use Rattle.order_arrivals.specs.DealtOrders.{IsMarket}

-- the orders and the deals, and the place of the order
abbrev pub orders_of : StateAfterDeals → List Order
orders_of d = d.market.now.orders.now

abbrev pub deals_of : StateAfterDeals → List Deal
deals_of d = d.market.now.deals.now

abbrev pub place_of : StateAfterDeals → ℕ
place_of d = place_at (orders_of d) d.order

-- what each order has traded in the deals of the orders up to this one
pub record IsDealt (d : StateAfterDeals) : Type 0 where
  pub market : IsMarket d.market.now
  pub order : d.order < length (orders_of d)
  pub arrivals : AreArrivals (orders_of d) (deals_of d) (length (orders_of d)) d.arrivals.now
  pub traded : AreTradedBefore (orders_of d) (deals_of d) (suc (place_of d)) d.traded.now

-- an order as an offence shows it
abbrev pub shown_after : StateAfterDeals → ℕ → TradedOrder
shown_after d order = record {
  index = order;
  traded = traded_shown_after (orders_of d) (deals_of d) (place_of d) order;
}
