-- What is judged, and what each order has traded in the deals of the first orders.
use Rattle.std.specs.Prelude.{ℕ, List}
use Rattle.audit_base.specs.Orders.{IsOrderList}
use Rattle.audit_base.specs.Deals.{IsDealList, deal_at}
use Rattle.audit_base.specs.declared.orders.Deal.{Deal}
use Rattle.continuous_audit.specs.IncomingDeals.{AreIncomingDeals}
use Rattle.continuous_audit.specs.Scans.{AreRunningTotals, IsSplitAt, deal_index_at}
use Rattle.order_arrivals.specs.declared.dealt_orders.DealtOrders.{DealtOrders}

-- the deals are over the order list, and each belongs to its incoming order
pub record IsMarket (m : DealtOrders) : Type 0 where
  pub order_list : IsOrderList m.orders.now
  pub deal_list : IsDealList m.orders.now m.deals.now
  pub incoming_deals : AreIncomingDeals m.orders.now m.deals.now m.incoming_deals.now

-- the first of the incoming deals are those of the orders before this one, and each order has
-- traded this much in them
pub record HaveTraded (m : DealtOrders) (order added : ℕ) (traded : List ℕ) : Type 0 where
  pub totals : AreRunningTotals m.orders.now m.deals.now m.incoming_deals.now added traded
  pub split : IsSplitAt m.incoming_deals.now order added

-- the deal at an index of the incoming deals
abbrev pub incoming_deal_at : DealtOrders → ℕ → Deal
incoming_deal_at m index = deal_at m.deals.now (deal_index_at m.incoming_deals.now index)
