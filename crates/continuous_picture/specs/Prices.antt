-- The prices of some of the incoming deals.
use Rattle.std.specs.Prelude.{◌≡◌, ◌<◌, ◌≤◌, ℕ}
use Rattle.order_arrivals.specs.declared.dealt_orders.DealtOrders.{DealtOrders}
use Rattle.order_arrivals.specs.DealtOrders.{incoming_deal_at}

-- one of the incoming deals from this index to before that has this price
pub record IsPriceAmong (m : DealtOrders) (first next price : ℕ) : Type 0 where
  pub index : ℕ
  pub from : first ≤ index
  pub to : index < next
  pub is : (incoming_deal_at m index).price ≡ price
