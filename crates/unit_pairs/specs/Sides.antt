-- The lots of both sides of a ranked order list.
use Rattle.std.specs.Prelude.{◌≡◌, ℕ, List}
use Rattle.audit_base.specs.declared.orders.Order.{Order}
use Rattle.audit_base.specs.Orders.{IsOrderList}
use Rattle.rank_order.specs.declared.ranking.RankedSides.{RankedSides}
use Rattle.rank_order.specs.Sides.{AreRanked}
use Rattle.unit_pairs.specs.declared.lots.SideLots.{SideLots}
use Rattle.unit_pairs.specs.Lots.{lots_total, AreLotsOf}

-- on each side the lots of its best orders, which together are the volume
pub record AreSideLots (orders : List Order) (sides : RankedSides) (volume : ℕ)
    (lots : SideLots) : Type 0 where
  pub order_list : IsOrderList orders
  pub ranked : AreRanked orders sides
  pub of_bids : AreLotsOf orders sides.bids.items volume lots.bids.items
  pub of_asks : AreLotsOf orders sides.asks.items volume lots.asks.items
  pub bids_whole : lots_total lots.bids.items ≡ volume
  pub asks_whole : lots_total lots.asks.items ≡ volume
