-- Both sides of an order list in rank order.
use Rattle.std.specs.Prelude.{List}
use Rattle.audit_base.specs.declared.terms.Side.TheVariants.{Buy, Sell}
use Rattle.audit_base.specs.declared.orders.Order.{Order}
use Rattle.audit_base.specs.Priority.{IsRanked}
use Rattle.rank_order.specs.declared.ranking.RankedSides.{RankedSides}

-- on each side the orders that no record cancels, from the best to the worst
pub record AreRanked (orders : List Order) (sides : RankedSides) : Type 0 where
  pub bids : IsRanked orders Buy sides.bids.items
  pub asks : IsRanked orders Sell sides.asks.items
