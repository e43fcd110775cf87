use Rattle.std.proofs.Common.{◌≤◌}
use Rattle.audit_base.specs.declared.terms.Side.TheVariants.{Buy, Sell}
use Rattle.continuous_picture.specs.Columns.{IsBestWithin, IsRangeIfThere}
use Rattle.continuous_picture.specs.Walks.{IsWalk}
use Rattle.continuous_picture.proofs.columns.add_column.Given as goal

abbrev pub invariant-loop-place : goal.invariant-loop-place
invariant-loop-place l = record {
  from : l.first ≤ l.place;
  walk : IsWalk l.market l.place l.place l.walk;
  bids : IsRangeIfThere (IsBestWithin l.market.orders.now l.market.deals.now Buy l.first l.place) l.bids;
  asks : IsRangeIfThere (IsBestWithin l.market.orders.now l.market.deals.now Sell l.first l.place) l.asks;
}
