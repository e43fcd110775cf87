use Rattle.std.proofs.Common.{◌≤◌, max}
use Rattle.continuous_picture.specs.Columns.{IsRangeIfThere}
use Rattle.continuous_picture.specs.Prices.{IsPriceAmong}
use Rattle.continuous_picture.proofs.prices.prices_of.Given as goal

abbrev pub invariant-loop-index : goal.invariant-loop-index
invariant-loop-index l = record {
  from : l.first ≤ l.index;
  upto : l.index ≤ max l.first l.next;
  prices : IsRangeIfThere (IsPriceAmong l.market l.first l.index) l.prices;
}
