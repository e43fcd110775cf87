use Rattle.std.proofs.Common.{◌-◌}
use Rattle.continuous_picture.specs.Walks.{IsWalk}
use Rattle.continuous_picture.proofs.RowLemmas.{AreSoFar}
use Rattle.continuous_picture.proofs.columns.columns_of.Given as goal

abbrev pub invariant-loop-first : goal.invariant-loop-first
invariant-loop-first l = record {
  walk : IsWalk l.market l.first l.first l.walk;
  columns : AreSoFar l.market.orders.now l.market.deals.now l.from l.end l.width l.first l.columns.items;
}

abbrev pub decreases-loop-first : goal.decreases-loop-first
decreases-loop-first l = l.end - l.first
