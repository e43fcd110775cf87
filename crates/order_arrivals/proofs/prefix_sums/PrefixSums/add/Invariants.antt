use Rattle.std.proofs.Common.{◌≡◌}
use Rattle.order_arrivals.specs.PrefixSums.{IsAdding}
use Rattle.order_arrivals.proofs.prefix_sums.PrefixSums.add.Given as goal

abbrev pub invariant-loop-node : goal.invariant-loop-node
invariant-loop-node l = record {
  width : l.self.width ≡ l.initial.self.width;
  adding : IsAdding l.initial.self.nodes.items l.initial.self.width l.index l.amount l.node l.self.nodes.items;
}

abbrev pub decreases-loop-node : goal.decreases-loop-node
decreases-loop-node l = l.node
