use Rattle.std.proofs.Common.{◌<◌, ◌≤◌, ◌+◌, ◌-◌, ◌*◌}
use Rattle.order_arrivals.specs.PrefixSums.{IsPowerOfTwo}
use Rattle.order_arrivals.proofs.prefix_sums.width_for.Given as goal

abbrev pub invariant-loop-width : goal.invariant-loop-width
invariant-loop-width l = record {
  power : IsPowerOfTwo l.width;
  some : 0 < l.width;
  most : l.width ≤ 2 * l.count + 1;
}

abbrev pub decreases-loop-width : goal.decreases-loop-width
decreases-loop-width l = 2 * l.count + 1 - l.width
