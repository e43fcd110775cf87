use Rattle.std.proofs.Common.{◌-◌, length}
use Rattle.volume_bound.specs.Adding.{AllCount, AreAddedLimits}
use Rattle.volume_bound.proofs.adding.add_from.Given as goal

abbrev pub invariant-loop-added : goal.invariant-loop-added
invariant-loop-added l = record {
  added : AreAddedLimits l.limits l.added;
  count : AllCount l.edge l.limits l.added.count;
}

abbrev pub decreases-loop-added : goal.decreases-loop-added
decreases-loop-added l = length l.limits - l.added.count
