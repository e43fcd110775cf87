use Rattle.std.proofs.Common.{◌≡◌}
use Rattle.continuous_audit.specs.Endings.{endings_below}
use Rattle.continuous_audit.proofs.endings.collect_endings.Given as goal

abbrev pub invariant-loop-index : goal.invariant-loop-index
invariant-loop-index l = l.endings.items ≡ endings_below l.orders l.index
