use Rattle.std.proofs.Common.{◌≡◌, ◌++◌, map, take}
use Rattle.continuous_audit.specs.Pairs.{fill_pair}
use Rattle.continuous_audit.proofs.pairs.push_pairs.Given as goal

abbrev pub invariant-loop-index : goal.invariant-loop-index
invariant-loop-index l = l.pairs.items ≡ l.initial.pairs.items ++ map (fill_pair l.side l.order) (take l.index l.fills)
