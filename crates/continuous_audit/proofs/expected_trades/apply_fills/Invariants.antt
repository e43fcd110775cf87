use Rattle.std.proofs.Common.{take}
use Rattle.continuous_audit.specs.Matching.{AreFillsApplied}
use Rattle.continuous_audit.proofs.expected_trades.apply_fills.Given as goal

abbrev pub invariant-loop-index : goal.invariant-loop-index
invariant-loop-index l = AreFillsApplied (take l.index l.fills) l.initial.traded.items l.initial.left.items l.traded.items l.left.items
