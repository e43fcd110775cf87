use Rattle.std.proofs.Common.{◌≡◌, ◌+◌, ◌++◌}
use Rattle.continuous_audit.specs.Fills.{fills_of, resting_after_fills, total_filled}
use Rattle.continuous_audit.proofs.fills.take_fills.Given as goal

abbrev pub invariant-loop-fill : goal.invariant-loop-fill
invariant-loop-fill l = record {
  side : l.book.side ≡ l.initial.book.side;
  fills : l.fills.items ++ fills_of l.side l.limit l.left l.book.resting ≡ fills_of l.side l.limit l.size l.initial.book.resting;
  rest : resting_after_fills l.side l.limit l.left l.book.resting ≡ resting_after_fills l.side l.limit l.size l.initial.book.resting;
  left : l.left + total_filled l.fills.items ≡ l.size;
}

abbrev pub decreases-loop-fill : goal.decreases-loop-fill
decreases-loop-fill l = l.left
