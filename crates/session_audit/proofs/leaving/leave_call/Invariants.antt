use Rattle.std.proofs.Common.{◌≡◌}
use Rattle.session_audit.specs.Leaving.{left_numbers_after_call}
use Rattle.session_audit.proofs.leaving.leave_call.Given as goal

abbrev pub invariant-loop-index : goal.invariant-loop-index
invariant-loop-index l = l.left.items ≡ left_numbers_after_call l.orders l.traded l.index
