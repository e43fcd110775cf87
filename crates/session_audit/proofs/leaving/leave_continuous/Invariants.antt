use Rattle.std.proofs.Common.{◌≡◌, List}
use Rattle.audit_base.specs.declared.orders.Deal.{Deal}
use Rattle.session_audit.specs.Leaving.{HasContinuousTotals, EndsBy, left_numbers_after_continuous}
use Rattle.session_audit.proofs.leaving.leave_continuous.Given as goal

abbrev pub invariant-loop-index : goal.invariant-loop-index
invariant-loop-index l = (deals : List Deal) → HasContinuousTotals l.orders deals l.traded → EndsBy l.orders deals l.last → l.left.items ≡ left_numbers_after_continuous l.orders deals l.last l.index
