use Rattle.std.proofs.Common.{◌≡◌, None}
use Rattle.audit_base.specs.Least.{least_with}
use Rattle.audit_base.specs.Orders.{order_at}
use Rattle.session_audit.specs.Instants.{is_instant_order}
use Rattle.session_audit.proofs.instants.first_instant_of_day.Given as goal

abbrev pub invariant-loop-index : goal.invariant-loop-index
invariant-loop-index l = least_with (λ i. is_instant_order l.phases (order_at l.orders i)) l.index ≡ None
