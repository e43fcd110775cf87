use Rattle.std.proofs.Common.{◌≡◌, None}
use Rattle.std.specs.Prelude.{not}
use Rattle.audit_base.specs.Least.{least_with}
use Rattle.audit_base.specs.Orders.{may_rest, order_at}
use Rattle.record_verdict.proofs.scopes.first_instant.Given as goal

abbrev pub invariant-loop-index : goal.invariant-loop-index
invariant-loop-index l = least_with (λ i. not (may_rest (order_at l.orders i).life)) l.index ≡ None
