use Rattle.std.proofs.Common.{◌≡◌, ◌<◌, ◌≤◌, ◌-◌, ℕ, length, true}
use Rattle.std.specs.Prelude.{nat_le}
use Rattle.audit_base.specs.Orders.{place_at}
use Rattle.session_audit.proofs.entering.order_count_through.Given as goal

abbrev pub invariant-loop-count : goal.invariant-loop-count
invariant-loop-count l = record {
  inside : l.count ≤ length l.orders;
  passes : (k : ℕ) → k < l.count → nat_le (place_at l.orders k) l.last ≡ true;
}

abbrev pub decreases-loop-count : goal.decreases-loop-count
decreases-loop-count l = length l.orders - l.count
