use Rattle.std.proofs.Common.{ℕ, ◌<◌, ◌≡◌, true}
use Rattle.audit_certificate.specs.LastOrders.{is_filled_ahead}
use Rattle.audit_certificate.proofs.last_orders.all_filled_ahead.Given as goal

abbrev pub invariant-loop-index : goal.invariant-loop-index
invariant-loop-index l = (i : ℕ) → i < l.index → is_filled_ahead l.orders l.traded l.side l.last i ≡ true
