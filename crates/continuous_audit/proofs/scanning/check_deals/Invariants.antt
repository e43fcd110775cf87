use Rattle.std.proofs.Common.{◌≡◌, ◌≤◌, ◌<◌, ◌-◌, ℕ, length, None}
use Rattle.audit_base.specs.Orders.{place_at}
use Rattle.audit_base.specs.ContinuousOffences.{conservation_finding}
use Rattle.continuous_audit.specs.Scans.{AreRunningTotals, AreWithinGreatestSize, deal_index_at, incoming_order_at}
use Rattle.continuous_audit.proofs.scanning.check_deals.Given as goal

abbrev pub invariant-loop-running : goal.invariant-loop-running
invariant-loop-running l = record {
  from : l.initial.running.added ≤ l.running.added;
  own : (i : ℕ) → l.initial.running.added ≤ i → i < l.running.added → incoming_order_at l.incoming_deals i ≡ l.order;
  totals : AreRunningTotals l.orders l.deals l.incoming_deals l.running.added l.running.traded.items;
  most : AreWithinGreatestSize l.running.traded.items;
  clean : (i : ℕ) → l.initial.running.added ≤ i → i < l.running.added → conservation_finding l.orders l.deals (place_at l.orders l.order) (deal_index_at l.incoming_deals i) ≡ None;
}

abbrev pub decreases-loop-running : goal.decreases-loop-running
decreases-loop-running l = length l.incoming_deals - l.running.added
