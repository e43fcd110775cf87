use Rattle.std.proofs.Common.{◌≡◌, ◌≤◌, ◌<◌, ◌-◌, ℕ, length}
use Rattle.continuous_audit.specs.Scans.{AreRunningTotals, incoming_order_at}
use Rattle.order_arrivals.proofs.totals.TradedSoFar.add_deals_of.Given as goal

abbrev pub invariant-loop-self : goal.invariant-loop-self
invariant-loop-self l = record {
  from : l.initial.self.added ≤ l.self.added;
  own : (i : ℕ) → l.initial.self.added ≤ i → i < l.self.added → incoming_order_at l.incoming_deals i ≡ l.order;
  totals : AreRunningTotals l.market.orders.now l.deals l.incoming_deals l.self.added l.self.traded.items;
}

abbrev pub decreases-loop-self : goal.decreases-loop-self
decreases-loop-self l = length l.incoming_deals - l.self.added
