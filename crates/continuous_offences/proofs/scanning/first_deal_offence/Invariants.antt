use Rattle.std.proofs.Common.{◌≡◌, ◌≤◌, ◌<◌, ◌-◌, ℕ, length, IfSome, option_map}
use Rattle.audit_base.specs.Orders.{place_at}
use Rattle.audit_base.specs.ContinuousOffences.{conservation_finding}
use Rattle.call_offences.specs.Inside.{IsOffenceInside}
use Rattle.continuous_audit.specs.Scans.{AreRunningTotals, incoming_order_at}
use Rattle.offence_list.specs.ListedOffences.{finding_of_offence}
use Rattle.continuous_offences.specs.Scanning.{IsFirstFound}
use Rattle.continuous_offences.proofs.scanning.first_deal_offence.Given as goal

abbrev pub invariant-loop-running : goal.invariant-loop-running
invariant-loop-running l = record {
  from : l.initial.running.added ≤ l.running.added;
  own : (i : ℕ) → l.initial.running.added ≤ i → i < l.running.added → incoming_order_at l.incoming_deals i ≡ l.order;
  totals : AreRunningTotals l.orders l.deals l.incoming_deals l.running.added l.running.traded.items;
  found : IsFirstFound (conservation_finding l.orders l.deals (place_at l.orders l.order)) l.incoming_deals l.order l.initial.running.added l.running.added (option_map (finding_of_offence l.orders) l.first);
  inside : IfSome l.first (IsOffenceInside l.orders);
}

abbrev pub decreases-loop-running : goal.decreases-loop-running
decreases-loop-running l = length l.incoming_deals - l.running.added
