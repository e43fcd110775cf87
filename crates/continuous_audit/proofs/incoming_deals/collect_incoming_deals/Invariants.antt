use Rattle.std.proofs.Common.{◌≡◌}
use Rattle.continuous_audit.specs.IncomingDeals.{incoming_deals_below}
use Rattle.continuous_audit.proofs.incoming_deals.collect_incoming_deals.Given as goal

abbrev pub invariant-loop-index : goal.invariant-loop-index
invariant-loop-index l = l.incoming_deals.items ≡ incoming_deals_below l.orders l.deals l.index
