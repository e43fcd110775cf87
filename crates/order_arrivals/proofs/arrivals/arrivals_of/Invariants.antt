use Rattle.order_arrivals.specs.Arrivals.{AreArrivals, AreTradedSums}
use Rattle.order_arrivals.proofs.arrivals.arrivals_of.Given as goal

abbrev pub invariant-loop-order : goal.invariant-loop-order
invariant-loop-order l = record {
  sums : AreTradedSums l.market l.order l.sums;
  arrivals : AreArrivals l.market.orders.now l.market.deals.now l.order l.arrivals;
}
