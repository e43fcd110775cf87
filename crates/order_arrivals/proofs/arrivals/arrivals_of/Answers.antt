use Rattle.std.proofs.Common.{◌≡◌, arith, subst, refl, ℕ, suc, ◌+◌, length}
use Rattle.order_arrivals.specs.Arrivals.{AreArrivals, AreTradedSums}
use Rattle.order_arrivals.proofs.ArrivalLemmas.{arrivals-first, sums-first}
use Rattle.order_arrivals.proofs.arrivals.arrivals_of.Goals as goal

pub loop-order-init : goal.loop-order-init
loop-order-init c = record {
  sums = sums-first c.args.market.now _ c.in_ok-sums.ensures refl;
  arrivals = arrivals-first c.args.market.now.orders.now c.args.market.now.deals.now _ c.in_ok-with_capacity.ensures.items c.in_ok-with_capacity-2.ensures.items c.in_ok-with_capacity-3.ensures.items;
}

pub loop-order-preserved : goal.loop-order-preserved
loop-order-preserved c =
    let m = c.args.market.now in
    let e : suc c.loop-order.order ≡ c.loop-order.order + 1 = omega arith in
    record {
      sums = subst (λ (k : ℕ). AreTradedSums m k c.add_deals_of.new.self) e c.add_deals_of.ensures;
      arrivals = subst (λ (k : ℕ). AreArrivals m.orders.now m.deals.now k c.arrive.new.self) e c.in_ok-arrive.ensures;
    }

pub returns : goal.returns
returns c =
    let m = c.args.market.now in
    let upto = c.loop-order.auto.order-end in
    let last = c.len-order-end.ensures in
    let test = c.loop-order-test.false in
    let all : c.loop-order.order ≡ length m.orders.now = omega arith in
    subst (λ (k : ℕ). AreArrivals m.orders.now m.deals.now k c.loop-order.arrivals) all c.loop-order.invariant.arrivals
