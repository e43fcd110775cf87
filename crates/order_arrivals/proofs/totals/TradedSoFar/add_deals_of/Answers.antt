use Rattle.std.proofs.Common.{inl, inr, ◌∙◌, ap, arith}
use Rattle.std.proofs.lemmas.Bool.{cases_eq}
use Rattle.continuous_audit.specs.Scans.{incoming_order_at}
use Rattle.continuous_audit.proofs.ScanLemmas.{running-read}
use Rattle.order_arrivals.proofs.SplitLemmas.{split-next}
use Rattle.order_arrivals.proofs.totals.TradedSoFar.add_deals_of.Goals as goal

pub loop-self-preserved : goal.loop-self-preserved
loop-self-preserved c =
    let m = c.args.market.now in
    let at = c.loop-self.self.added in
    record {
      from = let l = c.loop-self.invariant.from in omega arith;
      own = λ i le lt. elim (cases_eq i at) [
        | inl e ↦ ap (incoming_order_at m.incoming_deals.now) e ∙ c.if-incoming-order.false
        | inr ne ↦ c.loop-self.invariant.own i le (omega (arith, ne))
      ];
      totals = running-read m.orders.now c.requires.market.order_list m.deals.now c.requires.market.deal_list m.incoming_deals.now c.requires.market.incoming_deals c.args.order c.requires.order at c.loop-self-test.true c.loop-self.self.traded.items c.loop-self.invariant.totals
          c.index-deals-incoming.result c.index-deals-incoming.is c.value-quantity.result c.value-quantity.ensures.same c.value-quantity.ensures.in_range.most c.add_deal.new.traded.items c.add_deal.ensures.added;
    }

pub returns-then-incoming-order : goal.returns-then-incoming-order
returns-then-incoming-order c =
    let m = c.args.market.now in
    let i = c.loop-self.invariant in
    record {
      totals = i.totals;
      split = split-next m.orders.now m.deals.now m.incoming_deals.now c.requires.market.incoming_deals c.args.order c.args.self.now.added c.loop-self.self.added c.requires.before.split i.from i.own (λ lt. c.if-incoming-order.true);
    }
