use Rattle.std.proofs.Common.{inl, inr, ◌∙◌, ap, arith, subst, sym}
use Rattle.std.proofs.lemmas.Bool.{cases_eq}
use Rattle.order_arrivals.specs.Families.{AreFamilies}
use Rattle.continuous_audit.specs.Scans.{incoming_order_at}
use Rattle.continuous_audit.proofs.ScanLemmas.{running-read}
use Rattle.order_arrivals.proofs.ArrivalLemmas.{added-both, named-read}
use Rattle.order_arrivals.proofs.SplitLemmas.{split-next}
use Rattle.order_arrivals.proofs.arrivals.TradedSums.add_deals_of.Goals as goal

pub loop-self-preserved : goal.loop-self-preserved
loop-self-preserved c =
    let m = c.args.market.now in
    let at = c.loop-self.self.added in
    let d = c.index-deals-incoming.result in
    let named = named-read m.orders.now m.deals.now c.requires.market.deal_list m.incoming_deals.now c.requires.market.incoming_deals at c.loop-self-test.true d c.index-deals-incoming.is in
    let both = added-both m.orders.now d named c.value-quantity.result c.loop-self.self.sums c.add.new.self c.add-in-loop-self.new.self c.add.ensures c.add-in-loop-self.ensures in
    let one = c.add.ensures.total in
    let two = c.add-in-loop-self.ensures.total in
    let q = c.value-quantity.ensures.same in
    let most = c.value-quantity.ensures.in_range.most in
    let total = c.loop-self.invariant.total in
    record {
      from = let l = c.loop-self.invariant.from in omega arith;
      own = λ i le lt. elim (cases_eq i at) [
        | inl e ↦ ap (incoming_order_at m.incoming_deals.now) e ∙ c.if-incoming-order.false
        | inr ne ↦ c.loop-self.invariant.own i le (omega (arith, ne))
      ];
      totals = running-read m.orders.now c.requires.market.order_list m.deals.now c.requires.market.deal_list m.incoming_deals.now c.requires.market.incoming_deals c.args.order c.requires.order at c.loop-self-test.true c.loop-self.self.sums.amounts c.loop-self.invariant.totals
          d c.index-deals-incoming.is c.value-quantity.result q most c.add-in-loop-self.new.self.amounts both;
      families = subst (AreFamilies m.orders.now) (sym (c.add-in-loop-self.ensures.families ∙ c.add.ensures.families)) c.loop-self.invariant.families;
      total = omega arith;
    }

pub returns-then-incoming-order : goal.returns-then-incoming-order
returns-then-incoming-order c =
    let m = c.args.market.now in
    let i = c.loop-self.invariant in
    record {
      families = i.families;
      traded = record {
        totals = i.totals;
        split = split-next m.orders.now m.deals.now m.incoming_deals.now c.requires.market.incoming_deals c.args.order c.args.self.now.added c.loop-self.self.added c.requires.before.traded.split i.from i.own (λ lt. c.if-incoming-order.true);
      };
      total = i.total;
    }
