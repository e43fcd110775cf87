use Rattle.std.proofs.Common.{inl, inr, ◌∙◌, ap, arith}
use Rattle.std.specs.Option.{option_or}
use Rattle.std.proofs.lemmas.Bool.{cases_eq}
use Rattle.audit_base.specs.Orders.{place_at}
use Rattle.audit_base.specs.ContinuousOffences.{conservation_finding}
use Rattle.continuous_audit.specs.Scans.{incoming_order_at}
use Rattle.continuous_audit.proofs.ScanLemmas.{running-read}
use Rattle.continuous_offences.specs.DealFacts.{deal_offence}
use Rattle.order_arrivals.proofs.ArrivalLemmas.{named-read}
use Rattle.continuous_offences.proofs.FoundLemmas.{found-least}
use Rattle.order_arrivals.proofs.SplitLemmas.{split-next}
use Rattle.continuous_offences.proofs.ScanningLemmas.{conservation-away, first-read}
use Rattle.continuous_offences.proofs.scanning.first_deal_offence.Goals as goal

pub deal_facts-facts-requires-clause-named : goal.deal_facts-facts-requires-clause-named
deal_facts-facts-requires-clause-named c =
    let m = c.args.market.now in
    named-read m.orders.now m.deals.now c.requires.market.deal_list m.incoming_deals.now c.requires.market.incoming_deals c.loop-running.running.added c.loop-running-test.true c.index-deals-incoming.result c.index-deals-incoming.is

pub loop-running-preserved : goal.loop-running-preserved
loop-running-preserved c =
    let m = c.args.market.now in
    let orders = m.orders.now in
    let at = c.loop-running.running.added in
    let d = c.index-deals-incoming.result in
    let read = first-read orders c.requires.market.order_list m.deals.now c.requires.market.deal_list m.incoming_deals.now c.requires.market.incoming_deals c.args.order c.requires.order c.args.arrivals.now c.requires.arrivals c.args.before.now c.requires.before.is at c.loop-running-test.true c.if-incoming-order.false
    c.loop-running.running.traded.items c.loop-running.invariant.totals d c.index-deals-incoming.is c.value-quantity.result c.value-quantity.ensures.same c.value-quantity.ensures.in_range.most
    c.args.running.now.added c.loop-running.invariant.from c.loop-running.first c.first_of-first.result c.add_deal-up_to.result.0 c.add_deal-up_to.result.1 c.add_deal-up_to.ensures.bid c.add_deal-up_to.ensures.ask
    (c.first_of-first.ensures ∙ ap (option_or c.loop-running.first) (c.deal_offence.ensures ∙ ap (deal_offence d) c.deal_facts-facts.ensures)) c.loop-running.invariant.found c.loop-running.invariant.inside in
    record {
      from = let l = c.loop-running.invariant.from in omega arith;
      own = λ i le lt. elim (cases_eq i at) [
        | inl e ↦ ap (incoming_order_at m.incoming_deals.now) e ∙ c.if-incoming-order.false
        | inr ne ↦ c.loop-running.invariant.own i le (omega (arith, ne))
      ];
      totals = running-read orders c.requires.market.order_list m.deals.now c.requires.market.deal_list m.incoming_deals.now c.requires.market.incoming_deals c.args.order c.requires.order at c.loop-running-test.true c.loop-running.running.traded.items c.loop-running.invariant.totals
          d c.index-deals-incoming.is c.value-quantity.result c.value-quantity.ensures.same c.value-quantity.ensures.in_range.most c.add_deal-up_to.new.traded.items c.add_deal-up_to.ensures.added;
      found = read.0;
      inside = read.1;
    }

pub returns-then-incoming-order-clause-running : goal.returns-then-incoming-order-clause-running
returns-then-incoming-order-clause-running c =
    let m = c.args.market.now in
    let i = c.loop-running.invariant in
    record {
      totals = i.totals;
      split = split-next m.orders.now m.deals.now m.incoming_deals.now c.requires.market.incoming_deals c.args.order c.args.running.now.added c.loop-running.running.added c.requires.running.split i.from i.own (λ lt. c.if-incoming-order.true);
    }

pub returns-then-incoming-order-clause-found : goal.returns-then-incoming-order-clause-found
returns-then-incoming-order-clause-found c =
    let m = c.args.market.now in
    let within = c.loop-running.invariant.totals.inside in
    record {
      inside = c.loop-running.invariant.inside;
      same = found-least m.orders.now c.requires.market.order_list m.deals.now c.requires.market.deal_list m.incoming_deals.now c.requires.market.incoming_deals c.args.order c.requires.order (conservation_finding m.orders.now m.deals.now (place_at m.orders.now c.args.order)) (conservation-away m.orders.now m.deals.now (place_at m.orders.now c.args.order))
          c.args.running.now.added c.requires.running.split c.loop-running.running.added c.loop-running.invariant.from within (λ lt. c.if-incoming-order.true) _ c.loop-running.invariant.found;
    }

pub returns-clause-found : goal.returns-clause-found
returns-clause-found c =
    let m = c.args.market.now in
    let within = c.loop-running.invariant.totals.inside in
    let test = c.loop-running-test.false in
    record {
      inside = c.loop-running.invariant.inside;
      same = found-least m.orders.now c.requires.market.order_list m.deals.now c.requires.market.deal_list m.incoming_deals.now c.requires.market.incoming_deals c.args.order c.requires.order (conservation_finding m.orders.now m.deals.now (place_at m.orders.now c.args.order)) (conservation-away m.orders.now m.deals.now (place_at m.orders.now c.args.order))
          c.args.running.now.added c.requires.running.split c.loop-running.running.added c.loop-running.invariant.from within (λ lt. absurd (omega arith)) _ c.loop-running.invariant.found;
    }
