use Rattle.std.proofs.Common.{◌-◌, ◌∙◌, Option, option_map, ap, sym, subst}
use Rattle.audit_base.specs.declared.flaws.Flaw.{Flaw}
use Rattle.audit_base.specs.Flaws.{finding_of}
use Rattle.audit_base.specs.Orders.{place_at}
use Rattle.audit_base.specs.Deals.{number_at}
use Rattle.continuous_audit.specs.Flaws.{IsFindingOfFlaw}
use Rattle.continuous_audit.specs.Records.{AreLeftBefore, conservation_at}
use Rattle.continuous_audit.specs.Scans.{AreTotalsSmall}
use Rattle.continuous_audit.proofs.NumberLemmas.{before-more, chain_ended-more, left-after_deals, numbers-bounded, arrival, running-small, sizes-more, traded-now}
use Rattle.continuous_audit.proofs.dealing_state.DealingState.deal_order.Goals as goal

pub arrive_order-arrival-requires-clause-traded : goal.arrive_order-arrival-requires-clause-traded
arrive_order-arrival-requires-clause-traded c = subst (AreTotalsSmall c.args.market.now.orders.now) (sym c.deref.ensures.value)
    (running-small c.args.market.now.orders.now c.requires.market.order_list c.args.market.now.deals.now c.requires.market.deal_list c.args.market.now.incoming_deals.now c.requires.market.incoming_deals c.args.self.now.running.added c.args.self.now.running.traded.items c.requires.known.running.totals)

pub arrive_order-arrival-requires-clause-order_numbers : goal.arrive_order-arrival-requires-clause-order_numbers
arrive_order-arrival-requires-clause-order_numbers c = numbers-bounded c.args.market.now c.args.order (place_at c.args.market.now.orders.now c.args.order) c.args.self.now c.requires.known

pub check_deals-requires-clause-known : goal.check_deals-requires-clause-known
check_deals-requires-clause-known c =
    let orders = c.args.market.now.orders.now in
    let deals = c.args.market.now.deals.now in
    let o = c.arrive_order-arrival.ensures.arrived deals (arrival c.args.market.now.orders.now c.requires.market.order_list c.args.market.now.deals.now c.requires.market.deal_list c.args.market.now.incoming_deals.now c.requires.market.incoming_deals c.args.order c.requires.order c.args.self.now.running.added c.args.self.now.running.traded.items c.deref.result.now c.args.self.now.order_numbers c.deref.ensures.value c.requires.conforms c.requires.known.chain_traded c.requires.known.left c.requires.known.running.split c.requires.known.running.totals) in
    record {
      arrived = o.entered_is;
      chain_traded = before-more orders deals c.args.order c.requires.order _ c.note.new.self.chain_traded.items c.arrive_order-arrival.result.chain_traded c.requires.known.chain_traded o.chain_traded_is c.arrive_order-arrival.ensures.fits.bounded c.requires.market.order_list.fits_indices c.note.ensures.chain_traded;
      sizes = sizes-more orders deals c.args.order c.requires.order _ _ c.arrive_order-arrival.result.size c.requires.known.sizes o.size_is c.arrive_order-arrival.ensures.fits.most c.note.ensures.sizes;
      left = subst (AreLeftBefore orders deals c.args.order (place_at orders c.args.order)) (sym c.note.ensures.left) c.requires.known.left;
    }

pub returns-clause-dealt : goal.returns-clause-dealt
returns-clause-dealt c = λ e.
    let orders = c.args.market.now.orders.now in
    let deals = c.args.market.now.deals.now in
    let traded = c.check_deals.ensures.traded c.in_default.is in
    let o = c.arrive_order-arrival.ensures.arrived deals (arrival c.args.market.now.orders.now c.requires.market.order_list c.args.market.now.deals.now c.requires.market.deal_list c.args.market.now.incoming_deals.now c.requires.market.incoming_deals c.args.order c.requires.order c.args.self.now.running.added c.args.self.now.running.traded.items c.deref.result.now c.args.self.now.order_numbers c.deref.ensures.value c.requires.conforms c.requires.known.chain_traded c.requires.known.left c.requires.known.running.split c.requires.known.running.totals) in
    record {
      conserved = c.check_deals.ensures.found.same ∙ ap (option_map (finding_of orders)) c.in_default.is;
      split = c.requires.known.running.split;
      from = c.check_deals.ensures.from c.in_default.is;
      known = record {
        chain_traded = before-more orders deals c.args.order c.requires.order _ _ c.arrive_order-arrival.result.chain_traded c.requires.known.chain_traded o.chain_traded_is c.arrive_order-arrival.ensures.fits.bounded c.requires.market.order_list.fits_indices c.note.ensures.chain_traded;
        chain_ended = chain_ended-more orders deals c.args.order c.requires.order _ _ c.arrive_order-arrival.result.chain_ended c.requires.known.chain_ended c.arrive_order-arrival.ensures.fits.chain_ended c.note.ensures.chain_ended;
        sizes = sizes-more orders deals c.args.order c.requires.order _ _ c.arrive_order-arrival.result.size c.requires.known.sizes o.size_is c.arrive_order-arrival.ensures.fits.most c.note.ensures.sizes;
        left = left-after_deals c.args.market.now.orders.now c.requires.market.order_list c.args.market.now.deals.now c.requires.market.deal_list c.args.market.now.incoming_deals.now c.requires.market.incoming_deals c.args.order c.requires.order c.args.self.now.running.added c.check_deals.new.running.added c.deref-2.result.now c.check_deals.new.running.traded.items c.note.new.self.left.items c.refresh_left.new.left.items _ c.left_at-left.result
            c.requires.known.running.split traded.split traded.totals
            (sizes-more orders deals c.args.order c.requires.order _ _ c.arrive_order-arrival.result.size c.requires.known.sizes o.size_is c.arrive_order-arrival.ensures.fits.most (c.deref-2.ensures.value ∙ c.note.ensures.sizes))
            (subst (AreLeftBefore orders deals c.args.order (place_at orders c.args.order)) (sym c.note.ensures.left) c.requires.known.left) c.refresh_left.ensures.refreshed
            (c.left_at-left.ensures ∙ (λ i. number_at ((c.deref-3.ensures.value ∙ sym c.deref-2.ensures.value) i) c.args.order - number_at (c.deref-4.ensures.value i) c.args.order))
            c.set_amount.ensures;
        running = traded;
      };
      traded = traded-now orders c.requires.market.order_list deals c.requires.market.deal_list c.args.market.now.incoming_deals.now c.requires.market.incoming_deals c.args.order c.requires.order c.check_deals.new.running.added c.check_deals.new.running.traded.items traded.split traded.totals;
    }

pub returns-in-Some-clause-found : goal.returns-in-Some-clause-found
returns-in-Some-clause-found c =
    let orders = c.args.market.now.orders.now in
    subst (λ (f : Option Flaw). IsFindingOfFlaw orders f (conservation_at orders c.args.market.now.deals.now c.args.order)) c.in-Some.is c.check_deals.ensures.found
