use Rattle.std.proofs.Common.{◌≡◌, ◌∙◌, Option, None, IfSome, inl, inr, sym, ap, subst, arith, option_map, rules}
use Rattle.std.proofs.lemmas.Bool.{cases_eq}
use Rattle.audit_base.specs.declared.flaws.Evidence.{Evidence}
use Rattle.audit_base.specs.Flaws.{IsEvidenceInside}
use Rattle.audit_base.specs.Orders.{place_at}
use Rattle.audit_base.specs.ContinuousOffences.{conservation_finding}
use Rattle.continuous_audit.specs.declared.checking.Accounts.{Accounts}
use Rattle.continuous_audit.specs.declared.checking.RecordOfDeal.{RecordOfDeal}
use Rattle.continuous_audit.specs.DealFindings as by_deal
use Rattle.continuous_audit.specs.Scans.{deal_index_at, incoming_order_at}
use Rattle.continuous_audit.proofs.ScanLemmas.{all-clean, finding_by, finding-read, first-finding, inside-read, most-read, running-read}
use Rattle.continuous_audit.proofs.scanning.check_deals.Goals as goal

pub returns-then-incoming-order-clause-found : goal.returns-then-incoming-order-clause-found
returns-then-incoming-order-clause-found c = record {
  inside = tt;
  same = all-clean c.args.market.now.orders.now c.requires.market.order_list c.args.market.now.deals.now c.requires.market.deal_list c.args.market.now.incoming_deals.now c.requires.market.incoming_deals c.args.order c.requires.order
      c.args.running.now.added c.loop-running.running.added c.requires.traded.split c.loop-running.invariant.clean (λ lt. c.if-incoming-order.true) c.loop-running.invariant.from;
}

pub returns-clause-found : goal.returns-clause-found
returns-clause-found c = record {
  inside = tt;
  same = all-clean c.args.market.now.orders.now c.requires.market.order_list c.args.market.now.deals.now c.requires.market.deal_list c.args.market.now.incoming_deals.now c.requires.market.incoming_deals c.args.order c.requires.order
      c.args.running.now.added c.loop-running.running.added c.requires.traded.split c.loop-running.invariant.clean (λ lt. absurd (omega arith)) c.loop-running.invariant.from;
}

pub returns-in-Some-clause-found : goal.returns-in-Some-clause-found
returns-in-Some-clause-found c =
    let orders = c.args.market.now.orders.now in
    let at = c.loop-running.running.added in
    let d = c.index-deals-incoming.result in
    let deal_record : RecordOfDeal = record { place = c.place.result; entered = c.args.entered } in
    let accounts : Accounts = record { bid = c.account.result; ask = c.account-in-loop-running.result } in
    let is = finding-read orders c.requires.market.order_list c.args.market.now.deals.now c.requires.market.deal_list c.args.market.now.incoming_deals.now c.requires.market.incoming_deals c.args.order c.requires.order at c.loop-running-test.true c.loop-running.running.traded.items c.loop-running.invariant.totals d c.index-deals-incoming.is c.value-quantity.result c.value-quantity.ensures.same c.value-quantity.ensures.in_range.most
    c.if-incoming-order.false deal_record c.args.order_numbers.now c.requires.known c.at.result c.at-bid.result c.at-ask.result c.at.ensures c.at-bid.ensures c.at-ask.ensures c.place.ensures
    accounts c.add_quantity-bid_traded.result.0 c.add_quantity-bid_traded.result.1 c.account.ensures c.account-in-loop-running.ensures c.add_quantity-bid_traded.ensures.bid c.add_quantity-bid_traded.ensures.ask in
    let inside = inside-read orders c.requires.market.order_list c.args.market.now.deals.now c.requires.market.deal_list c.args.market.now.incoming_deals.now c.requires.market.incoming_deals c.args.order c.requires.order at c.loop-running-test.true c.loop-running.running.traded.items c.loop-running.invariant.totals d c.index-deals-incoming.is c.value-quantity.result c.value-quantity.ensures.same c.value-quantity.ensures.in_range.most
    c.at-bid.result c.at-ask.result deal_record c.args.order_numbers.now accounts c.add_quantity-bid_traded.result.0 c.add_quantity-bid_traded.result.1 c.account.ensures c.account-in-loop-running.ensures in
    let h : c.deal_evidence.result ≡ by_deal.deal_evidence d c.at-bid.result c.at-ask.result deal_record accounts = search rules in
    let made = sym h ∙ c.in-Some.is in
    record {
      inside = subst (λ (e : Option Evidence). IfSome e (IsEvidenceInside orders)) made inside;
      same = first-finding orders c.requires.market.order_list c.args.market.now.deals.now c.requires.market.deal_list c.args.market.now.incoming_deals.now c.requires.market.incoming_deals c.args.order c.requires.order
          c.args.running.now.added at c.requires.traded.split c.loop-running.invariant.clean _ c.loop-running-test.true c.if-incoming-order.false
          (is ∙ ap (option_map (finding_by orders c.requires.market.order_list c.args.market.now.deals.now c.requires.market.deal_list c.args.market.now.incoming_deals.now c.requires.market.incoming_deals c.args.order c.requires.order d)) made);
    }

pub loop-running-preserved : goal.loop-running-preserved
loop-running-preserved c =
    let orders = c.args.market.now.orders.now in
    let deals = c.args.market.now.deals.now in
    let at = c.loop-running.running.added in
    let d = c.index-deals-incoming.result in
    let deal_record : RecordOfDeal = record { place = c.place.result; entered = c.args.entered } in
    let accounts : Accounts = record { bid = c.account.result; ask = c.account-in-loop-running.result } in
    let is = finding-read orders c.requires.market.order_list deals c.requires.market.deal_list c.args.market.now.incoming_deals.now c.requires.market.incoming_deals c.args.order c.requires.order at c.loop-running-test.true c.loop-running.running.traded.items c.loop-running.invariant.totals d c.index-deals-incoming.is c.value-quantity.result c.value-quantity.ensures.same c.value-quantity.ensures.in_range.most
    c.if-incoming-order.false deal_record c.args.order_numbers.now c.requires.known c.at.result c.at-bid.result c.at-ask.result c.at.ensures c.at-bid.ensures c.at-ask.ensures c.place.ensures
    accounts c.add_quantity-bid_traded.result.0 c.add_quantity-bid_traded.result.1 c.account.ensures c.account-in-loop-running.ensures c.add_quantity-bid_traded.ensures.bid c.add_quantity-bid_traded.ensures.ask in
    let run = running-read orders c.requires.market.order_list deals c.requires.market.deal_list c.args.market.now.incoming_deals.now c.requires.market.incoming_deals c.args.order c.requires.order at c.loop-running-test.true c.loop-running.running.traded.items c.loop-running.invariant.totals d c.index-deals-incoming.is c.value-quantity.result c.value-quantity.ensures.same c.value-quantity.ensures.in_range.most
    c.add_quantity-bid_traded.new.traded.items c.add_quantity-bid_traded.ensures.added in
    let h : c.deal_evidence.result ≡ by_deal.deal_evidence d c.at-bid.result c.at-ask.result deal_record accounts = search rules in
    let none : conservation_finding orders deals (place_at orders c.args.order) (deal_index_at c.args.market.now.incoming_deals.now at) ≡ None =
    is ∙ ap (option_map (finding_by orders c.requires.market.order_list deals c.requires.market.deal_list c.args.market.now.incoming_deals.now c.requires.market.incoming_deals c.args.order c.requires.order d)) (sym h ∙ c.in_default.is) in
    record {
      from = let l = c.loop-running.invariant.from in omega arith;
      own = λ i le lt. elim (cases_eq i at) [
        | inl e ↦ ap (incoming_order_at c.args.market.now.incoming_deals.now) e ∙ c.if-incoming-order.false
        | inr ne ↦ c.loop-running.invariant.own i le (omega (arith, ne))
      ];
      totals = run;
      most = most-read orders c.requires.market.order_list deals c.requires.market.deal_list c.args.market.now.incoming_deals.now c.requires.market.incoming_deals c.args.order c.requires.order at c.loop-running-test.true c.loop-running.running.traded.items c.loop-running.invariant.totals d c.index-deals-incoming.is c.value-quantity.result c.value-quantity.ensures.same c.value-quantity.ensures.in_range.most
          c.loop-running.invariant.most c.at-bid.result c.at-ask.result deal_record c.args.order_numbers.now c.requires.known.sizes.most accounts c.add_quantity-bid_traded.result.0 c.add_quantity-bid_traded.result.1 c.account.ensures c.account-in-loop-running.ensures c.add_quantity-bid_traded.ensures.bid c.add_quantity-bid_traded.ensures.ask (sym h ∙ c.in_default.is)
          c.add_quantity-bid_traded.new.traded.items c.add_quantity-bid_traded.ensures.added;
      clean = λ i le lt. elim (cases_eq i at) [
        | inl e ↦ subst (λ j. conservation_finding orders deals (place_at orders c.args.order) (deal_index_at c.args.market.now.incoming_deals.now j) ≡ None) (sym e) none
        | inr ne ↦ c.loop-running.invariant.clean i le (omega (arith, ne))
      ];
    }
