use Rattle.std.proofs.Common.{◌≡◌, ◌∙◌, ℕ, List, Option, IfSome, Ok, refl, sym, ap, subst}
use Rattle.audit_base.specs.declared.findings.Finding.{Finding}
use Rattle.audit_base.specs.Deals.{AreTotals}
use Rattle.audit_base.specs.ContinuousOffences.{IsContinuousOffence}
use Rattle.audit_base.proofs.ContinuousOffenceLemmas.{offence-fails}
use Rattle.continuous_audit.specs.IndexedDeals.{IsIndexedDeals}
use Rattle.continuous_audit.specs.Progress.{IsFirstState}
use Rattle.continuous_audit.proofs.AuditLemmas.{market-read, ready-first, last-conforms, last-totals}
use Rattle.continuous_audit.proofs.auditing.audit_continuous.Goals as goal

pub first_offence-requires-clause-market : goal.first_offence-requires-clause-market
first_offence-requires-clause-market c = market-read _ c.in_ok-incoming_deals.incoming_deals.items c.in_ok-endings.endings.items c.requires.order_list c.requires.deal_list c.deref.ensures.value c.deref-2.ensures.value c.in_ok-incoming_deals.ensures c.in_ok-endings.ensures

pub first_offence-requires-clause-ready : goal.first_offence-requires-clause-ready
first_offence-requires-clause-ready c = ready-first _ (market-read _ c.in_ok-incoming_deals.incoming_deals.items c.in_ok-endings.endings.items c.requires.order_list c.requires.deal_list c.deref.ensures.value c.deref-2.ensures.value c.in_ok-incoming_deals.ensures c.in_ok-endings.ensures) c.in_ok-state.state (subst (λ (n : ℕ). IsFirstState n c.in_ok-state.state) c.len.ensures c.in_ok-state.ensures)

pub returns-in-Some : goal.returns-in-Some
returns-in-Some c =
    let orders = c.args.orders.now in
    let broken = subst (λ (f : Option Finding). IfSome f (IsContinuousOffence orders c.args.deals.now)) c.in-Some.is c.in_ok-finding.ensures.found in
    record { offence = broken; fails = offence-fails orders c.args.deals.now c.in-Some.finding c.requires.deal_list.named c.deals_in_range.ensures broken }

pub returns : goal.returns
returns c =
    let ready = c.in_ok-finding.ensures.done (ap Ok c.in_default.is) in
    let state = c.first_offence.new.self in
    let market : IsIndexedDeals (record { orders = c.args.orders; deals = c.args.deals; incoming_deals = c.deref.result; endings = c.deref-2.result }) = market-read _ c.in_ok-incoming_deals.incoming_deals.items c.in_ok-endings.endings.items c.requires.order_list c.requires.deal_list c.deref.ensures.value c.deref-2.ensures.value c.in_ok-incoming_deals.ensures c.in_ok-endings.ensures in
    let conforms = last-conforms _ market state ready in
    let traded_is : c.in_ok-wide.wide.items ≡ state.numbers.running.traded.items = c.in_ok-wide.ensures ∙ c.deref-3.ensures.value ∙ c.into_traded-traded.ensures in
    record {
      conforms = conforms;
      totals = subst (λ (t : List ℕ × ℕ). AreTotals c.args.orders.now c.args.deals.now t.0) (sym c.of.ensures) (subst (AreTotals c.args.orders.now c.args.deals.now) (sym traded_is) (last-totals _ market state ready));
      volume_is = ap (λ (t : List ℕ × ℕ). t.1) c.of.ensures ∙ c.volume_of-volume.ensures;
      no_bound = refl;
      only = λ regular bid ask. c.continuous_uniqueness.ensures.only c.args.orders.now c.args.deals.now c.requires.order_list regular c.deals_in_range.ensures conforms bid ask;
    }
