use Rattle.std.proofs.Common.{◌≡◌, ◌∙◌, ap, arith, ℕ, length}
use Rattle.audit_base.specs.Orders.{place_at}
use Rattle.offence_list.specs.Answers.{answers_below}
use Rattle.offence_list.specs.ContinuousLists.{continuous_offences, offence_at_place}
use Rattle.offence_list.specs.ListedOffences.{finding_of_offence}
use Rattle.offence_list.proofs.ListLemmas.{mapped-further}
use Rattle.order_arrivals.proofs.ArrivalLemmas.{market-read}
use Rattle.continuous_offences.proofs.ReadyLemmas.{ready-further}
use Rattle.continuous_offences.proofs.StateLemmas.{inside-further}
use Rattle.continuous_offences.proofs.listing.continuous_offences.Goals as goal

pub arrivals_of-requires : goal.arrivals_of-requires
arrivals_of-requires c = market-read _ _ c.requires.order_list c.requires.deal_list c.deref.ensures.value c.in_ok-incoming_deals.ensures

pub new-requires : goal.new-requires
new-requires c = market-read _ _ c.requires.order_list c.requires.deal_list c.deref.ensures.value c.in_ok-incoming_deals.ensures

pub next_offence-requires-clause-market : goal.next_offence-requires-clause-market
next_offence-requires-clause-market c = market-read _ _ c.requires.order_list c.requires.deal_list c.deref.ensures.value c.in_ok-incoming_deals.ensures

pub loop-order-preserved : goal.loop-order-preserved
loop-order-preserved c =
    let orders = c.args.orders.now in
    let deals = c.args.deals.now in
    let found = c.in_ok-offence.ensures.found in
    let made = c.in_ok-push_answer.ensures in
    record {
      ready = ready-further _ _ c.loop-order.order c.in_ok-offence.ensures.ready;
      list = mapped-further (finding_of_offence orders) (λ (order : ℕ). offence_at_place orders deals (place_at orders order)) c.loop-order.order c.loop-order.found.items _ _ c.loop-order.invariant.list found.same made;
      inside = inside-further orders c.loop-order.found.items _ _ c.loop-order.invariant.inside found.inside made;
    }

pub returns-clause-list : goal.returns-clause-list
unfolding continuous_offences
returns-clause-list c =
    let orders = c.args.orders.now in
    let deals = c.args.deals.now in
    let upto = c.loop-order.auto.order-end in
    let last = c.len-order-end.ensures in
    let test = c.loop-order-test.false in
    let all : c.loop-order.order ≡ length orders = omega arith in
    c.loop-order.invariant.list ∙ ap (answers_below (λ (order : ℕ). offence_at_place orders deals (place_at orders order))) all
