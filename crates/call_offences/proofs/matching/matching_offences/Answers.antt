use Rattle.std.proofs.Common.{◌≡◌, ◌<◌, ◌∙◌, ap, length, arith}
use Rattle.audit_base.specs.CallOffences.{matching_finding}
use Rattle.audit_base.specs.Deals.{deal_at, deal_past_end}
use Rattle.audit_base.proofs.OffenceLemmas.{get_or-default}
use Rattle.offence_list.specs.Answers.{answers_below}
use Rattle.offence_list.specs.CallLists.{matching_offences}
use Rattle.call_offences.proofs.ListingLemmas.{listed-further}
use Rattle.call_offences.proofs.matching.matching_offences.Goals as goal

pub deals-preserved : goal.deals-preserved
deals-preserved c =
    let orders = c.args.orders.now in
    let deals = c.args.deals.now in
    let k = c.deals.deal-index in
    let lt : k < length deals = c.deals-test.true in
    let d_is : c.deal-item.result ≡ deal_at deals k = c.deal-item.is ∙ get_or-default deals k c.deal-item.result deal_past_end lt in
    let first_is : c.index-deals-0.result ≡ deal_at deals 0 = c.index-deals-0.is ∙ get_or-default deals 0 c.index-deals-0.result deal_past_end (omega arith) in
    listed-further orders deals k lt c.requires.named c.deal-item.result d_is c.deals.traded.items c.value-quantity.result c.deals.invariant.totals c.value-quantity.ensures.same (rw c.value-quantity.ensures.same c.value-quantity.ensures.in_range.most)
    c.args.uniform c.deals.found.items c.push_answer.new.answers.items c.add_deal-bid_traded.new.traded.items c.deal_offence-offence.result c.index-deals-0.result c.add_deal-bid_traded.result.0 c.add_deal-bid_traded.result.1
    c.deals.invariant.found_is first_is c.add_deal-bid_traded.ensures.bid c.add_deal-bid_traded.ensures.ask c.add_deal-bid_traded.ensures.added c.deal_offence-offence.ensures.first c.in_ok-push_answer.ensures c.deals.invariant.inside c.deal_offence-offence.ensures.inside

pub returns-clause-list : goal.returns-clause-list
unfolding matching_offences
returns-clause-list c =
    let all : c.deals.deal-index ≡ length c.args.deals.now = omega (arith, c.deals.auto.deal-index-end) in
    c.deals.invariant.found_is ∙ ap (answers_below (matching_finding c.args.uniform c.args.orders.now c.args.deals.now)) all
