use Rattle.std.proofs.Common.{◌≡◌, ◌∙◌, length, arith}
use Rattle.audit_base.specs.Deals.{deal_at, deal_past_end}
use Rattle.audit_base.proofs.OffenceLemmas.{get_or-default}
use Rattle.call_offences.proofs.ListingLemmas.{totals-all, totals-further}
use Rattle.call_offences.proofs.totals.totals_of.Goals as goal

pub deals-preserved : goal.deals-preserved
deals-preserved c =
    let orders = c.args.orders.now in
    let deals = c.args.deals.now in
    let k = c.deals.deal-index in
    let d_is : c.deal-item.result ≡ deal_at deals k = c.deal-item.is ∙ get_or-default deals k c.deal-item.result deal_past_end c.deals-test.true in
    totals-further orders deals k c.deals-test.true c.requires.named c.deal-item.result d_is c.deals.traded.items c.value-quantity.result c.deals.invariant c.value-quantity.ensures.same (rw c.value-quantity.ensures.same c.value-quantity.ensures.in_range.most)
    c.add_deal.new.traded.items c.add_deal.ensures.added

pub returns : goal.returns
returns c =
    let all : c.deals.deal-index ≡ length c.args.deals.now = omega (arith, c.deals.auto.deal-index-end) in
    totals-all c.args.orders.now c.args.deals.now c.deals.deal-index c.deals.traded.items all c.deals.invariant
