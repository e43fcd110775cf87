use Rattle.std.proofs.Common.{◌≡◌, ◌∙◌, sym, subst}
use Rattle.audit_base.specs.Deals.{deal_at, deal_past_end, DealInRange}
use Rattle.audit_base.proofs.OffenceLemmas.{get_or-default}
use Rattle.audit_certificate.proofs.CountLemmas.{counted}
use Rattle.audit_certificate.proofs.counting.count.Goals as goal

pub deals-preserved : goal.deals-preserved
deals-preserved c =
    let d_is : c.deal-item.result ≡ deal_at c.args.deals.now c.deals.deal-index = c.deal-item.is ∙ get_or-default c.args.deals.now c.deals.deal-index c.deal-item.result deal_past_end c.deals-test.true in
    rw c.from-volume.ensures (counted c.args.orders.now c.args.deals.now c.deals.deal-index c.deals-test.true c.requires.named c.deal-item.result d_is c.deals.traded.items c.deals.volume c.value-quantity.result c.deals.invariant
    c.value-quantity.ensures.same (subst DealInRange (sym c.deal-item.is) (c.deals_in_range.ensures c.deals.deal-index c.deal-item.result c.deals-test.true)) c.add.new.traded.items c.add-in-deals.new.traded.items c.add.ensures c.add-in-deals.ensures)
