use Rattle.std.proofs.Common.{◌≡◌, ◌<◌, ◌-◌, ◌∙◌, ℕ, List, ap, arith, length, sym, subst}
use Rattle.std.specs.Prelude.{slice_set}
use Rattle.audit_base.specs.declared.orders.Deal.{Deal}
use Rattle.audit_base.specs.Deals.{deal_at, deal_past_end, number_at}
use Rattle.audit_base.proofs.OffenceLemmas.{get_or-default}
use Rattle.continuous_audit.specs.Scans.{deal_index_at}
use Rattle.continuous_audit.proofs.LeftLemmas.{refreshed-more}
use Rattle.continuous_audit.proofs.leaving.refresh_left.Goals as goal

pub loop-at-preserved : goal.loop-at-preserved
loop-at-preserved c =
    let deals = c.args.market.now.deals.now in
    let incoming_deals = c.args.market.now.incoming_deals.now in
    let at = c.loop-at.at in
    let inside : at < length incoming_deals = let e = c.requires.ends in omega arith in
    let d = c.index-deals-incoming_deals.result in
    let d_is : d ≡ deal_at deals (deal_index_at incoming_deals at) = c.index-deals-incoming_deals.is ∙ get_or-default deals (deal_index_at incoming_deals at) d deal_past_end (c.requires.deals.deal at inside) in
    let long = c.loop-at.invariant.count in
    let bid : d.bid < length c.loop-at.left.items = subst (λ (x : Deal). x.bid < length c.loop-at.left.items) (sym d_is) (let b = c.requires.deals.bid at inside in omega arith) in
    let ask : d.ask < length c.loop-at.left.items = subst (λ (x : Deal). x.ask < length c.loop-at.left.items) (sym d_is) (let b = c.requires.deals.ask at inside in omega arith) in
    let bid_is = c.left_at-bid_left.ensures ∙ ap (λ (xs : List ℕ). number_at c.args.sizes.now d.bid - number_at xs d.bid) c.deref.ensures.value in
    let ask_is = c.left_at-ask_left.ensures ∙ ap (λ (xs : List ℕ). number_at c.args.sizes.now d.ask - number_at xs d.ask) c.deref-in-loop-at.ensures.value in
    refreshed-more deals incoming_deals c.args.start at c.args.sizes.now c.args.running.now.traded.items c.args.left.now.items c.loop-at.left.items c.set_left.new.left.items d d_is bid ask
    (c.set_left.ensures ∙ (λ i. slice_set (slice_set c.loop-at.left.items d.bid (bid_is i)) d.ask (ask_is i))) c.loop-at.invariant
