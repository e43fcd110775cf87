use Rattle.std.proofs.Common.{◌≡◌, ◌∙◌, ap, sym}
use Rattle.audit_base.specs.declared.orders.Order.{Order}
use Rattle.audit_base.specs.Orders.{order_at}
use Rattle.audit_base.specs.Priority.{better}
use Rattle.continuous_audit.proofs.PassLemmas.{resting-read}
use Rattle.continuous_audit.proofs.passing.outranks.Goals as goal

pub better-requires : goal.better-requires
better-requires c =
    let orders = c.args.market.now.orders.now in
    let over_is : c.at.result ≡ order_at orders c.args.over = c.at.ensures in
    let rest_is = resting-read orders c.args.market.now.deals.now c.args.market.now.incoming_deals.now c.requires.market.incoming_deals c.args.at c.requires.at c.index-deals-incoming_deals.result c.index-deals-incoming_deals.is c.resting_of-index.result c.resting_of-index.ensures.same c.resting_of-index.ensures.inside c.at-2.result c.at-2.ensures in
    ap (λ (o : Order). o.side) over_is ∙ c.requires.side ∙ sym (ap (λ (o : Order). o.side) rest_is)

pub returns : goal.returns
returns c =
    let orders = c.args.market.now.orders.now in
    let over_is : c.at.result ≡ order_at orders c.args.over = c.at.ensures in
    let rest_is = resting-read orders c.args.market.now.deals.now c.args.market.now.incoming_deals.now c.requires.market.incoming_deals c.args.at c.requires.at c.index-deals-incoming_deals.result c.index-deals-incoming_deals.is c.resting_of-index.result c.resting_of-index.ensures.same c.resting_of-index.ensures.inside c.at-2.result c.at-2.ensures in
    c.better.ensures ∙ (λ i. better (over_is i) (rest_is i))
