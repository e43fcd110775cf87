use Rattle.std.proofs.Common.{◌∙◌}
use Rattle.audit_certificate.proofs.BoundLemmas.{above-none, above-more}
use Rattle.audit_certificate.proofs.bounds.above_short_bids.Goals as goal

pub loop-index-init : goal.loop-index-init
loop-index-init c = above-none c.args.orders.now c.args.traded.now

pub loop-index-preserved : goal.loop-index-preserved
loop-index-preserved c = above-more c.args.orders.now c.args.traded.now c.loop-index.index c.loop-index.price c.max-price.result c.at.result c.above_if_short.result
    c.at.ensures
    c.above_if_short.ensures.same c.above_if_short.ensures.in_range c.max-price.ensures c.loop-index.invariant
