use Rattle.audit_certificate.proofs.LastLemmas.{last-none, last-more}
use Rattle.audit_certificate.proofs.last_orders.last_trading.Goals as goal

pub loop-index-init : goal.loop-index-init
loop-index-init c = last-none c.args.orders.now c.args.traded.now c.args.side

pub loop-index-preserved : goal.loop-index-preserved
loop-index-preserved c = last-more c.args.orders.now c.args.traded.now c.args.side c.loop-index.index c.loop-index.last c.later_of-last.result c.later_of-last.ensures.same c.later_of-last.ensures.on c.loop-index.invariant
