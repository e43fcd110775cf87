use Rattle.std.proofs.Common.{arith}
use Rattle.volume_bound.proofs.ActiveLemmas.{gathered-more}
use Rattle.volume_bound.proofs.active_orders.ActiveOrders.of.Goals as goal

pub loop-index-preserved : goal.loop-index-preserved
loop-index-preserved c =
    gathered-more c.args.orders.now c.loop-index.index c.at-order.result (omega arith) c.at-order.ensures c.loop-index.bids.items c.loop-index.asks.items c.add.new.limits.items c.add-in-loop-index.new.limits.items c.loop-index.invariant c.in_ok-add.ensures.limits c.in_ok-add-2.ensures.limits
