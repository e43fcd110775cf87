use Rattle.std.proofs.Common.{take}
use Rattle.volume_bound.proofs.ActiveLemmas.{AreGathered}
use Rattle.volume_bound.proofs.active_orders.ActiveOrders.of.Given as goal

abbrev pub invariant-loop-index : goal.invariant-loop-index
invariant-loop-index l = AreGathered (take l.index l.orders) l.bids.items l.asks.items
