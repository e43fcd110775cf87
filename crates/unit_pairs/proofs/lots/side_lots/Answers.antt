use Rattle.std.proofs.Common.{◌^◌, arith}
use Rattle.unit_pairs.proofs.UnitLemmas.{demand-ranks, supply-ranks}
use Rattle.unit_pairs.proofs.lots.side_lots.Goals as goal

pub lots_of-requires-clause-enough : goal.lots_of-requires-clause-enough
lots_of-requires-clause-enough c =
    rw c.deref.ensures.value (omega (arith, c.requires.enough.bids, demand-ranks c.args.orders.now c.requires.order_list c.args.sides.now.bids.items c.requires.ranked.bids 0))

pub lots_of-requires-2-clause-enough : goal.lots_of-requires-2-clause-enough
lots_of-requires-2-clause-enough c =
    rw c.deref-2.ensures.value (omega (arith, c.requires.enough.asks, supply-ranks c.args.orders.now c.requires.order_list c.args.sides.now.asks.items c.requires.ranked.asks (10 ^ 18)))
