use Rattle.std.proofs.Common.{arith}
use Rattle.rank_order.proofs.RankLemmas.{ranks-read}
use Rattle.rank_order.proofs.ranking.ranks_of.Goals as goal

pub loop-index-preserved : goal.loop-index-preserved
loop-index-preserved c = rw c.in_ok-add_rank.ensures.ranks
    (ranks-read c.args.orders.now c.args.side c.loop-index.index c.loop-index.ranks.items (omega arith) c.at.result c.at.ensures c.in_ok-add_rank.ensures.priced c.loop-index.invariant)
