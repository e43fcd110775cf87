use Rattle.std.proofs.Common.{arith}
use Rattle.audit_base.specs.declared.terms.Side.TheVariants.{Buy, Sell}
use Rattle.rank_order.proofs.RankLemmas.{ranks-read}
use Rattle.rank_order.proofs.ranking.ranks_of_both.Goals as goal

pub loop-index-preserved : goal.loop-index-preserved
loop-index-preserved c = (
  rw c.in_ok-add_rank.ensures.ranks
      (ranks-read c.args.orders.now Buy c.loop-index.index c.loop-index.bids.items (omega arith) c.at-order.result c.at-order.ensures c.in_ok-add_rank.ensures.priced c.loop-index.invariant.0),
  rw c.in_ok-add_rank-2.ensures.ranks
      (ranks-read c.args.orders.now Sell c.loop-index.index c.loop-index.asks.items (omega arith) c.at-order.result c.at-order.ensures c.in_ok-add_rank.ensures.priced c.loop-index.invariant.1),
)
