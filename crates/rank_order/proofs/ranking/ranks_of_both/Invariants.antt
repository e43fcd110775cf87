use Rattle.audit_base.specs.declared.terms.Side.TheVariants.{Buy, Sell}
use Rattle.rank_order.specs.Ranks.{AreRanks}
use Rattle.rank_order.proofs.ranking.ranks_of_both.Given as goal

abbrev pub invariant-loop-index : goal.invariant-loop-index
invariant-loop-index l = AreRanks l.orders Buy l.index l.bids.items × AreRanks l.orders Sell l.index l.asks.items
