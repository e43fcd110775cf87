use Rattle.rank_order.specs.Ranks.{AreRanks}
use Rattle.rank_order.proofs.ranking.ranks_of.Given as goal

abbrev pub invariant-loop-index : goal.invariant-loop-index
invariant-loop-index l = AreRanks l.orders l.side l.index l.ranks.items
