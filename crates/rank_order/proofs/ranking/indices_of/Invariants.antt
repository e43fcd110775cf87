use Rattle.std.proofs.Common.{◌≡◌, map, take}
use Rattle.rank_order.specs.Ranks.{index_of}
use Rattle.rank_order.proofs.ranking.indices_of.Given as goal

abbrev pub invariant-loop-rank : goal.invariant-loop-rank
invariant-loop-rank l = l.indices.items ≡ map index_of (take l.rank-index l.ranks)
