use Rattle.std.proofs.Common.{take}
use Rattle.matching_core.specs.DealsSoFar.{IsDealsSoFar}
use Rattle.matching_core.proofs.resolving.deals_after.Given as goal

-- what is known is that of the records so far
abbrev pub invariant-loop-trade : goal.invariant-loop-trade
invariant-loop-trade g l = IsDealsSoFar g.M.HistoryGhost.orders g.M.HistoryGhost.symbol l.so_far (take l.trade-index l.trades)
