use Rattle.std.proofs.Common.{take}
use Rattle.matching_core.specs.DealsDraft.{IsDealsDraft}
use Rattle.record_verdict.proofs.judging.draft_of.Given as goal

-- the draft has been handed the trades so far
abbrev pub invariant-loop-trade : goal.invariant-loop-trade
invariant-loop-trade g l = IsDealsDraft g.M.HistoryGhost.symbol g.M.HistoryGhost.orders l.draft (take l.trade-index l.trades)
