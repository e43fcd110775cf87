use Rattle.std.proofs.Common.{All, take}
use Rattle.audit_base.specs.Trades.{TradeInRange}
use Rattle.audit_base.proofs.ranges.trades_in_range.Given as goal

abbrev pub invariant-loop-trade : goal.invariant-loop-trade
invariant-loop-trade l = All TradeInRange (take l.trade-index l.trades)
