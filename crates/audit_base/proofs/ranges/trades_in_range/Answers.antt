use Rattle.std.proofs.lemmas.List.{take_all}
use Rattle.std.proofs.lemmas.List.Elements.{All-more}
use Rattle.std.proofs.Common.{subst}
use Rattle.audit_base.specs.Trades.{TradeInRange}
use Rattle.audit_base.proofs.ranges.trades_in_range.Goals as goal

pub loop-trade-preserved : goal.loop-trade-preserved
loop-trade-preserved c =
    All-more TradeInRange c.args.trades.now c.loop-trade.trade-index c.trade-item.result c.loop-trade-test.true c.loop-trade.invariant (subst TradeInRange c.trade-item.is c.trade_in_range.ensures)

pub returns : goal.returns
returns c = rw (take_all c.loop-trade.trade-index c.args.trades.now c.loop-trade-test.false) at c.loop-trade.invariant
