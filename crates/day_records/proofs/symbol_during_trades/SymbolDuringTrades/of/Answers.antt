use Rattle.std.proofs.Common.{sym, ap, ◌∙◌}
use Rattle.record_verdict.specs.Scopes.{unadmitted_order_finding}
use Rattle.day_records.proofs.symbol_during_trades.SymbolDuringTrades.of.Goals as goal

pub returns-in-None : goal.returns-in-None
returns-in-None c = λ symbol entries is. record {
  well_formed = c.in-Ok.ensures.well_formed symbol entries is;
  orders_are = c.in-Ok.ensures.orders symbol entries is;
  admitted = ap (unadmitted_order_finding c.args.admission) (sym c.orders.ensures.same) ∙ sym c.first_unadmitted-unadmitted.ensures ∙ c.in-None.is;
  deals_are = c.new-deals.ensures c.in-Ok.history symbol;
}
