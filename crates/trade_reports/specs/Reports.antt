-- The reports of a trade.
use Rattle.std.specs.Prelude.{List, [], ◌∷◌}
use Rattle.audit_base.specs.declared.records.TradeRecord.{TradeRecord}
use Rattle.audit_base.specs.declared.terms.Side.{Side}
use Rattle.audit_base.specs.declared.terms.Side.TheVariants as side
use Rattle.trade_reports.specs.declared.reports.Report.{Report}

-- one side's report of a trade
abbrev pub report_to : Side → TradeRecord → Report
report_to side.Buy trade =
    record {
      trade = trade.trade;
      key = trade.buy;
      time = trade.time;
      symbol = trade.symbol;
      side = side.Buy;
      quantity = trade.quantity;
      price = trade.price;
    }
report_to side.Sell trade =
    record {
      trade = trade.trade;
      key = trade.sell;
      time = trade.time;
      symbol = trade.symbol;
      side = side.Sell;
      quantity = trade.quantity;
      price = trade.price;
    }

-- the two reports of a trade, the buyer's first
abbrev pub reports_of : TradeRecord → List Report
reports_of trade = report_to side.Buy trade ∷ report_to side.Sell trade ∷ []
