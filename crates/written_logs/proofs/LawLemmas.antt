-- What is written is read again, in either form, and has the verdict of what it was written of.
use Rattle.std.proofs.Common.{◌≡◌, ◌∙◌, ap, refl, List, Ok, Result}
use Rattle.std.specs.Prelude.{All}
use Rattle.std.specs.List.{flat_map}
use Rattle.audit_base.specs.declared.faults.BadPlace.{BadPlace}
use Rattle.audit_base.specs.declared.findings.Finding.{Finding}
use Rattle.audit_base.specs.declared.records.OrderRecord.{OrderRecord}
use Rattle.audit_base.specs.declared.records.TradeRecord.{TradeRecord}
use Rattle.audit_base.specs.declared.terms.Form.TheVariants.{Csv, Fix}
use Rattle.fix_messages.specs.Logs.{fix_order_records, fix_report_records}
use Rattle.fix_messages.specs.Written.{IsTradeInForm, IsWritable, fix_orders_text, fix_trades_text}
use Rattle.log_verdict.specs.Laws.{FormsAgree}
use Rattle.log_verdict.specs.LogVerdicts.{paired_reports, trades_without_pairing}
use Rattle.trade_reports.specs.Pairings.{pairing}
use Rattle.trade_reports.specs.Reports.{reports_of}
use Rattle.written_logs.specs.Laws.{OrdersAreReadAgain, TradesAreReadAgain, WrittenLogsHaveTheVerdict}
use Rattle.written_logs.proofs.RowLemmas.{csv-orders, csv-trades}

pub orders-again : ((orders : List OrderRecord) → All IsWritable orders → fix_order_records (fix_orders_text orders) ≡ Ok orders) → OrdersAreReadAgain
orders-again fix Csv entries are = record { text_is = refl; again = csv-orders entries are }
orders-again fix Fix entries are = record { text_is = refl; again = fix entries are }

pub trades-again : ((trades : List TradeRecord) → All IsTradeInForm trades → fix_report_records (fix_trades_text trades) ≡ Ok (flat_map reports_of trades))
    → ((trades : List TradeRecord) → pairing (flat_map reports_of trades) ≡ Ok trades) → TradesAreReadAgain
trades-again fix pairs Csv trades are = record { text_is = refl; again = ap trades_without_pairing (csv-trades trades are) }
trades-again fix pairs Fix trades are = record {
  text_is = refl;
  again = ap paired_reports (fix trades are) ∙ ap (λ (p : Result (List TradeRecord) Finding). let said : Result (Result (List TradeRecord) Finding) BadPlace = Ok p in said) (pairs trades);
}

pub same-verdict : FormsAgree → WrittenLogsHaveTheVerdict
same-verdict agree q orders trades written_orders written_trades entries list a b have of_orders of_trades is other =
    agree q orders trades written_orders written_trades entries (Ok list) a b have (record { records = of_orders.again; trades_are = of_trades.again }) is other
