-- The numbers of the records of a log are in range, and each has nine bytes of it, in either form.
use Rattle.std.proofs.Common.{List, Result, Ok, Err}
use Rattle.std.specs.Prelude.{IfOk}
use Rattle.std.proofs.lemmas.List.Elements.{All-nil}
use Rattle.audit_base.specs.declared.faults.BadPlace.{BadPlace}
use Rattle.audit_base.specs.declared.findings.Finding.{Finding}
use Rattle.audit_base.specs.declared.records.TradeRecord.{TradeRecord}
use Rattle.audit_base.specs.declared.terms.Form.TheVariants.{Csv, Fix}
use Rattle.audit_base.specs.Trades.{TradesInRange, TradeInRange}
use Rattle.audit_base.specs.Verdicts.{paired_trades}
use Rattle.csv_logs.specs.Laws as of_csv
use Rattle.csv_logs.specs.Logs as csv
use Rattle.fix_messages.specs.Laws as of_fix
use Rattle.fix_messages.specs.Logs as fix
use Rattle.fix_messages.specs.Pairings.{Report, pairing}
use Rattle.log_verdict.specs.LogVerdicts.{trades_without_pairing, paired_reports}
use Rattle.log_verdict.specs.Ranges.{OrderLogsAreInRange, OrderLogsHaveNineBytes, TradeLogsAreInRange}

pub orders-range : of_csv.CsvOrdersAreInRange → of_fix.FixOrdersAreInRange → OrderLogsAreInRange
orders-range csv_orders fix_orders Csv bytes = csv_orders bytes
orders-range csv_orders fix_orders Fix bytes = fix_orders bytes

abbrev HasTrades : Result (List TradeRecord) Finding → Type 0
HasTrades paired = TradesInRange (paired_trades paired)

each-paired : (read : Result (List TradeRecord) BadPlace) → IfOk read TradesInRange → IfOk (trades_without_pairing read) HasTrades
each-paired (Ok trades) are = are
each-paired (Err bad) are = tt

of-pairing : (paired : Result (List TradeRecord) Finding) → IfOk paired TradesInRange → HasTrades paired
of-pairing (Ok trades) are = are
of-pairing (Err finding) are = All-nil TradeInRange

of-reports : (read : Result (List Report) BadPlace) → IfOk read (λ reports. IfOk (pairing reports) TradesInRange) → IfOk (paired_reports read) HasTrades
of-reports (Ok reports) are = of-pairing (pairing reports) are
of-reports (Err bad) are = tt

pub trades-range : of_csv.CsvTradesAreInRange → of_fix.FixTradesAreInRange → TradeLogsAreInRange
trades-range csv_trades fix_trades Csv bytes = each-paired (csv.csv_trade_records bytes) (csv_trades bytes)
trades-range csv_trades fix_trades Fix bytes = of-reports (fix.fix_report_records bytes) (fix_trades bytes)

pub orders-nine : of_csv.CsvOrdersHaveNineBytes → of_fix.FixOrdersHaveNineBytes → OrderLogsHaveNineBytes
orders-nine csv_orders fix_orders Csv bytes = csv_orders bytes
orders-nine csv_orders fix_orders Fix bytes = fix_orders bytes
