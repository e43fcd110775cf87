-- What holds of every CSV log, as statements: of every list of bytes, however long.
use Rattle.std.specs.Prelude.{ℕ, IfOk, List}
use Rattle.audit_base.specs.RecordRanges.{RecordsInRange}
use Rattle.audit_base.specs.Trades.{TradesInRange}
use Rattle.csv_logs.specs.Columns.{RowMeaning, Row}
use Rattle.csv_logs.specs.Logs.{IsOnlyCsvReading, csv_order_records, read_csv_log, csv_trade_records}
use Rattle.log_source.specs.Collectors.{HasNineBytesEach}

-- each log is good with exactly one list of records, or bad at exactly one place, and never both
abbrev pub CsvLogsAreReadOnce : {R : Type 0} → Row → RowMeaning R → Type 0
CsvLogsAreReadOnce names meaning = (log : List ℕ)
    → IsOnlyCsvReading names meaning log (read_csv_log names meaning log)

-- the numbers of each record of a good order log are in range
abbrev pub CsvOrdersAreInRange : Type 0
CsvOrdersAreInRange = (log : List ℕ) → IfOk (csv_order_records log) RecordsInRange

-- the numbers of each trade of a good trade log are in range
abbrev pub CsvTradesAreInRange : Type 0
CsvTradesAreInRange = (log : List ℕ) → IfOk (csv_trade_records log) TradesInRange

-- each record of a good order log, and of a good trade log, has at least nine bytes of the log
abbrev pub CsvOrdersHaveNineBytes : Type 0
CsvOrdersHaveNineBytes = (log : List ℕ)
    → IfOk (csv_order_records log) (λ entries. HasNineBytesEach entries log)

abbrev pub CsvTradesHaveNineBytes : Type 0
CsvTradesHaveNineBytes = (log : List ℕ)
    → IfOk (csv_trade_records log) (λ entries. HasNineBytesEach entries log)
