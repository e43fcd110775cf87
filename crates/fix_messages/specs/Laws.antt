-- What holds of every body and every FIX log, as statements: of every list of bytes, however long.
use Rattle.std.specs.Prelude.{◌≡◌, ◌↔◌, ℕ, IfOk, Option, Result, List}
use Rattle.audit_base.specs.declared.faults.Reason.{Reason}
use Rattle.audit_base.specs.RecordRanges.{RecordsInRange}
use Rattle.audit_base.specs.Trades.{TradesInRange}
use Rattle.fix_messages.specs.Bodies.{MessageMeaning, BodySays, body_says}
use Rattle.fix_messages.specs.Logs.{IsOnlyFixReading, fix_order_records, read_fix_log, fix_report_records}
use Rattle.log_source.specs.Collectors.{HasNineBytesEach}
use Rattle.trade_reports.specs.Pairings.{pairing}
use Rattle.trade_reports.specs.Ranges.{ReportsInRange}

-- what a body says by the grammar of its fields is what is found from its front, and nothing else:
-- each body says one thing
abbrev pub BodySaysOnce : {R : Type 0} → MessageMeaning R → Type 0
BodySaysOnce {R} meaning = (body : List ℕ) (said : Result (Option R) Reason)
    → BodySays meaning body said ↔ (said ≡ body_says meaning body)

-- each log is good with exactly one list of records, or bad at exactly one place, and never both
abbrev pub FixLogsAreReadOnce : {R : Type 0} → MessageMeaning R → Type 0
FixLogsAreReadOnce meaning =
    (log : List ℕ) → IsOnlyFixReading meaning log (read_fix_log meaning log)

-- the numbers of each record of a good order log are in range
abbrev pub FixOrdersAreInRange : Type 0
FixOrdersAreInRange = (log : List ℕ) → IfOk (fix_order_records log) RecordsInRange

-- the numbers of each report of a good log of trade reports are in range
abbrev pub ReportsAreInRange : Type 0
ReportsAreInRange = (log : List ℕ) → IfOk (fix_report_records log) ReportsInRange

-- and so are those of each trade that they pair into
abbrev pub FixTradesAreInRange : Type 0
FixTradesAreInRange = (log : List ℕ)
    → IfOk (fix_report_records log) (λ reports. IfOk (pairing reports) TradesInRange)

-- each record of a good order log, and each report of a good log of reports,
-- has at least nine bytes of the log
abbrev pub FixOrdersHaveNineBytes : Type 0
FixOrdersHaveNineBytes = (log : List ℕ)
    → IfOk (fix_order_records log) (λ entries. HasNineBytesEach entries log)

abbrev pub ReportsHaveNineBytes : Type 0
ReportsHaveNineBytes = (log : List ℕ)
    → IfOk (fix_report_records log) (λ reports. HasNineBytesEach reports log)
