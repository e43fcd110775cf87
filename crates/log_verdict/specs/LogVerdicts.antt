-- What a log says in its form, and the verdict on two logs.
use Rattle.std.specs.Prelude.{◌≡◌, ℕ, List, Result, Ok, Err, MatchResult}
use Rattle.audit_base.specs.declared.terms.Which.{Which}
use Rattle.audit_base.specs.declared.terms.Which.TheVariants.{Orders, Trades}
use Rattle.audit_base.specs.declared.terms.Form.{Form}
use Rattle.audit_base.specs.declared.terms.Form.TheVariants.{Csv, Fix}
use Rattle.audit_base.specs.declared.faults.BadPlace.{BadPlace}
use Rattle.audit_base.specs.declared.faults.LogFault.{LogFault}
use Rattle.audit_base.specs.declared.faults.LogFault.TheVariants as fault
use Rattle.audit_base.specs.declared.findings.Finding.{Finding}
use Rattle.audit_base.specs.declared.records.OrderRecord.{OrderRecord}
use Rattle.audit_base.specs.declared.records.TradeRecord.{TradeRecord}
use Rattle.audit_report.specs.declared.verdicts.Verdict.{Verdict}
use Rattle.audit_report.specs.declared.verdicts.Verdict.TheVariants.{Malformed}
use Rattle.csv_logs.specs.Logs as csv
use Rattle.fix_messages.specs.Logs as fix
use Rattle.fix_messages.specs.Pairings.{Report, pairing}
use Rattle.record_verdict.specs.declared.questions.Question.{Question}
use Rattle.record_verdict.specs.RecordVerdicts.{IsRecordVerdict}

-- A log: its bytes, and the form that they are read in.
pub record Log : Type 0 where
  pub form : Form
  pub bytes : List ℕ

-- the log of these bytes in this form
abbrev pub log_in : Form → List ℕ → Log
log_in form bytes = record { form = form; bytes = bytes }

-- what an order log says: its records, or its first bad place
abbrev pub records_of_order_log : Form → List ℕ → Result (List OrderRecord) BadPlace
records_of_order_log Csv bytes = csv.csv_order_records bytes
records_of_order_log Fix bytes = fix.fix_order_records bytes

-- each record of a CSV log is a trade
abbrev pub trades_without_pairing : Result (List TradeRecord) BadPlace
    → Result (Result (List TradeRecord) Finding) BadPlace
trades_without_pairing (Ok trades) = Ok (Ok trades)
trades_without_pairing (Err bad) = Err bad

-- the reports of a FIX log are paired into trades
abbrev pub paired_reports : Result (List Report) BadPlace
    → Result (Result (List TradeRecord) Finding) BadPlace
paired_reports (Ok reports) = Ok (pairing reports)
paired_reports (Err bad) = Err bad

-- what a trade log says: its trades, or finding 4 in their place where its reports do not pair;
-- or its first bad place
abbrev pub trades_of_trade_log : Form → List ℕ → Result (Result (List TradeRecord) Finding) BadPlace
trades_of_trade_log Csv bytes = trades_without_pairing (csv.csv_trade_records bytes)
trades_of_trade_log Fix bytes = paired_reports (fix.fix_report_records bytes)

-- the logs have these records and these trades
pub record HaveRecords (orders trades : Log) (entries : List OrderRecord)
    (paired : Result (List TradeRecord) Finding) : Type 0 where
  pub records : records_of_order_log orders.form orders.bytes ≡ Ok entries
  pub trades_are : trades_of_trade_log trades.form trades.bytes ≡ Ok paired

-- of two logs: an order log out of its grammar is answered by its first bad place,
-- and the trade log is not looked at; else a trade log out of its grammar is answered
-- by its own; else the records of both are
abbrev pub OfLogs : (List OrderRecord → Result (List TradeRecord) Finding → Type 0)
    → (Which → BadPlace → Type 0) → Log → Log → Type 0
OfLogs of_records of_bad orders trades =
    MatchResult (records_of_order_log orders.form orders.bytes)
    (λ entries. MatchResult (trades_of_trade_log trades.form trades.bytes) (of_records entries)
    (of_bad Trades))
    (of_bad Orders)

-- Verdict: that of the first bad place, or else that of the records
abbrev pub IsLogVerdict : Question → Log → Log → Verdict → Type 0
IsLogVerdict question orders trades verdict =
    OfLogs (λ entries paired. IsRecordVerdict question entries paired verdict)
    (λ log bad. verdict ≡ Malformed log bad) orders trades

-- why a log is not decoded: it is bad there, or memory ran out
abbrev pub IsDecodeFault : {R : Type 0} → Result R BadPlace → LogFault → Type 0
IsDecodeFault said (fault.Bad bad) = said ≡ Err bad
IsDecodeFault said fault.Memory = Unit {0}
