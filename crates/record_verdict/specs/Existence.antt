-- That the records of two logs have a verdict on every question, as a statement.
use Rattle.std.specs.Prelude.{◌<◌, ◌^◌, List, Result, length}
use Rattle.audit_base.specs.declared.findings.Finding.{Finding}
use Rattle.audit_base.specs.declared.records.OrderRecord.{OrderRecord}
use Rattle.audit_base.specs.declared.records.TradeRecord.{TradeRecord}
use Rattle.audit_base.specs.RecordRanges.{RecordsInRange}
use Rattle.audit_base.specs.Trades.{TradesInRange}
use Rattle.audit_base.specs.Verdicts.{paired_trades}
use Rattle.audit_report.specs.declared.verdicts.Verdict.{Verdict}
use Rattle.record_verdict.specs.declared.questions.Question.{Question}
use Rattle.record_verdict.specs.RecordVerdicts.{IsRecordVerdict}

-- under each of the five rules the records of two logs have a verdict: a finding, or what is
-- reported of an accepted log, with its bound, its table and its only quantities
abbrev pub RecordVerdictExists : Type 0
RecordVerdictExists = (q : Question) (entries : List OrderRecord)
    (paired : Result (List TradeRecord) Finding) → length entries < 2 ^ 32
    → RecordsInRange entries
    → TradesInRange (paired_trades paired)
    → (the_verdict : Verdict) × IsRecordVerdict q entries paired the_verdict
