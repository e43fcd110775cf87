-- What the command `session` answers to two logs: the session of their records, or their first
-- bad place.
use Rattle.std.specs.Prelude.{◌≡◌, ℕ, Bool, List, Result}
use Rattle.audit_base.specs.declared.findings.Finding.{Finding}
use Rattle.audit_base.specs.declared.records.OrderRecord.{OrderRecord}
use Rattle.audit_base.specs.declared.records.TradeRecord.{TradeRecord}
use Rattle.audit_report.specs.declared.statuses.Status.{Status}
use Rattle.audit_report.specs.declared.verdicts.Verdict.TheVariants.{Malformed}
use Rattle.session_audit.specs.declared.phases.Phase.{Phase}
use Rattle.session_audit.specs.SessionVerdicts.{session_status, IsSessionOfRecords}
use Rattle.log_verdict.specs.LogVerdicts.{Log, OfLogs}
use Rattle.command_run.specs.VerdictAnswers.{IsVerdictAnswer}

-- Over records `session` answers the status and the text of their session.
pub record IsSessionAnswerToRecords (symbol : List ℕ) (phases : List Phase) (table : Bool)
    (entries : List OrderRecord) (paired : Result (List TradeRecord) Finding) (status : Status)
    (text : List ℕ) : Type 0 where
  pub conforms : Bool
  pub is : IsSessionOfRecords symbol phases table entries paired conforms text
  pub status_is : status ≡ session_status conforms

-- `session` answers the first bad place of logs out of their grammar; else what it
-- answers over their records
abbrev pub IsSessionAnswer : List ℕ → List Phase → Bool → Log → Log → Status → List ℕ → Type 0
IsSessionAnswer symbol phases table orders trades status text =
    OfLogs
    (λ entries paired. IsSessionAnswerToRecords symbol phases table entries paired status text)
    (λ log bad. IsVerdictAnswer (Malformed log bad) status text) orders trades
