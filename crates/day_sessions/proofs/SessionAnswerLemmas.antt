-- The answer to what two logs come to: the sessions of the symbols.
use Rattle.std.proofs.Common.{Bool, List, Result, Ok, Err}
use Rattle.audit_base.specs.declared.findings.Finding.{Finding}
use Rattle.audit_base.specs.declared.records.OrderRecord.{OrderRecord}
use Rattle.audit_base.specs.declared.records.TradeRecord.{TradeRecord}
use Rattle.day_logs.specs.declared.answers.DayAnswer.TheVariants as answer
use Rattle.day_logs.specs.declared.before_rule.DayBeforeRule.TheVariants as before_rule
use Rattle.day_logs.specs.DayAnswers.{IsAnswerToRecords, IsAnswerUpToRule}
use Rattle.day_logs.specs.DayBeforeRule.{IsDayBeforeRule}
use Rattle.day_sessions.specs.JudgedSessions.{AreSessionsOfDay, AreJudgedSessionsOfShare}
use Rattle.day_symbols.specs.Shares.{DayShare}
use Rattle.day_records.specs.declared.day_trades.DayRecords.{DayRecords}
use Rattle.day_verdicts.specs.declared.judging.JudgedSymbols.{JudgedSymbols}
use Rattle.further_checks.specs.declared.findings.FurtherChecks.{FurtherChecks}
use Rattle.record_verdict.specs.declared.scopes.Admission.TheVariants as admission
use Rattle.session_audit.specs.declared.phases.Phase.{Phase}

pub sessions-up-to : (phases : List Phase) (table : Bool) (checks : FurtherChecks) (share : DayShare) (ended : DayRecords) (judged : JudgedSymbols) → AreJudgedSessionsOfShare phases table checks share ended judged
    → IsAnswerUpToRule share admission.All (AreSessionsOfDay phases table checks share) (before_rule.Read ended) (answer.Judged judged)
sessions-up-to phases table checks share ended judged is = of-records
  where
    of-records : (entries : List OrderRecord) (paired : Result (List TradeRecord) Finding) → IsDayBeforeRule share admission.All entries paired (before_rule.Read ended)
        → IsAnswerToRecords (AreSessionsOfDay phases table checks share) entries paired (answer.Judged judged)
    of-records entries (Ok trades) has = is entries trades has
    of-records entries (Err finding) has = has
