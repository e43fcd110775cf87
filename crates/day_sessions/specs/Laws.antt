-- What follows of a day that is judged by phases, as laws.
use Rattle.std.specs.Prelude.{◌≡◌, ℕ, Bool, List, Ok}
use Rattle.audit_base.specs.declared.records.OrderRecord.{OrderRecord}
use Rattle.audit_base.specs.declared.records.TradeRecord.{TradeRecord}
use Rattle.day_logs.specs.declared.answers.DayAnswer.{DayAnswer}
use Rattle.day_logs.specs.DayAnswers.{IsAnswerToLogs}
use Rattle.day_logs.specs.Laws.{AreWrittenAlike}
use Rattle.day_sessions.specs.JudgedSessions.{AreSessionsOfDay}
use Rattle.day_symbols.specs.Shares.{DayShare, whole_day}
use Rattle.day_symbols.specs.Symbols.{symbols_of_day}
use Rattle.day_verdicts.specs.declared.judging.JudgedSymbols.{JudgedSymbols}
use Rattle.day_verdicts.specs.ShareTelling.{SharesTellTheDay}
use Rattle.further_checks.specs.declared.findings.FurtherChecks.{FurtherChecks}
use Rattle.log_verdict.specs.LogVerdicts.{Log, trades_of_trade_log}
use Rattle.session_audit.specs.declared.phases.Phase.{Phase}

-- one answer: whatever forms two logs are in, the answers to a question about them by phases have
-- one text and one status
abbrev pub OneSessionAnswer : Type 0
OneSessionAnswer = (phases : List Phase) (table : Bool) (checks : FurtherChecks)
    (share : DayShare) (orders trades : Log) (question_text : List ℕ) (a b : DayAnswer)
    → IsAnswerToLogs (AreSessionsOfDay phases table checks share) orders trades a
    → IsAnswerToLogs (AreSessionsOfDay phases table checks share) orders trades b
    → AreWrittenAlike question_text a b

-- shares are the day, by phases: for each number of shares each symbol of the day is in exactly one
-- of them, with the very lines that it has without a share, those of the further checks too; the
-- trades are those of a log in either form
abbrev pub SharesOfPhasesAreTheDay : Type 0
SharesOfPhasesAreTheDay = (phases : List Phase) (table : Bool) (checks : FurtherChecks)
    (log : Log) (entries : List OrderRecord) (trades : List TradeRecord) (whole : JudgedSymbols)
    → trades_of_trade_log log.form log.bytes ≡ Ok (Ok trades)
    → AreSessionsOfDay phases table checks whole_day entries whole trades
    → SharesTellTheDay
    (λ share judged. AreSessionsOfDay phases table checks share entries judged trades)
    (symbols_of_day entries trades) whole
