-- What `desk` does in a call of `run_desk`, whatever seed its hashes begin with:
-- the headline first.
use Rattle.std.specs.Prelude.{◌≡◌, ◌⊎◌, ◌++◌, ℕ, Bool, false, List, Option, Some, MatchResult, nat_lt, if◌then◌else◌}
use Rattle.std.specs.Io.KnownBytes.{Appends}
use Rattle.audit_base.specs.declared.records.OrderRecord.{OrderRecord}
use Rattle.audit_base.specs.declared.records.TradeRecord.{TradeRecord}
use Rattle.audit_base.specs.declared.terms.Rule.{Rule}
use Rattle.audit_base.specs.declared.terms.Which.TheVariants.{Orders, Trades}
use Rattle.audit_base.specs.Words.{rule_word}
use Rattle.audit_report.specs.declared.statuses.Status.{Status}
use Rattle.audit_report.specs.declared.statuses.Status.TheVariants.{Accepted, Rejected}
use Rattle.audit_report.specs.declared.verdicts.Verdict.{Verdict}
use Rattle.audit_report.specs.declared.verdicts.Verdict.TheVariants as verdict
use Rattle.audit_report.specs.Statuses.{verdict_status}
use Rattle.audit_report.specs.Texts.{verdict_text}
use Rattle.command_run.specs.Runs.{AnswersHeldLogs, AnswersTooLong, AnswersWithCause, HoldsLog, IsKnown, NothingFails, RunsOutOfMemory}
use Rattle.day_logs.specs.declared.answers.DayQuestion.{DayQuestion}
use Rattle.audit_report.specs.declared.day_line.DayCounts.{DayCounts}
use Rattle.audit_report.specs.DayTexts.{day_line}
use Rattle.day_sessions.specs.JudgedSessions.{AreSessions, told_by_sessions}
use Rattle.day_symbols.specs.Shares.{DayShare, symbols_in}
use Rattle.day_symbols.specs.Symbols.{symbols_of_day}
use Rattle.day_verdicts.specs.DayVerdicts.{AreVerdicts, told_of_symbols}
use Rattle.day_verdicts.specs.SymbolAnswers.{counts_of, day_lines_of, SymbolAnswer}
use Rattle.desk_words.specs.declared.requests.NamedLogs.{NamedLogs}
use Rattle.desk_words.specs.declared.requests.DeskRequest.{DeskRequest}
use Rattle.desk_words.specs.declared.requests.DeskRequest.TheVariants.{Whole}
use Rattle.desk_words.specs.declared.requests.WholeRequest.TheVariants.{Audit, Session}
use Rattle.desk_words.specs.Texts.{desk_usage_line}
use Rattle.further_checks.specs.declared.findings.FurtherChecks.{FurtherChecks}
use Rattle.log_source.specs.declared.shelf.Shelf.{Ghosts as Shelf}
use Rattle.log_source.specs.Sinks.{SinkState, SinkStays}
use Rattle.log_source.specs.Sources.{longest_read}
use Rattle.log_verdict.specs.LogVerdicts.{Log, OfLogs}
use Rattle.log_verdict.specs.Steps.{reading_within, FaultsNeverFall, KeepsShelfLogs, Reading}
use Rattle.session_audit.specs.declared.phases.Phase.{Phase}
use Rattle.session_audit.specs.Texts.{phases_text}
use Rattle.session_audit.specs.declared.verdicts.Session.{Session as SymbolSession}
use Rattle.desk_run.specs.PlainMessages.{PlainWritesMessages}
use Rattle.desk_run.specs.Requests.{day_question, desk_command_of, share_or_whole}

-- what a call of `desk` knows of a shelf: a log may have 34,359,738,368 bytes
abbrev pub desk_reading : {S : Type 0} → Shelf S → S → S → Reading
desk_reading shelf old new = reading_within longest_read shelf old new

-- two logs as the words of a command name them: by these names, in their forms
abbrev pub logs_named : Log → Log → List ℕ → List ℕ → NamedLogs
logs_named orders trades orders_name trades_name = record {
  orders = orders_name;
  trades = trades_name;
  orders_form = orders.form;
  trades_form = trades.form;
}

-- The call is to judge a day of these two logs: the words ask for that, and the shelf holds both.
pub record IsToJudgeDay (asks : NamedLogs → DeskRequest) (asked : Option DeskRequest)
    (r : Reading) (orders trades : Log) : Type 0 where
  pub orders_name : List ℕ
  pub trades_name : List ℕ
  pub words : asked ≡ Some (asks (logs_named orders trades orders_name trades_name))
  pub holds_orders : HoldsLog r Orders orders_name orders.bytes
  pub holds_trades : HoldsLog r Trades trades_name trades.bytes

-- Exactly this text was written, and this status is answered.
pub record Wrote (the_status : Status) (text : List ℕ) (old new : SinkState)
    (status : Status) : Type 0 where
  pub status_is : status ≡ the_status
  pub wrote : Appends old.wrote new.wrote text

-- exactly the text of this verdict was written, and its status is answered
abbrev pub WroteVerdict : Verdict → SinkState → SinkState → Status → Type 0
WroteVerdict v old new status = Wrote (verdict_status v) (verdict_text v) old new status

-- exactly this was written of a day: the line of these counts, with what the symbols were judged
-- by, and these lines; the status is 1 where a symbol is rejected, and else 0
abbrev pub WroteSymbols : DayCounts → List ℕ → List ℕ → SinkState → SinkState → Status → Type 0
WroteSymbols counts question_text lines old new status =
    Wrote (if nat_lt 0 counts.rejected then Rejected else Accepted)
    (day_line counts question_text ++ lines) old new status

-- exactly what is told of these symbols was written
abbrev pub WroteTold : List (List ℕ) → List SymbolAnswer → List ℕ → SinkState → SinkState
    → Status → Type 0
WroteTold symbols told question_text old new status =
    WroteSymbols (counts_of told) question_text (day_lines_of symbols told) old new status

-- The text of the verdicts on the symbols of the share was written, in their order: of each the
-- lines of the verdict on it alone over these records, with the symbol and a comma before each; or
-- where that accepts it and a further check that is asked for does not, the lines of its finding.
pub record WroteVerdicts (q : DayQuestion) (old new : SinkState) (status : Status)
    (entries : List OrderRecord) (trades : List TradeRecord) : Type 0 where
  pub verdicts : List Verdict
  pub verdicts_are : AreVerdicts q.rule q.table entries trades
      (symbols_in q.share (symbols_of_day entries trades)) verdicts
  pub wrote : WroteTold (symbols_in q.share (symbols_of_day entries trades))
      (told_of_symbols q.checks entries trades
      (symbols_in q.share (symbols_of_day entries trades)) verdicts)
      (rule_word q.rule) old new status

-- The text of the sessions of the symbols of the share was written, in their order: of each the
-- lines of its session alone over these records, with the symbol and a comma before each; or where
-- that conforms and a further check that is asked for does not, the lines of its finding.
pub record WroteSessions (phases : List Phase) (table : Bool) (checks : FurtherChecks)
    (share : DayShare) (old new : SinkState) (status : Status) (entries : List OrderRecord)
    (trades : List TradeRecord) : Type 0 where
  pub sessions : List SymbolSession
  pub sessions_are : AreSessions phases table entries trades
      (symbols_in share (symbols_of_day entries trades)) sessions
  pub wrote : WroteTold (symbols_in share (symbols_of_day entries trades))
      (told_by_sessions checks entries trades
      (symbols_in share (symbols_of_day entries trades)) sessions)
      (phases_text phases) old new status

-- of two logs was written what their records say; where the reports of the trade log do not pair
-- finding 4 alone, of no symbol; where a log is out of its grammar its first bad place
abbrev pub WroteDay : (List OrderRecord → List TradeRecord → Type 0) → Log → Log → SinkState
    → SinkState → Status → Type 0
WroteDay of_records orders trades old new status =
    OfLogs
    (λ entries paired. MatchResult paired (of_records entries)
    (λ finding. WroteVerdict (verdict.Rejected finding) old new status))
    (λ log bad. WroteVerdict (verdict.Malformed log bad) old new status) orders trades

-- whatever two logs the shelf holds, in whatever forms, and however their bytes are cut, where it
-- is known what shelf and sink hold, nothing fails and the words ask for the day of a rule and for
-- no page, exactly its text is written and its status is answered, or memory ran out and nothing
-- was written
abbrev pub AnswersDayOfRule : Option DeskRequest → Reading → SinkState → SinkState → Status
    → Type 0
AnswersDayOfRule asked r old new status = (rule : Rule) (table : Bool) (share : Option DayShare)
    (checks : FurtherChecks) (orders trades : Log)
    → IsToJudgeDay (λ logs. Whole (Audit rule logs table share checks false)) asked r orders trades
    → IsKnown r old → NothingFails r old new
    → WroteDay (WroteVerdicts (day_question rule table share checks) old new status) orders trades
    old new status
    ⊎ RunsOutOfMemory old new status

-- the same where the words ask for the day of phases
abbrev pub AnswersDayOfPhases : Option DeskRequest → Reading → SinkState → SinkState → Status
    → Type 0
AnswersDayOfPhases asked r old new status = (phases : List Phase) (table : Bool)
    (share : Option DayShare) (checks : FurtherChecks) (orders trades : Log)
    → IsToJudgeDay (λ logs. Whole (Session phases logs table share checks false)) asked r
    orders trades
    → IsKnown r old → NothingFails r old new
    → WroteDay (WroteSessions phases table checks (share_or_whole share) old new status)
    orders trades old new status
    ⊎ RunsOutOfMemory old new status

-- The headline: exactly the text of a day is written, of a rule and of phases.
pub record AnswersDay (asked : Option DeskRequest) (r : Reading) (old new : SinkState)
    (status : Status) : Type 0 where
  pub of_rule : AnswersDayOfRule asked r old new status
  pub of_phases : AnswersDayOfPhases asked r old new status

-- What `desk` does in a call of these words, `asked` being what well-formed words ask for:
-- the headline; the same of every command and the logs that it needs; whatever fails, each status
-- with its cause and with what was written; of `plain` whole messages, where it stops; a log that is
-- too long is answered as such; the shelf has what it had; no count of faults falls; and the sink is
-- of the same kind as before.
pub record DeskAnswers {S : Type 0} (shelf : Shelf S) (asked : Option DeskRequest) (old new : S)
    (sink_old sink_new : SinkState) (status : Status) : Type 0 where
  pub headline : AnswersDay asked (desk_reading shelf old new) sink_old sink_new status
  pub commands : AnswersHeldLogs desk_command_of asked (desk_reading shelf old new)
      sink_old sink_new status
  pub causes : AnswersWithCause desk_command_of desk_usage_line asked
      (desk_reading shelf old new) sink_old sink_new status
  pub messages : PlainWritesMessages asked (desk_reading shelf old new) sink_old sink_new status
  pub too_long : AnswersTooLong (desk_reading shelf old new) status
  pub logs : KeepsShelfLogs shelf old new
  pub later : FaultsNeverFall (desk_reading shelf old new)
  pub sink : SinkStays sink_old sink_new
