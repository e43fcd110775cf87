-- The sessions of the symbols of a share, and what is told of the symbols by them.
use Rattle.std.specs.Prelude.{ℕ, Bool, List}
use Rattle.audit_base.specs.declared.records.OrderRecord.{OrderRecord}
use Rattle.audit_base.specs.declared.records.TradeRecord.{TradeRecord}
use Rattle.day_logs.specs.DayAnswers.{DayMeaning}
use Rattle.session_audit.specs.declared.verdicts.Session.{Session}
use Rattle.day_sessions.specs.declared.questions.SessionQuestion.{SessionQuestion}
use Rattle.day_sessions.specs.SymbolSessions.{IsSymbolSession, session_told}
use Rattle.day_symbols.specs.Kept.{AreForEach}
use Rattle.day_symbols.specs.Shares.{DayShare, symbols_in}
use Rattle.day_symbols.specs.Symbols.{symbols_of_day}
use Rattle.day_records.specs.declared.day_trades.DayRecords.{DayRecords}
use Rattle.day_records.specs.DayTrades.{HasTradesOf}
use Rattle.day_verdicts.specs.declared.judging.JudgedSymbols.{JudgedSymbols}
use Rattle.day_verdicts.specs.SymbolAnswers.{tell_each, SymbolAnswer, TellsSymbols}
use Rattle.further_checks.specs.declared.findings.FurtherChecks.{FurtherChecks}
use Rattle.record_verdict.specs.declared.scopes.Admission.TheVariants as admission
use Rattle.session_audit.specs.declared.phases.Phase.{Phase}

-- of each of these symbols this is what `session` answers for it over these records
abbrev pub AreSessions : List Phase → Bool → List OrderRecord → List TradeRecord → List (List ℕ)
    → List Session → Type 0
AreSessions phases table entries trades symbols sessions =
    AreForEach (IsSymbolSession phases table entries trades) symbols sessions

-- what is told of each of these symbols by its session, and then by the checks
abbrev pub told_by_sessions : FurtherChecks → List OrderRecord → List TradeRecord → List (List ℕ)
    → List Session → List SymbolAnswer
told_by_sessions checks entries trades symbols sessions =
    tell_each (session_told checks entries trades) symbols sessions

-- These are the counts and the lines of the sessions of these symbols, and of the checks.
pub record AreJudgedSessions (phases : List Phase) (table : Bool) (checks : FurtherChecks)
    (entries : List OrderRecord) (trades : List TradeRecord) (symbols : List (List ℕ))
    (judged : JudgedSymbols) : Type 0 where
  pub sessions : List Session
  pub sessions_are : AreSessions phases table entries trades symbols sessions
  pub tells : TellsSymbols symbols (told_by_sessions checks entries trades symbols sessions) judged

-- What functions pass on.

-- whatever records the day has, these are the counts and lines of the sessions of the symbols of
-- the share
abbrev pub AreJudgedSessionsOfShare : List Phase → Bool → FurtherChecks → DayShare → DayRecords
    → JudgedSymbols → Type 0
AreJudgedSessionsOfShare phases table checks share ended judged =
    (entries : List OrderRecord) (trades : List TradeRecord)
    → HasTradesOf share admission.All entries ended trades
    → AreJudgedSessions phases table checks entries trades
    (symbols_in share (symbols_of_day entries trades)) judged

-- what the counts and lines of the sessions of the symbols of a share mean
abbrev pub AreSessionsOfDay : List Phase → Bool → FurtherChecks → DayShare → DayMeaning
AreSessionsOfDay phases table checks share entries judged trades =
    AreJudgedSessions phases table checks entries trades
    (symbols_in share (symbols_of_day entries trades)) judged

-- what they mean where this is asked of the day
abbrev pub AreSessionsAsked : SessionQuestion → DayMeaning
AreSessionsAsked q = AreSessionsOfDay q.phases.now q.table q.checks q.share
