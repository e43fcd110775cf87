-- The session of one symbol of a day, and what is told of the symbol by it and by the further checks
-- behind it.
use Rattle.std.specs.Prelude.{◌≡◌, ℕ, Bool, List, Ok}
use Rattle.audit_base.specs.Moments.{Moment}
use Rattle.audit_base.specs.declared.records.OrderRecord.{OrderRecord}
use Rattle.audit_base.specs.declared.records.TradeRecord.{TradeRecord}
use Rattle.day_verdicts.specs.declared.symbol_reports.SymbolReport.{SymbolReport}
use Rattle.day_verdicts.specs.CheckedSymbols.{after_checks, after_given}
use Rattle.day_verdicts.specs.SymbolAnswers.{SymbolAnswer, told_by}
use Rattle.further_checks.specs.declared.findings.FurtherChecks.{FurtherChecks}
use Rattle.record_verdict.specs.declared.before_rule.BeforeRule.{BeforeRule}
use Rattle.session_audit.specs.declared.phases.Phase.{Phase}
use Rattle.session_audit.specs.declared.verdicts.Session.{Session}
use Rattle.session_audit.specs.SessionVerdicts.{IsSessionAfter, IsSessionOfKind, IsSessionOfRecords}

-- this is the session of the symbol over these records
abbrev pub IsSymbolSession : List Phase → Bool → List OrderRecord → List TradeRecord → List ℕ
    → Session → Type 0
IsSymbolSession phases table entries trades symbol session =
    IsSessionOfKind (IsSessionOfRecords symbol phases table entries (Ok trades)) session

-- what a session tells
abbrev pub told_by_session : Session → SymbolAnswer
told_by_session session = record { accepted = session.conforms; text = session.text.items }

-- what is told of a symbol by its session, and then by the checks that are asked for
abbrev pub session_told : FurtherChecks → List OrderRecord → List TradeRecord → List ℕ → Session
    → SymbolAnswer
session_told checks entries trades symbol session =
    after_checks checks entries trades symbol (told_by_session session)

-- What functions pass on.

-- This is told of what was given by its session, and then by the checks.
pub record TellsSession (symbol : List ℕ) (phases : List Phase) (table : Bool)
    (checks : FurtherChecks) (given : BeforeRule) (times : List Moment)
    (report : SymbolReport) : Type 0 where
  pub one : Session
  pub is : IsSessionAfter symbol phases table given one
  pub told_is : told_by report ≡ after_given checks given times (told_by_session one)
