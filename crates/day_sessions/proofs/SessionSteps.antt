-- The sessions of the symbols of a day, with one more.
use Rattle.std.proofs.Common.{◌≡◌, ◌∙◌, ℕ, Bool, false, Option, Some, List, [], ◌∷◌, ◌++◌, Ok, length, subst}
use Rattle.std.specs.Prelude.{MatchOption}
use Rattle.audit_base.specs.Moments.{Moment}
use Rattle.audit_base.specs.declared.findings.Finding.{Finding}
use Rattle.audit_base.specs.declared.records.OrderRecord.{OrderRecord}
use Rattle.audit_base.specs.declared.records.TradeRecord.{TradeRecord}
use Rattle.audit_base.specs.Histories.{order_list}
use Rattle.audit_base.specs.Trades.{deals_of_symbol}
use Rattle.audit_report.specs.declared.verdicts.Verdict.TheVariants.{Rejected}
use Rattle.session_audit.specs.declared.verdicts.Session.{Session}
use Rattle.session_audit.specs.SessionVerdicts.{IsRejectedSession, IsSessionOfDeals}
use Rattle.day_sessions.specs.JudgedSessions.{AreJudgedSessions}
use Rattle.day_sessions.specs.SymbolSessions.{IsSymbolSession, TellsSession, session_told, told_by_session}
use Rattle.day_verdicts.specs.declared.judging.JudgedSymbols.{JudgedSymbols}
use Rattle.day_verdicts.specs.declared.symbol_reports.SymbolReport.{SymbolReport}
use Rattle.day_verdicts.specs.SymbolAnswers.{AddsTold, told_by}
use Rattle.day_verdicts.proofs.CheckLemmas.{told-after}
use Rattle.day_verdicts.proofs.GivenRecords.{IsGivenOf}
use Rattle.day_verdicts.proofs.TellLemmas.{tells-more}
use Rattle.day_verdicts.proofs.VerdictSteps.{for-each-more}
use Rattle.further_checks.specs.declared.findings.FurtherChecks.{FurtherChecks}
use Rattle.further_checks.specs.FurtherRules.{asks_further}
use Rattle.further_checks.specs.Laws.{NothingIsFoundUnasked}
use Rattle.record_verdict.specs.declared.before_rule.BeforeRule.{BeforeRule}
use Rattle.record_verdict.specs.declared.before_rule.BeforeRule.TheVariants as before_rule
use Rattle.record_verdict.specs.declared.scopes.Admission.TheVariants as admission
use Rattle.record_verdict.specs.BeforeRule.{IsBeforeRule}
use Rattle.record_verdict.specs.Scopes.{finding_before_rule_in_scope, session_scope}
use Rattle.session_audit.specs.declared.phases.Phase.{Phase}

-- a session after a finding before the phases rejects
session-rejects : (symbol : List ℕ) (phases : List Phase) (table : Bool) (entries : List OrderRecord) (trades : List TradeRecord) (given : BeforeRule) (session : Session) → IsBeforeRule (session_scope symbol) entries (Ok trades) given
    → IsSymbolSession phases table entries trades symbol session → (finding : Finding) → given ≡ before_rule.Found finding → session.conforms ≡ false
session-rejects symbol phases table entries trades given session before is finding found =
    let there : finding_before_rule_in_scope (session_scope symbol) entries (Ok trades) ≡ Some finding =
    subst (λ (g : BeforeRule). IsBeforeRule (session_scope symbol) entries (Ok trades) g) found before in
    (subst (λ (f : Option Finding). MatchOption f (IsSessionOfDeals symbol phases table (order_list symbol entries) (deals_of_symbol (order_list symbol entries) symbol trades) (length trades) session.conforms session.text.items)
    (λ x. IsRejectedSession (Rejected x) session.conforms session.text.items)) there is).conforms_is

-- the sessions of one symbol more
pub sessions-more : NothingIsFoundUnasked → (phases : List Phase) (table : Bool) (checks : FurtherChecks) (entries : List OrderRecord) (trades : List TradeRecord) (symbols : List (List ℕ)) (symbol : List ℕ) (given : BeforeRule) (times : List Moment) (report : SymbolReport) (old new : JudgedSymbols)
    → IsGivenOf admission.All (asks_further checks) symbol given times entries trades → TellsSession symbol phases table checks given times report → AddsTold old new symbol (told_by report)
    → AreJudgedSessions phases table checks entries trades symbols old → AreJudgedSessions phases table checks entries trades (symbols ++ symbol ∷ []) new
sessions-more none phases table checks entries trades symbols symbol given times report old new is tells adds before =
    let judged : IsSymbolSession phases table entries trades symbol tells.one = tells.is entries (Ok trades) is.before in
    let told = told-after none checks (session_scope symbol) entries trades given times (told_by_session tells.one) is.before is.times_are (session-rejects symbol phases table entries trades given tells.one is.before judged) in
    record {
      sessions = before.sessions ++ tells.one ∷ [];
      sessions_are = for-each-more (IsSymbolSession phases table entries trades) symbols before.sessions symbol tells.one before.sessions_are judged;
      tells = tells-more (session_told checks entries trades) symbols before.sessions symbol tells.one (told_by report) old new before.sessions_are.same_length (tells.told_is ∙ told) adds before.tells;
    }
