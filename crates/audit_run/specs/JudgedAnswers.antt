-- What is answered to two logs, by what they give before the rule is looked at.
use Rattle.std.specs.Prelude.{List, ℕ}
use Rattle.audit_certificate.specs.Agreement.{AgreesUnder, IsCertificateUnder}
use Rattle.audit_report.specs.declared.statuses.Status.{Status}
use Rattle.session_audit.specs.declared.questions.PhaseQuestion.{PhaseQuestion}
use Rattle.matching_core.specs.declared.deals_draft.ResolvedTrades.{ResolvedTrades}
use Rattle.record_verdict.specs.declared.before_rule.BeforeRule.{BeforeRule}
use Rattle.record_verdict.specs.declared.questions.Question.{Question}
use Rattle.audit_run.specs.Certificates.{IsCertifyAnswer, IsVerifyAnswer}
use Rattle.audit_run.specs.Sessions.{IsSessionAnswer}
use Rattle.log_verdict.specs.LogVerdicts.{Log, OfLogs}
use Rattle.record_verdict.specs.BeforeRule.{IsBeforeRule}
use Rattle.record_verdict.specs.Scopes.{call_scope, scope_of, session_scope}
use Rattle.record_verdict.specs.declared.scopes.Scope.{Scope}

-- two logs have records, and these give this before the rule is looked at
abbrev pub LogsReach : Scope → Log → Log → BeforeRule → Type 0
LogsReach scope orders trades given =
    OfLogs (λ entries paired. IsBeforeRule scope entries paired given)
    (λ log bad. ⊥) orders trades

-- `certify` answers this to whatever logs that give this before the rule
abbrev pub IsCertifyAnswerOn : Question → BeforeRule → Status → List ℕ → Type 0
IsCertifyAnswerOn q given status text =
    (orders trades : Log) → LogsReach (scope_of q) orders trades given
    → IsCertifyAnswer q orders trades status text

-- `verify`, with this certificate, answers this to whatever logs that give this before the rule
abbrev pub IsVerifyAnswerOn : List ℕ → BeforeRule → List ℕ → Status → List ℕ → Type 0
IsVerifyAnswerOn symbol given certificate status text =
    (orders trades : Log) → LogsReach (call_scope symbol) orders trades given
    → IsVerifyAnswer symbol orders trades certificate status text

-- `session`, with these phases, answers this to whatever logs that give this before the rule
abbrev pub IsSessionAnswerOn : PhaseQuestion → BeforeRule → Status → List ℕ → Type 0
IsSessionAnswerOn q given status text =
    (orders trades : Log) → LogsReach (session_scope q.symbol) orders trades given
    → IsSessionAnswer q.symbol q.phases.now q.table orders trades status text

-- The text is the certificate of these deals, which agrees.
pub record IsDealsCertificate (q : Question) (resolved : ResolvedTrades)
    (text : List ℕ) : Type 0 where
  pub certificate : IsCertificateUnder q.rule q.symbol resolved.history resolved.deals.items
      text
  pub agrees : AgreesUnder q.rule q.symbol resolved.history resolved.deals.items text
