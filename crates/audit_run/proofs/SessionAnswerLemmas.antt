-- What `session` answers, by what is known of two logs before the phases are looked at.
use Rattle.std.proofs.Common.{◌≡◌, subst, sym, ℕ, List, Result}
use Rattle.audit_base.specs.declared.faults.BadPlace.{BadPlace}
use Rattle.audit_base.specs.declared.findings.Finding.{Finding}
use Rattle.audit_base.specs.declared.records.OrderRecord.{OrderRecord}
use Rattle.audit_base.specs.declared.records.TradeRecord.{TradeRecord}
use Rattle.audit_base.specs.declared.terms.Which.{Which}
use Rattle.audit_report.specs.declared.verdicts.Verdict.TheVariants as verdict
use Rattle.session_audit.specs.declared.questions.PhaseQuestion.{PhaseQuestion}
use Rattle.session_audit.specs.declared.verdicts.Session.{Session}
use Rattle.session_audit.specs.SessionVerdicts.{session_status, IsSessionAfter, IsSessionOfRecords}
use Rattle.record_verdict.specs.declared.before_rule.BeforeRule.{BeforeRule}
use Rattle.command_run.specs.declared.answers.Answer.{Answer}
use Rattle.record_verdict.specs.Scopes.{session_scope}
use Rattle.command_run.specs.Deciding.{IsAnswerOfKind}
use Rattle.audit_run.specs.JudgedAnswers.{IsSessionAnswerOn}
use Rattle.audit_run.specs.Sessions.{IsSessionAnswer, IsSessionAnswerToRecords}
use Rattle.command_run.specs.VerdictAnswers.{IsVerdictAnswer}
use Rattle.record_verdict.specs.BeforeRule.{IsBeforeRule}
use Rattle.log_verdict.specs.LogVerdicts.{Log, OfLogs}
use Rattle.audit_report.specs.declared.statuses.Status.{Status}
use Rattle.audit_run.proofs.JudgedAnswerLemmas.{of_bad_logs, of_logs}

module _ (q : PhaseQuestion) where
  -- a bad place is answered, whatever the phases are
  pub bad_session : (orders trades : Log) (log : Which) (bad : BadPlace) (the_status : Status) (text : List ℕ) → IsVerdictAnswer (verdict.Malformed log bad) the_status text
      → OfLogs (λ entries paired. ⊥) (λ which place. (which ≡ log) × (place ≡ bad)) orders trades → IsSessionAnswer q.symbol q.phases.now q.table orders trades the_status text
  bad_session orders trades log bad the_status text made come =
      of_bad_logs (λ entries paired. IsSessionAnswerToRecords q.symbol q.phases.now q.table entries paired the_status text) (λ which place. IsVerdictAnswer (verdict.Malformed which place) the_status text) log bad made orders trades come

  -- else the session of the records is
  pub session_answers : (answer : Answer) (given : BeforeRule) (session : Session) → IsSessionAfter q.symbol q.phases.now q.table given session
      → answer.status ≡ session_status session.conforms → answer.text.items ≡ session.text.items → IsAnswerOfKind (IsSessionAnswerOn q given) answer
  session_answers answer given session is status_is text_is orders trades come =
      of_logs (λ entries paired. IsBeforeRule (session_scope q.symbol) entries paired given) (λ entries paired. IsSessionAnswerToRecords q.symbol q.phases.now q.table entries paired answer.status answer.text.items)
      (λ other place. ⊥) (λ other place. IsVerdictAnswer (verdict.Malformed other place) answer.status answer.text.items)
      (λ entries paired known. of_records entries paired (is entries paired known)) (λ other place never. absurd never) orders trades come
    where
      of_records : (entries : List OrderRecord) (paired : Result (List TradeRecord) Finding) → IsSessionOfRecords q.symbol q.phases.now q.table entries paired session.conforms session.text.items
          → IsSessionAnswerToRecords q.symbol q.phases.now q.table entries paired answer.status answer.text.items
      of_records entries paired of_them = record {
        conforms = session.conforms;
        is = subst (λ (text : List ℕ). IsSessionOfRecords q.symbol q.phases.now q.table entries paired session.conforms text) (sym text_is) of_them;
        status_is = status_is;
      }
