-- What is answered to a certificate, by what is known of two logs before the rule is looked at.
use Rattle.std.proofs.Common.{◌≡◌, subst, ℕ, List, Result}
use Rattle.audit_base.specs.declared.faults.BadPlace.{BadPlace}
use Rattle.audit_base.specs.declared.findings.Finding.{Finding}
use Rattle.audit_base.specs.declared.orders.Deal.{Deal}
use Rattle.audit_base.specs.declared.orders.Order.{Order}
use Rattle.audit_base.specs.declared.records.OrderRecord.{OrderRecord}
use Rattle.audit_base.specs.declared.records.TradeRecord.{TradeRecord}
use Rattle.audit_base.specs.declared.terms.Which.{Which}
use Rattle.audit_base.specs.Histories.{order_list}
use Rattle.audit_report.specs.declared.verdicts.Verdict.TheVariants as verdict
use Rattle.matching_core.specs.declared.deals_draft.ResolvedTrades.{ResolvedTrades}
use Rattle.record_verdict.specs.declared.before_rule.BeforeRule.TheVariants as before_rule
use Rattle.command_run.specs.declared.answers.Answer.{Answer}
use Rattle.audit_run.specs.Certificates.{IsVerifyAnswer, VerifiesDeals, VerifiesRecords}
use Rattle.command_run.specs.Deciding.{IsAnswerOfKind}
use Rattle.audit_run.specs.JudgedAnswers.{IsVerifyAnswerOn}
use Rattle.command_run.specs.VerdictAnswers.{IsVerdictAnswer}
use Rattle.record_verdict.specs.Scopes.{call_scope}
use Rattle.record_verdict.specs.BeforeRule.{IsResolvedWithoutFinding, IsBeforeRule}
use Rattle.log_verdict.specs.LogVerdicts.{Log, OfLogs}
use Rattle.audit_report.specs.declared.statuses.Status.{Status}
use Rattle.audit_run.proofs.JudgedAnswerLemmas.{of_bad_logs, of_logs}

module _ (symbol : List ℕ) (certificate : List ℕ) where
  -- a bad place is answered, whatever the certificate is
  pub bad_verifies : (orders trades : Log) (log : Which) (bad : BadPlace) (the_status : Status) (text : List ℕ) → IsVerdictAnswer (verdict.Malformed log bad) the_status text
      → OfLogs (λ entries paired. ⊥) (λ which place. (which ≡ log) × (place ≡ bad)) orders trades → IsVerifyAnswer symbol orders trades certificate the_status text
  bad_verifies orders trades log bad the_status text made come =
      of_bad_logs (λ entries paired. VerifiesRecords symbol certificate entries paired the_status text) (λ which place. IsVerdictAnswer (verdict.Malformed which place) the_status text) log bad made orders trades come

module _ (symbol : List ℕ) (certificate : List ℕ) (answer : Answer) where
  -- a finding is answered, whatever the certificate is
  pub found_verifies : (finding : Finding) → IsAnswerOfKind (IsVerdictAnswer (verdict.Rejected finding)) answer → IsAnswerOfKind (IsVerifyAnswerOn symbol (before_rule.Found finding) certificate) answer
  found_verifies finding made orders trades come =
      of_logs (λ entries paired. IsBeforeRule (call_scope symbol) entries paired (before_rule.Found finding)) (λ entries paired. VerifiesRecords symbol certificate entries paired answer.status answer.text.items)
      (λ other place. ⊥) (λ other place. IsVerdictAnswer (verdict.Malformed other place) answer.status answer.text.items)
      (λ entries paired is. rw is made)
      (λ other place never. absurd never) orders trades come

  -- else what came of the certificate is
  pub sound_verifies : (resolved : ResolvedTrades) → IsAnswerOfKind (VerifiesDeals symbol resolved.history resolved.deals.items certificate) answer
      → IsAnswerOfKind (IsVerifyAnswerOn symbol (before_rule.Sound resolved) certificate) answer
  sound_verifies resolved is orders trades come =
      of_logs (λ entries paired. IsBeforeRule (call_scope symbol) entries paired (before_rule.Sound resolved)) (λ entries paired. VerifiesRecords symbol certificate entries paired answer.status answer.text.items)
      (λ other place. ⊥) (λ other place. IsVerdictAnswer (verdict.Malformed other place) answer.status answer.text.items)
      (λ entries paired sound. of_sound entries paired sound) (λ other place never. absurd never) orders trades come
    where
      of_sound : (entries : List OrderRecord) (paired : Result (List TradeRecord) Finding) → IsResolvedWithoutFinding (call_scope symbol) entries paired resolved → VerifiesRecords symbol certificate entries paired answer.status answer.text.items
      of_sound entries paired sound =
          rw sound.none
          (subst (λ (ds : List Deal). VerifiesDeals symbol (order_list symbol entries) ds certificate answer.status answer.text.items) sound.deals
          (subst (λ (os : List Order). VerifiesDeals symbol os resolved.deals.items certificate answer.status answer.text.items) sound.orders is))
