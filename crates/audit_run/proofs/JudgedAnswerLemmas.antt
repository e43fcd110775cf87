-- What is answered to two logs, by what is known of them before the rule is looked at.
use Rattle.std.proofs.Common.{◌≡◌, subst, refl, ℕ, List, Option, None, Some, Result, Ok, Err}
use Rattle.std.specs.Prelude.{MatchResult}
use Rattle.audit_base.specs.declared.faults.BadPlace.{BadPlace}
use Rattle.audit_base.specs.declared.findings.Finding.{Finding}
use Rattle.audit_base.specs.declared.orders.Deal.{Deal}
use Rattle.audit_base.specs.declared.orders.Order.{Order}
use Rattle.audit_base.specs.declared.records.OrderRecord.{OrderRecord}
use Rattle.audit_base.specs.declared.records.TradeRecord.{TradeRecord}
use Rattle.audit_base.specs.declared.terms.Which.{Which}
use Rattle.audit_base.specs.declared.terms.Which.TheVariants.{Orders, Trades}
use Rattle.audit_base.specs.Histories.{order_list}
use Rattle.audit_base.specs.Rules.{Conforms}
use Rattle.audit_base.specs.Verdicts.{IsRuleFinding}
use Rattle.audit_certificate.specs.Agreement.{AgreesUnder, IsCertificateUnder}
use Rattle.audit_report.specs.declared.verdicts.Accepted.{Accepted}
use Rattle.audit_report.specs.declared.verdicts.Verdict.TheVariants as verdict
use Rattle.matching_core.specs.declared.deals_draft.ResolvedTrades.{ResolvedTrades}
use Rattle.record_verdict.specs.declared.before_rule.BeforeRule.{BeforeRule}
use Rattle.record_verdict.specs.declared.before_rule.BeforeRule.TheVariants as before_rule
use Rattle.record_verdict.specs.declared.questions.Question.{Question}
use Rattle.record_verdict.specs.declared.verdicts.RecordVerdict.{RecordVerdict}
use Rattle.record_verdict.specs.declared.verdicts.RecordVerdict.TheVariants as judged
use Rattle.record_verdict.specs.RecordVerdict.{as_verdict}
use Rattle.command_run.specs.declared.answers.Answer.{Answer}
use Rattle.audit_report.specs.declared.statuses.Status.{Status}
use Rattle.audit_run.specs.Certificates.{IsCertificateOf, IsCertifyAnswer, IsVerdictAnswerWith}
use Rattle.command_run.specs.Deciding.{IsAnswerOfKind}
use Rattle.audit_run.specs.JudgedAnswers.{IsCertifyAnswerOn, IsDealsCertificate, LogsReach}
use Rattle.command_run.specs.VerdictAnswers.{IsVerdictAnswer}
use Rattle.record_verdict.specs.RecordVerdicts.{IsRecordVerdict, IsOutcomeByFinding}
use Rattle.log_verdict.specs.LogVerdicts.{records_of_order_log, trades_of_trade_log, HaveRecords, IsLogVerdict, Log, OfLogs}
use Rattle.record_verdict.specs.Scopes.{scope_of}
use Rattle.record_verdict.specs.Stages.{VerdictFollowsDeals, IsVerdictAfterStages}
use Rattle.record_verdict.specs.BeforeRule.{IsResolvedWithoutFinding, IsBeforeRule}

-- what follows of records and of a bad place follows of two logs
pub of_logs : (P P' : List OrderRecord → Result (List TradeRecord) Finding → Type 0) (B B' : Which → BadPlace → Type 0)
    → ((entries : List OrderRecord) (paired : Result (List TradeRecord) Finding) → P entries paired → P' entries paired)
    → ((log : Which) (bad : BadPlace) → B log bad → B' log bad) → (orders trades : Log) → OfLogs P B orders trades → OfLogs P' B' orders trades
of_logs P P' B B' records bads orders trades come = of_said (records_of_order_log orders.form orders.bytes) (trades_of_trade_log trades.form trades.bytes) come
  where
    of_said : (first : Result (List OrderRecord) BadPlace) (second : Result (Result (List TradeRecord) Finding) BadPlace)
        → MatchResult first (λ entries. MatchResult second (P entries) (B Trades)) (B Orders) → MatchResult first (λ entries. MatchResult second (P' entries) (B' Trades)) (B' Orders)
    of_said (Ok entries) (Ok paired) is = records entries paired is
    of_said (Ok entries) (Err bad) is = bads Trades bad is
    of_said (Err bad) second is = bads Orders bad is

-- what holds of a first bad place holds of two logs that have it
pub of_bad_logs : (P : List OrderRecord → Result (List TradeRecord) Finding → Type 0) (B : Which → BadPlace → Type 0) (log : Which) (bad : BadPlace) → B log bad → (orders trades : Log)
    → OfLogs (λ entries paired. ⊥) (λ which place. (which ≡ log) × (place ≡ bad)) orders trades → OfLogs P B orders trades
of_bad_logs P B log bad holds orders trades come =
    of_logs (λ entries paired. ⊥) P (λ which place. (which ≡ log) × (place ≡ bad)) B (λ entries paired never. absurd never) (λ which place same. rw (same.0, same.1) holds) orders trades come

-- the verdict by what is known of two logs is that of the logs
pub verdict_of_logs : (q : Question) (reached : BeforeRule) (v : RecordVerdict) (orders trades : Log) → IsVerdictAfterStages q reached v → LogsReach (scope_of q) orders trades reached → IsLogVerdict q orders trades (as_verdict v)
verdict_of_logs q reached v orders trades is come =
    of_logs (λ entries paired. IsBeforeRule (scope_of q) entries paired reached) (λ entries paired. IsRecordVerdict q entries paired (as_verdict v))
    (λ log bad. ⊥) (λ log bad. as_verdict v ≡ verdict.Malformed log bad) is.of_records (λ log bad never. absurd never) orders trades come

-- the answer of a bad place is that of `certify`
pub bad_certifies : (q : Question) (orders trades : Log) (log : Which) (bad : BadPlace) (the_status : Status) (text : List ℕ) → IsVerdictAnswer (verdict.Malformed log bad) the_status text
    → OfLogs (λ entries paired. ⊥) (λ which place. (which ≡ log) × (place ≡ bad)) orders trades → IsCertifyAnswer q orders trades the_status text
bad_certifies q orders trades log bad the_status text made come = record {
  verdict = verdict.Malformed log bad;
  is = of_bad_logs (λ entries paired. IsRecordVerdict q entries paired (verdict.Malformed log bad)) (λ which place. verdict.Malformed log bad ≡ verdict.Malformed which place) log bad refl orders trades come;
  answer = made;
}

-- so is that of a finding
pub found_certifies : (q : Question) (finding : Finding) (v : RecordVerdict) (answer : Answer) → IsVerdictAfterStages q (before_rule.Found finding) v → IsAnswerOfKind (IsVerdictAnswer (verdict.Rejected finding)) answer
    → IsAnswerOfKind (IsCertifyAnswerOn q (before_rule.Found finding)) answer
found_certifies q finding v answer is made orders trades come = record {
  verdict = verdict.Rejected finding;
  is = subst (λ (j : RecordVerdict). IsLogVerdict q orders trades (as_verdict j)) (is.of_finding finding refl) (verdict_of_logs q (before_rule.Found finding) v orders trades is come);
  answer = made;
}

-- Logs of which sound trades are known have records of which they are.
pub record HaveSoundRecords (q : Question) (orders trades : Log) (resolved : ResolvedTrades) : Type 0 where
  pub entries : List OrderRecord
  pub paired : Result (List TradeRecord) Finding
  pub logs : HaveRecords orders trades entries paired
  pub sound : IsResolvedWithoutFinding (scope_of q) entries paired resolved

pub sound_records : (q : Question) (orders trades : Log) (resolved : ResolvedTrades) → LogsReach (scope_of q) orders trades (before_rule.Sound resolved) → HaveSoundRecords q orders trades resolved
sound_records q orders trades resolved come = of_said (records_of_order_log orders.form orders.bytes) (trades_of_trade_log trades.form trades.bytes) refl refl come
  where
    of_said : (first : Result (List OrderRecord) BadPlace) (second : Result (Result (List TradeRecord) Finding) BadPlace)
        → records_of_order_log orders.form orders.bytes ≡ first → trades_of_trade_log trades.form trades.bytes ≡ second
        → MatchResult first (λ entries. MatchResult second (λ paired. IsBeforeRule (scope_of q) entries paired (before_rule.Sound resolved)) (λ bad. ⊥)) (λ bad. ⊥)
        → HaveSoundRecords q orders trades resolved
    of_said (Ok entries) (Ok paired) e f is = record { entries = entries; paired = paired; logs = record { records = e; trades_are = f }; sound = is }
    of_said (Ok entries) (Err bad) e f is = absurd is
    of_said (Err bad) second e f is = absurd is

certificate_of : (q : Question) (orders trades : Log) (resolved : ResolvedTrades) (text : List ℕ) → HaveSoundRecords q orders trades resolved → IsDealsCertificate q resolved text
    → IsCertificateOf q orders trades text
certificate_of q orders trades resolved text have is =
    let history : List Order = order_list q.symbol have.entries in
    record {
      entries = have.entries;
      paired = have.paired;
      logs = have.logs;
      certificate = subst (λ (ds : List Deal). IsCertificateUnder q.rule q.symbol history ds text) have.sound.deals
          (subst (λ (os : List Order). IsCertificateUnder q.rule q.symbol os resolved.deals.items text) have.sound.orders is.certificate);
      agrees = subst (λ (ds : List Deal). AgreesUnder q.rule q.symbol history ds text) have.sound.deals
          (subst (λ (os : List Order). AgreesUnder q.rule q.symbol os resolved.deals.items text) have.sound.orders is.agrees);
    }

-- the answer of sound trades is that of `certify`
pub sound_certifies : (q : Question) (resolved : ResolvedTrades) (v : RecordVerdict) (answer : Answer) → IsVerdictAfterStages q (before_rule.Sound resolved) v → IsAnswerOfKind (IsVerdictAnswerWith (IsDealsCertificate q resolved) (as_verdict v)) answer → IsAnswerOfKind (IsCertifyAnswerOn q (before_rule.Sound resolved)) answer
sound_certifies q resolved v answer is made orders trades come = record {
  verdict = as_verdict v;
  is = verdict_of_logs q (before_rule.Sound resolved) v orders trades is come;
  answer = of_judged v made;
}
  where
    of_judged : (v : RecordVerdict) → IsVerdictAnswerWith (IsDealsCertificate q resolved) (as_verdict v) answer.status answer.text.items → IsVerdictAnswerWith (IsCertificateOf q orders trades) (as_verdict v) answer.status answer.text.items
    of_judged (judged.Accepted a) reports = record {
      done = reports.done;
      is = certificate_of q orders trades resolved answer.text.items (sound_records q orders trades resolved come) reports.is;
    }
    of_judged (judged.Rejected f) reports = reports

-- deals that are accepted conform
pub accepted_conforms : (q : Question) (orders : List Order) (deals : List Deal) (count : ℕ) (a : Accepted) → VerdictFollowsDeals q orders deals count (verdict.Accepted a) → Conforms q.rule orders deals
accepted_conforms q orders deals count a is = by_finding is.found is.by_the_rule is.outcome
  where
    apart : (finding : Finding) → verdict.Accepted a ≡ verdict.Rejected finding → ⊥
    apart finding e = cc

    by_finding : (found : Option Finding) → IsRuleFinding q.rule orders deals count found → IsOutcomeByFinding q orders deals found (verdict.Accepted a) → Conforms q.rule orders deals
    by_finding None conforms outcome = conforms
    by_finding (Some finding) offence outcome = absurd (apart finding outcome)
