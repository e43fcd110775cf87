-- What was written as a certificate is verified over the same logs.
use Rattle.std.proofs.Common.{◌≡◌, ◌∙◌, sym, ap, subst, refl, ⊎_elim, ℕ, List, [], ◌∷◌, length, Option, None, Some, Result}
use Rattle.std.specs.Prelude.{MatchOption}
use Rattle.audit_base.specs.declared.findings.Finding.{Finding}
use Rattle.audit_base.specs.declared.orders.Deal.{Deal}
use Rattle.audit_base.specs.declared.orders.Order.{Order}
use Rattle.audit_base.specs.declared.records.OrderRecord.{OrderRecord}
use Rattle.audit_base.specs.declared.records.TradeRecord.{TradeRecord}
use Rattle.audit_base.specs.declared.terms.Rule.{Rule}
use Rattle.audit_base.specs.declared.terms.Rule.TheVariants as rule
use Rattle.audit_base.specs.Histories.{history_finding, order_list}
use Rattle.audit_base.specs.Least.{first_answer}
use Rattle.audit_base.specs.Trades.{deals_of_symbol, trades_finding}
use Rattle.record_verdict.specs.Scopes.{call_scope, finding_before_rule_in_scope}
use Rattle.audit_base.specs.Verdicts.{instant_finding_of_rule, finding_before_rule, paired_trades, pairing_finding, IsRuleFinding}
use Rattle.audit_certificate.specs.Agreement.{AgreesUnder}
use Rattle.audit_report.specs.declared.statuses.Status.{Status}
use Rattle.audit_report.specs.declared.statuses.Status.TheVariants as status
use Rattle.audit_report.specs.declared.verdicts.Accepted.{Accepted}
use Rattle.audit_report.specs.declared.verdicts.Verdict.{Verdict}
use Rattle.audit_report.specs.declared.verdicts.Verdict.TheVariants as verdict
use Rattle.record_verdict.specs.declared.questions.Question.{Question}
use Rattle.audit_run.specs.Certificates.{IsCertificateOf, IsVerdictAnswerWith, VerifiesDeals, VerifiesRecords}
use Rattle.audit_run.specs.Laws.{CertifiedIsVerified}
use Rattle.record_verdict.specs.RecordVerdicts.{IsRecordVerdict, IsOutcomeByFinding}
use Rattle.log_verdict.specs.LogVerdicts.{IsLogVerdict, Log}

-- the rules of certificates admit the same orders
same_call : (the_rule : Rule) (symbol : List ℕ) (orders : List Order) (deals : List Deal) (text : List ℕ) → AgreesUnder the_rule symbol orders deals text → instant_finding_of_rule the_rule orders ≡ instant_finding_of_rule rule.Uniform orders
same_call rule.Uniform symbol orders deals text is = refl
same_call rule.Maximum symbol orders deals text is = refl
same_call rule.Matching symbol orders deals text is = absurd is
same_call rule.Fair symbol orders deals text is = absurd is
same_call rule.Continuous symbol orders deals text is = absurd is

-- where records are accepted, nothing is found before the rule
none_before : (q : Question) (entries : List OrderRecord) (paired : Result (List TradeRecord) Finding) (a : Accepted) → IsRecordVerdict q entries paired (verdict.Accepted a)
    → finding_before_rule q.rule q.symbol entries paired ≡ None
none_before q entries paired a is = of_before (finding_before_rule q.rule q.symbol entries paired) is.found is.by_the_rules is.outcome
  where
    orders : List Order
    orders = order_list q.symbol entries

    deals : List Deal
    deals = deals_of_symbol orders q.symbol (paired_trades paired)

    apart : (finding : Finding) → verdict.Accepted a ≡ verdict.Rejected finding → ⊥
    apart finding e = cc

    of_before : (before found : Option Finding) → MatchOption before (IsRuleFinding q.rule orders deals (length (paired_trades paired)) found) (λ finding. found ≡ Some finding)
        → IsOutcomeByFinding q orders deals found (verdict.Accepted a) → before ≡ None
    of_before None found rules outcome = refl
    of_before (Some finding) found rules outcome =
        absurd (apart finding (subst (λ (o : Option Finding). IsOutcomeByFinding q orders deals o (verdict.Accepted a)) rules outcome))

module _ (q : Question) (orders trades : Log) (certificate text : List ℕ) (the_status : Status) where
  -- what was written agrees, so that it is not refused
  agreed : (a : Accepted) → IsLogVerdict q orders trades (verdict.Accepted a) → (is : IsCertificateOf q orders trades certificate) → VerifiesRecords q.symbol certificate is.entries is.paired the_status text
      → the_status ≡ status.Accepted
  agreed a accepted is verified =
      let judged : IsRecordVerdict q is.entries is.paired (verdict.Accepted a) = rw (is.logs.records, is.logs.trades_are) at accepted in
      let none : finding_before_rule q.rule q.symbol is.entries is.paired ≡ None = none_before q is.entries is.paired a judged in
      let admits = same_call q.rule q.symbol (order_list q.symbol is.entries) _ certificate is.agrees in
      let same : finding_before_rule_in_scope (call_scope q.symbol) is.entries is.paired ≡ None =
      ap (λ (i : Option Finding). first_answer (history_finding q.symbol is.entries ∷ i ∷ pairing_finding is.paired ∷ trades_finding (order_list q.symbol is.entries) q.symbol (paired_trades is.paired) ∷ [])) (sym admits) ∙ none in
      let came : VerifiesDeals q.symbol (order_list q.symbol is.entries) (deals_of_symbol (order_list q.symbol is.entries) q.symbol (paired_trades is.paired)) certificate the_status text = rw same at verified in
      ⊎_elim (λ verified. verified.status_is) (λ disproved. absurd (disproved.none q.rule is.agrees)) came

  of_verdict : (v : Verdict) → IsLogVerdict q orders trades v → IsVerdictAnswerWith (IsCertificateOf q orders trades) v status.Accepted certificate
      → ((is : IsCertificateOf q orders trades certificate) → VerifiesRecords q.symbol certificate is.entries is.paired the_status text) → the_status ≡ status.Accepted
  of_verdict (verdict.Accepted a) accepted reports verified = agreed a accepted reports.is (verified reports.is)
  of_verdict (verdict.Rejected f) accepted reports verified = absurd (apart reports.status_is)
    where
      apart : status.Accepted ≡ status.Rejected → ⊥
      apart e = cc
  of_verdict (verdict.Malformed log bad) accepted reports verified = absurd (apart reports.status_is)
    where
      apart : status.Accepted ≡ status.Malformed → ⊥
      apart e = cc

pub certified-verified : CertifiedIsVerified
certified-verified q orders trades certificate text the_status certified verified =
    of_verdict q orders trades certificate text the_status certified.verdict certified.is certified.answer
    (λ is. rw (is.logs.records, is.logs.trades_are) at verified)
