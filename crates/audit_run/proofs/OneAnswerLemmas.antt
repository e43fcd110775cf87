-- A request and its logs have one answer.
use Rattle.std.proofs.Common.{◌≡◌, ◌∙◌, sym, ap, refl, subst, ℕ, Bool, false, List, ◌++◌, length, Option, None, Some, Result, Ok, Err, inl, inr}
use Rattle.std.specs.Prelude.{IfOk, IsSomeAnd, MatchOption, MatchResult}
use Rattle.audit_base.specs.declared.faults.BadPlace.{BadPlace}
use Rattle.audit_base.specs.declared.findings.Finding.{Finding}
use Rattle.audit_base.specs.declared.orders.Deal.{Deal}
use Rattle.audit_base.specs.declared.orders.Order.{Order}
use Rattle.audit_base.specs.declared.records.OrderRecord.{OrderRecord}
use Rattle.audit_base.specs.declared.records.TradeRecord.{TradeRecord}
use Rattle.audit_base.specs.declared.terms.Rule.{Rule}
use Rattle.audit_base.specs.declared.terms.Rule.TheVariants as rule
use Rattle.audit_base.specs.declared.terms.VolumeRule.{VolumeRule}
use Rattle.audit_base.specs.declared.terms.VolumeRule.TheVariants as of_volume
use Rattle.audit_base.specs.declared.terms.Which.{Which}
use Rattle.audit_base.specs.declared.terms.Which.TheVariants.{Orders, Trades}
use Rattle.audit_base.specs.Bounds.{IsBoundPrice}
use Rattle.audit_base.specs.Deals.{volume}
use Rattle.audit_base.specs.Expected.{trades_of_deals}
use Rattle.audit_base.specs.Histories.{order_list}
use Rattle.audit_base.specs.RuleKinds.{rule_of_volume, volume_rule}
use Rattle.audit_base.specs.Trades.{TradesInRange, deals_of_symbol}
use Rattle.audit_base.specs.Verdicts.{paired_trades}
use Rattle.audit_base.proofs.VerdictLemmas.{one-bound}
use Rattle.audit_certificate.specs.Agreement.{IsCertificate, IsCertificateUnder}
use Rattle.audit_certificate.specs.OneAnswer.{AgreedRuleIsOne, CertificateIsOne, FirstRefusedIsOne}
use Rattle.audit_report.specs.declared.statuses.Status.{Status}
use Rattle.audit_report.specs.declared.statuses.Status.TheVariants.{Memory}
use Rattle.audit_report.specs.declared.statuses.Status.TheVariants as status
use Rattle.audit_report.specs.declared.verdicts.Verdict.{Verdict}
use Rattle.audit_report.specs.declared.verdicts.Verdict.TheVariants.{Accepted, Rejected, Malformed}
use Rattle.audit_report.specs.Certificates.{refused_line, verified_line}
use Rattle.audit_report.specs.Statuses.{verdict_status}
use Rattle.audit_report.specs.Summaries.{call_line, continuous_line, generated_line}
use Rattle.audit_report.specs.Texts.{verdict_text}
use Rattle.command_words.specs.declared.requests.Request.TheVariants.{Audit, Expect, Convert, Generate, Certify, Verify, Session}
use Rattle.csv_logs.specs.Written.{csv_orders_text, csv_trades_text}
use Rattle.log_maker.specs.Generator.{generated_records, generated_symbol}
use Rattle.log_verdict.specs.Laws.{OneVerdict}
use Rattle.log_verdict.specs.LogVerdicts.{HaveRecords, Log, OfLogs, log_in, records_of_order_log, trades_of_trade_log}
use Rattle.log_verdict.specs.Ranges.{TradeLogsAreInRange}
use Rattle.record_verdict.specs.declared.questions.Question.{Question}
use Rattle.record_verdict.specs.RecordVerdicts.{question}
use Rattle.record_verdict.specs.Scopes.{call_scope, finding_before_rule_in_scope}
use Rattle.session_audit.specs.declared.phases.Phase.{Phase}
use Rattle.session_audit.specs.VerdictLaws.{SessionIsOne}
use Rattle.session_audit.specs.SessionVerdicts.{session_status}
use Rattle.verdict_laws.specs.Histories.{ExpectedTradesAreOne}
use Rattle.command_run.specs.Laws.{CallsAgree}
use Rattle.command_words.specs.declared.requests.Request.{Request}
use Rattle.audit_run.specs.Requests.{auditor_command_of}
use Rattle.audit_run.specs.AnswerIsOne.{AnswerIsOne, RunsAgree}
use Rattle.audit_run.specs.Certificates.{IsCertificateOf, IsCertifyAnswer, IsVerdictAnswerWith, IsVerifyAnswer, VerifiesDeals, VerifiesRecords}
use Rattle.audit_run.specs.OtherTexts.{orders_finding, ConvertsTrades, ExpectsRecords, IsCallLine, IsContinuousLine, IsConvertAnswer, IsExpectAnswer, IsExpectedLog, IsGeneratedSummary}
use Rattle.command_run.specs.Commands.{log_read_at}
use Rattle.audit_run.specs.Sessions.{IsSessionAnswer, IsSessionAnswerToRecords}
use Rattle.command_run.specs.VerdictAnswers.{IsAnswerWith, IsAuditAnswer, IsDone, IsVerdictAnswer}

-- the laws on which this rests
pub record Laws : Type 0 where
  pub verdict : OneVerdict
  pub certificate : CertificateIsOne
  pub agreed : AgreedRuleIsOne
  pub refused : FirstRefusedIsOne
  pub session : SessionIsOne
  pub expected : ExpectedTradesAreOne
  pub ranges : TradeLogsAreInRange

abbrev Same : Status → Status → List ℕ → List ℕ → Type 0
Same s t a b = (s ≡ t) × (a ≡ b)

-- What is said of one value twice.

ok-same : {A E : Type 0} (x y : A) → ◌≡◌ {A = Result A E} (Ok x) (Ok y) → x ≡ y
ok-same x y e = cc

known : {A E : Type 0} (r : Result A E) (P : A → Type 0) (x : A) → IfOk r P → r ≡ Ok x → P x
known (Ok y) P x is e = subst P (ok-same y x e) is
known (Err why) P x is e = absurd (cc e)

by-option : {A : Type 0} (o : Option A) (P Q : Type 0) (S T : A → Type 0) (C : Type 0) → (o ≡ None → P → Q → C) → ((x : A) → S x → T x → C) → MatchOption o P S → MatchOption o Q T → C
by-option None P Q S T C none some x y = none refl x y
by-option (Some a) P Q S T C none some x y = some a x y

by-some : {A : Type 0} (o : Option A) (P Q : A → Type 0) (C : Type 0) → ((x : A) → P x → Q x → C) → IsSomeAnd o P → IsSomeAnd o Q → C
by-some None P Q C some x y = absurd x
by-some (Some a) P Q C some x y = some a x y

by-result : {A E : Type 0} (r : Result A E) (P Q : A → Type 0) (S T : E → Type 0) (C : Type 0) → ((x : A) → r ≡ Ok x → P x → Q x → C) → ((e : E) → S e → T e → C) → MatchResult r P S → MatchResult r Q T → C
by-result (Ok x) P Q S T C good bad p q = good x refl p q
by-result (Err e) P Q S T C good bad p q = bad e p q

of-logs : (orders trades : Log) (P Q : List OrderRecord → Result (List TradeRecord) Finding → Type 0) (S T : Which → BadPlace → Type 0) (C : Type 0)
    → ((entries : List OrderRecord) (paired : Result (List TradeRecord) Finding) → HaveRecords orders trades entries paired → P entries paired → Q entries paired → C)
    → ((log : Which) (bad : BadPlace) → S log bad → T log bad → C) → OfLogs P S orders trades → OfLogs Q T orders trades → C
of-logs orders trades P Q S T C of_records of_bad x y =
    let said = trades_of_trade_log trades.form trades.bytes in
    by-result (records_of_order_log orders.form orders.bytes) (λ entries. MatchResult said (P entries) (S Trades)) (λ entries. MatchResult said (Q entries) (T Trades)) (S Orders) (T Orders) C
    (λ entries records p q. by-result said (P entries) (Q entries) (S Trades) (T Trades) C (λ paired trades_are. of_records entries paired (record { records = records; trades_are = trades_are })) (of_bad Trades) p q)
    (of_bad Orders) x y

-- What is refused, and what is done.

refused-one : (v : Verdict) (s t : Status) (a b : List ℕ) → IsVerdictAnswer v s a → IsVerdictAnswer v t b → Same s t a b
refused-one v s t a b x y = (x.status_is ∙ sym y.status_is, x.text_is ∙ sym y.text_is)

done-one : (is_text : List ℕ → Type 0) → ((a b : List ℕ) → is_text a → is_text b → a ≡ b) → (s t : Status) (a b : List ℕ) → IsDone is_text s a → IsDone is_text t b → Same s t a b
done-one is_text one s t a b x y = (x.done ∙ sym y.done, one a b x.is y.is)

text-one : (the_status : Status) (the_text : List ℕ) (s t : Status) (a b : List ℕ) → IsAnswerWith the_status the_text s a → IsAnswerWith the_status the_text t b → Same s t a b
text-one the_status the_text s t a b x y = (x.status_is ∙ sym y.status_is, x.text_is ∙ sym y.text_is)

with-one : (is_text : List ℕ → Type 0) → ((a b : List ℕ) → is_text a → is_text b → a ≡ b) → (v : Verdict) (s t : Status) (a b : List ℕ) → IsVerdictAnswerWith is_text v s a → IsVerdictAnswerWith is_text v t b → Same s t a b
with-one is_text one (Accepted accepted) s t a b x y = done-one is_text one s t a b x y
with-one is_text one (Rejected finding) s t a b x y = refused-one (Rejected finding) s t a b x y
with-one is_text one (Malformed log bad) s t a b x y = refused-one (Malformed log bad) s t a b x y

-- `convert`
convert-one : (which : Which) (log : Log) (s t : Status) (a b : List ℕ) → IsConvertAnswer which log s a → IsConvertAnswer which log t b → Same s t a b
convert-one Orders log s t a b x y =
    by-result (records_of_order_log log.form log.bytes) (λ entries. IsAnswerWith status.Accepted (csv_orders_text entries) s a) (λ entries. IsAnswerWith status.Accepted (csv_orders_text entries) t b)
    (λ bad. IsVerdictAnswer (Malformed Orders bad) s a) (λ bad. IsVerdictAnswer (Malformed Orders bad) t b) (Same s t a b)
    (λ entries is. text-one status.Accepted (csv_orders_text entries) s t a b) (λ bad. refused-one (Malformed Orders bad) s t a b) x y
convert-one Trades log s t a b x y =
    by-result (trades_of_trade_log log.form log.bytes) (λ paired. ConvertsTrades paired s a) (λ paired. ConvertsTrades paired t b)
    (λ bad. IsVerdictAnswer (Malformed Trades bad) s a) (λ bad. IsVerdictAnswer (Malformed Trades bad) t b) (Same s t a b)
    (λ paired is p q. by-result paired (λ trades. IsAnswerWith status.Accepted (csv_trades_text trades) s a) (λ trades. IsAnswerWith status.Accepted (csv_trades_text trades) t b)
    (λ finding. IsVerdictAnswer (Rejected finding) s a) (λ finding. IsVerdictAnswer (Rejected finding) t b) (Same s t a b)
    (λ trades same. text-one status.Accepted (csv_trades_text trades) s t a b) (λ finding. refused-one (Rejected finding) s t a b) p q)
    (λ bad. refused-one (Malformed Trades bad) s t a b) x y

module _ (laws : Laws) where
  -- `audit`
  audit-one : (q : Question) (orders trades : Log) (s t : Status) (a b : List ℕ) → IsAuditAnswer q orders trades s a → IsAuditAnswer q orders trades t b → Same s t a b
  audit-one q orders trades s t a b x y =
      let same = laws.verdict q orders trades x.verdict y.verdict x.is y.is in
      (x.answer.status_is ∙ ap verdict_status same ∙ sym y.answer.status_is, x.answer.text_is ∙ ap verdict_text same ∙ sym y.answer.text_is)

  -- `certify`
  certificate-one : (q : Question) (orders trades : Log) (a b : List ℕ) → IsCertificateOf q orders trades a → IsCertificateOf q orders trades b → a ≡ b
  certificate-one q orders trades a b x y =
      let entries : x.entries ≡ y.entries = ok-same x.entries y.entries (sym x.logs.records ∙ y.logs.records) in
      let paired : x.paired ≡ y.paired = ok-same x.paired y.paired (sym x.logs.trades_are ∙ y.logs.trades_are) in
      let here : IsCertificateUnder q.rule q.symbol (order_list q.symbol y.entries) (deals_of_symbol (order_list q.symbol y.entries) q.symbol (paired_trades y.paired)) a =
      subst (λ (p : Result (List TradeRecord) Finding). IsCertificateUnder q.rule q.symbol (order_list q.symbol y.entries) (deals_of_symbol (order_list q.symbol y.entries) q.symbol (paired_trades p)) a) paired
      (subst (λ (es : List OrderRecord). IsCertificateUnder q.rule q.symbol (order_list q.symbol es) (deals_of_symbol (order_list q.symbol es) q.symbol (paired_trades x.paired)) a) entries x.certificate) in
      under (order_list q.symbol y.entries) (deals_of_symbol (order_list q.symbol y.entries) q.symbol (paired_trades y.paired)) here y.certificate
    where
      under : (history : List Order) (deals : List Deal) → IsCertificateUnder q.rule q.symbol history deals a → IsCertificateUnder q.rule q.symbol history deals b → a ≡ b
      under history deals p r = by-some (volume_rule q.rule) (λ v. IsCertificate v q.symbol history deals a) (λ v. IsCertificate v q.symbol history deals b) (a ≡ b)
          (λ v. laws.certificate v q.symbol history deals a b) p r

  certify-one : (q : Question) (orders trades : Log) (s t : Status) (a b : List ℕ) → IsCertifyAnswer q orders trades s a → IsCertifyAnswer q orders trades t b → Same s t a b
  certify-one q orders trades s t a b x y =
      let same = laws.verdict q orders trades x.verdict y.verdict x.is y.is in
      with-one (IsCertificateOf q orders trades) (certificate-one q orders trades) y.verdict s t a b
      (subst (λ (v : Verdict). IsVerdictAnswerWith (IsCertificateOf q orders trades) v s a) same x.answer) y.answer

  -- `verify`
  verifies-one : (symbol : List ℕ) (orders : List Order) (deals : List Deal) (certificate : List ℕ) (s t : Status) (a b : List ℕ) → VerifiesDeals symbol orders deals certificate s a → VerifiesDeals symbol orders deals certificate t b → Same s t a b
  verifies-one symbol orders deals certificate s t a b (inl x) (inl y) =
      let same = laws.agreed x.the_rule y.the_rule symbol orders deals certificate x.agrees y.agrees in
      (x.status_is ∙ sym y.status_is, x.text_is ∙ ap (λ (r : Rule). verified_line r symbol (volume deals)) same ∙ sym y.text_is)
  verifies-one symbol orders deals certificate s t a b (inl x) (inr y) = absurd (y.none x.the_rule x.agrees)
  verifies-one symbol orders deals certificate s t a b (inr x) (inl y) = absurd (x.none y.the_rule y.agrees)
  verifies-one symbol orders deals certificate s t a b (inr x) (inr y) =
      let same = laws.refused symbol orders deals certificate x.line y.line x.first y.first in
      (x.status_is ∙ sym y.status_is, x.text_is ∙ ap refused_line same ∙ sym y.text_is)

  verify-one : (symbol : List ℕ) (orders trades : Log) (certificate : List ℕ) (s t : Status) (a b : List ℕ) → IsVerifyAnswer symbol orders trades certificate s a → IsVerifyAnswer symbol orders trades certificate t b → Same s t a b
  verify-one symbol orders trades certificate s t a b x y =
      of-logs orders trades (λ entries paired. VerifiesRecords symbol certificate entries paired s a) (λ entries paired. VerifiesRecords symbol certificate entries paired t b)
      (λ log bad. IsVerdictAnswer (Malformed log bad) s a) (λ log bad. IsVerdictAnswer (Malformed log bad) t b) (Same s t a b)
      (λ entries paired have p q.
      let history : List Order = order_list symbol entries in
      let deals : List Deal = deals_of_symbol history symbol (paired_trades paired) in
      by-option (finding_before_rule_in_scope (call_scope symbol) entries paired) (VerifiesDeals symbol history deals certificate s a) (VerifiesDeals symbol history deals certificate t b)
      (λ finding. IsVerdictAnswer (Rejected finding) s a) (λ finding. IsVerdictAnswer (Rejected finding) t b) (Same s t a b)
      (λ none. verifies-one symbol history deals certificate s t a b) (λ finding. refused-one (Rejected finding) s t a b) p q)
      (λ log bad. refused-one (Malformed log bad) s t a b) x y

  -- `session`
  session-answer-one : (symbol : List ℕ) (phases : List Phase) (table : Bool) (entries : List OrderRecord) (paired : Result (List TradeRecord) Finding) → TradesInRange (paired_trades paired) → (s t : Status) (a b : List ℕ)
      → IsSessionAnswerToRecords symbol phases table entries paired s a → IsSessionAnswerToRecords symbol phases table entries paired t b → Same s t a b
  session-answer-one symbol phases table entries paired ranges s t a b x y =
      let same = laws.session symbol phases table entries paired x.conforms y.conforms a b ranges x.is y.is in
      (x.status_is ∙ ap session_status same.conforms_same ∙ sym y.status_is, same.text_same)

  session-one : (symbol : List ℕ) (phases : List Phase) (table : Bool) (orders trades : Log) (s t : Status) (a b : List ℕ) → IsSessionAnswer symbol phases table orders trades s a → IsSessionAnswer symbol phases table orders trades t b → Same s t a b
  session-one symbol phases table orders trades s t a b x y =
      of-logs orders trades (λ entries paired. IsSessionAnswerToRecords symbol phases table entries paired s a) (λ entries paired. IsSessionAnswerToRecords symbol phases table entries paired t b)
      (λ log bad. IsVerdictAnswer (Malformed log bad) s a) (λ log bad. IsVerdictAnswer (Malformed log bad) t b) (Same s t a b)
      (λ entries paired have. session-answer-one symbol phases table entries paired (known (trades_of_trade_log trades.form trades.bytes) (λ p. TradesInRange (paired_trades p)) paired (laws.ranges trades.form trades.bytes) have.trades_are) s t a b)
      (λ log bad. refused-one (Malformed log bad) s t a b) x y

  -- `expect`
  expected-log-one : (the_rule : Rule) (symbol : List ℕ) (entries : List OrderRecord) (a b : List ℕ) → IsExpectedLog the_rule symbol entries a → IsExpectedLog the_rule symbol entries b → a ≡ b
  expected-log-one the_rule symbol entries a b x y =
      let same = laws.expected the_rule symbol entries x.deals y.deals x.expected y.expected in
      x.text_is ∙ ap (λ (ds : List Deal). csv_trades_text (trades_of_deals (order_list symbol entries) symbol ds)) same ∙ sym y.text_is

  expect-one : (the_rule : Rule) (symbol : List ℕ) (orders : Log) (s t : Status) (a b : List ℕ) → IsExpectAnswer the_rule symbol orders s a → IsExpectAnswer the_rule symbol orders t b → Same s t a b
  expect-one the_rule symbol orders s t a b x y =
      by-result (records_of_order_log orders.form orders.bytes) (λ entries. ExpectsRecords the_rule symbol entries s a) (λ entries. ExpectsRecords the_rule symbol entries t b)
      (λ bad. IsVerdictAnswer (Malformed Orders bad) s a) (λ bad. IsVerdictAnswer (Malformed Orders bad) t b) (Same s t a b)
      (λ entries is p q. by-option (orders_finding the_rule symbol entries) (IsDone (IsExpectedLog the_rule symbol entries) s a) (IsDone (IsExpectedLog the_rule symbol entries) t b)
      (λ finding. IsVerdictAnswer (Rejected finding) s a) (λ finding. IsVerdictAnswer (Rejected finding) t b) (Same s t a b)
      (λ none. done-one (IsExpectedLog the_rule symbol entries) (expected-log-one the_rule symbol entries) s t a b) (λ finding. refused-one (Rejected finding) s t a b) p q)
      (λ bad. refused-one (Malformed Orders bad) s t a b) x y

  -- `generate`
  call-line-one : (r : VolumeRule) (entries : List OrderRecord) (a b : List ℕ) → IsCallLine r (order_list generated_symbol entries) a → IsCallLine r (order_list generated_symbol entries) b → a ≡ b
  call-line-one r entries a b x y =
      let orders : List Order = order_list generated_symbol entries in
      let same = laws.expected (rule_of_volume r) generated_symbol entries x.deals y.deals x.expected y.expected in
      let price = one-bound r orders (volume y.deals) x.bound.price y.bound.price (subst (λ (ds : List Deal). IsBoundPrice r orders (volume ds) x.bound.price) same x.shows) y.shows in
      let whole : x.bound.volume ≡ y.bound.volume = x.volume_is ∙ ap volume same ∙ sym y.volume_is in
      x.line_is ∙ (λ i. call_line (rule_of_volume r) (length (same i)) (record { price = price i; volume = whole i })) ∙ sym y.line_is

  continuous-line-one : (entries : List OrderRecord) (a b : List ℕ) → IsContinuousLine (order_list generated_symbol entries) a → IsContinuousLine (order_list generated_symbol entries) b → a ≡ b
  continuous-line-one entries a b x y =
      let same = laws.expected rule.Continuous generated_symbol entries x.deals y.deals x.expected y.expected in
      x.line_is ∙ ap (λ (ds : List Deal). continuous_line (length ds) (volume ds)) same ∙ sym y.line_is

  summary-one : (start count : ℕ) (a b : List ℕ) → IsGeneratedSummary start count a → IsGeneratedSummary start count b → a ≡ b
  summary-one start count a b x y =
      let entries = generated_records start count in
      let uniform = call-line-one of_volume.Uniform entries x.uniform y.uniform x.uniform_is y.uniform_is in
      let maximum = call-line-one of_volume.Maximum entries x.maximum y.maximum x.maximum_is y.maximum_is in
      let continuous = continuous-line-one entries x.continuous y.continuous x.continuous_is y.continuous_is in
      x.text_is ∙ (λ i. generated_line start count ++ uniform i ++ maximum i ++ continuous i) ∙ sym y.text_is

  -- every command
  pub answer-is-one : AnswerIsOne
  answer-is-one (Audit the_rule symbol orders trades orders_form trades_form table) logs s t a b x y =
      audit-one (question the_rule symbol table) (log_in orders_form (log_read_at logs 0)) (log_in trades_form (log_read_at logs 1)) s t a b x y
  answer-is-one (Certify the_rule symbol orders trades orders_form trades_form) logs s t a b x y =
      certify-one (question the_rule symbol false) (log_in orders_form (log_read_at logs 0)) (log_in trades_form (log_read_at logs 1)) s t a b x y
  answer-is-one (Verify symbol orders trades certificate orders_form trades_form) logs s t a b x y =
      verify-one symbol (log_in orders_form (log_read_at logs 0)) (log_in trades_form (log_read_at logs 1)) (log_read_at logs 2) s t a b x y
  answer-is-one (Session symbol phases orders trades orders_form trades_form table) logs s t a b x y =
      session-one symbol phases table (log_in orders_form (log_read_at logs 0)) (log_in trades_form (log_read_at logs 1)) s t a b x y
  answer-is-one (Expect the_rule symbol orders orders_form) logs s t a b x y = expect-one the_rule symbol (log_in orders_form (log_read_at logs 0)) s t a b x y
  answer-is-one (Convert log form path) logs s t a b x y = convert-one log (log_in form (log_read_at logs 0)) s t a b x y
  answer-is-one (Generate start count) logs s t a b x y = done-one (IsGeneratedSummary start count) (summary-one start count) s t a b x y

-- so two calls for which the same logs are there agree, unless memory ran out in one of them
pub runs-agree : ((request : Request) → CallsAgree (auditor_command_of request)) → AnswerIsOne → RunsAgree
runs-agree agree answer_is_one request logs r s one_old one_new other_old other_new one other x y ready ready_too =
    agree request (answer_is_one request) logs one_old one_new other_old other_new one other (x logs ready) (y logs ready_too)
