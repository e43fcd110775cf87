-- The statuses of answers, what `expect` answers to records, and readings of at most 64 MiB.
use Rattle.std.proofs.Common.{◌≡◌, sym, subst, refl, inl, inr, ⊎_elim, ℕ, ◌≤◌, Bool, true, false, List, [], ◌∷◌, length, Option, None, Some, Result, Ok, Err, arith}
use Rattle.std.specs.Prelude.{MatchOption, MatchResult}
use Rattle.audit_base.specs.declared.faults.BadPlace.{BadPlace}
use Rattle.audit_base.specs.declared.findings.Finding.{Finding}
use Rattle.audit_base.specs.declared.orders.Deal.{Deal}
use Rattle.audit_base.specs.declared.orders.Order.{Order}
use Rattle.audit_base.specs.declared.records.OrderRecord.{OrderRecord}
use Rattle.audit_base.specs.declared.records.TradeRecord.{TradeRecord}
use Rattle.audit_base.specs.declared.terms.Rule.{Rule}
use Rattle.audit_base.specs.declared.terms.Which.{Which}
use Rattle.audit_base.specs.declared.terms.Which.TheVariants.{Orders, Trades}
use Rattle.audit_base.specs.Histories.{history_finding, order_list, WellFormed}
use Rattle.audit_base.specs.Trades.{deals_of_symbol}
use Rattle.record_verdict.specs.Scopes.{call_scope, finding_before_rule_in_scope}
use Rattle.audit_base.specs.Verdicts.{instant_finding_of_rule, paired_trades}
use Rattle.audit_report.specs.declared.statuses.Status.{Status}
use Rattle.audit_report.specs.declared.statuses.Status.TheVariants as status
use Rattle.audit_report.specs.declared.verdicts.Verdict.{Verdict}
use Rattle.audit_report.specs.declared.verdicts.Verdict.TheVariants as verdict
use Rattle.audit_report.specs.Statuses.{verdict_status}
use Rattle.audit_report.specs.Texts.{verdict_text}
use Rattle.log_source.specs.declared.shelf.Shelf.{Ghosts as Shelf}
use Rattle.log_source.specs.Sources.{longest_log, other_log}
use Rattle.log_verdict.specs.declared.reading.ReadingFault.{ReadingFault}
use Rattle.log_verdict.specs.declared.reading.ReadingFault.TheVariants as unread
use Rattle.command_run.specs.declared.answers.Answer.{Answer}
use Rattle.command_words.specs.declared.requests.Request.{Request}
use Rattle.log_verdict.specs.declared.stops.Stop.{Stop}
use Rattle.log_verdict.specs.declared.stops.Stop.TheVariants as stop
use Rattle.record_verdict.specs.declared.questions.Question.{Question}
use Rattle.audit_run.specs.Certificates.{IsCertificateOf, IsCertifyAnswer, IsVerdictAnswerWith, IsVerifyAnswer, VerifiesDeals, VerifiesRecords}
use Rattle.command_run.specs.Deciding.{IsAnswerOfKind}
use Rattle.audit_run.specs.Deciding.{DecidesAuditorAnswer}
use Rattle.command_run.specs.Deciding.{DecidesBytes, DecidesUnread, IsStatusOfLogs}
use Rattle.audit_run.specs.OtherTexts.{orders_finding, ConvertsTrades, ExpectsRecords, IsConvertAnswer, IsExpectedLog}
use Rattle.audit_run.specs.Requests.{next_log, IsAnswerTo}
use Rattle.command_run.specs.Runs.{IsAnswerToReadLogs, ReadingDecides, ReadsThenStarts}
use Rattle.audit_run.specs.Sessions.{IsSessionAnswer, IsSessionAnswerToRecords}
use Rattle.command_run.specs.VerdictAnswers.{IsAnswerWith, IsAuditAnswer, IsDone, IsVerdictAnswer}
use Rattle.log_verdict.specs.BothLogs.{StaysWithin, StaysWithinAt}
use Rattle.log_verdict.specs.Collecting.{IsUnread, TouchesOnly}
use Rattle.csv_logs.specs.Written.{csv_orders_text, csv_trades_text}
use Rattle.session_audit.specs.declared.phases.Phase.{Phase}
use Rattle.session_audit.specs.SessionVerdicts.{session_status}
use Rattle.log_verdict.specs.LogVerdicts.{Log, records_of_order_log, trades_of_trade_log}
use Rattle.log_verdict.specs.declared.sources.Source.{Source}
use Rattle.log_verdict.specs.Steps.{Reading, LogStep, BeginsWithin, StepsLead, FaultsNeverFall, with_slot, reading, reading_by, reading_within, step_of}

-- The statuses that an answer may have.

verdict-status : (v : Verdict) (s : Status) (text : List ℕ) → IsVerdictAnswer v s text → IsStatusOfLogs s
verdict-status v s text is = subst IsStatusOfLogs (sym is.status_is) (one v)
  where
    one : (v : Verdict) → IsStatusOfLogs (verdict_status v)
    one (verdict.Accepted a) = tt
    one (verdict.Rejected f) = tt
    one (verdict.Malformed log bad) = tt

pub audit-status : (q : Question) (orders trades : Log) (s : Status) (text : List ℕ) → IsAuditAnswer q orders trades s text → IsStatusOfLogs s
audit-status q orders trades s text is = verdict-status is.verdict s text is.answer

with-status : (the_text : List ℕ) (s : Status) (text : List ℕ) → IsAnswerWith status.Accepted the_text s text → IsStatusOfLogs s
with-status the_text s text is = subst IsStatusOfLogs (sym is.status_is) tt

pub done-status : (is_text : List ℕ → Type 0) (s : Status) (text : List ℕ) → IsDone is_text s text → IsStatusOfLogs s
done-status is_text s text is = subst IsStatusOfLogs (sym is.done) tt

replaced-status : (is_text : List ℕ → Type 0) (v : Verdict) (s : Status) (text : List ℕ) → IsVerdictAnswerWith is_text v s text → IsStatusOfLogs s
replaced-status is_text (verdict.Accepted a) s text is = done-status is_text s text is
replaced-status is_text (verdict.Rejected f) s text is = verdict-status (verdict.Rejected f) s text is
replaced-status is_text (verdict.Malformed log bad) s text is = verdict-status (verdict.Malformed log bad) s text is

pub certify-status : (q : Question) (orders trades : Log) (s : Status) (text : List ℕ) → IsCertifyAnswer q orders trades s text → IsStatusOfLogs s
certify-status q orders trades s text is = replaced-status (IsCertificateOf q orders trades) is.verdict s text is.answer

verifies-status : (symbol : List ℕ) (orders : List Order) (deals : List Deal) (certificate : List ℕ) (found : Option Finding) (s : Status) (text : List ℕ)
    → MatchOption found (VerifiesDeals symbol orders deals certificate s text) (λ finding. IsVerdictAnswer (verdict.Rejected finding) s text) → IsStatusOfLogs s
verifies-status symbol orders deals certificate None s text (inl is) = subst IsStatusOfLogs (sym is.status_is) tt
verifies-status symbol orders deals certificate None s text (inr is) = subst IsStatusOfLogs (sym is.status_is) tt
verifies-status symbol orders deals certificate (Some finding) s text is = verdict-status (verdict.Rejected finding) s text is

pub verify-status : (symbol : List ℕ) (orders trades : Log) (certificate : List ℕ) (s : Status) (text : List ℕ) → IsVerifyAnswer symbol orders trades certificate s text → IsStatusOfLogs s
verify-status symbol orders trades certificate s text is = of_said (records_of_order_log orders.form orders.bytes) (trades_of_trade_log trades.form trades.bytes) is
  where
    of_said : (first : Result (List OrderRecord) BadPlace) (second : Result (Result (List TradeRecord) Finding) BadPlace)
        → MatchResult first (λ entries. MatchResult second (λ paired. VerifiesRecords symbol certificate entries paired s text) (λ bad. IsVerdictAnswer (verdict.Malformed Trades bad) s text))
        (λ bad. IsVerdictAnswer (verdict.Malformed Orders bad) s text) → IsStatusOfLogs s
    of_said (Ok entries) (Ok paired) is =
        verifies-status symbol (order_list symbol entries) (deals_of_symbol (order_list symbol entries) symbol (paired_trades paired)) certificate (finding_before_rule_in_scope (call_scope symbol) entries paired) s text is
    of_said (Ok entries) (Err bad) is = verdict-status (verdict.Malformed Trades bad) s text is
    of_said (Err bad) second is = verdict-status (verdict.Malformed Orders bad) s text is

records-status : (symbol : List ℕ) (phases : List Phase) (table : Bool) (entries : List OrderRecord) (paired : Result (List TradeRecord) Finding) (s : Status) (text : List ℕ)
    → IsSessionAnswerToRecords symbol phases table entries paired s text → IsStatusOfLogs s
records-status symbol phases table entries paired s text is = subst IsStatusOfLogs (sym is.status_is) (one is.conforms)
  where
    one : (conforms : Bool) → IsStatusOfLogs (session_status conforms)
    one true = tt
    one false = tt

pub session-status : (symbol : List ℕ) (phases : List Phase) (table : Bool) (orders trades : Log) (s : Status) (text : List ℕ) → IsSessionAnswer symbol phases table orders trades s text → IsStatusOfLogs s
session-status symbol phases table orders trades s text is = of_said (records_of_order_log orders.form orders.bytes) (trades_of_trade_log trades.form trades.bytes) is
  where
    of_said : (first : Result (List OrderRecord) BadPlace) (second : Result (Result (List TradeRecord) Finding) BadPlace)
        → MatchResult first (λ entries. MatchResult second (λ paired. IsSessionAnswerToRecords symbol phases table entries paired s text) (λ bad. IsVerdictAnswer (verdict.Malformed Trades bad) s text))
        (λ bad. IsVerdictAnswer (verdict.Malformed Orders bad) s text) → IsStatusOfLogs s
    of_said (Ok entries) (Ok paired) is = records-status symbol phases table entries paired s text is
    of_said (Ok entries) (Err bad) is = verdict-status (verdict.Malformed Trades bad) s text is
    of_said (Err bad) second is = verdict-status (verdict.Malformed Orders bad) s text is

expects-status : (the_rule : Rule) (symbol : List ℕ) (entries : List OrderRecord) (found : Option Finding) (s : Status) (text : List ℕ)
    → MatchOption found (IsDone (IsExpectedLog the_rule symbol entries) s text) (λ finding. IsVerdictAnswer (verdict.Rejected finding) s text) → IsStatusOfLogs s
expects-status the_rule symbol entries None s text is = done-status _ s text is
expects-status the_rule symbol entries (Some finding) s text is = verdict-status _ s text is

pub expect-status : (the_rule : Rule) (symbol : List ℕ) (said : Result (List OrderRecord) BadPlace) (s : Status) (text : List ℕ)
    → MatchResult said (λ entries. ExpectsRecords the_rule symbol entries s text) (λ bad. IsVerdictAnswer (verdict.Malformed Orders bad) s text) → IsStatusOfLogs s
expect-status the_rule symbol (Ok entries) s text is = expects-status the_rule symbol entries (orders_finding the_rule symbol entries) s text is
expect-status the_rule symbol (Err bad) s text is = verdict-status _ s text is

converts-status : (paired : Result (List TradeRecord) Finding) (s : Status) (text : List ℕ) → ConvertsTrades paired s text → IsStatusOfLogs s
converts-status (Ok trades) s text is = with-status (csv_trades_text trades) s text is
converts-status (Err finding) s text is = verdict-status (verdict.Rejected finding) s text is

orders-status : (said : Result (List OrderRecord) BadPlace) (s : Status) (text : List ℕ)
    → MatchResult said (λ entries. IsAnswerWith status.Accepted (csv_orders_text entries) s text) (λ bad. IsVerdictAnswer (verdict.Malformed Orders bad) s text) → IsStatusOfLogs s
orders-status (Ok entries) s text is = with-status (csv_orders_text entries) s text is
orders-status (Err bad) s text is = verdict-status (verdict.Malformed Orders bad) s text is

trades-status : (said : Result (Result (List TradeRecord) Finding) BadPlace) (s : Status) (text : List ℕ)
    → MatchResult said (λ paired. ConvertsTrades paired s text) (λ bad. IsVerdictAnswer (verdict.Malformed Trades bad) s text) → IsStatusOfLogs s
trades-status (Ok paired) s text is = converts-status paired s text is
trades-status (Err bad) s text is = verdict-status (verdict.Malformed Trades bad) s text is

pub convert-status : (which : Which) (log : Log) (s : Status) (text : List ℕ) → IsConvertAnswer which log s text → IsStatusOfLogs s
convert-status Orders log s text is = orders-status (records_of_order_log log.form log.bytes) s text is
convert-status Trades log s text is = trades-status (trades_of_trade_log log.form log.bytes) s text is

-- What `expect` answers to the records of an order log.

expects-found : (the_rule : Rule) (symbol : List ℕ) (entries : List OrderRecord) (finding : Finding) (answer : Answer) → orders_finding the_rule symbol entries ≡ Some finding
    → IsAnswerOfKind (IsVerdictAnswer (verdict.Rejected finding)) answer → IsAnswerOfKind (ExpectsRecords the_rule symbol entries) answer
expects-found the_rule symbol entries finding answer found made = rw found made

pub expects-history : (the_rule : Rule) (symbol : List ℕ) (entries : List OrderRecord) (finding : Finding) (answer : Answer) → history_finding symbol entries ≡ Some finding
    → IsAnswerOfKind (IsVerdictAnswer (verdict.Rejected finding)) answer → IsAnswerOfKind (ExpectsRecords the_rule symbol entries) answer
expects-history the_rule symbol entries finding answer found made = expects-found the_rule symbol entries finding answer (rw found refl) made

expects-order : (the_rule : Rule) (symbol : List ℕ) (entries : List OrderRecord) (finding : Finding) (answer : Answer) → WellFormed symbol entries
    → instant_finding_of_rule the_rule (order_list symbol entries) ≡ Some finding → IsAnswerOfKind (IsVerdictAnswer (verdict.Rejected finding)) answer → IsAnswerOfKind (ExpectsRecords the_rule symbol entries) answer
expects-order the_rule symbol entries finding answer formed found made = expects-found the_rule symbol entries finding answer (rw (formed, found) refl) made

-- as before, of orders that are those of the records, for a symbol that is the history's own
pub expects-named : (the_rule : Rule) (symbol own : List ℕ) (entries : List OrderRecord) (orders : List Order) (finding : Finding) (answer : Answer) → symbol ≡ own → WellFormed own entries
    → orders ≡ order_list own entries → instant_finding_of_rule the_rule orders ≡ Some finding → IsAnswerOfKind (IsVerdictAnswer (verdict.Rejected finding)) answer → IsAnswerOfKind (ExpectsRecords the_rule symbol entries) answer
expects-named the_rule symbol own entries orders finding answer same formed listed found made =
    subst (λ (s : List ℕ). IsAnswerOfKind (ExpectsRecords the_rule s entries) answer) (sym same)
    (expects-order the_rule own entries finding answer formed (subst (λ (l : List Order). instant_finding_of_rule the_rule l ≡ Some finding) listed found) made)

pub expects-done : (the_rule : Rule) (symbol : List ℕ) (entries : List OrderRecord) (answer : Answer) → WellFormed symbol entries → instant_finding_of_rule the_rule (order_list symbol entries) ≡ None
    → answer.status ≡ status.Accepted → IsExpectedLog the_rule symbol entries answer.text.items → IsAnswerOfKind (ExpectsRecords the_rule symbol entries) answer
expects-done the_rule symbol entries answer formed admits done is = rw none (record { done = done; is = is })
  where
    none : orders_finding the_rule symbol entries ≡ None
    none = rw (formed, admits) refl

-- A call whose logs have at most 64 MiB.

module _ {S : Type 0} (shelf : Shelf S) (old new : S) (source : Source) (few : source.limit ≡ longest_log) where
  pub decides_within : (request : Request) (result : Result Answer Stop) → DecidesAuditorAnswer (reading_by source shelf old new) request result → DecidesAuditorAnswer (reading shelf old new) request result
  decides_within request result is = subst (λ (n : ℕ). DecidesAuditorAnswer (reading_within n shelf old new) request result) few is

  pub stays_within : (result : Result Answer Stop) → StaysWithin (reading_by source shelf old new) result → StaysWithin (reading shelf old new) result
  stays_within result is = subst (λ (n : ℕ). StaysWithin (reading_within n shelf old new) result) few is
