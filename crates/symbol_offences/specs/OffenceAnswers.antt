-- What `offences` answers to two logs: the verdict on the symbol, and where it rejects the offences
-- behind it; of a symbol that the rule accepts every trade that fails a further check; and that a
-- symbol is absent which no record has.
use Rattle.std.specs.Prelude.{ℕ, Bool, true, false, ◌&&◌, List, [], ◌∷◌, ◌++◌, Some, Result, Ok, Err, MatchResult, is_some, if◌then◌else◌}
use Rattle.audit_base.specs.declared.findings.Finding.{Finding}
use Rattle.audit_base.specs.declared.orders.Order.{Order}
use Rattle.audit_base.specs.declared.records.OrderRecord.{OrderRecord}
use Rattle.audit_base.specs.declared.records.TradeRecord.{TradeRecord}
use Rattle.audit_base.specs.Histories.{history, order_list}
use Rattle.audit_base.specs.Trades.{trades_of_symbol}
use Rattle.audit_base.specs.Verdicts.{finding_before_rule, paired_trades}
use Rattle.audit_report.specs.declared.statuses.Status.{Status}
use Rattle.audit_report.specs.declared.statuses.Status.TheVariants as status
use Rattle.audit_report.specs.declared.verdicts.Accepted.{Accepted}
use Rattle.audit_report.specs.declared.verdicts.Verdict.{Verdict}
use Rattle.audit_report.specs.declared.verdicts.Verdict.TheVariants as verdict
use Rattle.audit_report.specs.Texts.{accepted_text, rejected_text}
use Rattle.command_run.specs.declared.answers.Answer.{Answer}
use Rattle.command_run.specs.Deciding.{IsAnswerOfKind}
use Rattle.command_run.specs.VerdictAnswers.{IsAnswerWith, IsVerdictAnswer}
use Rattle.further_checks.specs.declared.findings.FurtherFinding.{FurtherFinding}
use Rattle.further_checks.specs.FurtherRules.{further_findings_of_symbol}
use Rattle.further_checks.specs.FurtherTexts.{further_text}
use Rattle.log_verdict.specs.declared.sources.Source.{Source}
use Rattle.log_verdict.specs.declared.stops.Stop.{Stop}
use Rattle.log_verdict.specs.BothLogs.{IsStopOfTwoLogs, ReadsLogs}
use Rattle.log_verdict.specs.LogVerdicts.{Log, OfLogs}
use Rattle.log_verdict.specs.Steps.{Reading}
use Rattle.offence_list.specs.Offences.{record_offences}
use Rattle.record_verdict.specs.RecordVerdicts.{IsRecordVerdict}
use Rattle.symbol_offences.specs.declared.questions.OffenceQuestion.{OffenceQuestion}
use Rattle.symbol_offences.specs.declared.symbol_before_rule.QuotedRecords.{QuotedRecords}
use Rattle.symbol_offences.specs.OffenceLines.{absent_line, failure_lines, offence_lines}
use Rattle.symbol_offences.specs.Questions.{audit_question}
use Rattle.symbol_offences.specs.SymbolBeforeRule.{quoted_records}

-- a list has no member
abbrev pub has_none : {A : Type 0} → List A → Bool
has_none [] = true
has_none (first ∷ rest) = false

-- the reports pair, and no record of either log has the symbol
abbrev pub is_absent : List ℕ → List OrderRecord → Result (List TradeRecord) Finding → Bool
is_absent symbol entries (Ok trades) =
    has_none (history symbol entries) && has_none (trades_of_symbol symbol trades)
is_absent symbol entries (Err finding) = false

-- the orders that the rule is asked about: none where a finding before it decides
abbrev pub orders_under_rule : OffenceQuestion → List OrderRecord
    → Result (List TradeRecord) Finding → List Order
orders_under_rule q entries paired =
    if is_some (finding_before_rule q.rule q.symbol entries paired) then []
    else order_list q.symbol entries

-- a symbol that the rule accepts: where no trade fails a further check, as an audit answers; else
-- the first that does, and all of them
abbrev pub IsAnswerToAccepted : QuotedRecords → Accepted → List FurtherFinding → Status → List ℕ
    → Type 0
IsAnswerToAccepted quoted accepted [] =
    IsAnswerWith status.Accepted (accepted_text accepted)
IsAnswerToAccepted quoted accepted (first ∷ rest) =
    IsAnswerWith status.Rejected (further_text first ++ failure_lines quoted (first ∷ rest))

-- a symbol that is rejected with a finding: its text, and all offences about these orders
abbrev pub IsAnswerToRejected : QuotedRecords → List Order → Finding → List Finding → Status
    → List ℕ → Type 0
IsAnswerToRejected quoted orders first found =
    IsAnswerWith status.Rejected (rejected_text first ++ offence_lines orders quoted found)

-- the answer by the verdict on the records
abbrev pub IsAnswerByVerdict : OffenceQuestion → List OrderRecord
    → Result (List TradeRecord) Finding → Verdict → Status → List ℕ → Type 0
IsAnswerByVerdict q entries paired (verdict.Accepted accepted) the_status text =
    IsAnswerToAccepted (quoted_records q.records q.symbol entries paired) accepted
    (further_findings_of_symbol q.checks (order_list q.symbol entries) q.symbol
    (paired_trades paired))
    the_status text
IsAnswerByVerdict q entries paired (verdict.Rejected first) the_status text =
    IsAnswerToRejected (quoted_records q.records q.symbol entries paired)
    (orders_under_rule q entries paired) first
    (record_offences q.rule q.symbol entries paired (Some first)) the_status text
IsAnswerByVerdict q entries paired (verdict.Malformed log bad) the_status text = ⊥

-- The verdict on the records, and the answer by it.
pub record IsAnswerToPresent (q : OffenceQuestion) (entries : List OrderRecord)
    (paired : Result (List TradeRecord) Finding) (the_status : Status) (text : List ℕ)
    : Type 0 where
  pub the_verdict : Verdict
  pub is : IsRecordVerdict (audit_question q) entries paired the_verdict
  pub answer : IsAnswerByVerdict q entries paired the_verdict the_status text

-- the answer by whether the symbol is absent
abbrev pub IsAnswerByAbsence : Bool → OffenceQuestion → List OrderRecord
    → Result (List TradeRecord) Finding → Status → List ℕ → Type 0
IsAnswerByAbsence true q entries paired = IsAnswerWith status.Rejected (absent_line q.symbol)
IsAnswerByAbsence false q entries paired = IsAnswerToPresent q entries paired

-- the answer to the records of two logs
abbrev pub IsOffencesOfRecords : OffenceQuestion → List OrderRecord
    → Result (List TradeRecord) Finding → Status → List ℕ → Type 0
IsOffencesOfRecords q entries paired =
    IsAnswerByAbsence (is_absent q.symbol entries paired) q entries paired

-- the answer to two logs: that to their records, or the first bad place, as of an audit
abbrev pub IsOffencesAnswer : OffenceQuestion → Log → Log → Status → List ℕ → Type 0
IsOffencesAnswer q orders trades the_status text =
    OfLogs (λ entries paired. IsOffencesOfRecords q entries paired the_status text)
    (λ log bad. IsVerdictAnswer (verdict.Malformed log bad) the_status text) orders trades

-- both logs were read, and this is the answer to them; or why there is none
abbrev pub GivesOffencesOrStop : Reading → OffenceQuestion → Source → Source → Result Answer Stop
    → Type 0
GivesOffencesOrStop r q orders trades result =
    MatchResult result
    (λ answer. ReadsLogs r orders trades
    (λ entries paired. IsAnswerOfKind (IsOffencesOfRecords q entries paired) answer)
    (λ log bad. IsAnswerOfKind (IsVerdictAnswer (verdict.Malformed log bad)) answer))
    (IsStopOfTwoLogs r orders trades)
