-- The answer to what two logs give of a symbol, on a page that names these logs.
use Rattle.std.specs.Prelude.{◌≡◌, ℕ, Bool, true, false, List, [], None, Some, Result}
use Rattle.audit_base.specs.declared.findings.Finding.{Finding}
use Rattle.audit_base.specs.declared.orders.Deal.{Deal}
use Rattle.audit_base.specs.declared.orders.Order.{Order}
use Rattle.audit_base.specs.declared.records.OrderRecord.{OrderRecord}
use Rattle.audit_base.specs.declared.records.TradeRecord.{TradeRecord}
use Rattle.audit_report.specs.declared.statuses.Status.{Status}
use Rattle.audit_report.specs.declared.statuses.Status.TheVariants.{Rejected}
use Rattle.audit_report.specs.declared.verdicts.Verdict.{Verdict}
use Rattle.audit_report.specs.Statuses.{verdict_status}
use Rattle.command_run.specs.declared.answers.Answer.{Answer}
use Rattle.command_run.specs.Deciding.{IsAnswerOfKind}
use Rattle.command_run.specs.VerdictAnswers.{IsAnswerWith}
use Rattle.log_digests.specs.declared.digests.LogDigests.{LogDigests}
use Rattle.desk_page.specs.declared.requests.PageRequest.{PageRequest}
use Rattle.desk_page.specs.PageAnswers.{verdict_finding, in_words, IsPageOfMarket, IsPageOfRecords, page_question, Pictures}
use Rattle.desk_page.specs.PageLogs.{NamesLogs}
use Rattle.record_verdict.specs.declared.before_rule.BeforeRule.{BeforeRule}
use Rattle.record_verdict.specs.declared.questions.Question.{Question}
use Rattle.record_verdict.specs.BeforeRule.{IsBeforeRule}
use Rattle.record_verdict.specs.Scopes.{scope_of}
use Rattle.symbol_offences.specs.OffenceAnswers.{is_absent}
use Rattle.symbol_offences.specs.OffenceLines.{absent_line}
use Rattle.page_parts.specs.declared.repeats.PageLogs.{PageLogs}
use Rattle.page_parts.specs.VerdictPages.{IsVerdictPage}

-- The answer is the page of a finding before the rule.
pub record IsPageOfFinding (q : Question) (named : PageLogs) (finding : Finding)
    (the_status : Status) (text : List ℕ) : Type 0 where
  pub status_is : the_status ≡ Rejected
  pub page : IsVerdictPage (in_words q (Some finding) None) [] named text

-- The answer is the page of these orders and deals, with the status of their verdict.
pub record IsPageOfDeals (is_picture : Pictures) (q : Question) (named : PageLogs)
    (orders : List Order) (deals : List Deal) (the_verdict : Verdict)
    (the_status : Status) (text : List ℕ) : Type 0 where
  pub status_is : the_status ≡ verdict_status the_verdict
  pub page : IsPageOfMarket is_picture q named orders deals (verdict_finding the_verdict) text

-- the answer by whether there is no order and no deal
abbrev pub IsAnswerByEmptiness : Bool → Pictures → Question → PageLogs → List Order → List Deal
    → Verdict → Status → List ℕ → Type 0
IsAnswerByEmptiness true is_picture q named orders deals the_verdict =
    IsAnswerWith Rejected (absent_line q.symbol)
IsAnswerByEmptiness false is_picture q named orders deals the_verdict =
    IsPageOfDeals is_picture q named orders deals the_verdict

-- the answer to the records of two logs by whether the symbol is absent
abbrev pub IsNamedByAbsence : Bool → Pictures → Question → PageLogs → List OrderRecord
    → Result (List TradeRecord) Finding → Status → List ℕ → Type 0
IsNamedByAbsence true is_picture q named entries paired =
    IsAnswerWith Rejected (absent_line q.symbol)
IsNamedByAbsence false is_picture q named entries paired =
    IsPageOfRecords is_picture q named entries paired

-- the answer to what the records of two logs give: of whatever records give this, the answer to
-- them
abbrev pub IsAnswerToGiven : Pictures → Question → PageLogs → BeforeRule → Answer → Type 0
IsAnswerToGiven is_picture q named given answer =
    (entries : List OrderRecord) (paired : Result (List TradeRecord) Finding)
    → IsBeforeRule (scope_of q) entries paired given
    → IsAnswerOfKind (IsNamedByAbsence (is_absent q.symbol entries paired) is_picture q named
    entries paired) answer

-- The answer to what two logs give, on a page that names the logs of a request with these digests.
pub record IsDigestedAnswer (is_picture : Pictures) (request : PageRequest) (digests : LogDigests)
    (given : BeforeRule) (answer : Answer) : Type 0 where
  pub named : PageLogs
  pub names : NamesLogs request.logs digests named
  pub told : IsAnswerToGiven is_picture (page_question request) named given answer
