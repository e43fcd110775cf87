-- What `page` answers to two logs: the page of the verdict on the symbol, with the picture of its
-- rule and with the digests of both; that the symbol is absent, where no record has it; or, of a
-- malformed log, what an audit answers.
use Rattle.std.specs.Prelude.{◌≡◌, ℕ, Bool, true, false, List, [], Option, None, Some, Result, length, MatchResult}
use Rattle.audit_base.specs.declared.findings.Finding.{Finding}
use Rattle.audit_base.specs.declared.orders.Deal.{Deal}
use Rattle.audit_base.specs.declared.orders.Order.{Order}
use Rattle.audit_base.specs.declared.records.OrderRecord.{OrderRecord}
use Rattle.audit_base.specs.declared.records.TradeRecord.{TradeRecord}
use Rattle.audit_base.specs.declared.terms.Rule.{Rule}
use Rattle.audit_base.specs.Deals.{volume}
use Rattle.audit_base.specs.Histories.{order_list}
use Rattle.audit_base.specs.Trades.{deals_of_symbol}
use Rattle.audit_base.specs.Verdicts.{paired_trades}
use Rattle.audit_report.specs.declared.statuses.Status.{Status}
use Rattle.audit_report.specs.declared.statuses.Status.TheVariants.{Rejected}
use Rattle.audit_report.specs.declared.verdicts.Verdict.{Verdict}
use Rattle.audit_report.specs.declared.verdicts.Verdict.TheVariants as verdict
use Rattle.audit_report.specs.Statuses.{verdict_status}
use Rattle.command_run.specs.declared.answers.Answer.{Answer}
use Rattle.command_run.specs.Deciding.{IsAnswerOfKind}
use Rattle.command_run.specs.VerdictAnswers.{IsAnswerWith, IsVerdictAnswer}
use Rattle.log_verdict.specs.declared.sources.Source.{Source}
use Rattle.log_verdict.specs.declared.stops.Stop.{Stop}
use Rattle.log_verdict.specs.BothLogs.{IsStopOfTwoLogs, ReadsLogs}
use Rattle.log_verdict.specs.Steps.{Reading}
use Rattle.log_digests.specs.declared.digests.LogDigests.{LogDigests}
use Rattle.desk_page.specs.declared.requests.PageRequest.{PageRequest}
use Rattle.desk_page.specs.PageLogs.{AreDigestsOf, NamesLogs, ShelfLogs}
use Rattle.record_verdict.specs.declared.questions.Question.{Question}
use Rattle.record_verdict.specs.RecordVerdicts.{IsRecordVerdict, question}
use Rattle.record_verdict.specs.Scopes.{finding_before_rule_in_scope, scope_of}
use Rattle.symbol_offences.specs.OffenceAnswers.{is_absent}
use Rattle.symbol_offences.specs.OffenceLines.{absent_line}
use Rattle.page_parts.specs.declared.repeats.PageLogs.{PageLogs}
use Rattle.page_parts.specs.declared.sentences.SymbolTotals.{SymbolTotals}
use Rattle.page_parts.specs.declared.sentences.VerdictInWords.{VerdictInWords}
use Rattle.page_parts.specs.VerdictPages.{IsVerdictPage}

-- what a picture shows: under this rule these orders and deals, with what was found of them
abbrev pub Pictures : Type 1
Pictures = Rule → List Order → List Deal → Option Finding → List ℕ → Type 0

-- what is asked of the logs: the verdict of the rule on the symbol, without a table
abbrev pub page_question : PageRequest → Question
page_question request = question request.rule request.symbol false

-- what the symbol has: its orders, its trades, and what was traded
abbrev pub totals_of_market : List Order → List Deal → SymbolTotals
totals_of_market orders deals = record {
  orders = length orders;
  trades = length deals;
  volume = volume deals;
}

-- the verdict in words: what was found, and the totals where they are known
abbrev pub in_words : Question → Option Finding → Option SymbolTotals → VerdictInWords
in_words q found totals =
    record { rule = q.rule; symbol = q.symbol; finding = found; totals = totals }

-- The page of a verdict on these orders and deals: with their totals, and the picture of the rule.
pub record IsPageOfMarket (is_picture : Pictures) (q : Question) (named : PageLogs)
    (orders : List Order) (deals : List Deal) (found : Option Finding) (text : List ℕ)
    : Type 0 where
  pub picture : List ℕ
  pub shows : is_picture q.rule orders deals found picture
  pub page : IsVerdictPage (in_words q found (Some (totals_of_market orders deals))) picture named
      text

-- the page of a verdict, where this was found before the rule: nothing, or a finding, after which
-- neither orders nor deals are known
abbrev pub IsPageAfter : Option Finding → Pictures → Question → PageLogs → List Order → List Deal
    → Option Finding → List ℕ → Type 0
IsPageAfter None is_picture q named orders deals found text =
    IsPageOfMarket is_picture q named orders deals found text
IsPageAfter (Some before) is_picture q named orders deals found text =
    IsVerdictPage (in_words q found None) [] named text

-- the finding of a verdict
abbrev pub verdict_finding : Verdict → Option Finding
verdict_finding (verdict.Accepted accepted) = None
verdict_finding (verdict.Rejected finding) = Some finding
verdict_finding (verdict.Malformed log bad) = None

-- The verdict on the records of two logs that a page names, and its page.
pub record IsPageOfRecords (is_picture : Pictures) (q : Question) (named : PageLogs)
    (entries : List OrderRecord) (paired : Result (List TradeRecord) Finding)
    (the_status : Status) (text : List ℕ) : Type 0 where
  pub the_verdict : Verdict
  pub is : IsRecordVerdict q entries paired the_verdict
  pub status_is : the_status ≡ verdict_status the_verdict
  pub page : let orders = order_list q.symbol entries in
      let before = finding_before_rule_in_scope (scope_of q) entries paired in
      IsPageAfter before is_picture q named orders
      (deals_of_symbol orders q.symbol (paired_trades paired)) (verdict_finding the_verdict) text

-- The page of the verdict on the records of two logs, which names the logs with their digests.
pub record IsPageOfLogs (is_picture : Pictures) (shelf : ShelfLogs) (request : PageRequest)
    (entries : List OrderRecord) (paired : Result (List TradeRecord) Finding)
    (the_status : Status) (text : List ℕ) : Type 0 where
  pub digests : LogDigests
  pub are_digests : AreDigestsOf shelf request.logs digests
  pub named : PageLogs
  pub names : NamesLogs request.logs digests named
  pub page : IsPageOfRecords is_picture (page_question request) named entries paired the_status text

-- the answer by whether the symbol is absent: the line that says so, or the page of the verdict
abbrev pub IsAnswerByAbsence : Bool → Pictures → ShelfLogs → PageRequest → List OrderRecord
    → Result (List TradeRecord) Finding → Status → List ℕ → Type 0
IsAnswerByAbsence true is_picture shelf request entries paired =
    IsAnswerWith Rejected (absent_line request.symbol)
IsAnswerByAbsence false is_picture shelf request entries paired =
    IsPageOfLogs is_picture shelf request entries paired

-- the answer to the records of two logs
abbrev pub IsAnswerToRecords : Pictures → ShelfLogs → PageRequest → List OrderRecord
    → Result (List TradeRecord) Finding → Status → List ℕ → Type 0
IsAnswerToRecords is_picture shelf request entries paired =
    IsAnswerByAbsence (is_absent request.symbol entries paired) is_picture shelf request
    entries paired

-- which logs the shelf of a call has
abbrev pub logs_in : Reading → ShelfLogs
logs_in r = record { tells = r.tells; log_of = r.log_of }

-- both logs were read, and this is the answer to them; or why there is none
abbrev pub GivesPageOrStop : Pictures → Reading → PageRequest → Source → Source
    → Result Answer Stop → Type 0
GivesPageOrStop is_picture r request orders trades result =
    MatchResult result
    (λ answer. ReadsLogs r orders trades
    (λ entries paired.
    IsAnswerOfKind (IsAnswerToRecords is_picture (logs_in r) request entries paired) answer)
    (λ log bad. IsAnswerOfKind (IsVerdictAnswer (verdict.Malformed log bad)) answer))
    (IsStopOfTwoLogs r orders trades)
