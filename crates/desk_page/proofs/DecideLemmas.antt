-- What two logs give decides the command.
use Rattle.std.proofs.Common.{◌≡◌, ◌∙◌, refl, sym, ap, subst, ℕ, Bool, true, false, List, Result, Ok, Err}
use Rattle.std.specs.Prelude.{MatchResult}
use Rattle.audit_base.specs.declared.faults.BadPlace.{BadPlace}
use Rattle.audit_base.specs.declared.findings.Finding.{Finding}
use Rattle.audit_base.specs.declared.records.OrderRecord.{OrderRecord}
use Rattle.audit_base.specs.declared.records.TradeRecord.{TradeRecord}
use Rattle.audit_base.specs.declared.terms.Which.{Which}
use Rattle.audit_base.specs.declared.terms.Which.TheVariants.{Orders, Trades}
use Rattle.audit_report.specs.declared.statuses.Status.{Status}
use Rattle.audit_report.specs.declared.verdicts.Verdict.{Verdict}
use Rattle.audit_report.specs.declared.verdicts.Verdict.TheVariants as verdict
use Rattle.audit_report.specs.Statuses.{verdict_status}
use Rattle.command_run.specs.declared.answers.Answer.{Answer}
use Rattle.command_run.specs.Deciding.{DecidesAnswer, IsAnswerOfKind, IsStatusOfLogs}
use Rattle.command_run.specs.Laws.{BothLogsDecide, BothLogsStop}
use Rattle.command_run.specs.VerdictAnswers.{IsVerdictAnswer}
use Rattle.log_source.specs.Sources.{longest_read}
use Rattle.log_verdict.specs.declared.sources.Source.{Source}
use Rattle.log_verdict.specs.declared.stops.Stop.{Stop}
use Rattle.log_verdict.specs.LogVerdicts.{Log, OfLogs, records_of_order_log, trades_of_trade_log}
use Rattle.log_verdict.specs.BothLogs.{IsStopOfTwoLogs, ReadsLogs, StaysWithin}
use Rattle.log_verdict.specs.Steps.{FaultsNeverFall, Reading}
use Rattle.desk_page.specs.declared.requests.PageRequest.{PageRequest}
use Rattle.desk_page.specs.PageAnswers.{GivesPageOrStop, IsAnswerByAbsence, IsAnswerToRecords, logs_in, Pictures}
use Rattle.desk_page.specs.PageLogs.{ShelfLogs}
use Rattle.desk_page.specs.Requests.{page_command}
use Rattle.symbol_offences.specs.OffenceAnswers.{is_absent}

verdict-status : (v : Verdict) → IsStatusOfLogs (verdict_status v)
verdict-status (verdict.Accepted accepted) = tt
verdict-status (verdict.Rejected finding) = tt
verdict-status (verdict.Malformed log bad) = tt

abbrev of_records : Pictures → ShelfLogs → PageRequest × Answer → List OrderRecord → Result (List TradeRecord) Finding → Type 0
of_records is_picture shelf given entries paired = IsAnswerOfKind (IsAnswerToRecords is_picture shelf given.0 entries paired) given.1

abbrev of_bad : PageRequest × Answer → Which → BadPlace → Type 0
of_bad given log bad = IsAnswerOfKind (IsVerdictAnswer (verdict.Malformed log bad)) given.1

-- the answer has a status of an answer to logs
module _ (is_picture : Pictures) (shelf : ShelfLogs) (request : PageRequest) (s : Status) (text : List ℕ) where
  -- the line of an absent symbol rejects, and a page has the status of its verdict
  records-status : (entries : List OrderRecord) (paired : Result (List TradeRecord) Finding) (absent : Bool) → IsAnswerByAbsence absent is_picture shelf request entries paired s text → IsStatusOfLogs s
  records-status entries paired true is = subst IsStatusOfLogs (sym is.status_is) tt
  records-status entries paired false is = subst IsStatusOfLogs (sym is.page.status_is) (verdict-status is.page.the_verdict)

  logs-status : (first : Result (List OrderRecord) BadPlace) (second : Result (Result (List TradeRecord) Finding) BadPlace)
      → MatchResult first (λ entries. MatchResult second (λ paired. IsAnswerToRecords is_picture shelf request entries paired s text) (λ bad. IsVerdictAnswer (verdict.Malformed Trades bad) s text)) (λ bad. IsVerdictAnswer (verdict.Malformed Orders bad) s text)
      → IsStatusOfLogs s
  logs-status (Ok entries) (Ok paired) is = records-status entries paired (is_absent request.symbol entries paired) is
  logs-status (Ok entries) (Err bad) is = subst IsStatusOfLogs (sym is.status_is) tt
  logs-status (Err bad) second is = subst IsStatusOfLogs (sym is.status_is) tt

  page-status : (orders trades : Log) → OfLogs (λ entries paired. IsAnswerToRecords is_picture shelf request entries paired s text) (λ log bad. IsVerdictAnswer (verdict.Malformed log bad) s text) orders trades → IsStatusOfLogs s
  page-status orders trades is = logs-status (records_of_order_log orders.form orders.bytes) (trades_of_trade_log trades.form trades.bytes) is

-- These are the sources of the logs of a request: their names and forms.
pub record AreSources (request : PageRequest) (orders trades : Source) : Type 0 where
  pub orders_name : orders.name.now ≡ request.logs.orders
  pub trades_name : trades.name.now ≡ request.logs.trades
  pub orders_form : orders.form ≡ request.logs.orders_form
  pub trades_form : trades.form ≡ request.logs.trades_form

-- the request with the names and forms of these sources, which is the request itself
abbrev named_request : PageRequest → Source → Source → PageRequest
named_request request orders trades = record {
  rule = request.rule;
  symbol = request.symbol;
  logs = record { orders = orders.name.now; trades = trades.name.now; orders_form = orders.form; trades_form = trades.form };
}

same-request : (request : PageRequest) (orders trades : Source) → AreSources request orders trades → named_request request orders trades ≡ request
same-request request orders trades are i = record {
  rule = request.rule;
  symbol = request.symbol;
  logs = record { orders = are.orders_name i; trades = are.trades_name i; orders_form = are.orders_form i; trades_form = are.trades_form i };
}

-- both logs were read, and this is the answer by what this shelf has; or why there is none
abbrev gives_page : Pictures → ShelfLogs → Reading → PageRequest → Source → Source → Result Answer Stop → Type 0
gives_page is_picture shelf r request orders trades result =
    MatchResult result
    (λ answer. ReadsLogs r orders trades (λ entries paired. IsAnswerOfKind (IsAnswerToRecords is_picture shelf request entries paired) answer) (λ log bad. IsAnswerOfKind (IsVerdictAnswer (verdict.Malformed log bad)) answer))
    (IsStopOfTwoLogs r orders trades)

module _ (is_picture : Pictures) (shelf : ShelfLogs) (request : PageRequest) (orders trades : Source) (r : Reading)
    (answers : (q : PageRequest) → BothLogsDecide (of_records is_picture shelf) of_bad (page_command is_picture shelf q)) (stops : (q : PageRequest) → BothLogsStop (page_command is_picture shelf q)) (later : FaultsNeverFall r) where
  decides-named : (result : Result Answer Stop) → gives_page is_picture shelf r (named_request request orders trades) orders trades result
      → DecidesAnswer r (page_command is_picture shelf (named_request request orders trades)) result
  decides-named (Ok answer) is =
      answers (named_request request orders trades) (named_request request orders trades, answer) r orders trades answer.status answer.text.items later
      (record {
        starts = record { first = refl; second = λ bytes. refl };
        answer = λ logs short of. of;
        ends = λ first second entries e of. refl;
        status_of_logs = λ logs of. page-status is_picture shelf (named_request request orders trades) answer.status answer.text.items _ _ of;
      }) is
  decides-named (Err why) is = stops (named_request request orders trades) r orders trades why later (record { first = refl; second = λ bytes. refl }) is

  decides : AreSources request orders trades → (result : Result Answer Stop) → gives_page is_picture shelf r request orders trades result → DecidesAnswer r (page_command is_picture shelf request) result
  decides are result =
      subst (λ (q : PageRequest). gives_page is_picture shelf r q orders trades result → DecidesAnswer r (page_command is_picture shelf q) result) (same-request request orders trades are) (decides-named result)

-- what was decided with the limit of the sources is so with the limit of a log
pub page-decides : (r s : Reading) (is_picture : Pictures) (shelf : ShelfLogs) (request : PageRequest) (orders trades : Source) (result : Result Answer Stop) → GivesPageOrStop is_picture r request orders trades result
    → r.limit ≡ longest_read → s ≡ record r { limit = longest_read } → shelf ≡ logs_in s → AreSources request orders trades
    → ((q : PageRequest) → BothLogsDecide (of_records is_picture shelf) of_bad (page_command is_picture shelf q)) → ((q : PageRequest) → BothLogsStop (page_command is_picture shelf q)) → FaultsNeverFall r
    → DecidesAnswer s (page_command is_picture shelf request) result
page-decides r s is_picture shelf request orders trades result gives few is same are answers stops later =
    subst (λ (q : Reading). DecidesAnswer q (page_command is_picture shelf request) result) (sym is)
    (subst (λ (n : ℕ). DecidesAnswer (record r { limit = n }) (page_command is_picture shelf request) result) few
    (decides is_picture shelf request orders trades r answers stops later are result
    (subst (λ (l : ShelfLogs). gives_page is_picture l r request orders trades result) (sym (same ∙ ap logs_in is)) gives)))

-- what stays within the limit of the sources stays within the limit of a log. What the reading gives
-- tells the proof which reading is meant, and is here for that alone
pub stays-within : (r s : Reading) (is_picture : Pictures) (request : PageRequest) (orders trades : Source) (result : Result Answer Stop) → GivesPageOrStop is_picture r request orders trades result
    → r.limit ≡ longest_read → s ≡ record r { limit = longest_read } → StaysWithin r result → StaysWithin s result
stays-within r s is_picture request orders trades result gives few is within =
    subst (λ (q : Reading). StaysWithin q result) (sym is) (subst (λ (n : ℕ). StaysWithin (record r { limit = n }) result) few within)
