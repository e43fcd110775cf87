-- The offences of a symbol: the status of the answer, and what two logs decide.
use Rattle.std.proofs.Common.{refl, sym, subst, ℕ, Bool, true, false, List, [], ◌∷◌, Result, Ok, Err}
use Rattle.std.specs.Prelude.{MatchResult}
use Rattle.audit_base.specs.declared.faults.BadPlace.{BadPlace}
use Rattle.audit_base.specs.declared.findings.Finding.{Finding}
use Rattle.audit_base.specs.declared.records.OrderRecord.{OrderRecord}
use Rattle.audit_base.specs.declared.records.TradeRecord.{TradeRecord}
use Rattle.audit_base.specs.declared.terms.Which.{Which}
use Rattle.audit_base.specs.declared.terms.Which.TheVariants.{Orders, Trades}
use Rattle.audit_base.specs.Histories.{order_list}
use Rattle.audit_base.specs.Verdicts.{paired_trades}
use Rattle.audit_report.specs.declared.statuses.Status.{Status}
use Rattle.audit_report.specs.declared.verdicts.Accepted.{Accepted}
use Rattle.audit_report.specs.declared.verdicts.Verdict.{Verdict}
use Rattle.audit_report.specs.declared.verdicts.Verdict.TheVariants as verdict
use Rattle.command_run.specs.declared.answers.Answer.{Answer}
use Rattle.command_run.specs.Deciding.{DecidesAnswer, IsAnswerOfKind, IsStatusOfLogs}
use Rattle.command_run.specs.Laws.{BothLogsDecide, BothLogsStop}
use Rattle.command_run.specs.VerdictAnswers.{IsVerdictAnswer}
use Rattle.further_checks.specs.declared.findings.FurtherFinding.{FurtherFinding}
use Rattle.further_checks.specs.FurtherRules.{further_findings_of_symbol}
use Rattle.log_verdict.specs.declared.sources.Source.{Source}
use Rattle.log_verdict.specs.declared.stops.Stop.{Stop}
use Rattle.log_verdict.specs.LogVerdicts.{Log, records_of_order_log, trades_of_trade_log}
use Rattle.log_verdict.specs.Steps.{FaultsNeverFall, Reading}
use Rattle.symbol_offences.specs.declared.questions.OffenceQuestion.{OffenceQuestion}
use Rattle.symbol_offences.specs.declared.symbol_before_rule.QuotedRecords.{QuotedRecords}
use Rattle.symbol_offences.specs.OffenceAnswers.{is_absent, GivesOffencesOrStop, IsAnswerByAbsence, IsAnswerByVerdict, IsAnswerToAccepted, IsOffencesAnswer, IsOffencesOfRecords}
use Rattle.symbol_offences.specs.SymbolBeforeRule.{quoted_records}
use Rattle.desk_run.specs.Deciding.{request_for_offences}
use Rattle.desk_run.specs.Requests.{desk_command_of}

-- The answer has a status of an answer to logs.

accepted-status : (quoted : QuotedRecords) (accepted : Accepted) (found : List FurtherFinding) (s : Status) (text : List ℕ) → IsAnswerToAccepted quoted accepted found s text → IsStatusOfLogs s
accepted-status quoted accepted [] s text is = subst IsStatusOfLogs (sym is.status_is) tt
accepted-status quoted accepted (first ∷ rest) s text is = subst IsStatusOfLogs (sym is.status_is) tt

module _ (q : OffenceQuestion) (s : Status) (text : List ℕ) where
  verdict-status : (entries : List OrderRecord) (paired : Result (List TradeRecord) Finding) (v : Verdict) → IsAnswerByVerdict q entries paired v s text → IsStatusOfLogs s
  verdict-status entries paired (verdict.Accepted accepted) is =
      accepted-status (quoted_records q.records q.symbol entries paired) accepted (further_findings_of_symbol q.checks (order_list q.symbol entries) q.symbol (paired_trades paired)) s text is
  verdict-status entries paired (verdict.Rejected first) is = subst IsStatusOfLogs (sym is.status_is) tt
  verdict-status entries paired (verdict.Malformed log bad) is = absurd is

  absence-status : (absent : Bool) (entries : List OrderRecord) (paired : Result (List TradeRecord) Finding) → IsAnswerByAbsence absent q entries paired s text → IsStatusOfLogs s
  absence-status true entries paired is = subst IsStatusOfLogs (sym is.status_is) tt
  absence-status false entries paired is = verdict-status entries paired is.the_verdict is.answer

  logs-status : (first : Result (List OrderRecord) BadPlace) (second : Result (Result (List TradeRecord) Finding) BadPlace)
      → MatchResult first (λ entries. MatchResult second (λ paired. IsOffencesOfRecords q entries paired s text) (λ bad. IsVerdictAnswer (verdict.Malformed Trades bad) s text)) (λ bad. IsVerdictAnswer (verdict.Malformed Orders bad) s text)
      → IsStatusOfLogs s
  logs-status (Ok entries) (Ok paired) is = absence-status (is_absent q.symbol entries paired) entries paired is
  logs-status (Ok entries) (Err bad) is = subst IsStatusOfLogs (sym is.status_is) tt
  logs-status (Err bad) second is = subst IsStatusOfLogs (sym is.status_is) tt

  pub offences_status : (orders trades : Log) → IsOffencesAnswer q orders trades s text → IsStatusOfLogs s
  offences_status orders trades is = logs-status (records_of_order_log orders.form orders.bytes) (trades_of_trade_log trades.form trades.bytes) is

-- What two logs decide: the answer to them, or why there is none.

abbrev of_records : OffenceQuestion × Answer → List OrderRecord → Result (List TradeRecord) Finding → Type 0
of_records given entries paired = IsAnswerOfKind (IsOffencesOfRecords given.0 entries paired) given.1

abbrev of_bad : OffenceQuestion × Answer → Which → BadPlace → Type 0
of_bad given log bad = IsAnswerOfKind (IsVerdictAnswer (verdict.Malformed log bad)) given.1

module _ (q : OffenceQuestion) (orders trades : Source) (r : Reading)
    (answers : BothLogsDecide of_records of_bad (desk_command_of (request_for_offences q orders trades))) (stops : BothLogsStop (desk_command_of (request_for_offences q orders trades))) (later : FaultsNeverFall r) where
  pub offences_decide : (result : Result Answer Stop) → GivesOffencesOrStop r q orders trades result → DecidesAnswer r (desk_command_of (request_for_offences q orders trades)) result
  offences_decide (Ok answer) is =
      answers (q, answer) r orders trades answer.status answer.text.items later
      (record {
        starts = record { first = refl; second = λ bytes. refl };
        answer = λ logs short of. of;
        ends = λ first second entries e of. refl;
        status_of_logs = λ logs of. offences_status q answer.status answer.text.items _ _ of;
      }) is
  offences_decide (Err why) is = stops r orders trades why later (record { first = refl; second = λ bytes. refl }) is
