-- The records of a log, written in another form, as an answer.
use Rattle.std.proofs.Common.{◌≡◌, ◌≤◌, inl, inr, sym, subst, ℕ, List, Result, Ok, Err, arith}
use Rattle.std.specs.Prelude.{MatchResult}
use Rattle.std.specs.Global.{Vec}
use Rattle.audit_base.specs.declared.faults.BadPlace.{BadPlace}
use Rattle.audit_base.specs.declared.findings.Finding.{Finding}
use Rattle.audit_base.specs.declared.records.OrderRecord.{OrderRecord}
use Rattle.audit_base.specs.declared.records.TradeRecord.{TradeRecord}
use Rattle.audit_base.specs.declared.terms.Form.{Form}
use Rattle.audit_base.specs.declared.terms.Which.{Which}
use Rattle.audit_base.specs.declared.terms.Which.TheVariants.{Orders, Trades}
use Rattle.audit_report.specs.declared.statuses.Status.{Status}
use Rattle.audit_report.specs.declared.statuses.Status.TheVariants.{Accepted}
use Rattle.audit_report.specs.declared.verdicts.Verdict.TheVariants.{Malformed, Rejected}
use Rattle.command_run.specs.declared.answers.Answer.{Answer}
use Rattle.command_run.specs.Deciding.{IsAnswerOfKind, IsStatusOfLogs}
use Rattle.command_run.specs.VerdictAnswers.{IsDone, IsVerdictAnswer}
use Rattle.csv_logs.specs.Feeds.{HasLogRecords}
use Rattle.log_source.specs.Sources.{Slot}
use Rattle.log_verdict.specs.declared.stops.Stop.{Stop}
use Rattle.log_verdict.specs.BothLogs.{StaysWithin, StaysWithinAt}
use Rattle.log_verdict.specs.Collecting.{HasLogTrades, TouchesOnly}
use Rattle.log_verdict.specs.LogVerdicts.{Log, log_in, records_of_order_log, trades_of_trade_log}
use Rattle.log_verdict.specs.Steps.{EndsWithin, FaultsNeverFall, Reading, IsReadAs}
use Rattle.written_logs.specs.Texts.{IsLogOfOrders, IsLogOfTrades, IsMadeOfOrders, IsMadeOfTrades}
use Rattle.desk_run.specs.WrittenLogs.{IsWrittenLogAnswer, WritesTrades}

module _ (r : Reading) (name : List ℕ) (form into : Form) (answer : Answer) where
  -- the answer is the log that was made of the orders
  pub orders-answered : (text : Vec ℕ) → answer.status ≡ Accepted → answer.text.items ≡ text.items
      → IsReadAs r Orders name (λ bytes. HasLogRecords (IsMadeOfOrders into text) (records_of_order_log form bytes))
      → IsReadAs r Orders name (λ bytes. IsAnswerOfKind (IsWrittenLogAnswer Orders into (log_in form bytes)) answer)
  orders-answered text done text_is is = record {
    bytes = is.bytes;
    read = is.read;
    holds = rw is.holds.reads (record { done = done; is = subst (IsLogOfOrders into is.holds.entries) (sym text_is) is.holds.has });
  }

  -- the answer is the log that was made of the trades
  pub trades-answered : (text : Vec ℕ) → answer.status ≡ Accepted → answer.text.items ≡ text.items
      → IsReadAs r Trades name (λ bytes. HasLogTrades (IsMadeOfTrades into text) (trades_of_trade_log form bytes))
      → IsReadAs r Trades name (λ bytes. IsAnswerOfKind (IsWrittenLogAnswer Trades into (log_in form bytes)) answer)
  trades-answered text done text_is is = record {
    bytes = is.bytes;
    read = is.read;
    holds = rw is.holds.says (record { done = done; is = subst (IsLogOfTrades into is.holds.trades) (sym text_is) is.holds.has });
  }

  -- the answer is the finding that the reports do not pair
  pub alone-answered : (finding : Finding) → IsAnswerOfKind (IsVerdictAnswer (Rejected finding)) answer
      → IsReadAs r Trades name (λ bytes. trades_of_trade_log form bytes ≡ Ok (Err finding))
      → IsReadAs r Trades name (λ bytes. IsAnswerOfKind (IsWrittenLogAnswer Trades into (log_in form bytes)) answer)
  alone-answered finding found is = record { bytes = is.bytes; read = is.read; holds = rw is.holds found }

-- an answer has a status of an answer to logs
orders-status : (into : Form) (said : Result (List OrderRecord) BadPlace) (status : Status) (text : List ℕ)
    → MatchResult said (λ entries. IsDone (IsLogOfOrders into entries) status text) (λ bad. IsVerdictAnswer (Malformed Orders bad) status text) → IsStatusOfLogs status
orders-status into (Ok entries) status text is = subst IsStatusOfLogs (sym is.done) tt
orders-status into (Err bad) status text is = subst IsStatusOfLogs (sym is.status_is) tt

paired-status : (into : Form) (paired : Result (List TradeRecord) Finding) (status : Status) (text : List ℕ) → WritesTrades into paired status text → IsStatusOfLogs status
paired-status into (Ok trades) status text is = subst IsStatusOfLogs (sym is.done) tt
paired-status into (Err finding) status text is = subst IsStatusOfLogs (sym is.status_is) tt

trades-status : (into : Form) (said : Result (Result (List TradeRecord) Finding) BadPlace) (status : Status) (text : List ℕ)
    → MatchResult said (λ paired. WritesTrades into paired status text) (λ bad. IsVerdictAnswer (Malformed Trades bad) status text) → IsStatusOfLogs status
trades-status into (Ok paired) status text is = paired-status into paired status text is
trades-status into (Err bad) status text is = subst IsStatusOfLogs (sym is.status_is) tt

pub written-status : (which : Which) (into : Form) (log : Log) (status : Status) (text : List ℕ) → IsWrittenLogAnswer which into log status text → IsStatusOfLogs status
written-status Orders into log status text is = orders-status into (records_of_order_log log.form log.bytes) status text is
written-status Trades into log status text is = trades-status into (trades_of_trade_log log.form log.bytes) status text is

-- where one log alone was touched
pub only-later : (r : Reading) (which : Which) → TouchesOnly r which → FaultsNeverFall r
only-later r Orders only Orders = only.later
only-later r Orders only Trades = subst (λ (s : Slot). (r.before Trades).faults ≤ s.faults) (sym only.other) (omega arith)
only-later r Trades only Orders = subst (λ (s : Slot). (r.before Orders).faults ≤ s.faults) (sym only.other) (omega arith)
only-later r Trades only Trades = only.later

both-end : (r : Reading) → (r.after Orders).taken ≤ r.limit → (r.after Trades).taken ≤ r.limit → EndsWithin r
both-end r orders trades Orders = orders
both-end r orders trades Trades = trades

within-by : (r : Reading) (which : Which) (result : Result Answer Stop) → TouchesOnly r which → StaysWithinAt r which result → StaysWithin r result
within-by r which result only (inl long) begins = inl long
within-by r Orders result only (inr short) begins = inr (both-end r short (subst (λ (s : Slot). s.taken ≤ r.limit) (sym only.other) (begins Trades)))
within-by r Trades result only (inr short) begins = inr (both-end r (subst (λ (s : Slot). s.taken ≤ r.limit) (sym only.other) (begins Orders)) short)

pub only-within : (r : Reading) (which : Which) (result : Result Answer Stop) → TouchesOnly r which → ((r.before which).taken ≤ r.limit → StaysWithinAt r which result) → StaysWithin r result
only-within r which result only stays begins = within-by r which result only (stays (begins which)) begins
