-- What `audit` answers to the logs that the shelf holds is the one verdict on the two logs of the headline.
use Rattle.std.proofs.Common.{◌≡◌, ◌⊎◌, subst, refl, inl, inr, ⊎_elim, ℕ, List, [], ◌∷◌, Option, Some, Result, Ok, Err}
use Rattle.std.specs.Io.KnownBytes.{Appends}
use Rattle.audit_base.specs.declared.faults.BadPlace.{BadPlace}
use Rattle.audit_base.specs.declared.records.OrderRecord.{OrderRecord}
use Rattle.audit_base.specs.declared.terms.Which.TheVariants.{Orders, Trades}
use Rattle.audit_report.specs.declared.statuses.Status.{Status}
use Rattle.audit_report.specs.declared.verdicts.Verdict.{Verdict}
use Rattle.audit_report.specs.declared.verdicts.Verdict.TheVariants as verdict
use Rattle.log_source.specs.Sinks.{SinkState}
use Rattle.command_words.specs.declared.requests.Request.{Request}
use Rattle.log_verdict.specs.Laws.{OneVerdict}
use Rattle.log_verdict.specs.LogVerdicts.{Log, log_in, records_of_order_log, IsLogVerdict}
use Rattle.log_verdict.specs.Steps.{Reading}
use Rattle.record_verdict.specs.declared.questions.Question.{Question}
use Rattle.command_run.specs.Runs.{HoldsLog, HoldsNeededLogs, HoldsNext, IsKnown, NothingFails, RunsOutOfMemory, WritesWhole}
use Rattle.audit_run.specs.Runs.{AuditorAnswersHeldLogs}
use Rattle.command_run.specs.Commands.{Command}
use Rattle.audit_run.specs.Requests.{auditor_command_of}
use Rattle.audit_run.specs.TopCall.{audit_of_logs, AnswersVerdict, WritesVerdict}
use Rattle.command_run.specs.VerdictAnswers.{IsAuditAnswer}

module _ (one : OneVerdict) (r : Reading) (q : Question) (orders trades : Log) (orders_name trades_name : List ℕ)
    (holds_orders : HoldsLog r Orders orders_name orders.bytes) (holds_trades : HoldsLog r Trades trades_name trades.bytes)
    (old new : SinkState) (known : IsKnown r old) (nothing_fails : NothingFails r old new) (status : Status) where
  abbrev request : Request
  request = audit_of_logs q orders trades orders_name trades_name

  abbrev command : Command
  command = auditor_command_of request

  -- the answer by the verdict on the order log and a second log is that by the one verdict on both logs, where
  -- these have the same verdict
  of_answer : (second : Log) → ((v : Verdict) → IsLogVerdict q orders second v → IsLogVerdict q orders trades v)
      → WritesWhole (IsAuditAnswer q orders second status) old new → WritesVerdict q orders trades old new status
  of_answer second same written =
      let is = same written.is.verdict written.is.is in
      record {
        verdict = written.is.verdict;
        is = record { is = is; one = λ other also. one q orders trades other written.is.verdict also is };
        status_is = written.is.answer.status_is;
        wrote = subst (λ (text : List ℕ). Appends old.wrote new.wrote text) written.is.answer.text_is written.wrote;
      }

  -- where the order log is out of its grammar, any trade log beside it gives the same verdict
  whatever_trades : (bad : BadPlace) → records_of_order_log orders.form orders.bytes ≡ Err bad → (second : Log) (v : Verdict)
      → IsLogVerdict q orders second v → IsLogVerdict q orders trades v
  whatever_trades bad e second v is = let same : v ≡ verdict.Malformed Orders bad = rw e at is in rw e same

  by_orders : (said : Result (List OrderRecord) BadPlace) → records_of_order_log orders.form orders.bytes ≡ said
      → AuditorAnswersHeldLogs (Some request) r old new status → WritesVerdict q orders trades old new status ⊎ RunsOutOfMemory old new status
  by_orders (Ok entries) e answers =
      let first : HoldsNext r command [] orders.bytes = record { log = Orders; name = orders_name; next = refl; holds = holds_orders } in
      let second : HoldsNext r command (orders.bytes ∷ []) trades.bytes = record { log = Trades; name = trades_name; next = rw e refl; holds = holds_trades } in
      let held : HoldsNeededLogs r command [] (orders.bytes ∷ trades.bytes ∷ []) = (first, (second, refl)) in
      ⊎_elim (λ written. inl (of_answer trades (λ v is. is) written)) (λ memory. inr memory)
      (answers (orders.bytes ∷ trades.bytes ∷ []) (record { known = known; held = held; nothing_fails = nothing_fails }))
  by_orders (Err bad) e answers =
      let first : HoldsNext r command [] orders.bytes = record { log = Orders; name = orders_name; next = refl; holds = holds_orders } in
      let held : HoldsNeededLogs r command [] (orders.bytes ∷ []) = (first, rw e refl) in
      ⊎_elim (λ written. inl (of_answer (log_in trades.form []) (whatever_trades bad e (log_in trades.form [])) written)) (λ memory. inr memory)
      (answers (orders.bytes ∷ []) (record { known = known; held = held; nothing_fails = nothing_fails }))

-- the headline follows from what is said of every command
pub answers_verdict : OneVerdict → (asked : Option Request) (r : Reading) (old new : SinkState) (status : Status) → AuditorAnswersHeldLogs asked r old new status → AnswersVerdict asked r old new status
answers_verdict one asked r old new status answers q orders trades to_audit known nothing_fails =
    by_orders one r q orders trades to_audit.orders_name to_audit.trades_name to_audit.holds_orders to_audit.holds_trades old new known nothing_fails status
    (records_of_order_log orders.form orders.bytes) refl
    (subst (λ (x : Option Request). AuditorAnswersHeldLogs x r old new status) to_audit.words answers)
