-- What `page` reads, and what it answers to that.
use Rattle.std.specs.Prelude.{ℕ, false, List}
use Rattle.audit_report.specs.declared.statuses.Status.{Status}
use Rattle.audit_report.specs.declared.verdicts.Verdict.TheVariants as verdict
use Rattle.command_run.specs.Commands.{Command, log_read_at, next_of_both_logs}
use Rattle.command_run.specs.VerdictAnswers.{IsVerdictAnswer}
use Rattle.log_verdict.specs.LogVerdicts.{log_in, OfLogs}
use Rattle.desk_page.specs.declared.requests.PageRequest.{PageRequest}
use Rattle.desk_page.specs.PageAnswers.{IsAnswerToRecords, Pictures}
use Rattle.desk_page.specs.PageLogs.{ShelfLogs}

-- the answer to the logs that were read of a shelf: that to their records, with the digests of what
-- the shelf has; or the first bad place, as of an audit
abbrev pub IsPageAnswer : Pictures → ShelfLogs → PageRequest → List (List ℕ) → Status → List ℕ
    → Type 0
IsPageAnswer is_picture shelf request bytes status text =
    OfLogs
    (λ entries paired. IsAnswerToRecords is_picture shelf request entries paired status text)
    (λ log bad. IsVerdictAnswer (verdict.Malformed log bad) status text)
    (log_in request.logs.orders_form (log_read_at bytes 0))
    (log_in request.logs.trades_form (log_read_at bytes 1))

-- what a request asks for: it starts both logs, the trade log where the order log is good, and
-- makes its whole answer before it writes
abbrev pub page_command : Pictures → ShelfLogs → PageRequest → Command
page_command is_picture shelf request = record {
  next = next_of_both_logs request.logs.orders request.logs.trades request.logs.orders_form;
  is_answer = IsPageAnswer is_picture shelf request;
  writes_early = false;
}
