-- What a run answers and writes to what words ask for: what `command_run` says of a command, of
-- the commands of the auditor.
use Rattle.std.specs.Prelude.{Option}
use Rattle.audit_report.specs.declared.statuses.Status.{Status}
use Rattle.audit_report.specs.Lines.{auditor_usage_line}
use Rattle.log_source.specs.Sinks.{SinkState}
use Rattle.log_verdict.specs.Steps.{Reading}
use Rattle.command_run.specs.Runs as runs
use Rattle.command_words.specs.declared.requests.Request.{Request}
use Rattle.audit_run.specs.Requests.{auditor_command_of}

-- on well-formed words, whatever logs the shelf holds: where all is there, the command's answer
-- to them is written and answered
abbrev pub AuditorAnswersHeldLogs : Option Request → Reading → SinkState → SinkState → Status
    → Type 0
AuditorAnswersHeldLogs asked r old new status =
    runs.AnswersHeldLogs auditor_command_of asked r old new status

-- whatever fails, each status has its cause: what the words ask for was read and answered, or
-- they are not well-formed, are refused, and the shelf is left alone
abbrev pub AuditorAnswersWithCause : Option Request → Reading → SinkState → SinkState → Status
    → Type 0
AuditorAnswersWithCause asked r old new status =
    runs.AnswersWithCause auditor_command_of auditor_usage_line asked r old new status
