-- That a command has one answer to its logs, and that calls agree, as statements.
use Rattle.std.specs.Prelude.{◌≡◌, ◌⊎◌, ℕ, List, Some}
use Rattle.audit_report.specs.declared.statuses.Status.{Status}
use Rattle.audit_report.specs.declared.statuses.Status.TheVariants.{Memory}
use Rattle.command_words.specs.declared.requests.Request.{Request}
use Rattle.log_source.specs.Sinks.{SinkState}
use Rattle.log_verdict.specs.Steps.{Reading}
use Rattle.audit_run.specs.Requests.{auditor_command_of, IsAnswerTo}
use Rattle.command_run.specs.Laws.{WroteOne}
use Rattle.command_run.specs.Runs.{AllIsThere}
use Rattle.audit_run.specs.Runs.{AuditorAnswersHeldLogs}

-- one answer: two answers to one request on the same logs have the same status and the same text,
-- whatever the command is
abbrev pub AnswerIsOne : Type 0
AnswerIsOne = (request : Request) (logs : List (List ℕ)) (one other : Status)
    (text other_text : List ℕ) → IsAnswerTo request logs one text
    → IsAnswerTo request logs other other_text → (one ≡ other) × (text ≡ other_text)

-- runs agree: of two calls on one request, by what each says of the logs that its shelf holds,
-- for both of which the same logs are there, one runs out of memory, or both answer the same and
-- write the same, however their shelves cut the logs
abbrev pub RunsAgree : Type 0
RunsAgree = (request : Request) (logs : List (List ℕ)) (one_reading other_reading : Reading)
    (one_old one_new other_old other_new : SinkState) (one other : Status)
    → AuditorAnswersHeldLogs (Some request) one_reading one_old one_new one
    → AuditorAnswersHeldLogs (Some request) other_reading other_old other_new other
    → AllIsThere one_reading (auditor_command_of request) logs one_old one_new
    → AllIsThere other_reading (auditor_command_of request) logs other_old other_new
    → (one ≡ Memory)
    ⊎ ((other ≡ Memory) ⊎ WroteOne one_old one_new other_old other_new one other)
