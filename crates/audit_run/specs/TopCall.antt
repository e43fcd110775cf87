-- What the auditor does in a call of `run`, whatever seed its hashes begin with:
-- the headline first.
use Rattle.std.specs.Prelude.{◌≡◌, ◌⊎◌, List, ℕ, Option, Some}
use Rattle.std.specs.Io.KnownBytes.{Appends}
use Rattle.audit_base.specs.declared.terms.Which.TheVariants.{Orders, Trades}
use Rattle.audit_report.specs.declared.statuses.Status.{Status}
use Rattle.audit_report.specs.declared.verdicts.Verdict.{Verdict}
use Rattle.audit_report.specs.Statuses.{verdict_status}
use Rattle.audit_report.specs.Texts.{verdict_text}
use Rattle.log_source.specs.declared.shelf.Shelf.{Ghosts as Shelf}
use Rattle.log_source.specs.Sinks.{SinkState, SinkStays}
use Rattle.command_words.specs.declared.requests.Request.{Request}
use Rattle.command_words.specs.declared.requests.Request.TheVariants.{Audit}
use Rattle.record_verdict.specs.declared.questions.Question.{Question}
use Rattle.log_verdict.specs.Existence.{IsOnlyVerdict}
use Rattle.log_verdict.specs.LogVerdicts.{Log}
use Rattle.log_verdict.specs.Steps.{reading, KeepsShelfLogs, FaultsNeverFall, Reading}
use Rattle.command_run.specs.Runs.{AnswersTooLong, HoldsLog, IsKnown, NothingFails, RunsOutOfMemory}
use Rattle.audit_run.specs.Runs.{AuditorAnswersHeldLogs, AuditorAnswersWithCause}

-- the request that asks this question of two logs under these names
abbrev pub audit_of_logs : Question → Log → Log → List ℕ → List ℕ → Request
audit_of_logs q orders trades orders_name trades_name =
    Audit q.rule q.symbol orders_name trades_name orders.form trades.form q.table

-- The call is to audit these two logs: the words ask for that, and the shelf holds both.
pub record IsToAudit (asked : Option Request) (r : Reading) (q : Question)
    (orders trades : Log) : Type 0 where
  pub orders_name : List ℕ
  pub trades_name : List ℕ
  pub words : asked ≡ Some (audit_of_logs q orders trades orders_name trades_name)
  pub holds_orders : HoldsLog r Orders orders_name orders.bytes
  pub holds_trades : HoldsLog r Trades trades_name trades.bytes

-- Exactly the text of the one verdict on two logs was written, and its status is answered.
pub record WritesVerdict (q : Question) (orders trades : Log) (old new : SinkState)
    (status : Status) : Type 0 where
  pub verdict : Verdict
  pub is : IsOnlyVerdict q orders trades verdict
  pub status_is : status ≡ verdict_status verdict
  pub wrote : Appends old.wrote new.wrote (verdict_text verdict)

-- the headline: whatever two logs the shelf holds, in whatever forms, and however their bytes are
-- cut, where it is known what shelf and sink hold and nothing fails, exactly the text of their one
-- verdict is written and its status is answered, or memory ran out and nothing was written
abbrev pub AnswersVerdict : Option Request → Reading → SinkState → SinkState → Status → Type 0
AnswersVerdict asked r old new status =
    (q : Question) (orders trades : Log) → IsToAudit asked r q orders trades
    → IsKnown r old → NothingFails r old new
    → WritesVerdict q orders trades old new status ⊎ RunsOutOfMemory old new status

-- What the auditor does in a call of these words, `asked` being what well-formed words ask for:
-- the headline; the same of every command and the logs that it needs; whatever fails, each status
-- with its cause and with what was written; a log that is too long is answered as such; the shelf
-- has what it had; no count of faults falls; and the sink is of the same kind as before.
pub record AuditorAnswers {S : Type 0} (shelf : Shelf S) (asked : Option Request) (old new : S)
    (sink_old sink_new : SinkState) (status : Status) : Type 0 where
  pub headline : AnswersVerdict asked (reading shelf old new) sink_old sink_new status
  pub commands : AuditorAnswersHeldLogs asked (reading shelf old new) sink_old sink_new status
  pub causes : AuditorAnswersWithCause asked (reading shelf old new) sink_old sink_new status
  pub too_long : AnswersTooLong (reading shelf old new) status
  pub logs : KeepsShelfLogs shelf old new
  pub later : FaultsNeverFall (reading shelf old new)
  pub sink : SinkStays sink_old sink_new
