-- That an audit accepts the trades that `expect` writes: what one call wrote,
-- handed to another call.
use Rattle.std.specs.Prelude.{◌≡◌, ◌⊎◌, ℕ, Bool, true, List, [], ◌∷◌, Some, IsSome}
use Rattle.std.specs.Io.KnownBytes.{Appends}
use Rattle.audit_base.specs.declared.terms.Form.TheVariants.{Csv}
use Rattle.audit_base.specs.declared.terms.Rule.{Rule}
use Rattle.audit_report.specs.declared.statuses.Status.{Status}
use Rattle.audit_report.specs.declared.statuses.Status.TheVariants as status
use Rattle.audit_report.specs.declared.verdicts.Accepted.{Accepted}
use Rattle.audit_report.specs.declared.verdicts.Verdict.{Verdict}
use Rattle.audit_report.specs.declared.verdicts.Verdict.TheVariants as verdict
use Rattle.log_source.specs.Sinks.{SinkState}
use Rattle.record_verdict.specs.declared.questions.Question.{Question}
use Rattle.command_words.specs.declared.requests.Request.{Request}
use Rattle.command_words.specs.declared.requests.Request.TheVariants.{Expect}
use Rattle.record_verdict.specs.RecordVerdicts.{question}
use Rattle.log_verdict.specs.LogVerdicts.{Log, log_in, IsLogVerdict}
use Rattle.command_run.specs.Runs.{AllIsThere, HoldsNeededLogs}
use Rattle.audit_run.specs.Runs.{AuditorAnswersHeldLogs, AuditorAnswersWithCause}
use Rattle.audit_run.specs.Requests.{auditor_command_of}
use Rattle.audit_run.specs.TopCall.{audit_of_logs}
use Rattle.log_verdict.specs.Steps.{Reading}

-- A call of `run` on these well-formed words answered this, by what `run` says of the logs that
-- the shelf holds and by what it says of causes.
pub record IsAnsweredCall (request : Request) (r : Reading) (old new : SinkState)
    (status : Status) : Type 0 where
  pub commands : AuditorAnswersHeldLogs (Some request) r old new status
  pub causes : AuditorAnswersWithCause (Some request) r old new status

-- A call of `expect` answered 0 and wrote this text. It is known what the shelf holds and what
-- the sink was given, and the shelf holds the order log.
pub record WroteExpected (the_rule : Rule) (symbol : List ℕ) (orders : Log)
    (text : List ℕ) : Type 0 where
  pub name : List ℕ
  pub r : Reading
  pub old : SinkState
  pub new : SinkState
  pub answered : IsAnsweredCall (Expect the_rule symbol name orders.form)
      r old new status.Accepted
  pub shelf_tells : r.tells ≡ true
  pub held : HoldsNeededLogs r (auditor_command_of (Expect the_rule symbol name orders.form)) []
      (orders.bytes ∷ [])
  pub sink_tells : IsSome old.wrote
  pub wrote : Appends old.wrote new.wrote text

-- The two logs are accepted: this is their verdict, and they have no other.
pub record AreAccepted (q : Question) (orders trades : Log) : Type 0 where
  pub accepted : Accepted
  pub is : IsLogVerdict q orders trades (verdict.Accepted accepted)
  pub only : (other : Verdict) → IsLogVerdict q orders trades other
      → other ≡ verdict.Accepted accepted

-- the text that `expect` wrote is accepted as a CSV trade log beside the same order log,
-- under the same rule
abbrev pub ExpectedTradesAreAccepted : Type 0
ExpectedTradesAreAccepted = (the_rule : Rule) (symbol : List ℕ) (table : Bool) (orders : Log)
    (text : List ℕ) → WroteExpected the_rule symbol orders text
    → AreAccepted (question the_rule symbol table) orders (log_in Csv text)

-- A call of `audit` answered this to these logs: the shelf holds both, and nothing fails.
pub record AuditedLogs (q : Question) (orders trades : Log) (status : Status) : Type 0 where
  pub orders_name : List ℕ
  pub trades_name : List ℕ
  pub r : Reading
  pub old : SinkState
  pub new : SinkState
  pub answered : IsAnsweredCall (audit_of_logs q orders trades orders_name trades_name)
      r old new status
  pub ready : AllIsThere r
      (auditor_command_of (audit_of_logs q orders trades orders_name trades_name))
      (orders.bytes ∷ trades.bytes ∷ []) old new

-- so `audit` of the two answers 0, or that memory ran out
abbrev pub AuditAcceptsExpectedTrades : Type 0
AuditAcceptsExpectedTrades = (the_rule : Rule) (symbol : List ℕ) (table : Bool) (orders : Log)
    (text : List ℕ) (the_status : Status) → WroteExpected the_rule symbol orders text
    → AuditedLogs (question the_rule symbol table) orders (log_in Csv text) the_status
    → (the_status ≡ status.Accepted) ⊎ (the_status ≡ status.Memory)
