-- What is answered where a text is to be written: its status, or that the sink failed.
use Rattle.std.specs.Prelude.{◌≡◌, ◌⊎◌, ℕ, List}
use Rattle.std.specs.Io.KnownBytes.{Appends}
use Rattle.audit_report.specs.declared.statuses.Status.{Status}
use Rattle.audit_report.specs.declared.statuses.Status.TheVariants as status
use Rattle.audit_report.specs.Lines.{read_fault_line, too_long_line}
use Rattle.log_source.specs.Sinks.{SinkState, SinkStays, AppendsPart, HasFailureCause}
use Rattle.log_verdict.specs.declared.stops.Stop.{Stop}
use Rattle.log_verdict.specs.declared.stops.Stop.TheVariants as stop
use Rattle.command_run.specs.Runs.{RunsOutOfMemory}

-- The whole text was written, and its status is answered.
pub record AnswersWritten (old new : SinkState) (the_status : Status) (text : List ℕ)
    (result : Status) : Type 0 where
  pub status_is : result ≡ the_status
  pub wrote : Appends old.wrote new.wrote text

-- The sink's faults rose, a proper prefix of the text was written, and that is answered.
pub record AnswersWriteFault (old new : SinkState) (text : List ℕ)
    (result : Status) : Type 0 where
  pub status_is : result ≡ status.WriteFault
  pub wrote : AppendsPart old.wrote new.wrote text
  pub cause : HasFailureCause old new

-- what is answered where this text with this status is to be written
abbrev pub AnswersText : SinkState → SinkState → Status → List ℕ → Status → Type 0
AnswersText old new the_status text result =
    AnswersWritten old new the_status text result ⊎ AnswersWriteFault old new text result

-- The text was written, whole, and no fault of the sink is forgotten.
pub record HasWritten (before now : SinkState) (text : List ℕ) : Type 0 where
  pub stays : SinkStays before now
  pub wrote : Appends before.wrote now.wrote text

-- what is answered where reading stopped: the line that says where, or that memory ran out
abbrev pub AnswersStop : SinkState → SinkState → Stop → Status → Type 0
AnswersStop old new (stop.ReadFault log) result =
    AnswersText old new status.ReadFault (read_fault_line log) result
AnswersStop old new (stop.TooLong log) result =
    AnswersText old new status.TooLong (too_long_line log) result
AnswersStop old new stop.Memory result = RunsOutOfMemory old new result
