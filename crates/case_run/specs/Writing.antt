-- What writing the text of a command answers: its status, or that the sink failed.
use Rattle.std.specs.Prelude.{◌≡◌, ◌⊎◌, ℕ, List}
use Rattle.std.specs.Io.KnownBytes.{Appends}
use Rattle.log_source.specs.Sinks.{SinkState, AppendsPart, HasFailureCause}
use Rattle.case_run.specs.Causes.{halt_line}
use Rattle.case_run.specs.declared.halts.Halt.{Halt}
use Rattle.case_run.specs.declared.halts.Halt.TheVariants as halt
use Rattle.case_run.specs.declared.statuses.CaseStatus.{CaseStatus}
use Rattle.case_run.specs.declared.statuses.CaseStatus.TheVariants as status

-- The whole text was written, and its status is answered.
pub record WritesTextWhole (old new : SinkState) (the_status : CaseStatus) (text : List ℕ)
    (answer : CaseStatus) : Type 0 where
  pub answer_is : answer ≡ the_status
  pub wrote : Appends old.wrote new.wrote text

-- The sink failed, a proper prefix of the text was written, and 5 is answered.
pub record WritesTextPrefix (old new : SinkState) (text : List ℕ)
    (answer : CaseStatus) : Type 0 where
  pub answer_is : answer ≡ status.WriteFault
  pub cause : HasFailureCause old new
  pub wrote : AppendsPart old.wrote new.wrote text

-- a text was written whole and its status is answered, or the sink failed
abbrev pub WritesOrFails : SinkState → SinkState → CaseStatus → List ℕ → CaseStatus → Type 0
WritesOrFails old new the_status text answer =
    WritesTextWhole old new the_status text answer ⊎ WritesTextPrefix old new text answer

-- Memory ran out, and nothing was written.
pub record WritesNoLine (old new : SinkState) (answer : CaseStatus) : Type 0 where
  pub answer_is : answer ≡ status.Memory
  pub same : new ≡ old

-- the line of a halt was written and its status is answered, or the sink failed; where memory ran
-- out no line is written
abbrev pub WritesHaltLine : SinkState → SinkState → Halt → CaseStatus → Type 0
WritesHaltLine old new (halt.ReadFault log) answer =
    WritesOrFails old new status.ReadFault (halt_line (halt.ReadFault log)) answer
WritesHaltLine old new (halt.TooLong log) answer =
    WritesOrFails old new status.TooLong (halt_line (halt.TooLong log)) answer
WritesHaltLine old new halt.KeeperFault answer =
    WritesOrFails old new status.KeeperFault (halt_line halt.KeeperFault) answer
WritesHaltLine old new halt.Memory answer = WritesNoLine old new answer
