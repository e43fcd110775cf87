-- The generated log as a text, and what is done to a sink that it is written to.
use Rattle.std.specs.Prelude.{ℕ, List, Result, Ok, Err}
use Rattle.std.specs.Io.{StartsWith}
use Rattle.std.specs.Io.KnownBytes.{Appends}
use Rattle.audit_base.specs.declared.terms.Form.{Form}
use Rattle.log_maker.specs.Generator.{generated_records}
use Rattle.log_source.specs.Sinks.{AppendsPart, HasFailureCause, SinkState}
use Rattle.written_logs.specs.Texts.{orders_text}
use Rattle.written_logs.specs.declared.generated_faults.GenerateFault.{GenerateFault}
use Rattle.written_logs.specs.declared.generated_faults.GenerateFault.TheVariants as fault

-- the generated order log of START and COUNT, in a form
abbrev pub generated_text : Form → ℕ → ℕ → List ℕ
generated_text form start count = orders_text form (generated_records start count)

-- A beginning of the text was written, and nothing else.
pub record WritesBeginning (text : List ℕ) (old new : SinkState) : Type 0 where
  pub early : List ℕ
  pub begins : StartsWith text early
  pub wrote : Appends old.wrote new.wrote early

-- A write failed: a beginning of the text was written, and not all of it.
pub record FailsWithin (text : List ℕ) (old new : SinkState) : Type 0 where
  pub part : AppendsPart old.wrote new.wrote text
  pub cause : HasFailureCause old new

-- what is done to a sink that the text is written to while it is made: all of it is written, or a
-- beginning where memory runs out, or where a write fails
abbrev pub WritesWhileMade : {T : Type 0} → List ℕ → SinkState → SinkState
    → Result T GenerateFault → Type 0
WritesWhileMade text old new (Ok value) = Appends old.wrote new.wrote text
WritesWhileMade text old new (Err fault.Memory) = WritesBeginning text old new
WritesWhileMade text old new (Err fault.Sink) = FailsWithin text old new

-- so is the generated log written
abbrev pub WritesGeneratedLog : {T : Type 0} → Form → ℕ → ℕ → SinkState → SinkState
    → Result T GenerateFault → Type 0
WritesGeneratedLog form start count old new result =
    WritesWhileMade (generated_text form start count) old new result
