-- What is written of a generated log block by block.
use Rattle.std.specs.Prelude.{◌≡◌, ◌+◌, ◌++◌, ℕ, List, Result, Ok, Err}
use Rattle.std.specs.Io.KnownBytes.{Appends}
use Rattle.audit_base.specs.declared.terms.Form.{Form}
use Rattle.log_maker.specs.Generator.{generated_records, generated_records_after, state_at}
use Rattle.log_source.specs.Sinks.{SinkStays, SinkState}
use Rattle.written_logs.specs.Texts.{order_head, order_lines}
use Rattle.written_logs.specs.declared.generated_faults.GenerateFault.{GenerateFault}
use Rattle.written_logs.specs.declared.generated_faults.GenerateFault.TheVariants as fault
use Rattle.written_logs.specs.GeneratedTexts.{FailsWithin}

-- what is done to a sink that a piece of a text is written to at once
abbrev pub WritesPiece : {T : Type 0} → List ℕ → SinkState → SinkState → Result T GenerateFault
    → Type 0
WritesPiece piece old new (Ok value) = Appends old.wrote new.wrote piece
WritesPiece piece old new (Err fault.Memory) = new ≡ old
WritesPiece piece old new (Err fault.Sink) = FailsWithin piece old new

-- what a log begins with is written, before its first record
abbrev pub WritesHead : {T : Type 0} → Form → SinkState → SinkState → Result T GenerateFault
    → Type 0
WritesHead form old new result = WritesPiece (order_head form) old new result

-- The answer is the generator's state at this record.
abbrev pub IsStateAt : ℕ → ℕ → Result ℕ GenerateFault → Type 0
IsStateAt start number (Ok state) = state ≡ state_at start number
IsStateAt start number (Err why) = Unit {0}

-- So many records behind the first ones are written, and the state at the last is answered.
pub record WritesBlock (form : Form) (start first count : ℕ) (old new : SinkState)
    (result : Result ℕ GenerateFault) : Type 0 where
  pub piece : WritesPiece (order_lines form (generated_records_after start first count)) old new
      result
  pub state_is : IsStateAt start (first + count) result

-- The first records of the log are written, and this is the state at the last of them.
pub record HasWrittenFirst (form : Form) (start first state : ℕ) (old now : SinkState) : Type 0 where
  pub stays : SinkStays old now
  pub wrote : Appends old.wrote now.wrote
      (order_head form ++ order_lines form (generated_records start first))
  pub state_is : state ≡ state_at start first
