-- What is passed on of one piece of a day.
use Rattle.std.specs.Prelude.{◌≡◌, ℕ, List, ◌++◌, Option, Result, Ok, Err}
use Rattle.std.specs.Io.KnownBytes.{Appends}
use Rattle.std.specs.List.{flat_map}
use Rattle.fix_days.specs.declared.faults.BadMessage.{BadMessage}
use Rattle.fix_days.specs.Fronts.{BeginsReadings}
use Rattle.log_source.specs.Sinks.{AppendsPart, HasFailureCause, SinkState}
use Rattle.log_source.specs.declared.take.TakeFault.TheVariants.{Memory}
use Rattle.plain_logs.specs.declared.day_ends.PlainFault.{PlainFault}
use Rattle.plain_logs.specs.declared.day_ends.PlainFault.TheVariants as plain

-- More bodies were read of the day, and their text was written, whole, with no fault of the sink.
pub record WritesMore {D : Type 0} (writes : List ℕ → List ℕ)
    (reads : List ℕ → List (List ℕ) → Option BadMessage → Type 0)
    (has_read : D → List ℕ → List (List ℕ) → Type 0) (feed : D) (day : List ℕ)
    (bodies : List (List ℕ)) (sink_old sink_new : SinkState) : Type 0 where
  pub more : List (List ℕ)
  pub read : has_read feed day (bodies ++ more)
  pub begins : BeginsReadings reads day (bodies ++ more)
  pub wrote : Appends sink_old.wrote sink_new.wrote (flat_map writes more)
  pub quiet : sink_new.faults ≡ sink_old.faults

-- More bodies were read of the day, and a part of their text was written.
pub record FailsAtMore (writes : List ℕ → List ℕ)
    (reads : List ℕ → List (List ℕ) → Option BadMessage → Type 0)
    (day : List ℕ) (bodies : List (List ℕ)) (sink_old sink_new : SinkState) : Type 0 where
  pub more : List (List ℕ)
  pub begins : BeginsReadings reads day (bodies ++ more)
  pub part : AppendsPart sink_old.wrote sink_new.wrote (flat_map writes more)
  pub cause : HasFailureCause sink_old sink_new

-- what passing a piece on does: the text of what came with it is written; where memory ran out,
-- nothing; where the sink failed, a part of it
abbrev pub PassesPiece : {D T : Type 0} → (List ℕ → List ℕ)
    → (List ℕ → List (List ℕ) → Option BadMessage → Type 0)
    → (D → List ℕ → List (List ℕ) → Type 0) → D → D → List ℕ → SinkState → SinkState
    → Result T PlainFault → Type 0
PassesPiece writes reads has_read old new piece sink_old sink_new (Ok text) =
    (day : List ℕ) (bodies : List (List ℕ)) → has_read old day bodies
    → WritesMore writes reads has_read new (day ++ piece) bodies sink_old sink_new
PassesPiece writes reads has_read old new piece sink_old sink_new (Err (plain.Log why)) =
    (why ≡ Memory) × (sink_new ≡ sink_old)
PassesPiece writes reads has_read old new piece sink_old sink_new (Err plain.Sink) =
    (day : List ℕ) (bodies : List (List ℕ)) → has_read old day bodies
    → FailsAtMore writes reads (day ++ piece) bodies sink_old sink_new
