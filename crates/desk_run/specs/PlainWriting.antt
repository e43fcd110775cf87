-- What `plain` has written of a day by the end of its reading.
use Rattle.std.specs.Prelude.{ℕ, List, Option, Result, Ok, Err}
use Rattle.std.specs.List.{flat_map}
use Rattle.audit_base.specs.declared.terms.Which.TheVariants.{Orders}
use Rattle.command_run.specs.declared.answers.Answer.{Answer}
use Rattle.fix_days.specs.declared.faults.BadMessage.{BadMessage}
use Rattle.fix_days.specs.Fronts.{BeginsReadings}
use Rattle.log_source.specs.Sinks.{AppendsPart, HasFailureCause, SinkState}
use Rattle.log_verdict.specs.BothLogs.{IsLogStop, StaysWithin}
use Rattle.log_verdict.specs.Steps.{BeginsWithin, EndsWithin, IsRead, Reading, step_of}
use Rattle.plain_logs.specs.declared.day_ends.DayEnd.{DayEnd}
use Rattle.plain_logs.specs.declared.day_ends.PlainFault.{PlainFault}
use Rattle.plain_logs.specs.declared.day_ends.PlainFault.TheVariants as plain
use Rattle.plain_logs.specs.DayFeeds.{EndsReading}
use Rattle.desk_run.specs.Digesting.{stop_of_take}
use Rattle.desk_run.specs.PlainMessages.{WritesOfFront, WritesUnfailing}

-- The day was read to its end, the text of its first bodies was written without a fault, and this is
-- its end.
pub record WritesToEnd (r : Reading)
    (writes : List ℕ → List ℕ)
    (reads : List ℕ → List (List ℕ) → Option BadMessage → Type 0) (name : List ℕ)
    (old new : SinkState) (end : DayEnd) : Type 0 where
  pub bytes : List ℕ
  pub bodies : List (List ℕ)
  pub read : IsRead r (step_of r Orders name) bytes
  pub begins : BeginsReadings reads bytes bodies
  pub wrote : WritesUnfailing old new (flat_map writes bodies)
  pub ends : EndsReading writes reads bytes bodies end

-- The sink failed at a text: a part of it was written.
pub record FailsAt (old new : SinkState) (text : List ℕ) : Type 0 where
  pub part : AppendsPart old.wrote new.wrote text
  pub cause : HasFailureCause old new

-- Reading stopped for this cause, and what was read until then was written without a fault.
pub record WritesToStop (r : Reading)
    (writes : List ℕ → List ℕ)
    (reads : List ℕ → List (List ℕ) → Option BadMessage → Type 0) (name : List ℕ)
    (old new : SinkState) (stops : Type 0) : Type 0 where
  pub cause : stops
  pub early : WritesOfFront r writes reads name (WritesUnfailing old new)

-- what was written of a day, by how its writing ended
abbrev pub WritesDay : Reading → (List ℕ → List ℕ)
    → (List ℕ → List (List ℕ) → Option BadMessage → Type 0)
    → List ℕ → SinkState → SinkState → Result DayEnd PlainFault → Type 0
WritesDay r writes reads name old new (Ok end) = WritesToEnd r writes reads name old new end
WritesDay r writes reads name old new (Err (plain.Log why)) =
    WritesToStop r writes reads name old new (IsLogStop r Orders name (stop_of_take Orders why))
WritesDay r writes reads name old new (Err plain.Sink) =
    WritesOfFront r writes reads name (FailsAt old new)

-- where both slots begin within the limit, they end so, unless the day is too long or the sink
-- failed
abbrev pub WritesWithin : Reading → Result DayEnd PlainFault → Type 0
WritesWithin r (Ok end) = BeginsWithin r → EndsWithin r
WritesWithin r (Err (plain.Log why)) =
    StaysWithin {T = Answer} r (Err (stop_of_take Orders why))
WritesWithin r (Err plain.Sink) = Unit {0}
