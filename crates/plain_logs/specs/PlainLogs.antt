-- What is written of a log of a shelf while it is read.
use Rattle.std.specs.Prelude.{true, ◌≡◌, ◌≤◌, ℕ, List, Option, Result, Ok, Err, length}
use Rattle.std.specs.Io.KnownBytes.{Appends}
use Rattle.std.specs.List.{flat_map}
use Rattle.audit_base.specs.declared.terms.Which.{Which}
use Rattle.fix_days.specs.declared.faults.BadMessage.{BadMessage}
use Rattle.fix_days.specs.Fronts.{BeginsReadings}
use Rattle.log_source.specs.Calls.{count_after}
use Rattle.log_source.specs.Pumping.{IsFront}
use Rattle.log_source.specs.Sinks.{AppendsPart, HasFailureCause, SinkState}
use Rattle.log_source.specs.Taking.{IsWholeLog, Takes}
use Rattle.log_source.specs.declared.shelf.Shelf as shelf
use Rattle.plain_logs.specs.declared.day_ends.DayEnd.{DayEnd}
use Rattle.plain_logs.specs.declared.day_ends.PlainFault.{PlainFault}
use Rattle.plain_logs.specs.declared.day_ends.PlainFault.TheVariants as plain
use Rattle.plain_logs.specs.DayFeeds.{EndsReading}

-- The slot was started once, and its faults did not fall.
pub record StartsSlot {F : Type 0} (shelves : shelf.Ghosts F) (which : Which) (old new : F)
    : Type 0 where
  pub once : (shelves.slot new which).starts ≡ count_after (shelves.slot old which).starts
  pub later : (shelves.slot old which).faults ≤ (shelves.slot new which).faults

-- what is done to the slot of a log that is written while it is read: what taking it does, or
-- where the sink failed, a start
abbrev pub TakesUpTo : {F T : Type 0} → shelf.Ghosts F → Which → List ℕ → ℕ → F → F
    → Result T PlainFault → Type 0
TakesUpTo {T} shelves which name limit old new (Ok value) =
    Takes {T = T} shelves which name limit old new (Ok value)
TakesUpTo {T} shelves which name limit old new (Err (plain.Log why)) =
    Takes {T = T} shelves which name limit old new (Err why)
TakesUpTo shelves which name limit old new (Err plain.Sink) = StartsSlot shelves which old new

-- These bytes are a front of the log, no more than were taken of it, and what is read of every log
-- that begins with them begins with these bodies.
pub record ReadsFrontOf {F : Type 0} (shelves : shelf.Ghosts F)
    (reads : List ℕ → List (List ℕ) → Option BadMessage → Type 0) (which : Which)
    (name : List ℕ) (old new : F) (front : List ℕ) (bodies : List (List ℕ)) : Type 0 where
  pub taken : length front ≤ (shelves.slot new which).taken
  pub known : IsFront shelves which name old front
  pub begins : BeginsReadings reads front bodies

-- The text of bodies that were read of a front of the log was written, whole, and no fault of
-- the sink was counted.
pub record WritesFront {F : Type 0} (shelves : shelf.Ghosts F)
    (writes : List ℕ → List ℕ)
    (reads : List ℕ → List (List ℕ) → Option BadMessage → Type 0) (which : Which)
    (name : List ℕ) (old new : F) (sink_old sink_new : SinkState) : Type 0 where
  pub front : List ℕ
  pub bodies : List (List ℕ)
  pub of : ReadsFrontOf shelves reads which name old new front bodies
  pub wrote : Appends sink_old.wrote sink_new.wrote (flat_map writes bodies)
  pub quiet : sink_new.faults ≡ sink_old.faults

-- The sink failed, and a part of the text of such bodies was written.
pub record FailsAtFront {F : Type 0} (shelves : shelf.Ghosts F)
    (writes : List ℕ → List ℕ)
    (reads : List ℕ → List (List ℕ) → Option BadMessage → Type 0) (which : Which)
    (name : List ℕ) (old new : F) (sink_old sink_new : SinkState) : Type 0 where
  pub front : List ℕ
  pub bodies : List (List ℕ)
  pub of : ReadsFrontOf shelves reads which name old new front bodies
  pub part : AppendsPart sink_old.wrote sink_new.wrote (flat_map writes bodies)
  pub cause : HasFailureCause sink_old sink_new

-- The whole log was taken, the text of the bodies that were read of it so far was written, no
-- fault of the sink was counted, and this holds of its bytes and of them.
pub record WritesWholeLog {F : Type 0} (shelves : shelf.Ghosts F)
    (writes : List ℕ → List ℕ)
    (reads : List ℕ → List (List ℕ) → Option BadMessage → Type 0) (which : Which)
    (name : List ℕ) (limit : ℕ) (old new : F) (sink_old sink_new : SinkState)
    (holds : List ℕ → List (List ℕ) → Type 0) : Type 0 where
  pub bytes : List ℕ
  pub bodies : List (List ℕ)
  pub holding : holds bytes bodies
  pub begins : BeginsReadings reads bytes bodies
  pub wrote : Appends sink_old.wrote sink_new.wrote (flat_map writes bodies)
  pub quiet : sink_new.faults ≡ sink_old.faults
  pub within : length bytes ≤ limit
  pub count : length bytes ≡ (shelves.slot new which).taken
  pub given : (shelves.slot new which).gave bytes ≡ true
  pub whole : IsWholeLog shelves which name old bytes

-- what was written where a log was not read to its end
abbrev pub StopsWriting : {F : Type 0} → shelf.Ghosts F
    → (List ℕ → List ℕ)
    → (List ℕ → List (List ℕ) → Option BadMessage → Type 0) → Which → List ℕ → F → F
    → SinkState → SinkState → PlainFault → Type 0
StopsWriting shelves writes reads which name old new sink_old sink_new (plain.Log why) =
    WritesFront shelves writes reads which name old new sink_old sink_new
StopsWriting shelves writes reads which name old new sink_old sink_new plain.Sink =
    FailsAtFront shelves writes reads which name old new sink_old sink_new

-- the whole log was written up to its end, which has this text still to be written, and this first
-- bad message, or none
abbrev pub WritesUpToEnd : {F : Type 0} → shelf.Ghosts F
    → (List ℕ → List ℕ)
    → (List ℕ → List (List ℕ) → Option BadMessage → Type 0) → Which → List ℕ → ℕ → F → F
    → SinkState → SinkState → DayEnd → Type 0
WritesUpToEnd shelves writes reads which name limit old new sink_old sink_new end =
    WritesWholeLog shelves writes reads which name limit old new sink_old sink_new
    (λ bytes bodies. EndsReading writes reads bytes bodies end)
