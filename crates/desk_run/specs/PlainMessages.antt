-- What `plain` has written where it did not come to the end of the day, or memory ran out.
use Rattle.std.specs.Prelude.{◌≡◌, ℕ, List, ◌++◌, Option, None, Some}
use Rattle.std.specs.Io.KnownBytes.{Appends}
use Rattle.std.specs.List.{flat_map}
use Rattle.audit_base.specs.declared.terms.Which.TheVariants.{Orders}
use Rattle.audit_report.specs.declared.statuses.Status.{Status}
use Rattle.audit_report.specs.declared.statuses.Status.TheVariants.{Accepted, Rejected, Usage, Malformed, ReadFault, WriteFault, TooLong, Memory}
use Rattle.audit_report.specs.Lines.{read_fault_line, too_long_line}
use Rattle.command_run.specs.Early.{ReadsFront}
use Rattle.desk_words.specs.declared.requests.DeskRequest.{DeskRequest}
use Rattle.desk_words.specs.declared.requests.DeskRequest.TheVariants.{Early, Whole}
use Rattle.desk_words.specs.declared.requests.EarlyRequest.TheVariants.{Orders as GeneratedOrders, Plain}
use Rattle.fix_days.specs.declared.faults.BadMessage.{BadMessage}
use Rattle.fix_days.specs.Fronts.{BeginsReadings}
use Rattle.log_source.specs.Sinks.{SinkState}
use Rattle.log_verdict.specs.Steps.{Reading, step_of}
use Rattle.desk_run.specs.PlainAnswers.{day_reading, day_writes}

-- A front of the day was read, and what is read of every day that begins with it begins with these
-- bodies, whose text was written so.
pub record WritesOfFront (r : Reading) (writes : List ℕ → List ℕ)
    (reads : List ℕ → List (List ℕ) → Option BadMessage → Type 0) (name : List ℕ)
    (written : List ℕ → Type 0) : Type 0 where
  pub front : List ℕ
  pub bodies : List (List ℕ)
  pub read : ReadsFront r (step_of r Orders name) front
  pub begins : BeginsReadings reads front bodies
  pub wrote : written (flat_map writes bodies)

-- The text was written, and no fault of the sink was counted: no write failed.
pub record WritesUnfailing (old new : SinkState) (text : List ℕ) : Type 0 where
  pub wrote : Appends old.wrote new.wrote text
  pub quiet : new.faults ≡ old.faults

-- at 7, 4 and 6 whole messages were written, and behind them the line of 4 or of 6: so no write
-- failed within a message, since that leaves a part of it; and at 7 none failed between two either
abbrev pub WritesMessages : Reading → (List ℕ → List ℕ)
    → (List ℕ → List (List ℕ) → Option BadMessage → Type 0)
    → List ℕ → SinkState → SinkState → Status → Type 0
WritesMessages r writes reads name old new Memory = WritesOfFront r writes reads name (WritesUnfailing old new)
WritesMessages r writes reads name old new ReadFault =
    WritesOfFront r writes reads name
    (λ text. Appends old.wrote new.wrote (text ++ read_fault_line Orders))
WritesMessages r writes reads name old new TooLong =
    WritesOfFront r writes reads name
    (λ text. Appends old.wrote new.wrote (text ++ too_long_line Orders))
WritesMessages r writes reads name old new Accepted = Unit {0}
WritesMessages r writes reads name old new Rejected = Unit {0}
WritesMessages r writes reads name old new Usage = Unit {0}
WritesMessages r writes reads name old new Malformed = Unit {0}
WritesMessages r writes reads name old new WriteFault = Unit {0}

-- the same where the request is that of `plain`
abbrev pub WritesMessagesOf : DeskRequest → Reading → SinkState → SinkState → Status → Type 0
WritesMessagesOf (Early (Plain day dress)) r old new status =
    WritesMessages r (day_writes dress) (day_reading dress) day old new status
WritesMessagesOf (Early (GeneratedOrders start count form)) r old new status = Unit {0}
WritesMessagesOf (Whole request) r old new status = Unit {0}

-- the same where words ask for it
abbrev pub PlainWritesMessages : Option DeskRequest → Reading → SinkState → SinkState → Status
    → Type 0
PlainWritesMessages None r old new status = Unit {0}
PlainWritesMessages (Some request) r old new status = WritesMessagesOf request r old new status
