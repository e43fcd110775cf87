-- A sink in memory none of whose writes is to fail takes every text that it has room for.
use Rattle.std.proofs.Common.{◌≡◌, ◌∙◌, ap, subst, ℕ, ◌+◌, ◌<◌, ◌≤◌, List, length, take, Option, Some, None, arith, length-append, length-take}
use Rattle.std.specs.Prelude.{IfSome}
use Rattle.std.specs.Io.KnownBytes.{Appends}
use Rattle.audit_report.specs.declared.statuses.Status.{Status}
use Rattle.audit_report.specs.declared.statuses.Status.TheVariants as status
use Rattle.log_source.specs.Sinks.{SinkState, SinkStays}
use Rattle.command_run.specs.Corollaries.{HasRoomForText}
use Rattle.command_run.specs.Commands.{Command}
use Rattle.command_run.specs.Runs.{AnswersWithCause, IsLine, IsTextBegun, WritesPrefix}
use Rattle.log_verdict.specs.Steps.{Reading}

-- a sink that takes as many bytes for sure doesn't fail at a proper prefix
never_part : (before : List ℕ) (now : Option (List ℕ)) (text : List ℕ) (count sure room : ℕ) → count < length text → Appends (Some before) now (take count text) → sure ≡ room
    → IfSome now (λ bytes. sure ≤ length bytes) → length before + length text ≤ room → ⊥
never_part before None text count sure room short part same reached within = part
never_part before (Some bytes) text count sure room short part same reached within =
    let size : length bytes ≡ length before + length (take count text) = ap length part ∙ length-append before (take count text) in
    let front : length (take count text) ≤ count = omega (arith, length-take count text) in
    omega arith

-- a text that has room isn't cut
pub never_cut : (is_text : List ℕ → Type 0) (old new : SinkState) (before : List ℕ) (room : ℕ) → old.wrote ≡ Some before → old.sure ≡ room → SinkStays old new
    → ((text : List ℕ) → is_text text → length before + length text ≤ room) → WritesPrefix is_text old new → ⊥
never_cut is_text old new before room wrote sure stays fits part =
    never_part before new.wrote part.text part.wrote.count new.sure room part.wrote.short
    (subst (λ (o : Option (List ℕ)). Appends o new.wrote (take part.wrote.count part.text)) wrote part.wrote.part) (stays.sure ∙ sure) part.cause.reached
    (fits part.text part.is)

-- where every text has room, none is cut
module _ {A : Type 0} (command_of : A → Command) (usage : List ℕ) where
  pub never_full : (asked : Option A) (r : Reading) (old new : SinkState) (before : List ℕ) (room : ℕ) (result : Status) → old.wrote ≡ Some before → old.sure ≡ room → SinkStays old new
      → HasRoomForText command_of usage asked r (length before) room → AnswersWithCause command_of usage asked r old new result → result ≡ status.WriteFault → ⊥
  never_full None r old new before room status.WriteFault wrote sure stays fits runs e = never_cut (IsLine usage) old new before room wrote sure stays fits runs.0
  never_full (Some request) r old new before room status.WriteFault wrote sure stays fits runs e = never_cut (IsTextBegun (command_of request).writes_early r (command_of request)) old new before room wrote sure stays fits runs
  never_full asked r old new before room status.Accepted wrote sure stays fits runs e = cc
  never_full asked r old new before room status.Rejected wrote sure stays fits runs e = cc
  never_full asked r old new before room status.Usage wrote sure stays fits runs e = cc
  never_full asked r old new before room status.Malformed wrote sure stays fits runs e = cc
  never_full asked r old new before room status.ReadFault wrote sure stays fits runs e = cc
  never_full asked r old new before room status.TooLong wrote sure stays fits runs e = cc
  never_full asked r old new before room status.Memory wrote sure stays fits runs e = cc
