-- What a call that runs a command answers and writes: whatever fails, by what it read; and where
-- nothing fails, by what the shelf holds.
use Rattle.std.specs.Prelude.{◌≡◌, ◌≤◌, ◌⊎◌, ℕ, Bool, true, false, List, [], ◌∷◌, ◌++◌, Option, None, Some, IsSome, length}
use Rattle.std.specs.Io.KnownBytes.{Appends}
use Rattle.audit_base.specs.declared.terms.Which.{Which}
use Rattle.audit_report.specs.declared.statuses.Status.{Status}
use Rattle.audit_report.specs.declared.statuses.Status.TheVariants.{Accepted, Rejected, Usage, Malformed, ReadFault, WriteFault, TooLong, Memory}
use Rattle.audit_report.specs.Lines.{read_fault_line, too_long_line}
use Rattle.log_source.specs.Sinks.{SinkState, AppendsPart, HasFailureCause}
use Rattle.log_source.specs.Sources.{RoseOrIsFull}
use Rattle.command_run.specs.Commands.{Command}
use Rattle.command_run.specs.Early.{BeginsAnswer, IsEarlyAt, IsTextOfStop}
use Rattle.log_verdict.specs.Steps.{Reading, LogStep, IsRead, IsReadFault, IsTooLong, StepsLead, BeginsWithin, EndsWithin}

-- The shelf holds a log with these bytes under this name, and it is no longer than a log may be.
pub record HoldsLog (r : Reading) (log : Which) (name bytes : List ℕ) : Type 0 where
  pub there : r.log_of log name ≡ Some bytes
  pub fits_limit : length bytes ≤ r.limit

-- The next log that the command needs is this one, which the shelf holds with these bytes.
pub record HoldsNext (r : Reading) (command : Command) (earlier : List (List ℕ))
    (bytes : List ℕ) : Type 0 where
  pub log : Which
  pub name : List ℕ
  pub next : command.next earlier ≡ Some (log, name)
  pub holds : HoldsLog r log name bytes

-- these are, one after another, all the logs that the command needs after the earlier ones, and
-- the shelf holds each
abbrev pub HoldsNeededLogs : Reading → Command → List (List ℕ) → List (List ℕ) → Type 0
HoldsNeededLogs r command earlier [] = command.next earlier ≡ None
HoldsNeededLogs r command earlier (bytes ∷ logs) =
    HoldsNext r command earlier bytes × HoldsNeededLogs r command (earlier ++ bytes ∷ []) logs

-- It is known what the shelf holds, and what the sink was given before the call. Of shelves and
-- sinks in memory it is; of files and standard output the runtime says nothing.
pub record IsKnown (r : Reading) (old : SinkState) : Type 0 where
  pub shelf_tells : r.tells ≡ true
  pub sink_tells : IsSome old.wrote

-- No fault of the shelf or of the sink was counted in the call, and no count of faults is at its
-- greatest value.
pub record NothingFails (r : Reading) (old new : SinkState) : Type 0 where
  pub no_fault_of_shelf : (log : Which) → ¬ RoseOrIsFull (r.before log).faults (r.after log).faults
  pub no_fault_of_sink : ¬ RoseOrIsFull old.faults new.faults

-- All is there for an answer on these logs: it is known what shelf and sink hold, the shelf holds
-- the logs, they are all that the command needs, and nothing fails.
pub record AllIsThere (r : Reading) (command : Command) (logs : List (List ℕ))
    (old new : SinkState) : Type 0 where
  pub known : IsKnown r old
  pub held : HoldsNeededLogs r command [] logs
  pub nothing_fails : NothingFails r old new

-- A text of this kind was written, whole, and nothing else.
pub record WritesWhole (is_text : List ℕ → Type 0) (old new : SinkState) : Type 0 where
  pub text : List ℕ
  pub is : is_text text
  pub wrote : Appends old.wrote new.wrote text

-- The sink's faults rose, and of a text of this kind a proper prefix was written.
pub record WritesPrefix (is_text : List ℕ → Type 0) (old new : SinkState) : Type 0 where
  pub text : List ℕ
  pub is : is_text text
  pub wrote : AppendsPart old.wrote new.wrote text
  pub cause : HasFailureCause old new

-- Memory ran out, and nothing was written.
pub record RunsOutOfMemory (old new : SinkState) (status : Status) : Type 0 where
  pub status_is : status ≡ Memory
  pub nothing : new ≡ old

-- Memory ran out, and nothing was done to the sink, or a front of the command's answer to these
-- logs was written.
pub record RunsOutOnTheWay (command : Command) (logs : List (List ℕ)) (old new : SinkState)
    (status : Status) : Type 0 where
  pub status_is : status ≡ Memory
  pub front : (new ≡ old) ⊎ WritesWhole (BeginsAnswer command logs) old new

-- memory ran out before the answer to these logs was written, by whether the command writes while
-- it reads
abbrev pub RunsOutBefore : Bool → Command → List (List ℕ) → SinkState → SinkState → Status → Type 0
RunsOutBefore false command logs old new status = RunsOutOfMemory old new status
RunsOutBefore true command logs old new status = RunsOutOnTheWay command logs old new status

-- exactly the text of the command's answer to these logs was written, and its status is answered;
-- or memory ran out
abbrev pub WritesAnswer : Command → List (List ℕ) → SinkState → SinkState → Status → Type 0
WritesAnswer command logs old new status =
    WritesWhole (command.is_answer logs status) old new
    ⊎ RunsOutBefore command.writes_early command logs old new status

-- on well-formed words, whatever logs the shelf holds: where all is there, the answer to them of
-- the command that the words ask for is written and answered
abbrev pub AnswersHeldLogs : {A : Type 0} → (A → Command) → Option A → Reading → SinkState
    → SinkState → Status → Type 0
AnswersHeldLogs command_of None r old new status = Unit {0}
AnswersHeldLogs command_of (Some request) r old new status =
    (logs : List (List ℕ)) → AllIsThere r (command_of request) logs old new
    → WritesAnswer (command_of request) logs old new status

-- The next log that the command needs is this one, which was started, read to its end,
-- and has these bytes.
pub record ReadsNext (r : Reading) (command : Command) (earlier : List (List ℕ)) (step : LogStep)
    (bytes : List ℕ) : Type 0 where
  pub next : command.next earlier ≡ Some (step.log, step.name)
  pub read : IsRead r step bytes

-- these steps read, one after another, logs that the command needs after the earlier ones, and
-- `logs` are the bytes of the earlier ones and of these
abbrev pub ReadsOneByOne : Reading → Command → List (List ℕ) → List LogStep → List (List ℕ)
    → Type 0
ReadsOneByOne r command earlier [] logs = logs ≡ earlier
ReadsOneByOne r command earlier (step ∷ steps) logs =
    (bytes : List ℕ) × ReadsNext r command earlier step bytes
    × ReadsOneByOne r command (earlier ++ bytes ∷ []) steps logs

-- All the logs that the command needs were read, each to its end, no others were started, and
-- this is the command's answer to them.
pub record IsAnswerToReadLogs (r : Reading) (command : Command) (status : Status)
    (text : List ℕ) : Type 0 where
  pub steps : List LogStep
  pub logs : List (List ℕ)
  pub lead : StepsLead r.before steps r.after
  pub read : ReadsOneByOne r command [] steps logs
  pub all : command.next logs ≡ None
  pub answer : command.is_answer logs status text

-- The logs that the command needs before this one were read, each to its end, and this one was
-- started as the last.
pub record ReadsThenStarts (r : Reading) (command : Command) (last : LogStep) : Type 0 where
  pub steps : List LogStep
  pub logs : List (List ℕ)
  pub lead : StepsLead r.before (steps ++ last ∷ []) r.after
  pub read : ReadsOneByOne r command [] steps logs
  pub next : command.next logs ≡ Some (last.log, last.name)

-- Reading stopped at a log that could not be read, and the line says which.
pub record StopsUnreadable (r : Reading) (command : Command) (text : List ℕ) : Type 0 where
  pub last : LogStep
  pub reads : ReadsThenStarts r command last
  pub cause : IsReadFault r last
  pub text_is : IsTextOfStop command.writes_early r command reads.logs last
      (read_fault_line last.log) text

-- Reading stopped at a log that is too long, and the line says which.
pub record StopsTooLong (r : Reading) (command : Command) (text : List ℕ) : Type 0 where
  pub last : LogStep
  pub reads : ReadsThenStarts r command last
  pub cause : IsTooLong r last
  pub text_is : IsTextOfStop command.writes_early r command reads.logs last
      (too_long_line last.log) text

-- what a reading decides, by status: the answer to all the logs,
-- or the line of the log at which it stopped
abbrev pub ReadingDecides : Reading → Command → Status → List ℕ → Type 0
ReadingDecides r command Accepted text = IsAnswerToReadLogs r command Accepted text
ReadingDecides r command Rejected text = IsAnswerToReadLogs r command Rejected text
ReadingDecides r command Malformed text = IsAnswerToReadLogs r command Malformed text
ReadingDecides r command ReadFault text = StopsUnreadable r command text
ReadingDecides r command TooLong text = StopsTooLong r command text
ReadingDecides r command Usage text = ⊥
ReadingDecides r command WriteFault text = ⊥
ReadingDecides r command Memory text = ⊥

-- The reading decides this text, with some status.
pub record IsDecidedText (r : Reading) (command : Command) (text : List ℕ) : Type 0 where
  pub status : Status
  pub decides : ReadingDecides r command status text

-- Of the logs that the command needs, those before the last one that was started were read, and of
-- that at least a front, after which the text may have been written.
pub record IsEarlyOfLogs (r : Reading) (command : Command) (text : List ℕ) : Type 0 where
  pub last : LogStep
  pub reads : ReadsThenStarts r command last
  pub early : IsEarlyAt r command reads.logs last text

-- The command needs no log, none was started, and its answer begins with the text.
pub record IsEarlyOfNone (r : Reading) (command : Command) (text : List ℕ) : Type 0 where
  pub alone : (log : Which) → r.after log ≡ r.before log
  pub needs_none : command.next [] ≡ None
  pub begins : BeginsAnswer command [] text

-- the text may have been written before all was read
abbrev pub IsEarlyText : Reading → Command → List ℕ → Type 0
IsEarlyText r command text = IsEarlyOfLogs r command text ⊎ IsEarlyOfNone r command text

-- the texts that a sink may have failed to take, by whether the command writes while it reads
abbrev pub IsTextBegun : Bool → Reading → Command → List ℕ → Type 0
IsTextBegun false r command text = IsDecidedText r command text
IsTextBegun true r command text = IsDecidedText r command text ⊎ IsEarlyText r command text

-- what was done to the sink where memory ran out, by whether the command writes while it reads:
-- nothing, or a text was written, whole, before all was read
abbrev pub WritesBeforeMemory : Bool → Reading → Command → SinkState → SinkState → Type 0
WritesBeforeMemory false r command old new = new ≡ old
WritesBeforeMemory true r command old new =
    (new ≡ old) ⊎ WritesWhole (IsEarlyText r command) old new

-- on well-formed words: each status of the command that they ask for, with its cause and with
-- what was written
abbrev pub AnswersCommand : Reading → Command → SinkState → SinkState → Status → Type 0
AnswersCommand r command old new Accepted =
    WritesWhole (ReadingDecides r command Accepted) old new
AnswersCommand r command old new Rejected =
    WritesWhole (ReadingDecides r command Rejected) old new
AnswersCommand r command old new Malformed =
    WritesWhole (ReadingDecides r command Malformed) old new
AnswersCommand r command old new ReadFault =
    WritesWhole (ReadingDecides r command ReadFault) old new
AnswersCommand r command old new TooLong =
    WritesWhole (ReadingDecides r command TooLong) old new
AnswersCommand r command old new WriteFault =
    WritesPrefix (IsTextBegun command.writes_early r command) old new
AnswersCommand r command old new Memory =
    WritesBeforeMemory command.writes_early r command old new
AnswersCommand r command old new Usage = ⊥

-- the text is this line
abbrev pub IsLine : List ℕ → List ℕ → Type 0
IsLine line text = text ≡ line

-- on words that are not well-formed: the usage line, unless the sink fails
abbrev pub RefusesWords : List ℕ → SinkState → SinkState → Status → Type 0
RefusesWords usage old new Usage = WritesWhole (IsLine usage) old new
RefusesWords usage old new WriteFault = WritesPrefix (IsLine usage) old new
RefusesWords usage old new Accepted = ⊥
RefusesWords usage old new Rejected = ⊥
RefusesWords usage old new Malformed = ⊥
RefusesWords usage old new ReadFault = ⊥
RefusesWords usage old new TooLong = ⊥
RefusesWords usage old new Memory = ⊥

-- nothing was done to the shelf
abbrev pub LeavesShelfAlone : Reading → Type 0
LeavesShelfAlone r = (log : Which) → r.after log ≡ r.before log

-- whatever fails, each status has its cause: what the words ask for was read and answered, or
-- they are not well-formed, are refused by the usage line, and the shelf is left alone
abbrev pub AnswersWithCause : {A : Type 0} → (A → Command) → List ℕ → Option A → Reading
    → SinkState → SinkState → Status → Type 0
AnswersWithCause command_of usage (Some request) r old new status =
    AnswersCommand r (command_of request) old new status
AnswersWithCause command_of usage None r old new status =
    RefusesWords usage old new status × LeavesShelfAlone r

-- where both slots begin within the limit of a log and one ends past it, the answer is that a log
-- is too long, or that the sink failed
abbrev pub AnswersTooLong : Reading → Status → Type 0
AnswersTooLong r status =
    BeginsWithin r → EndsWithin r ⊎ ((status ≡ TooLong) ⊎ (status ≡ WriteFault))
