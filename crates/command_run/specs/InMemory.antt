-- A call over logs in memory, into a sink in memory.
use Rattle.std.specs.Prelude.{◌+◌, ◌≡◌, ◌≤◌, ℕ, true, List, [], length, Option, None, Some}
use Rattle.audit_report.specs.declared.statuses.Status.{Status}
use Rattle.log_source.specs.Sinks.{SinkState}
use Rattle.command_run.specs.Commands.{Command}
use Rattle.command_run.specs.Early.{BeginsAnswer}
use Rattle.command_run.specs.Runs.{HoldsNeededLogs, WritesAnswer}
use Rattle.log_verdict.specs.Steps.{Reading}

-- The shelf holds these logs, which are all that the command needs, and what was written leaves
-- as many bytes free as any answer to them has, and as any text with which such an answer begins
-- that the command may write while it reads.
pub record HasRoomForAnswer (r : Reading) (command : Command) (logs : List (List ℕ))
    (written room : ℕ) : Type 0 where
  pub held : HoldsNeededLogs r command [] logs
  pub room_left : (status : Status) (text : List ℕ) → command.is_answer logs status text
      → written + length text ≤ room
  pub early_room : command.writes_early ≡ true → (text : List ℕ) → BeginsAnswer command logs text
      → written + length text ≤ room

-- on well-formed words, where there is room for the answer to the logs that the shelf holds, it
-- is written and its status is answered, or memory ran out
abbrev pub AnswersInRoom : {A : Type 0} → (A → Command) → Option A → Reading → ℕ → ℕ → SinkState
    → SinkState → Status → Type 0
AnswersInRoom command_of None r written room old new status = Unit {0}
AnswersInRoom command_of (Some request) r written room old new status =
    (logs : List (List ℕ)) → HasRoomForAnswer r (command_of request) logs written room
    → WritesAnswer (command_of request) logs old new status
