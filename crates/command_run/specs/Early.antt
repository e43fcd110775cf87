-- What a command that writes while it reads may have written before it has read all.
use Rattle.std.specs.Prelude.{◌≡◌, ◌≤◌, ℕ, Bool, true, false, List, ◌∷◌, ◌++◌, length, IfSome}
use Rattle.std.specs.Io.{StartsWith}
use Rattle.audit_report.specs.declared.statuses.Status.{Status}
use Rattle.command_run.specs.Commands.{Command}
use Rattle.log_verdict.specs.Steps.{Reading, LogStep}

-- the text is a front of what the command answers to these logs
abbrev pub BeginsAnswer : Command → List (List ℕ) → List ℕ → Type 0
BeginsAnswer command logs text =
    (status : Status) (answer : List ℕ) → command.is_answer logs status answer
    → StartsWith answer text

-- the text is a front of what the command answers, whatever is still to come of the log of which
-- this front was read after the earlier ones, and whatever logs are still to come after it
abbrev pub BeginsEveryAnswer : Command → List (List ℕ) → List ℕ → List ℕ → Type 0
BeginsEveryAnswer command earlier front text =
    (more : List ℕ) (later : List (List ℕ))
    → BeginsAnswer command (earlier ++ (front ++ more) ∷ later) text

-- These bytes were read of a log that was started: no more than were taken from its slot, and
-- where it is known what the shelf has, a front of the log.
pub record ReadsFront (r : Reading) (step : LogStep) (front : List ℕ) : Type 0 where
  pub taken : length front ≤ step.after.taken
  pub known : r.tells ≡ true
      → IfSome (r.log_of step.log step.name) (λ bytes. StartsWith bytes front)

-- A command that had read the earlier logs, and of the one that it started last at least a front,
-- knew that its answer begins with this text.
pub record IsEarlyAt (r : Reading) (command : Command) (earlier : List (List ℕ)) (last : LogStep)
    (text : List ℕ) : Type 0 where
  pub front : List ℕ
  pub read : ReadsFront r last front
  pub begins : BeginsEveryAnswer command earlier front text

-- The text is what was written while the log was read, and then this line.
pub record IsEarlyThenLine (r : Reading) (command : Command) (earlier : List (List ℕ))
    (last : LogStep) (line text : List ℕ) : Type 0 where
  pub early : List ℕ
  pub is_early : IsEarlyAt r command earlier last early
  pub text_is : text ≡ early ++ line

-- what is written where reading stopped at a log, by whether the command writes while it reads:
-- the line that says where it stopped, alone or behind what was written before
abbrev pub IsTextOfStop : Bool → Reading → Command → List (List ℕ) → LogStep → List ℕ → List ℕ
    → Type 0
IsTextOfStop false r command earlier last line text = text ≡ line
IsTextOfStop true r command earlier last line text =
    IsEarlyThenLine r command earlier last line text
