-- What follows where the shelf or the sink of a call is one in memory.
use Rattle.std.specs.Prelude.{◌+◌, ◌≤◌, ℕ, List, length, Option, None, Some}
use Rattle.log_verdict.specs.Steps.{Reading}
use Rattle.command_run.specs.Commands.{Command}
use Rattle.command_run.specs.Runs.{IsLine, IsTextBegun}

-- a text that a call may write: one that its reading decides, or that it may write before all is
-- read; on words that are not well-formed the usage line
abbrev pub MayBeWritten : {A : Type 0} → (A → Command) → List ℕ → Option A → Reading → List ℕ
    → Type 0
MayBeWritten command_of usage None r text = IsLine usage text
MayBeWritten command_of usage (Some request) r text =
    IsTextBegun (command_of request).writes_early r (command_of request) text

-- what was written leaves as many bytes free as any text has that the call may write
abbrev pub HasRoomForText : {A : Type 0} → (A → Command) → List ℕ → Option A → Reading → ℕ → ℕ
    → Type 0
HasRoomForText command_of usage asked r written room =
    (text : List ℕ) → MayBeWritten command_of usage asked r text → written + length text ≤ room
