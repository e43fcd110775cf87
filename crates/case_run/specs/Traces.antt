-- A run as a trace: the turns of the commands that were done, each begun where the one before
-- left off, and then how the run ended.
use Rattle.std.specs.Prelude.{◌≡◌, ◌≤◌, ◌⊎◌, ℕ, Bool, true, false, Option, Some, List, [], ◌∷◌, ◌++◌, map}
use Rattle.std.specs.Io.KnownBytes.{Appends}
use Rattle.std.specs.List.{flat_map}
use Rattle.audit_base.specs.declared.terms.Which.{Which}
use Rattle.log_verdict.specs.Steps.{Reading}
use Rattle.case_keeper.specs.Keepers.{KeeperState}
use Rattle.case_keeper.specs.declared.case.Case.{Case}
use Rattle.log_source.specs.Sinks.{SinkState, AppendsPart, HasFailureCause}
use Rattle.log_source.specs.Sources.{Slot}
use Rattle.case_run.specs.Causes.{IsHaltCause, ReadsLogsFor, halt_line, halt_status}
use Rattle.case_run.specs.Play.{IsTurn}
use Rattle.case_run.specs.Statuses.{ends_run}
use Rattle.case_run.specs.declared.commands.CaseCommand.{CaseCommand}
use Rattle.case_run.specs.declared.halts.Halt.{Halt}
use Rattle.case_run.specs.declared.statuses.CaseStatus.{CaseStatus}
use Rattle.case_run.specs.declared.statuses.CaseStatus.TheVariants as status

-- The states of a run.

-- What is known of the shelf throughout a run: how many bytes a log may have, whether it is known
-- what the shelf has, and what that is in each slot under each name.
pub record KnownLogs : Type 0 where
  pub limit : ℕ
  pub tells : Bool
  pub log_of : Which → List ℕ → Option (List ℕ)

-- A run between two commands: the slots of its shelf, its sink, and the keeper of its casebook.
pub record RunState : Type 0 where
  pub slots : Which → Slot
  pub sink : SinkState
  pub keeper : KeeperState

-- what was read of the shelf from one state to another
abbrev pub reading_between : KnownLogs → RunState → RunState → Reading
reading_between known from to = record {
  limit = known.limit;
  tells = known.tells;
  log_of = known.log_of;
  before = from.slots;
  after = to.slots;
}

-- No count of faults fell from one state to another.
pub record IsLater (from to : RunState) : Type 0 where
  pub slots : (log : Which) → (from.slots log).faults ≤ (to.slots log).faults
  pub sink : from.sink.faults ≤ to.sink.faults
  pub keeper : from.keeper.faults ≤ to.keeper.faults

-- It is known what the shelf has, and that the casebook has these cases.
pub record KnowsLogsAndCases (known : KnownLogs) (at : RunState) (cases : List Case) : Type 0 where
  pub logs : known.tells ≡ true
  pub cases_are : at.keeper.cases ≡ Some cases

-- One turn.

-- The turn of a command: its answer, which is a status and a text, and the state in which it left
-- the run.
pub record RunTurn : Type 0 where
  pub command : CaseCommand
  pub status : CaseStatus
  pub text : List ℕ
  pub left : RunState

-- The turn is as Play has it over these cases: in status and text, and in the cases that are on
-- file after it.
pub record IsAsPlayed (known : KnownLogs) (cases : List Case) (turn : RunTurn) : Type 0 where
  pub filed : List Case
  pub is : IsTurn known.log_of cases turn.command
      (record { cases = filed; text = turn.text; status = turn.status })
  pub cases_are : turn.left.keeper.cases ≡ Some filed

-- The command was answered: its logs were read as its status says, and where the logs and the cases
-- are known, the turn is Play's.
pub record IsAnswered (known : KnownLogs) (from : RunState) (turn : RunTurn) : Type 0 where
  pub read : ReadsLogsFor (reading_between known from turn.left) turn.command turn.status
  pub played : (cases : List Case) → KnowsLogsAndCases known from cases
      → IsAsPlayed known cases turn

-- The command was halted for this cause: the turn has its status and its line, and the cases are as
-- before.
pub record IsHalted (known : KnownLogs) (from : RunState) (why : Halt) (turn : RunTurn)
    : Type 0 where
  pub cause : IsHaltCause (reading_between known from turn.left)
      from.keeper turn.left.keeper turn.command why
  pub status_is : turn.status ≡ halt_status why
  pub text_is : turn.text ≡ halt_line why
  pub cases_stay : turn.left.keeper.cases ≡ from.keeper.cases

-- the command was answered, or halted for some cause
abbrev pub IsAnsweredOrHalted : KnownLogs → RunState → RunTurn → Type 0
IsAnsweredOrHalted known from turn =
    IsAnswered known from turn ⊎ ((why : Halt) × IsHalted known from why turn)

-- the whole text of the turn was written
abbrev pub IsWritten : RunState → RunTurn → Type 0
IsWritten from turn = Appends from.sink.wrote turn.left.sink.wrote turn.text

-- The sink failed, and a proper prefix of the text of the turn was written.
pub record IsCutShort (from : RunState) (turn : RunTurn) : Type 0 where
  pub cause : HasFailureCause from.sink turn.left.sink
  pub wrote : AppendsPart from.sink.wrote turn.left.sink.wrote turn.text

-- The command was done: it was answered with a status that ends no run, and its text was written.
pub record IsDoneFrom (known : KnownLogs) (from : RunState) (turn : RunTurn) : Type 0 where
  pub answered : IsAnswered known from turn
  pub goes_on : ends_run turn.status ≡ false
  pub written : IsWritten from turn
  pub later : IsLater from turn.left

-- The turns of a run.

-- the commands of these turns were done, each from where the one before left off
abbrev pub AreDone : KnownLogs → RunState → List RunTurn → Type 0
AreDone known from [] = Unit {0}
AreDone known from (turn ∷ turns) = IsDoneFrom known from turn × AreDone known turn.left turns

-- where turns leave a run
abbrev pub state_after : RunState → List RunTurn → RunState
state_after from [] = from
state_after from (turn ∷ turns) = state_after turn.left turns

-- the status of the last turn, or, where there is none, the one from before
abbrev pub status_after : CaseStatus → List RunTurn → CaseStatus
status_after before [] = before
status_after before (turn ∷ turns) = status_after turn.status turns

-- the commands of turns
abbrev pub turn_commands : List RunTurn → List CaseCommand
turn_commands turns = map (λ turn. turn.command) turns

-- the texts of turns, one after the other
abbrev pub turn_texts : List RunTurn → List ℕ
turn_texts turns = flat_map (λ turn. turn.text) turns

-- The ending of a run.

-- why a command ends a run: a log that it names is not in its grammar, it was halted for a cause,
-- or its text could not be written whole
pub data EndCause : Type 0 where
  BadLog : EndCause
  Halted : Halt → EndCause
  WriteFailed : EndCause

-- the status that a run ends with for a cause
abbrev pub end_status : EndCause → CaseStatus
end_status BadLog = status.Malformed
end_status (Halted why) = halt_status why
end_status WriteFailed = status.WriteFault

-- The command was answered with 3, and its text was written.
pub record EndsMalformed (known : KnownLogs) (from : RunState) (turn : RunTurn) : Type 0 where
  pub answered : IsAnswered known from turn
  pub status_is : turn.status ≡ status.Malformed
  pub written : IsWritten from turn

-- The command was halted, and the line of its cause was written.
pub record EndsHalted (known : KnownLogs) (from : RunState) (why : Halt) (turn : RunTurn)
    : Type 0 where
  pub halted : IsHalted known from why turn
  pub written : IsWritten from turn

-- The command was answered or halted, and its text could not be written whole.
pub record EndsUnwritten (known : KnownLogs) (from : RunState) (turn : RunTurn) : Type 0 where
  pub answer : IsAnsweredOrHalted known from turn
  pub cut : IsCutShort from turn

-- the command of this turn ended the run for this cause
abbrev pub IsLastTurn : KnownLogs → RunState → RunTurn → EndCause → Type 0
IsLastTurn known from turn BadLog = EndsMalformed known from turn
IsLastTurn known from turn (Halted why) = EndsHalted known from why turn
IsLastTurn known from turn WriteFailed = EndsUnwritten known from turn

-- how a run ends: all its commands were done, or one of them ended it
pub data Ending : Type 0 where
  AllDone : Ending
  EndedBy : RunTurn → EndCause → Ending

-- The whole run.

-- What a run did: the turns of the commands that were done, in order, and its ending.
pub record Trace : Type 0 where
  pub turns : List RunTurn
  pub ending : Ending

-- an ending of a run that was in this state, with these commands left to do: all were done, or the
-- first of them ended the run
abbrev pub IsRunEnding : KnownLogs → RunState → List CaseCommand → Ending → Type 0
IsRunEnding known from commands AllDone = commands ≡ []
IsRunEnding known from commands (EndedBy turn why) =
    ((rest : List CaseCommand) × (commands ≡ turn.command ∷ rest)) × IsLastTurn known from turn why

-- The run did these commands from this state: those of the turns, one after another, and then it
-- ended.
pub record IsTraceOf (known : KnownLogs) (from : RunState) (commands : List CaseCommand)
    (trace : Trace) : Type 0 where
  pub undone : List CaseCommand
  pub commands_are : commands ≡ turn_commands trace.turns ++ undone
  pub done : AreDone known from trace.turns
  pub ends : IsRunEnding known (state_after from trace.turns) undone trace.ending

-- the state in which an ending leaves a run
abbrev pub ending_state : RunState → Ending → RunState
ending_state before AllDone = before
ending_state before (EndedBy turn why) = turn.left

-- the status of an ending: where all commands were done it is that of the last
abbrev pub ending_status : CaseStatus → Ending → CaseStatus
ending_status before AllDone = before
ending_status before (EndedBy turn why) = end_status why

-- the state in which a run ended that began in this one
abbrev pub final_state : RunState → Trace → RunState
final_state from trace = ending_state (state_after from trace.turns) trace.ending

-- the status of a run
abbrev pub final_status : Trace → CaseStatus
final_status trace = ending_status (status_after status.Done trace.turns) trace.ending

-- what a run has written when it ends whose turns have these texts: the texts, and after them that
-- of the command that ended the run; where that could not be written whole, a proper prefix of both
abbrev pub WritesTexts : Option (List ℕ) → Option (List ℕ) → List ℕ → Ending → Type 0
WritesTexts old new texts AllDone = Appends old new texts
WritesTexts old new texts (EndedBy turn BadLog) = Appends old new (texts ++ turn.text)
WritesTexts old new texts (EndedBy turn (Halted why)) = Appends old new (texts ++ turn.text)
WritesTexts old new texts (EndedBy turn WriteFailed) = AppendsPart old new (texts ++ turn.text)

-- what is on file when a run has ended, where these cases were on file after its turns: the same
-- cases; where a text could not be written whole, the same or those that its command left
abbrev pub FilesCases : KnownLogs → List Case → RunState → Ending → Type 0
FilesCases known cases to AllDone = to.keeper.cases ≡ Some cases
FilesCases known cases to (EndedBy turn BadLog) = to.keeper.cases ≡ Some cases
FilesCases known cases to (EndedBy turn (Halted why)) = to.keeper.cases ≡ Some cases
FilesCases known cases to (EndedBy turn WriteFailed) =
    (to.keeper.cases ≡ Some cases) ⊎ IsAsPlayed known cases turn
