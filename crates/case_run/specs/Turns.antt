-- One command of a run, as the functions that do it pass it on.
use Rattle.std.specs.Prelude.{◌≡◌, ◌≤◌, ◌⊎◌, ℕ, true, false, Option, Some, Result, Ok, Err, List, MatchResult}
use Rattle.audit_base.specs.declared.faults.BadPlace.{BadPlace}
use Rattle.audit_base.specs.declared.terms.Which.{Which}
use Rattle.audit_report.specs.Lines.{malformed_line}
use Rattle.audit_report.specs.declared.verdicts.Verdict.{Verdict}
use Rattle.audit_report.specs.declared.verdicts.Verdict.TheVariants as verdict
use Rattle.log_verdict.specs.Steps.{Reading, BeginsWithin, EndsWithin, KeepsShelfLogs, FaultsNeverFall, reading}
use Rattle.log_verdict.specs.declared.stops.Stop.{Stop}
use Rattle.log_verdict.specs.declared.stops.Stop.TheVariants as stop
use Rattle.case_keeper.specs.Keepers.{KeeperState}
use Rattle.case_keeper.specs.declared.case.Case.{Case}
use Rattle.case_keeper.specs.declared.keeper.KeepFault.{KeepFault}
use Rattle.case_keeper.specs.declared.keeper.KeepFault.TheVariants as keeping
use Rattle.log_source.specs.declared.shelf.Shelf.{Ghosts as Shelf}
use Rattle.log_source.specs.Sinks.{SinkState, SinkStays}
use Rattle.log_source.specs.Sources.{RoseOrIsFull}
use Rattle.log_verdict.specs.Steps.{IsReadFault, IsTooLong}
use Rattle.case_run.specs.Causes.{IsHaltCause, OfFilingLog, ReadsBadFilingLog, ReadsGoodLogs, ReadsLogsFor}
use Rattle.case_run.specs.Play.{PlayTurn, IsTurn, IsVerdictOfFiling, verdict_turn}
use Rattle.case_run.specs.Runs.{known_logs, run_state}
use Rattle.case_run.specs.Statuses.{ends_run}
use Rattle.case_run.specs.Traces.{AreDone, IsAnsweredOrHalted, KnownLogs, RunState, RunTurn, state_after, status_after, turn_commands}
use Rattle.case_run.specs.Writing.{WritesOrFails}
use Rattle.case_run.specs.declared.answers.CaseAnswer.{CaseAnswer}
use Rattle.case_run.specs.declared.commands.CaseCommand.{CaseCommand}
use Rattle.case_run.specs.declared.commands.CaseCommand.TheVariants as command
use Rattle.case_run.specs.declared.commands.Filing.{Filing}
use Rattle.case_run.specs.declared.halts.Halt.{Halt}
use Rattle.case_run.specs.declared.halts.Halt.TheVariants as halt
use Rattle.case_run.specs.declared.statuses.CaseStatus.{CaseStatus}
use Rattle.case_run.specs.declared.statuses.CaseStatus.TheVariants as status

-- why a command halts where the keeper of the cases did not do what it was asked
abbrev pub halt_of_keeper : KeepFault → Halt
halt_of_keeper keeping.Failed = halt.KeeperFault
halt_of_keeper keeping.Memory = halt.Memory

-- why a command halts where nothing is known of its logs
abbrev pub halt_of_stop : Stop → Halt
halt_of_stop (stop.ReadFault log) = halt.ReadFault log
halt_of_stop (stop.TooLong log) = halt.TooLong log
halt_of_stop stop.Memory = halt.Memory

-- the logs of the filing were read to their end, and are in their grammar, or the one that the
-- verdict names was started in its turn and read to its end, and is not
abbrev pub ReadsForVerdict : Reading → Filing → Verdict → Type 0
ReadsForVerdict r wanted (verdict.Accepted accepted) = ReadsGoodLogs r (command.File wanted)
ReadsForVerdict r wanted (verdict.Rejected finding) = ReadsGoodLogs r (command.File wanted)
ReadsForVerdict r wanted (verdict.Malformed log bad) = ReadsBadFilingLog r wanted log

-- The verdict is that on the two logs of the filing.
pub record ReadsFilingVerdict (r : Reading) (wanted : Filing) (the_verdict : Verdict) : Type 0 where
  pub on : r.tells ≡ true → IsVerdictOfFiling r.log_of wanted the_verdict
  pub read : ReadsForVerdict r wanted the_verdict

-- why there is no verdict on the two logs of a filing
abbrev pub IsLogHalt : Reading → Filing → Halt → Type 0
IsLogHalt r wanted (halt.ReadFault log) = OfFilingLog IsReadFault r wanted log
IsLogHalt r wanted (halt.TooLong log) = OfFilingLog IsTooLong r wanted log
IsLogHalt r wanted halt.Memory = Unit {0}
IsLogHalt r wanted halt.KeeperFault = ⊥

-- the answer is that a log is too long
abbrev pub IsLengthHalt : {T : Type 0} → Result T Halt → Type 0
IsLengthHalt (Ok x) = ⊥
IsLengthHalt (Err (halt.ReadFault log)) = ⊥
IsLengthHalt (Err (halt.TooLong log)) = Unit {0}
IsLengthHalt (Err halt.Memory) = ⊥
IsLengthHalt (Err halt.KeeperFault) = ⊥

-- where no log was too long, both slots end within the limit if they began so
abbrev pub EndsWithinOrHalts : {T : Type 0} → Reading → Result T Halt → Type 0
EndsWithinOrHalts r result = BeginsWithin r → IsLengthHalt result ⊎ EndsWithin r

-- the verdict on two logs, or why there is none
abbrev pub GivesFilingVerdictOrHalt : Reading → Filing → Result Verdict Halt → Type 0
GivesFilingVerdictOrHalt r wanted result =
    MatchResult result (ReadsFilingVerdict r wanted) (IsLogHalt r wanted)

-- The answer has the status and the text of this turn, and the casebook has its cases.
pub record AnswersAsTurn (turn : PlayTurn) (keeper : KeeperState) (answer : CaseAnswer) : Type 0 where
  pub status_is : turn.status ≡ answer.status
  pub text_is : turn.text ≡ answer.text.items
  pub cases_are : keeper.cases ≡ Some turn.cases

-- why a command halts that reads no log
abbrev pub IsKeeperCause : KeeperState → KeeperState → Halt → Type 0
IsKeeperCause old new (halt.ReadFault log) = ⊥
IsKeeperCause old new (halt.TooLong log) = ⊥
IsKeeperCause old new halt.KeeperFault = RoseOrIsFull old.faults new.faults
IsKeeperCause old new halt.Memory = Unit {0}

-- The answer has the status and the text of a turn, and the casebook has its cases, where these are
-- known.
pub record AnswersTurnOf (turn_of : List Case → PlayTurn) (old new : KeeperState)
    (answer : CaseAnswer) : Type 0 where
  pub known : (cases : List Case) → old.cases ≡ Some cases
      → AnswersAsTurn (turn_of cases) new answer
  pub goes_on : ends_run answer.status ≡ false

-- The keeper did not do what it was asked, and no case was changed.
pub record IsKeeperHalt (old new : KeeperState) (why : Halt) : Type 0 where
  pub cause : IsKeeperCause old new why
  pub stays : new.cases ≡ old.cases

-- the answer is that of a turn, or the keeper did not do what it was asked
abbrev pub AnswersFromCasebook : (List Case → PlayTurn) → KeeperState → KeeperState
    → Result CaseAnswer Halt → Type 0
AnswersFromCasebook turn_of old new result =
    MatchResult result (AnswersTurnOf turn_of old new) (IsKeeperHalt old new)

-- the run ends exactly where the verdict is that a log is not in its grammar
abbrev pub HasVerdictStatus : Verdict → CaseStatus → Type 0
HasVerdictStatus (verdict.Accepted accepted) answer = ends_run answer ≡ false
HasVerdictStatus (verdict.Rejected finding) answer = ends_run answer ≡ false
HasVerdictStatus (verdict.Malformed log bad) answer = answer ≡ status.Malformed

-- The answer is that of filing a verdict.
pub record AnswersVerdictTurn (wanted : Filing) (the_verdict : Verdict) (old new : KeeperState)
    (answer : CaseAnswer) : Type 0 where
  pub known : (cases : List Case) → old.cases ≡ Some cases
      → AnswersAsTurn (verdict_turn cases wanted the_verdict) new answer
  pub status_is : HasVerdictStatus the_verdict answer.status

-- The answer tells the first bad place of a log.
pub record AnswersBadPlace (log : Which) (bad : BadPlace) (answer : CaseAnswer) : Type 0 where
  pub status_is : answer.status ≡ status.Malformed
  pub text_is : answer.text.items ≡ malformed_line log bad

-- the keeper is asked only for a verdict on logs that are in their grammar
abbrev pub AsksKeeperFor : Verdict → Halt → Type 0
AsksKeeperFor (verdict.Accepted accepted) why = Unit {0}
AsksKeeperFor (verdict.Rejected finding) why = Unit {0}
AsksKeeperFor (verdict.Malformed log bad) why = why ≡ halt.Memory

-- the verdict was filed or its log refused, or the command was halted
abbrev pub FilesVerdict : KeeperState → KeeperState → Filing → Verdict → Result CaseAnswer Halt
    → Type 0
FilesVerdict old new wanted the_verdict result =
    MatchResult result (AnswersVerdictTurn wanted the_verdict old new)
    (λ why. IsKeeperHalt old new why × AsksKeeperFor the_verdict why)

-- The answer is that of a turn of the command.
pub record AnswersSomeTurn (logs : Which → List ℕ → Option (List ℕ)) (cases : List Case)
    (the_command : CaseCommand) (keeper : KeeperState) (answer : CaseAnswer) : Type 0 where
  pub turn : PlayTurn
  pub is : IsTurn logs cases the_command turn
  pub has : AnswersAsTurn turn keeper answer

-- The command was answered: its logs were read as its status says, and where the logs and the cases
-- are known, the answer is that of its turn.
pub record IsAnswerToCommand (r : Reading) (keeper_old keeper_new : KeeperState)
    (the_command : CaseCommand)
    (answer : CaseAnswer) : Type 0 where
  pub read : ReadsLogsFor r the_command answer.status
  pub known : (cases : List Case) → r.tells ≡ true → keeper_old.cases ≡ Some cases
      → AnswersSomeTurn r.log_of cases the_command keeper_new answer

-- The command was halted for a cause, and no case was changed.
pub record IsHaltOf (r : Reading) (keeper_old keeper_new : KeeperState) (the_command : CaseCommand)
    (why : Halt) : Type 0 where
  pub cause : IsHaltCause r keeper_old keeper_new the_command why
  pub stays : keeper_new.cases ≡ keeper_old.cases

-- the command was answered, or halted
abbrev pub AnswersCaseCommand : Reading → KeeperState → KeeperState → CaseCommand → Result CaseAnswer Halt
    → Type 0
AnswersCaseCommand r keeper_old keeper_new the_command result =
    MatchResult result (IsAnswerToCommand r keeper_old keeper_new the_command)
    (IsHaltOf r keeper_old keeper_new the_command)

-- What any call leaves: the shelf has what it had; no count of faults falls; the sink is of the
-- same kind.
pub record KeepsAll {S : Type 0} (shelf : Shelf S) (old new : S) (sink_old sink_new : SinkState)
    (keeper_old keeper_new : KeeperState) : Type 0 where
  pub logs : KeepsShelfLogs shelf old new
  pub later : FaultsNeverFall (reading shelf old new)
  pub sink : SinkStays sink_old sink_new
  pub keeper : keeper_old.faults ≤ keeper_new.faults

-- One command was answered or halted, and its text was written with its status, or the sink failed.
pub record TakesTurn (known : KnownLogs) (from to : RunState) (the_command : CaseCommand)
    (answer : CaseStatus) : Type 0 where
  pub turn : RunTurn
  pub command_is : turn.command ≡ the_command
  pub left_is : turn.left ≡ to
  pub answer_or_halt : IsAnsweredOrHalted known from turn
  pub writes : WritesOrFails from.sink turn.left.sink turn.status turn.text answer

-- The commands so far were done, and both slots stay within the limit.
pub record IsGoing {S : Type 0} (shelf : Shelf S) (commands : List CaseCommand) (old now : S)
    (sink_old sink_now : SinkState) (keeper_old keeper_now : KeeperState)
    (answer : CaseStatus) : Type 0 where
  pub turns : List RunTurn
  pub done : AreDone (known_logs shelf old) (run_state shelf old sink_old keeper_old) turns
  pub commands_are : turn_commands turns ≡ commands
  pub now_is : state_after (run_state shelf old sink_old keeper_old) turns
      ≡ run_state shelf now sink_now keeper_now
  pub status_is : status_after status.Done turns ≡ answer
  pub within : BeginsWithin (reading shelf old now) → EndsWithin (reading shelf old now)
  pub stays : KeepsAll shelf old now sink_old sink_now keeper_old keeper_now
