-- What a run of commands answers, writes and leaves of the cases.
use Rattle.std.specs.Prelude.{◌≡◌, ◌≤◌, ◌⊎◌, ℕ, Option, Some, None, Result, Ok, Err, List, [], ◌∷◌, length}
use Rattle.std.specs.Io.KnownBytes.{Appends}
use Rattle.audit_base.specs.declared.faults.BadPlace.{BadPlace}
use Rattle.audit_base.specs.declared.terms.Which.{Which}
use Rattle.audit_base.specs.declared.terms.Which.TheVariants.{Orders, Trades}
use Rattle.log_verdict.specs.LogVerdicts.{records_of_order_log, trades_of_trade_log}
use Rattle.log_verdict.specs.Steps.{Reading, BeginsWithin, EndsWithin, KeepsShelfLogs}
use Rattle.case_keeper.specs.Keepers.{KeeperState}
use Rattle.case_keeper.specs.declared.case.Case.{Case}
use Rattle.log_source.specs.declared.shelf.Shelf.{Ghosts as Shelf}
use Rattle.log_source.specs.Sinks.{SinkState, SinkStays}
use Rattle.log_source.specs.Sources.{RoseOrIsFull, longest_log}
use Rattle.case_run.specs.Causes.{StartsNoLog}
use Rattle.case_run.specs.Lines.{casebook_usage_line}
use Rattle.case_run.specs.Play.{IsPlay, PlayResult}
use Rattle.case_run.specs.Traces.{FilesCases, IsLater, IsTraceOf, KnownLogs, KnowsLogsAndCases, RunState, Trace, WritesTexts, final_state, final_status, reading_between, state_after, status_after, turn_commands, turn_texts}
use Rattle.case_run.specs.Writing.{WritesNoLine, WritesOrFails}
use Rattle.case_run.specs.declared.commands.CaseCommand.{CaseCommand}
use Rattle.case_run.specs.declared.commands.CaseCommand.TheVariants as command
use Rattle.case_run.specs.declared.commands.Filing.{Filing}
use Rattle.case_run.specs.declared.statuses.CaseStatus.{CaseStatus}
use Rattle.case_run.specs.declared.statuses.CaseStatus.TheVariants as status

-- the statuses of Play: 0, 1 and 3
abbrev pub IsPlayStatus : CaseStatus → Type 0
IsPlayStatus answer =
    (answer ≡ status.Done) ⊎ ((answer ≡ status.Refused) ⊎ (answer ≡ status.Malformed))

-- The shelf has the logs that Play over the commands needs, the status is Play's, its text was
-- written, and the casebook has its cases.
pub record AnswersPlay (known : KnownLogs) (from to : RunState) (commands : List CaseCommand)
    (answer : CaseStatus) (cases : List Case) : Type 0 where
  pub played : PlayResult
  pub is : IsPlay known.log_of cases commands played
  pub status_is : played.status ≡ answer
  pub wrote : Appends from.sink.wrote to.sink.wrote played.text
  pub cases_are : to.keeper.cases ≡ Some played.cases

-- The turns of the trace are Play's over their commands, in status, text and cases; and from these
-- cases the ending leaves what is on file when the run is over.
pub record FilesTrace (known : KnownLogs) (from to : RunState) (trace : Trace) (cases : List Case)
    : Type 0 where
  pub played : PlayResult
  pub is : IsPlay known.log_of cases (turn_commands trace.turns) played
  pub status_is : played.status ≡ status_after status.Done trace.turns
  pub text_is : played.text ≡ turn_texts trace.turns
  pub cases_are : (state_after from trace.turns).keeper.cases ≡ Some played.cases
  pub filed : FilesCases known played.cases to trace.ending

-- What a run of well-formed commands does. It has a trace, which gives the state in which it ends,
-- its status, and what it writes. Where the logs and the cases are known, the trace gives what is
-- filed too, and a run with status 0, 1 or 3 is Play's over all commands.
pub record RunsCommands (known : KnownLogs) (from to : RunState) (commands : List CaseCommand)
    (answer : CaseStatus) : Type 0 where
  pub trace : Trace
  pub is : IsTraceOf known from commands trace
  pub state_is : to ≡ final_state from trace
  pub status_is : answer ≡ final_status trace
  pub wrote : WritesTexts from.sink.wrote to.sink.wrote (turn_texts trace.turns) trace.ending
  pub filed : (cases : List Case) → KnowsLogsAndCases known from cases
      → FilesTrace known from to trace cases
  pub played : IsPlayStatus answer → (cases : List Case) → KnowsLogsAndCases known from cases
      → AnswersPlay known from to commands answer cases

-- The words are not well-formed: the usage line was written, unless the sink failed or memory ran
-- out; no log was started, and the keeper is as before.
pub record RunsNoCommand (known : KnownLogs) (from to : RunState) (answer : CaseStatus)
    : Type 0 where
  pub writes : WritesOrFails from.sink to.sink status.Usage casebook_usage_line answer
      ⊎ WritesNoLine from.sink to.sink answer
  pub slots : StartsNoLog (reading_between known from to)
  pub keeper : to.keeper ≡ from.keeper

-- what a run does: the commands that its words ask for, or, where they are not well-formed, none
abbrev pub RunsAsked : KnownLogs → RunState → RunState → Option (List CaseCommand) → CaseStatus → Type 0
RunsAsked known from to (Some commands) answer = RunsCommands known from to commands answer
RunsAsked known from to None answer = RunsNoCommand known from to answer

-- the shelf has a log that is no longer than a log may be, and this holds of its bytes
abbrev pub HasLogWithin : Option (List ℕ) → (List ℕ → Type 0) → Type 0
HasLogWithin None holds = ⊥
HasLogWithin (Some bytes) holds = (length bytes ≤ longest_log) × holds bytes

-- where a log is in its grammar this holds too
abbrev pub WhereGood : {R : Type 0} → Result R BadPlace → Type 0 → Type 0
WhereGood (Ok records) next = next
WhereGood (Err bad) next = Unit {0}

-- the shelf has the order log of a filing; where that is in its grammar, the trade log; and where
-- both are, `next` holds
abbrev pub HasFilingLogs : (Which → List ℕ → Option (List ℕ)) → Filing → Type 0 → Type 0
HasFilingLogs logs wanted next = HasLogWithin (logs Orders wanted.orders)
    (λ orders. WhereGood (records_of_order_log wanted.form orders)
    (HasLogWithin (logs Trades wanted.trades)
    (λ trades. WhereGood (trades_of_trade_log wanted.form trades) next)))

-- the shelf has the logs that Play over the commands needs: those up to the first one that is not
-- in its grammar
abbrev pub HasPlayLogs : (Which → List ℕ → Option (List ℕ)) → List CaseCommand → Type 0
HasPlayLogs logs [] = Unit {0}
HasPlayLogs logs (command.File wanted ∷ commands) =
    HasFilingLogs logs wanted (HasPlayLogs logs commands)
HasPlayLogs logs (command.List filter ∷ commands) = HasPlayLogs logs commands
HasPlayLogs logs (command.Show label ∷ commands) = HasPlayLogs logs commands

-- No fault of shelf, sink or keeper was counted from one state to another, and no count of faults
-- is at its greatest value.
pub record HasNoFault (from to : RunState) : Type 0 where
  pub slots : (log : Which) → ¬ RoseOrIsFull (from.slots log).faults (to.slots log).faults
  pub sink : ¬ RoseOrIsFull from.sink.faults to.sink.faults
  pub keeper : ¬ RoseOrIsFull from.keeper.faults to.keeper.faults

-- All that Play over the commands needs is there: the logs and the cases are known, the shelf has
-- the logs, no fault was counted, and no count of faults is at its greatest value.
pub record IsReadyToPlay (known : KnownLogs) (from to : RunState) (commands : List CaseCommand)
    (cases : List Case) : Type 0 where
  pub knows : KnowsLogsAndCases known from cases
  pub has_logs : HasPlayLogs known.log_of commands
  pub no_fault : HasNoFault from to

-- the headline: where all is there, status, text and cases are Play's, unless memory ran out; for
-- words that are not well-formed the status is 2, unless the sink failed, its count of faults is at
-- its greatest value, or memory ran out
abbrev pub AnswersWhereReady : KnownLogs → RunState → RunState → Option (List CaseCommand) → CaseStatus
    → Type 0
AnswersWhereReady known from to (Some commands) answer =
    (cases : List Case) → IsReadyToPlay known from to commands cases
    → AnswersPlay known from to commands answer cases ⊎ (answer ≡ status.Memory)
AnswersWhereReady known from to None answer = ¬ RoseOrIsFull from.sink.faults to.sink.faults
    → (answer ≡ status.Usage) ⊎ (answer ≡ status.Memory)

-- where both slots begin within the longest log and one ends outside it, the answer is that a log
-- is too long, or the line that says so could not be written
abbrev pub EndsWithinOrTooLong : Reading → CaseStatus → Type 0
EndsWithinOrTooLong r answer = BeginsWithin r
    → EndsWithin r ⊎ ((answer ≡ status.TooLong) ⊎ (answer ≡ status.WriteFault))

-- What a run says from its first state to its last: the headline; what it did; too long a log is
-- answered as such; no count of faults fell; and the sink is of the same kind as before.
pub record RunsBetween (known : KnownLogs) (from to : RunState) (asked : Option (List CaseCommand))
    (answer : CaseStatus) : Type 0 where
  pub headline : AnswersWhereReady known from to asked answer
  pub runs : RunsAsked known from to asked answer
  pub length : EndsWithinOrTooLong (reading_between known from to) answer
  pub later : IsLater from to
  pub sink : SinkStays from.sink to.sink

-- what is known of a shelf that is in this state when a run begins
abbrev pub known_logs : {S : Type 0} → Shelf S → S → KnownLogs
known_logs shelf s =
    record { limit = longest_log; tells = shelf.tells s; log_of = shelf.log_of s }

-- the state of a run over a shelf, a sink and a keeper in these states
abbrev pub run_state : {S : Type 0} → Shelf S → S → SinkState → KeeperState → RunState
run_state shelf s sink keeper =
    record { slots = shelf.slot s; sink = sink; keeper = keeper }

-- What a run of commands says over a shelf, which has afterwards what it had.
pub record IsCaseRun {S : Type 0} (shelf : Shelf S) (asked : Option (List CaseCommand)) (old new : S)
    (sink_old sink_new : SinkState) (keeper_old keeper_new : KeeperState)
    (answer : CaseStatus) : Type 0 where
  pub run : RunsBetween (known_logs shelf old) (run_state shelf old sink_old keeper_old)
      (run_state shelf new sink_new keeper_new) asked answer
  pub logs : KeepsShelfLogs shelf old new
