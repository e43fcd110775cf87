-- What a call of filing answers, writes and leaves on file: the headline first.
use Rattle.std.specs.Prelude.{◌≡◌, ◌≢◌, ◌≤◌, ◌⊎◌, ℕ, true, Option, Some, None, IfSome, Result, Ok, Err, List, [], length}
use Rattle.std.specs.Io.KnownBytes.{Appends}
use Rattle.audit_base.specs.declared.faults.BadPlace.{BadPlace}
use Rattle.audit_base.specs.declared.terms.Which.{Which}
use Rattle.audit_base.specs.declared.terms.Which.TheVariants.{Orders, Trades}
use Rattle.case_run.specs.Causes.{halt_line, halt_status}
use Rattle.case_run.specs.Writing.{WritesOrFails}
use Rattle.case_run.specs.declared.halts.Halt.{Halt}
use Rattle.case_run.specs.declared.halts.Halt.TheVariants as halt
use Rattle.case_run.specs.declared.statuses.CaseStatus.{CaseStatus}
use Rattle.case_run.specs.declared.statuses.CaseStatus.TheVariants as status
use Rattle.desk_words.specs.Texts.{desk_usage_line}
use Rattle.desk_words.specs.declared.requests.NamedLogs.{NamedLogs}
use Rattle.digest_keeper.specs.DigestKeepers.{DigestKeeperState}
use Rattle.digest_keeper.specs.declared.digested.KeptCase.{KeptCase}
use Rattle.desk_filing.specs.Causes.{HoldsOfPass, OfDigestedLogs, ReadsLogsFor, ReadsLogsUpTo, day_log_name}
use Rattle.desk_filing.specs.DigestOpeners.{DigestOpenerState, IsDatabaseOpened, IsDatabaseRefused, kept_once_opened}
use Rattle.desk_filing.specs.Turns.{DigestedLogs, FilingTurn, IsFilingTurn, IsTurnOfLogs, unfiled_turn}
use Rattle.desk_filing.specs.declared.opener.MissingDatabase.{MissingDatabase}
use Rattle.desk_filing.specs.declared.opener.MissingDatabase.TheVariants.{Make, Refuse}
use Rattle.desk_filing.specs.declared.requests.FilingCommand.{FilingCommand}
use Rattle.desk_filing.specs.declared.requests.FilingCommand.TheVariants as command
use Rattle.desk_filing.specs.declared.requests.FilingRequest.{FilingRequest}
use Rattle.log_source.specs.Sinks.{SinkState}
use Rattle.log_source.specs.Sources.{RoseOrIsFull, longest_read}
use Rattle.log_source.specs.declared.shelf.Shelf.{Ghosts as Shelf}
use Rattle.log_verdict.specs.LogVerdicts.{records_of_order_log}
use Rattle.log_verdict.specs.Steps.{Reading, HoldsBySomeAccount, BeginsWithin, EndsWithin, FaultsNeverFall}

-- The states of a call.

-- What a call does beside its answer: what it reads of the logs; the opener before and after; and
-- the keeper, as it leaves it, where the database was opened.
pub record FilingCall : Type 0 where
  pub reading : Reading
  pub opener_old : DigestOpenerState
  pub opener_new : DigestOpenerState
  pub keeper : Option DigestKeeperState

-- what a call does beside its answer
abbrev pub filing_call : Reading → DigestOpenerState → DigestOpenerState → Option DigestKeeperState
    → FilingCall
filing_call r old new keeper =
    record { reading = r; opener_old = old; opener_new = new; keeper = keeper }

-- what a call knows of a shelf whose two logs have these names: a log may have 34,359,738,368
-- bytes, and in each slot is found what the shelf had under the name
abbrev pub filing_reading : {S : Type 0} → Shelf S → NamedLogs → S → S → Reading
filing_reading shelf logs old new = record {
  limit = longest_read;
  tells = shelf.tells old;
  log_of = λ log name. shelf.log_of old log (day_log_name logs log);
  before = shelf.slot old;
  after = shelf.slot new;
}

-- a database that is not there is made by `file` and `file-all` alone
abbrev pub missing_database : FilingCommand → MissingDatabase
missing_database (command.File the_rule symbol) = Make
missing_database (command.FileAll the_rule) = Make
missing_database command.Check = Refuse

-- What the answer is.

-- Filing is done where nothing is on file.
pub record FilesOnNothing (logs : Which → List ℕ → Option (List ℕ)) (request : FilingRequest)
    : Type 0 where
  pub turn : FilingTurn
  pub is : IsFilingTurn logs [] request turn
  pub done : turn.status ≡ status.Done

-- a command needs the database to check, or where filing is done if nothing is on file: not where
-- the logs alone are why nothing is filed
abbrev pub NeedsDatabase : (Which → List ℕ → Option (List ℕ)) → FilingRequest → Type 0
NeedsDatabase logs request = (request.command ≡ command.Check) ⊎ FilesOnNothing logs request

-- The answer is what the command leaves of these logs and of what is on file, and that is on file
-- afterwards.
pub record LeavesTurn (given : DigestedLogs) (request : FilingRequest) (the_status : CaseStatus)
    (text : List ℕ) (kept : List KeptCase) (keeper : DigestKeeperState) : Type 0 where
  pub left : List KeptCase
  pub is : IsTurnOfLogs given kept request
      (record { kept = left; text = text; status = the_status })
  pub kept_is : keeper.kept ≡ Some left

-- The command was answered over a database that was opened, and that it needed: where it is known
-- what is on file, by that and by the logs that were read; and only a command that is done changes
-- what is on file.
pub record AnswersOver (call : FilingCall) (given : DigestedLogs) (request : FilingRequest)
    (the_status : CaseStatus) (text : List ℕ) (keeper : DigestKeeperState) : Type 0 where
  pub opened : DigestKeeperState
  pub is_opened : IsDatabaseOpened call.opener_old request.database
      (missing_database request.command) opened
  pub turn : (kept : List KeptCase) → opened.kept ≡ Some kept
      → LeavesTurn given request the_status text kept keeper
  pub needed : call.reading.tells ≡ true → NeedsDatabase call.reading.log_of request
  pub stays : the_status ≢ status.Done → keeper.kept ≡ opened.kept

-- where the database was not opened, the answer is the same whatever is on file, and changes
-- nothing of it
abbrev pub AnswersBy : FilingCall → DigestedLogs → FilingRequest → CaseStatus → List ℕ
    → Option DigestKeeperState → Type 0
AnswersBy call given request the_status text None =
    (the_status ≢ status.Done) × ((kept : List KeptCase)
    → IsTurnOfLogs given kept request (unfiled_turn kept the_status text))
AnswersBy call given request the_status text (Some keeper) =
    AnswersOver call given request the_status text keeper

-- The command was answered of one pass over its logs: they were read as its status says, and the
-- answer is that of the bytes and digests that they gave and of what is on file.
pub record AnswersOfPass (call : FilingCall) (request : FilingRequest) (the_status : CaseStatus)
    (text : List ℕ) (pass : Reading) : Type 0 where
  pub read : ReadsLogsFor pass request.logs the_status
  pub by : OfDigestedLogs
      (λ given. AnswersBy call given request the_status text call.keeper) pass request.logs

-- the command was answered, of the last pass over its logs
abbrev pub AnswersRequest : FilingCall → FilingRequest → CaseStatus → List ℕ → Type 0
AnswersRequest call request the_status text =
    HoldsOfPass request.command (AnswersOfPass call request the_status text) call.reading
    request.logs

-- Why there is no answer.

-- The command has no answer though its database was opened, which it needed: what is on file is as
-- it was, and the keeper failed only where its faults rose or their count is at its greatest value.
pub record HaltsOver (call : FilingCall) (request : FilingRequest) (why : Halt)
    (keeper : DigestKeeperState) : Type 0 where
  pub opened : DigestKeeperState
  pub is_opened : IsDatabaseOpened call.opener_old request.database
      (missing_database request.command) opened
  pub needed : call.reading.tells ≡ true → NeedsDatabase call.reading.log_of request
  pub stays : keeper.kept ≡ opened.kept
  pub fault : why ≡ halt.KeeperFault → RoseOrIsFull opened.faults keeper.faults

-- The database was needed, and was refused.
pub record LacksDatabase (call : FilingCall) (request : FilingRequest) : Type 0 where
  pub needed : call.reading.tells ≡ true → NeedsDatabase call.reading.log_of request
  pub refused : IsDatabaseRefused call.opener_old call.opener_new request.database
      (missing_database request.command)

-- where the database was not opened, that is the keeper's fault only where it was needed and refused
abbrev pub HaltsBy : FilingCall → FilingRequest → Halt → Option DigestKeeperState → Type 0
HaltsBy call request why None = why ≡ halt.KeeperFault → LacksDatabase call request
HaltsBy call request why (Some keeper) = HaltsOver call request why keeper

-- The command has no answer for this cause, which is that of the last pass over its logs, and
-- nothing is filed: its line is written.
pub record HaltsRequest (call : FilingCall) (request : FilingRequest) (the_status : CaseStatus)
    (text : List ℕ) : Type 0 where
  pub why : Halt
  pub read : HoldsOfPass request.command (λ pass. ReadsLogsUpTo pass request.logs why)
      call.reading request.logs
  pub by : HaltsBy call request why call.keeper
  pub status_is : the_status ≡ halt_status why
  pub text_is : text ≡ halt_line why

-- What a call does for well-formed words: the command was answered, or there is no answer for a
-- cause; and the text was written with its status, or the sink failed.
pub record RunsRequest (call : FilingCall) (request : FilingRequest) (old new : SinkState)
    (answer : CaseStatus) : Type 0 where
  pub decided : CaseStatus
  pub text : List ℕ
  pub answers : AnswersRequest call request decided text ⊎ HaltsRequest call request decided text
  pub writes : WritesOrFails old new decided text answer

-- The headline.

-- the shelf has a log that is no longer than a log may be, and this holds of its bytes
abbrev pub HoldsLogWithin : Option (List ℕ) → (List ℕ → Type 0) → Type 0
HoldsLogWithin None holds = ⊥
HoldsLogWithin (Some bytes) holds = (length bytes ≤ longest_read) × holds bytes

-- where a log is in its grammar this holds too
abbrev pub WhereGoodLog : {R : Type 0} → Result R BadPlace → Type 0 → Type 0
WhereGoodLog (Ok records) next = next
WhereGoodLog (Err bad) next = Unit {0}

-- the shelf has the order log of a request, and where that is in its grammar the trade log
abbrev pub HoldsNamedLogs : (Which → List ℕ → Option (List ℕ)) → NamedLogs → Type 0
HoldsNamedLogs log_of logs = HoldsLogWithin (log_of Orders logs.orders)
    (λ orders. WhereGoodLog (records_of_order_log logs.orders_form orders)
    (HoldsLogWithin (log_of Trades logs.trades) (λ trades. Unit {0})))

-- All is there for an answer: it is known which logs the shelf has and what is under the path of
-- the database, the shelf has the logs, and no fault of shelf, opener, keeper or sink was counted,
-- nor is a count of faults at its greatest value.
pub record IsReadyToFile (call : FilingCall) (request : FilingRequest) (kept : List KeptCase)
    (old new : SinkState) : Type 0 where
  pub tells : call.reading.tells ≡ true
  pub holds : HoldsNamedLogs call.reading.log_of request.logs
  pub opener_tells : call.opener_old.tells ≡ true
  pub on_file : kept_once_opened (missing_database request.command)
      (call.opener_old.kept request.database) ≡ Some kept
  pub shelf : (log : Which)
      → ¬ RoseOrIsFull (call.reading.before log).faults (call.reading.after log).faults
  pub opener : ¬ RoseOrIsFull call.opener_old.faults call.opener_new.faults
  pub keeper : IfSome call.keeper (λ keeper. ¬ RoseOrIsFull 0 keeper.faults)
  pub sink : ¬ RoseOrIsFull old.faults new.faults

-- what is on file after a call before which this was: the same, where the database was not opened
abbrev pub kept_after : List KeptCase → Option DigestKeeperState → Option (List KeptCase)
kept_after kept None = Some kept
kept_after kept (Some keeper) = keeper.kept

-- Exactly the text of what the command leaves was written, its status is answered, and what it
-- leaves is on file.
pub record FilesTurn (call : FilingCall) (request : FilingRequest) (kept : List KeptCase)
    (old new : SinkState) (answer : CaseStatus) : Type 0 where
  pub turn : FilingTurn
  pub is : IsFilingTurn call.reading.log_of kept request turn
  pub status_is : answer ≡ turn.status
  pub wrote : Appends old.wrote new.wrote turn.text
  pub kept_is : kept_after kept call.keeper ≡ Some turn.kept

-- the headline: where all is there, status, text and what is on file are what the command leaves of
-- the logs and of what was on file, or memory ran out
abbrev pub FilesWhereReady : FilingCall → FilingRequest → SinkState → SinkState → CaseStatus
    → Type 0
FilesWhereReady call request old new answer = (kept : List KeptCase)
    → IsReadyToFile call request kept old new
    → FilesTurn call request kept old new answer ⊎ (answer ≡ status.Memory)

-- where both slots begin within the limit of a log and one ends outside it, the answer is that a
-- log is too long, or the line that says so could not be written
abbrev pub EndsWithinOrAnswers : Reading → CaseStatus → Type 0
EndsWithinOrAnswers r answer = BeginsWithin r
    → EndsWithin r ⊎ ((answer ≡ status.TooLong) ⊎ (answer ≡ status.WriteFault))

-- What a call says for well-formed words: the headline; each status with its cause, with what was
-- written and what stands on file; too long a log is answered as such; no count of faults of the
-- shelf fell.
pub record FilesRequest (call : FilingCall) (request : FilingRequest) (old new : SinkState)
    (answer : CaseStatus) : Type 0 where
  pub headline : FilesWhereReady call request old new answer
  pub runs : RunsRequest call request old new answer
  pub length : EndsWithinOrAnswers call.reading answer
  pub later : FaultsNeverFall call.reading

-- The words are not well-formed: the usage line was written, unless the sink failed; nothing was
-- done to shelf and opener, and no database is open.
pub record RefusesFilingWords {S : Type 0} (old new : S) (opener_old opener_new : DigestOpenerState)
    (keeper : Option DigestKeeperState) (sink_old sink_new : SinkState) (answer : CaseStatus)
    : Type 0 where
  pub writes : WritesOrFails sink_old sink_new status.Usage desk_usage_line answer
  pub shelf_same : new ≡ old
  pub opener_same : opener_new ≡ opener_old
  pub not_opened : keeper ≡ None

-- what a call says for its words: what well-formed words ask for is done, by an account of the bytes
-- that the shelf gave, and others are refused
abbrev pub FilesAsked : {S : Type 0} → Shelf S → S → S → Option FilingRequest → DigestOpenerState
    → DigestOpenerState → Option DigestKeeperState → SinkState → SinkState → CaseStatus → Type 0
FilesAsked shelf old new None opener_old opener_new keeper sink_old sink_new answer =
    RefusesFilingWords old new opener_old opener_new keeper sink_old sink_new answer
FilesAsked shelf old new (Some request) opener_old opener_new keeper sink_old sink_new answer =
    HoldsBySomeAccount
    (λ r. FilesRequest (filing_call r opener_old opener_new keeper) request sink_old sink_new
    answer) (filing_reading shelf request.logs old new)
