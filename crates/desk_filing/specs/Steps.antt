-- What private functions pass on to one another.
use Rattle.std.specs.Prelude.{◌≡◌, ◌≢◌, ◌⊎◌, ◌≤◌, ℕ, List, Option, Some, None, Result, Ok, IfOk, IsErrOf, MatchResult}
use Rattle.std.specs.List.{flat_map}
use Rattle.audit_base.specs.declared.faults.BadPlace.{BadPlace}
use Rattle.audit_base.specs.declared.findings.Finding.{Finding}
use Rattle.audit_base.specs.declared.records.OrderRecord.{OrderRecord}
use Rattle.audit_base.specs.declared.records.TradeRecord.{TradeRecord}
use Rattle.audit_base.specs.declared.terms.Which.{Which}
use Rattle.audit_base.specs.declared.terms.Which.TheVariants.{Orders, Trades}
use Rattle.audit_report.specs.Lines.{malformed_line}
use Rattle.case_keeper.specs.declared.case.Case.{Case}
use Rattle.case_keeper.specs.declared.keeper.KeepFault.{KeepFault}
use Rattle.case_keeper.specs.declared.keeper.KeepFault.TheVariants as fault
use Rattle.case_run.specs.Causes.{halt_line, halt_status}
use Rattle.case_run.specs.Lines.{case_line}
use Rattle.case_run.specs.Writing.{WritesNoLine, WritesOrFails}
use Rattle.case_run.specs.declared.halts.Halt.{Halt}
use Rattle.case_run.specs.declared.halts.Halt.TheVariants as halt
use Rattle.case_run.specs.declared.statuses.CaseStatus.{CaseStatus}
use Rattle.case_run.specs.declared.statuses.CaseStatus.TheVariants as status
use Rattle.command_words.specs.declared.requests.WordsFault.{WordsFault}
use Rattle.command_words.specs.declared.requests.WordsFault.TheVariants as words_fault
use Rattle.desk_words.specs.Texts.{desk_usage_line}
use Rattle.desk_words.specs.declared.requests.NamedLogs.{NamedLogs}
use Rattle.digest_keeper.specs.DigestKeepers.{DigestKeeperState}
use Rattle.digest_keeper.specs.KeptCases.{kept_under}
use Rattle.log_digests.specs.declared.digests.LogDigests.{LogDigests}
use Rattle.digest_keeper.specs.declared.digested.DigestedCase.{DigestedCase}
use Rattle.digest_keeper.specs.declared.digested.KeptCase.{KeptCase}
use Rattle.desk_filing.specs.Causes.{HoldsOfPass, OfDigestedLogs, ReadsBadLog, ReadsGoodLogs, ReadsLogsFor, ReadsLogsUpTo}
use Rattle.desk_filing.specs.Runs.{AnswersRequest, FilingCall, HaltsRequest}
use Rattle.desk_filing.specs.Turns.{FilingTurn, IsTurnOfLogs, filed_turn, first_known, unfiled_turn}
use Rattle.case_run.specs.declared.answers.CaseAnswer.{CaseAnswer}
use Rattle.desk_filing.specs.declared.answers.FilingOutcome.{FilingOutcome}
use Rattle.desk_filing.specs.declared.answers.FilingOutcome.TheVariants as judged
use Rattle.desk_filing.specs.declared.requests.FilingCommand.TheVariants.{Check}
use Rattle.desk_filing.specs.declared.requests.FilingRequest.{FilingRequest}
use Rattle.log_source.specs.Sinks.{SinkState}
use Rattle.log_source.specs.Sources.{RoseOrIsFull}
use Rattle.log_verdict.specs.LogVerdicts.{records_of_order_log, trades_of_trade_log}
use Rattle.log_verdict.specs.Steps.{Reading, FaultsNeverFall, IsRead, step_of}
use Rattle.log_verdict.specs.declared.sources.Source.{Source}

-- the lines of cases, in their order
abbrev pub case_lines : List DigestedCase → List ℕ
case_lines cases = flat_map (λ one. case_line one.case) cases

-- Two logs.

-- These are the sources of the logs of a request: their names and forms.
pub record NamesLogs (logs : NamedLogs) (orders trades : Source) : Type 0 where
  pub orders_name : orders.name.now ≡ logs.orders
  pub trades_name : trades.name.now ≡ logs.trades
  pub orders_form : orders.form ≡ logs.orders_form
  pub trades_form : trades.form ≡ logs.trades_form

-- Both logs were read, are in their grammar, and this holds of their records.
pub record ReadsRecords (r : Reading) (logs : NamedLogs)
    (of_records : List OrderRecord → Result (List TradeRecord) Finding → Type 0) : Type 0 where
  pub orders : List ℕ
  pub trades : List ℕ
  pub entries : List OrderRecord
  pub paired : Result (List TradeRecord) Finding
  pub orders_say : records_of_order_log logs.orders_form orders ≡ Ok entries
  pub trades_say : trades_of_trade_log logs.trades_form trades ≡ Ok paired
  pub orders_read : IsRead r (step_of r Orders logs.orders) orders
  pub trades_read : IsRead r (step_of r Trades logs.trades) trades
  pub holds : of_records entries paired
  pub good : ReadsGoodLogs r logs

-- A log was read that is not in its grammar, and this holds of its first bad place.
pub record ReadsBadPlace (r : Reading) (logs : NamedLogs) (of_bad : Which → BadPlace → Type 0)
    : Type 0 where
  pub log : Which
  pub bad : BadPlace
  pub holds : of_bad log bad
  pub read : ReadsBadLog r logs
  pub turn : OfDigestedLogs (λ given. (kept : List KeptCase) (request : FilingRequest)
      → request.logs ≡ logs → IsTurnOfLogs given kept request
      (unfiled_turn kept status.Malformed (malformed_line log bad))) r logs

-- whatever the records are
abbrev pub AnyRecords : List OrderRecord → Result (List TradeRecord) Finding → Type 0
AnyRecords entries paired = Unit {0}

-- Judging.

-- These are the cases that the command files of two logs that were read.
pub record ReadsCases (r : Reading) (request : FilingRequest) (cases : List DigestedCase)
    : Type 0 where
  pub read : ReadsGoodLogs r request.logs
  pub turn : OfDigestedLogs (λ given. (kept : List KeptCase)
      → IsTurnOfLogs given kept request (filed_turn kept cases)) r request.logs

-- This is the answer to two logs of which nothing is filed.
pub record ReadsRefusal (r : Reading) (request : FilingRequest) (answer : CaseAnswer) : Type 0 where
  pub read : ReadsLogsFor r request.logs answer.status
  pub not_done : answer.status ≢ status.Done
  pub turn : OfDigestedLogs (λ given. (kept : List KeptCase)
      → IsTurnOfLogs given kept request (unfiled_turn kept answer.status answer.text.items))
      r request.logs

-- what two logs come to
abbrev pub ReadsJudged : Reading → FilingRequest → FilingOutcome → Type 0
ReadsJudged r request (judged.Cases cases) = ReadsCases r request cases.items
ReadsJudged r request (judged.Refused answer) = ReadsRefusal r request answer

-- Reading stopped for this cause, and the keeper was not asked.
pub record StopsReading (r : Reading) (request : FilingRequest) (why : Halt) : Type 0 where
  pub read : ReadsLogsUpTo r request.logs why
  pub no_keeper : why ≢ halt.KeeperFault

-- what two logs come to, or why that is not known
abbrev pub JudgesLogs : Reading → FilingRequest → Result FilingOutcome Halt → Type 0
JudgesLogs r request result = MatchResult result (ReadsJudged r request) (StopsReading r request)

-- both logs are in their grammar, or this is the answer to them
abbrev pub LooksAtLogs : Reading → FilingRequest → Option CaseAnswer → Type 0
LooksAtLogs r request None = ReadsRecords r request.logs AnyRecords
LooksAtLogs r request (Some answer) = ReadsRefusal r request answer

-- The keeper.

-- Asked for a list of cases, the keeper gave the first whose label has a case on file, by that
-- case.
pub record FindsFirst (old new : DigestKeeperState) (cases : List DigestedCase)
    (result : Result (Option KeptCase) KeepFault) : Type 0 where
  pub later : old.faults ≤ new.faults
  pub cause : IsErrOf result fault.Failed → RoseOrIsFull old.faults new.faults
  pub stays : new.kept ≡ old.kept
  pub known : IfOk result (λ found.
      (kept : List KeptCase) → old.kept ≡ Some kept → found ≡ first_known kept cases)

-- No case so far has a label that is on file.
pub record FoundNoneSoFar (old now : DigestKeeperState) (cases rest : List DigestedCase)
    : Type 0 where
  pub later : old.faults ≤ now.faults
  pub stays : now.kept ≡ old.kept
  pub left : (kept : List KeptCase) → old.kept ≡ Some kept
      → first_known kept cases ≡ first_known kept rest

-- The keeper did not do what it was asked: what is on file is as it was.
pub record StopsKeeping (old new : DigestKeeperState) (why : Halt) : Type 0 where
  pub fault : why ≡ halt.KeeperFault → RoseOrIsFull old.faults new.faults
  pub of_keeper : (why ≡ halt.KeeperFault) ⊎ (why ≡ halt.Memory)
  pub stays : new.kept ≡ old.kept

-- The answer is that of this turn, and what is on file is what it leaves.
pub record AnswersAsFiled (turn : FilingTurn) (new : DigestKeeperState) (answer : CaseAnswer)
    : Type 0 where
  pub status_is : turn.status ≡ answer.status
  pub text_is : turn.text ≡ answer.text.items
  pub kept_is : new.kept ≡ Some turn.kept

-- The answer is that of filing these cases.
pub record FilesCases (old new : DigestKeeperState) (cases : List DigestedCase) (answer : CaseAnswer)
    : Type 0 where
  pub known : (kept : List KeptCase) → old.kept ≡ Some kept
      → AnswersAsFiled (filed_turn kept cases) new answer
  pub stays : answer.status ≢ status.Done → new.kept ≡ old.kept
  pub of_keeper : (answer.status ≡ status.Done) ⊎ (answer.status ≡ status.Refused)

-- the cases were filed, or one was known, or the keeper did not do what it was asked
abbrev pub FilesOrStops : DigestKeeperState → DigestKeeperState → List DigestedCase
    → Result CaseAnswer Halt → Type 0
FilesOrStops old new cases result =
    MatchResult result (FilesCases old new cases) (StopsKeeping old new)

-- Checking.

-- A second reading begins where the first ended, over the same shelf.
pub record GoesOn (first second : Reading) : Type 0 where
  pub limit : second.limit ≡ first.limit
  pub tells : second.tells ≡ first.tells
  pub logs : second.log_of ≡ first.log_of
  pub begins : second.before ≡ first.after
  pub later : FaultsNeverFall first

-- the reading of both: it begins where the first begins, and ends where the second ends
abbrev pub both_readings : Reading → Reading → Reading
both_readings first second = record first { after = second.after }

-- The answer is that about the case that is on file under the label, or about none.
pub record TellsOfKept (request : FilingRequest) (found : Option KeptCase) (answer : CaseAnswer)
    (r : Reading) : Type 0 where
  pub read : ReadsLogsFor r request.logs answer.status
  pub turn : OfDigestedLogs (λ given. (kept : List KeptCase)
      → kept_under kept request.label ≡ found → IsTurnOfLogs given kept request
      (unfiled_turn kept answer.status answer.text.items)) r request.logs

-- the answer about a case and its digests, or why there is none
abbrev pub ComparesOrStops : Reading → FilingRequest → Case → LogDigests → Result CaseAnswer Halt
    → Type 0
ComparesOrStops r request case filed result =
    MatchResult result
    (λ answer. TellsOfKept request (Some (record { case = case; digests = Some filed })) answer r)
    (StopsReading r request)

-- the answer about the case that is on file, or why there is none, of one pass or of two
abbrev pub ChecksKept : Reading → FilingRequest → Option KeptCase → Result CaseAnswer Halt → Type 0
ChecksKept r request found result =
    MatchResult result
    (λ answer. HoldsOfPass Check (TellsOfKept request found answer) r request.logs)
    (λ why. HoldsOfPass Check (λ pass. StopsReading pass request why) r request.logs)

-- The answer is that of checking.
pub record ChecksPass (old : DigestKeeperState) (request : FilingRequest) (answer : CaseAnswer)
    (r : Reading) : Type 0 where
  pub read : ReadsLogsFor r request.logs answer.status
  pub turn : OfDigestedLogs (λ given. (kept : List KeptCase) → old.kept ≡ Some kept
      → IsTurnOfLogs given kept request (unfiled_turn kept answer.status answer.text.items))
      r request.logs

-- The answer is that of checking, and what is on file stays.
pub record ChecksLogs (r : Reading) (old new : DigestKeeperState) (request : FilingRequest)
    (answer : CaseAnswer) : Type 0 where
  pub passes : HoldsOfPass Check (ChecksPass old request answer) r request.logs
  pub stays : new.kept ≡ old.kept

-- Checking stopped for this cause, and what is on file stays.
pub record StopsChecking (r : Reading) (old new : DigestKeeperState) (request : FilingRequest)
    (why : Halt) : Type 0 where
  pub read : HoldsOfPass Check (λ pass. ReadsLogsUpTo pass request.logs why) r request.logs
  pub stays : new.kept ≡ old.kept
  pub fault : why ≡ halt.KeeperFault → RoseOrIsFull old.faults new.faults

-- the answer of checking, or why there is none
abbrev pub ChecksOrStops : Reading → DigestKeeperState → DigestKeeperState → FilingRequest
    → Result CaseAnswer Halt → Type 0
ChecksOrStops r old new request result =
    MatchResult result (ChecksLogs r old new request) (StopsChecking r old new request)

-- The whole call.

-- what is written: the answer to a request, or the line of why there is none
abbrev pub DecidesRequest : FilingCall → FilingRequest → Result CaseAnswer Halt → Type 0
DecidesRequest call request result =
    MatchResult result (λ answer. AnswersRequest call request answer.status answer.text.items)
    (λ why. HaltsRequest call request (halt_status why) (halt_line why))

-- words that ask for nothing: the usage line was written, or the sink failed; where memory ran out
-- nothing was written
abbrev pub RefusesWords : WordsFault → SinkState → SinkState → CaseStatus → Type 0
RefusesWords words_fault.Usage old new answer =
    WritesOrFails old new status.Usage desk_usage_line answer
RefusesWords words_fault.Memory old new answer = WritesNoLine old new answer
