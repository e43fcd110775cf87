-- The laws of calls that run a command, as statements about one command.
use Rattle.std.specs.Prelude.{◌≡◌, ◌≤◌, ◌⊎◌, ℕ, true, List, [], ◌∷◌, None, Ok, Err, Result, MatchResult}
use Rattle.std.specs.Io.KnownBytes.{Appends}
use Rattle.audit_base.specs.declared.faults.BadPlace.{BadPlace}
use Rattle.audit_base.specs.declared.findings.Finding.{Finding}
use Rattle.audit_base.specs.declared.records.OrderRecord.{OrderRecord}
use Rattle.audit_base.specs.declared.records.TradeRecord.{TradeRecord}
use Rattle.audit_base.specs.declared.terms.Which.{Which}
use Rattle.audit_base.specs.declared.terms.Which.TheVariants.{Orders, Trades}
use Rattle.audit_report.specs.declared.statuses.Status.{Status}
use Rattle.audit_report.specs.declared.statuses.Status.TheVariants.{Memory}
use Rattle.audit_report.specs.declared.verdicts.Verdict.TheVariants.{Malformed}
use Rattle.log_source.specs.Sinks.{SinkState}
use Rattle.log_verdict.specs.declared.sources.Source.{Source}
use Rattle.log_verdict.specs.declared.stops.Stop.{Stop}
use Rattle.log_verdict.specs.declared.stops.Stop.TheVariants as stop
use Rattle.log_verdict.specs.declared.stops.NoRecords.{NoRecords}
use Rattle.log_verdict.specs.BothLogs.{IsLogStop, IsStopOfTwoLogs, IsUnreadOfTwoLogs, ReadsLogs}
use Rattle.log_verdict.specs.BothLogs.{StaysWithin, StaysWithinAt}
use Rattle.log_verdict.specs.Collecting.{TouchesOnly}
use Rattle.log_verdict.specs.LogVerdicts.{OfLogs, log_in, records_of_order_log, trades_of_trade_log}
use Rattle.log_verdict.specs.Steps.{FaultsNeverFall, IsRead, Reading, step_of}
use Rattle.command_run.specs.declared.answers.Answer.{Answer}
use Rattle.command_run.specs.Commands.{Command, StartsAnyTwo, StartsBoth, StartsOne, log_read_at}
use Rattle.command_run.specs.Deciding.{DecidesAnswer, DecidesBytes, DecidesWithout, IsStatusOfLogs, ReadingStops}
use Rattle.command_run.specs.InTurn.{ReadsInTurn, reading_of_both}
use Rattle.command_run.specs.VerdictAnswers.{IsVerdictAnswer}
use Rattle.command_run.specs.Runs.{AllIsThere, AnswersCommand, HoldsNeededLogs}
use Rattle.command_run.specs.Runs.{IsAnswerToReadLogs, ReadingDecides, WritesAnswer}

-- where all is there for an answer, whatever was answered with its cause is that answer, written
-- whole, or memory ran out
abbrev pub HeldLogsAreAnswered : Command → Type 0
HeldLogsAreAnswered command =
    (r : Reading) (logs : List (List ℕ)) (old new : SinkState) (status : Status)
    → AllIsThere r command logs old new → AnswersCommand r command old new status
    → WritesAnswer command logs old new status

-- where it is known what the shelf has, the answer to the logs that were read is that to the logs
-- that it holds
abbrev pub HeldLogsAreRead : Command → Type 0
HeldLogsAreRead command =
    (r : Reading) (logs : List (List ℕ)) (status : Status) (text : List ℕ) → r.tells ≡ true
    → HoldsNeededLogs r command [] logs → IsAnswerToReadLogs r command status text
    → command.is_answer logs status text

-- Two calls answered the same status, and each appended the same text to what its sink held.
pub record WroteOne (one_old one_new other_old other_new : SinkState)
    (one other : Status) : Type 0 where
  pub status : one ≡ other
  pub text : List ℕ
  pub wrote : Appends one_old.wrote one_new.wrote text
  pub wrote_too : Appends other_old.wrote other_new.wrote text

-- the command has one answer to the same logs
abbrev pub HasOneAnswer : Command → Type 0
HasOneAnswer command = (logs : List (List ℕ)) (one other : Status) (text other_text : List ℕ)
    → command.is_answer logs one text → command.is_answer logs other other_text
    → (one ≡ other) × (text ≡ other_text)

-- of a command that has one answer, two calls for both of which the same logs are there either
-- answer the same and write the same, or one runs out of memory
abbrev pub CallsAgree : Command → Type 0
CallsAgree command = HasOneAnswer command → (logs : List (List ℕ))
    (one_old one_new other_old other_new : SinkState) (one other : Status)
    → WritesAnswer command logs one_old one_new one
    → WritesAnswer command logs other_old other_new other
    → (one ≡ Memory)
    ⊎ ((other ≡ Memory) ⊎ WroteOne one_old one_new other_old other_new one other)

-- the answer to all the logs that a command needs, each of which was read to its end, is what
-- their reading decides
abbrev pub ReadLogsDecide : Command → Type 0
ReadLogsDecide command = (r : Reading) (status : Status) (text : List ℕ)
    → IsStatusOfLogs status → IsAnswerToReadLogs r command status text
    → ReadingDecides r command status text

-- What is read of one log, or of none.

-- what is decided of the one log of a command is decided of the whole call
abbrev pub OneLogDecides : Command → Type 0
OneLogDecides command = (r : Reading) (log : Which) (name : List ℕ) (result : Result Answer Stop)
    → TouchesOnly r log → StartsOne command log name
    → ((bytes : List ℕ) (status : Status) (text : List ℕ)
    → command.is_answer (bytes ∷ []) status text → IsStatusOfLogs status)
    → DecidesBytes r log name (λ bytes. command.is_answer (bytes ∷ [])) result
    → DecidesAnswer r command result

-- The answer is that of a command to no logs, with a status of an answer.
pub record IsAnswerToNone (command : Command) (answer : Answer) : Type 0 where
  pub is : command.is_answer [] answer.status answer.text.items
  pub status_of_logs : IsStatusOfLogs answer.status

-- a command that needs no log answers without one
abbrev pub NoLogDecides : Command → Type 0
NoLogDecides command = (r : Reading) (result : Result Answer Stop)
    → ((log : Which) → r.after log ≡ r.before log) → command.next [] ≡ None
    → MatchResult result (IsAnswerToNone command) (λ why. why ≡ stop.Memory)
    → DecidesAnswer r command result

-- What is read of both logs.

-- What a command that starts both logs answers by the records of both, or by the first bad place:
-- this status and this text, which are of an answer to whatever logs that give it, after which
-- the command needs no third log.
pub record AnswersBoth (command : Command) (orders trades : Source)
    (of_records : List OrderRecord → Result (List TradeRecord) Finding → Type 0)
    (of_bad : Which → BadPlace → Type 0) (the_status : Status) (text : List ℕ) : Type 0 where
  pub starts : StartsBoth command orders trades
  pub answer : (logs : List (List ℕ)) → log_read_at logs 2 ≡ []
      → OfLogs of_records of_bad (log_in orders.form (log_read_at logs 0))
      (log_in trades.form (log_read_at logs 1))
      → command.is_answer logs the_status text
  pub ends : (first second : List ℕ) (entries : List OrderRecord)
      → records_of_order_log orders.form first ≡ Ok entries
      → MatchResult (trades_of_trade_log trades.form second) (of_records entries) (of_bad Trades)
      → command.next (first ∷ second ∷ []) ≡ None
  pub status_of_logs : (logs : List (List ℕ)) → command.is_answer logs the_status text
      → IsStatusOfLogs the_status

-- what both logs give decides the command
abbrev pub BothLogsDecide : {G : Type 0}
    → (G → List OrderRecord → Result (List TradeRecord) Finding → Type 0)
    → (G → Which → BadPlace → Type 0) → Command → Type 0
BothLogsDecide {G = G} of_records of_bad command = (given : G) (r : Reading)
    (orders trades : Source) (the_status : Status) (text : List ℕ) → FaultsNeverFall r
    → AnswersBoth command orders trades (of_records given) (of_bad given) the_status text
    → ReadsLogs r orders trades (of_records given) (of_bad given)
    → ReadingDecides r command the_status text

-- What a command that starts both logs answers where one of them has a first bad place: its line,
-- to whatever logs that have it, after which the command needs no third log.
pub record AnswersBadPlace (command : Command) (orders trades : Source) : Type 0 where
  pub starts : StartsBoth command orders trades
  pub answer : (log : Which) (bad : BadPlace) (the_status : Status) (text : List ℕ)
      → IsVerdictAnswer (Malformed log bad) the_status text
      → (logs : List (List ℕ)) → log_read_at logs 2 ≡ []
      → OfLogs (λ entries paired. ⊥) (λ which place. (which ≡ log) × (place ≡ bad))
      (log_in orders.form (log_read_at logs 0)) (log_in trades.form (log_read_at logs 1))
      → command.is_answer logs the_status text
  pub ends : (bad : BadPlace) (first second : List ℕ) (entries : List OrderRecord)
      → records_of_order_log orders.form first ≡ Ok entries
      → trades_of_trade_log trades.form second ≡ Err bad
      → command.next (first ∷ second ∷ []) ≡ None

-- why both logs were not read into records decides the command
abbrev pub BothLogsUnread : Command → Type 0
BothLogsUnread command = (r : Reading) (orders trades : Source) (why : NoRecords)
    (result : Result Answer Stop) → FaultsNeverFall r → AnswersBadPlace command orders trades
    → IsUnreadOfTwoLogs r orders trades why → DecidesWithout why result
    → DecidesAnswer r command result

-- why nothing is known of both logs decides the command
abbrev pub BothLogsStop : Command → Type 0
BothLogsStop command = (r : Reading) (orders trades : Source) (the_stop : Stop)
    → FaultsNeverFall r → StartsBoth command orders trades
    → IsStopOfTwoLogs r orders trades the_stop → ReadingStops r command the_stop

-- What is read of both logs, whatever is in them.

-- why the order log was not read decides the command, which starts it first
abbrev pub FirstLogStops : Command → Type 0
FirstLogStops command = (r : Reading) (orders trades : List ℕ) (the_stop : Stop)
    → TouchesOnly r Orders → StartsAnyTwo command orders trades → IsLogStop r Orders orders the_stop
    → ReadingStops r command the_stop

-- what is decided of the trade log, after an order log with these bytes that was read to its end,
-- is decided of the whole call
abbrev pub SecondLogDecides : Command → Type 0
SecondLogDecides command = (first second : Reading) (orders trades bytes : List ℕ)
    (result : Result Answer Stop) → ReadsInTurn first second → StartsAnyTwo command orders trades
    → ((logs : List (List ℕ)) (status : Status) (text : List ℕ)
    → command.is_answer logs status text → IsStatusOfLogs status)
    → IsRead first (step_of first Orders orders) bytes
    → DecidesBytes second Trades trades (λ later. command.is_answer (bytes ∷ later ∷ [])) result
    → DecidesAnswer (reading_of_both first second) command result

-- two readings in turn let no count of faults fall
abbrev pub InTurnFaultsNeverFall : Type 0
InTurnFaultsNeverFall = (first second : Reading) → ReadsInTurn first second
    → FaultsNeverFall (reading_of_both first second)

-- after an order log that was not too long, what is answered says so where the trade log is
abbrev pub InTurnStaysWithin : Type 0
InTurnStaysWithin = (first second : Reading) (result : Result Answer Stop)
    → ReadsInTurn first second → (first.after Orders).taken ≤ first.limit
    → StaysWithinAt second Trades result → StaysWithin (reading_of_both first second) result
