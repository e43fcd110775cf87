-- What was read of the two logs of a request, and why a command has no answer. Two logs are gone
-- over once where the order log is read, and then, where that is in its grammar, the trade log.
use Rattle.std.specs.Prelude.{◌≡◌, ◌⊎◌, ℕ, Bool, true, false, List, MatchResult, length, is_ok}
use Rattle.audit_base.specs.declared.terms.Which.{Which}
use Rattle.audit_base.specs.declared.terms.Which.TheVariants.{Orders, Trades}
use Rattle.case_run.specs.declared.halts.Halt.{Halt}
use Rattle.case_run.specs.declared.halts.Halt.TheVariants as halt
use Rattle.case_run.specs.declared.statuses.CaseStatus.{CaseStatus}
use Rattle.case_run.specs.declared.statuses.CaseStatus.TheVariants as status
use Rattle.desk_words.specs.declared.requests.NamedLogs.{NamedLogs}
use Rattle.desk_filing.specs.Turns.{DigestedLogs}
use Rattle.desk_filing.specs.declared.requests.FilingCommand.{FilingCommand}
use Rattle.desk_filing.specs.declared.requests.FilingCommand.TheVariants as command
use Rattle.log_digests.specs.Digests.{digest_of}
use Rattle.log_source.specs.Sources.{Slot}
use Rattle.log_verdict.specs.LogVerdicts.{records_of_order_log, trades_of_trade_log}
use Rattle.log_verdict.specs.Steps.{Reading, LogStep, FaultsNeverFall, IsRead, IsReadAs, IsReadFault, IsTooLong, IsUntouched, step_of}

-- the name of a log
abbrev pub day_log_name : NamedLogs → Which → List ℕ
day_log_name logs Orders = logs.orders
day_log_name logs Trades = logs.trades

-- a log of these bytes is in its grammar
abbrev pub is_good_log : NamedLogs → Which → List ℕ → Bool
is_good_log logs Orders bytes = is_ok (records_of_order_log logs.orders_form bytes)
is_good_log logs Trades bytes = is_ok (trades_of_trade_log logs.trades_form bytes)

-- the log was started once and read to its end, and is in its grammar, or not; where it is known
-- what the shelf has, it is what that has under its name
abbrev pub ReadsLogAs : Reading → NamedLogs → Which → Bool → Type 0
ReadsLogAs r logs log good =
    IsReadAs r log (day_log_name logs log) (λ bytes. is_good_log logs log bytes ≡ good)

-- both logs were read to their ends, and are in their grammar
abbrev pub ReadsGoodLogs : Reading → NamedLogs → Type 0
ReadsGoodLogs r logs = (log : Which) → ReadsLogAs r logs log true

-- it is a log's turn: the order log's, while the trade log is left alone; and the trade log's where
-- the order log was read to its end and is in its grammar
abbrev pub IsLogInTurn : Reading → NamedLogs → Which → Type 0
IsLogInTurn r logs Orders = IsUntouched r Trades
IsLogInTurn r logs Trades = ReadsLogAs r logs Orders true

-- A log was started in its turn and read to its end, and is not in its grammar.
pub record ReadsBadLog (r : Reading) (logs : NamedLogs) : Type 0 where
  pub log : Which
  pub in_turn : IsLogInTurn r logs log
  pub bad : ReadsLogAs r logs log false

-- what was read of the logs of a command that was answered with this status; none is answered with
-- a status other than 0, 1 and 3
abbrev pub ReadsLogsFor : Reading → NamedLogs → CaseStatus → Type 0
ReadsLogsFor r logs status.Done = ReadsGoodLogs r logs
ReadsLogsFor r logs status.Refused = ReadsGoodLogs r logs
ReadsLogsFor r logs status.Malformed = ReadsBadLog r logs
ReadsLogsFor r logs status.Usage = ⊥
ReadsLogsFor r logs status.ReadFault = ⊥
ReadsLogsFor r logs status.WriteFault = ⊥
ReadsLogsFor r logs status.TooLong = ⊥
ReadsLogsFor r logs status.Memory = ⊥
ReadsLogsFor r logs status.KeeperFault = ⊥

-- A log was started once in its turn, and this became of it.
pub record StopsAtLog (is : Reading → LogStep → Type 0) (r : Reading) (logs : NamedLogs)
    (log : Which) : Type 0 where
  pub in_turn : IsLogInTurn r logs log
  pub holds : is r (step_of r log (day_log_name logs log))

-- what was read of the logs of a command that has no answer for this cause: a log could not be
-- read, or is too long; the keeper is asked only after both were read and are in their grammar
abbrev pub ReadsLogsUpTo : Reading → NamedLogs → Halt → Type 0
ReadsLogsUpTo r logs (halt.ReadFault log) = StopsAtLog IsReadFault r logs log
ReadsLogsUpTo r logs (halt.TooLong log) = StopsAtLog IsTooLong r logs log
ReadsLogsUpTo r logs halt.KeeperFault = ReadsGoodLogs r logs
ReadsLogsUpTo r logs halt.Memory = Unit {0}

-- Both logs were gone over and are in their grammar, no count of faults fell, and then they were
-- gone over again, which this holds of.
pub record HoldsOfSecond (holds : Reading → Type 0) (r : Reading) (logs : NamedLogs) : Type 0 where
  pub between : Which → Slot
  pub first : ReadsGoodLogs (record r { after = between }) logs
  pub later : FaultsNeverFall (record r { after = between })
  pub second : holds (record r { before = between })

-- this holds of how the two logs were gone over: once by `file` and `file-all`; and by `check` once
-- too, or twice, and then it holds of the second time
abbrev pub HoldsOfPass : FilingCommand → (Reading → Type 0) → Reading → NamedLogs → Type 0
HoldsOfPass (command.File the_rule symbol) holds r logs = holds r
HoldsOfPass (command.FileAll the_rule) holds r logs = holds r
HoldsOfPass command.Check holds r logs = holds r ⊎ HoldsOfSecond holds r logs

-- A log was started once and read to its end. These are its bytes, whether it is known what the
-- shelf has or not, and the digest is theirs.
pub record ReadsDigestedLog (r : Reading) (log : Which) (name bytes digest : List ℕ)
    : Type 0 where
  pub read : IsRead r (step_of r log name) bytes
  pub digest_is : digest ≡ digest_of bytes

-- Two logs were gone over once, and gave these bytes and digests; a trade log is left alone where
-- the order log is not in its grammar.
pub record ReadsDigestedLogs (r : Reading) (logs : NamedLogs) (given : DigestedLogs) : Type 0 where
  pub orders : ReadsDigestedLog r Orders logs.orders given.orders given.digests.orders
  pub trades : MatchResult (records_of_order_log logs.orders_form given.orders)
      (λ entries. ReadsDigestedLog r Trades logs.trades given.trades given.digests.trades)
      (λ bad. IsUntouched r Trades)

-- Two logs were gone over once, and this holds of the bytes and digests that they gave.
pub record OfDigestedLogs (holds : DigestedLogs → Type 0) (r : Reading) (logs : NamedLogs)
    : Type 0 where
  pub given : DigestedLogs
  pub reads : ReadsDigestedLogs r logs given
  pub is : holds given
