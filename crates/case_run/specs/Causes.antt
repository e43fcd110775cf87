-- What was read of the logs that a command names, and why a command is halted.
use Rattle.std.specs.Prelude.{◌≡◌, ℕ, IsOk, is_ok, false, List, []}
use Rattle.audit_base.specs.declared.terms.Form.{Form}
use Rattle.audit_base.specs.declared.terms.Which.{Which}
use Rattle.audit_base.specs.declared.terms.Which.TheVariants.{Orders, Trades}
use Rattle.audit_report.specs.Lines.{read_fault_line, too_long_line}
use Rattle.log_verdict.specs.LogVerdicts.{records_of_order_log, trades_of_trade_log}
use Rattle.log_verdict.specs.Steps.{Reading, LogStep, IsReadFault, IsTooLong, step_of, IsReadAs, IsUntouched}
use Rattle.case_keeper.specs.Keepers.{KeeperState}
use Rattle.log_source.specs.Sources.{RoseOrIsFull}
use Rattle.case_run.specs.Lines.{keeper_fault_line}
use Rattle.case_run.specs.declared.commands.CaseCommand.{CaseCommand}
use Rattle.case_run.specs.declared.commands.CaseCommand.TheVariants as command
use Rattle.case_run.specs.declared.commands.Filing.{Filing}
use Rattle.case_run.specs.declared.halts.Halt.{Halt}
use Rattle.case_run.specs.declared.halts.Halt.TheVariants as halt
use Rattle.case_run.specs.declared.statuses.CaseStatus.{CaseStatus}
use Rattle.case_run.specs.declared.statuses.CaseStatus.TheVariants as status

-- the name of a log of a filing
abbrev pub filing_log_name : Filing → Which → List ℕ
filing_log_name wanted Orders = wanted.orders
filing_log_name wanted Trades = wanted.trades

-- a log of these bytes is not in its grammar
abbrev pub IsBadLog : Which → Form → List ℕ → Type 0
IsBadLog Orders form bytes = is_ok (records_of_order_log form bytes) ≡ false
IsBadLog Trades form bytes = is_ok (trades_of_trade_log form bytes) ≡ false

-- no log was started
abbrev pub StartsNoLog : Reading → Type 0
StartsNoLog r = (log : Which) → r.after log ≡ r.before log

-- the logs that the command names were read to their end, and are in their grammar; `list` and
-- `show` name none, and start none
abbrev pub ReadsGoodLogs : Reading → CaseCommand → Type 0
ReadsGoodLogs r (command.File wanted) =
    IsReadAs r Orders wanted.orders (λ bytes. IsOk (records_of_order_log wanted.form bytes))
    × IsReadAs r Trades wanted.trades (λ bytes. IsOk (trades_of_trade_log wanted.form bytes))
ReadsGoodLogs r (command.List filter) = StartsNoLog r
ReadsGoodLogs r (command.Show label) = StartsNoLog r

-- a log of a filing was started in its turn: the order log while the trade log was left alone, or
-- the trade log after an order log that was read to its end and is in its grammar
abbrev pub IsFilingLogInTurn : Reading → Filing → Which → Type 0
IsFilingLogInTurn r wanted Orders = IsUntouched r Trades
IsFilingLogInTurn r wanted Trades =
    IsReadAs r Orders wanted.orders (λ bytes. IsOk (records_of_order_log wanted.form bytes))

-- A log that the filing names was started in its turn and read to its end, and is not in its
-- grammar.
pub record ReadsBadFilingLog (r : Reading) (wanted : Filing) (log : Which) : Type 0 where
  pub in_turn : IsFilingLogInTurn r wanted log
  pub bad : IsReadAs r log (filing_log_name wanted log) (IsBadLog log wanted.form)

-- the same of one of the logs that the command names; `list` and `show` name none
abbrev pub ReadsBadLog : Reading → CaseCommand → Type 0
ReadsBadLog r (command.File wanted) = (log : Which) × ReadsBadFilingLog r wanted log
ReadsBadLog r (command.List filter) = ⊥
ReadsBadLog r (command.Show label) = ⊥

-- what was read of the logs of a command that was answered with this status; no command is answered
-- with a status other than 0, 1 and 3
abbrev pub ReadsLogsFor : Reading → CaseCommand → CaseStatus → Type 0
ReadsLogsFor r the_command status.Done = ReadsGoodLogs r the_command
ReadsLogsFor r the_command status.Refused = ReadsGoodLogs r the_command
ReadsLogsFor r the_command status.Malformed = ReadsBadLog r the_command
ReadsLogsFor r the_command status.Usage = ⊥
ReadsLogsFor r the_command status.ReadFault = ⊥
ReadsLogsFor r the_command status.WriteFault = ⊥
ReadsLogsFor r the_command status.TooLong = ⊥
ReadsLogsFor r the_command status.Memory = ⊥
ReadsLogsFor r the_command status.KeeperFault = ⊥

-- A log that the filing names was started, and this became of it.
pub record OfFilingLog (is : Reading → LogStep → Type 0) (r : Reading) (wanted : Filing)
    (log : Which) : Type 0 where
  pub in_turn : IsFilingLogInTurn r wanted log
  pub holds : is r (step_of r log (filing_log_name wanted log))

-- the same of a log that the command names; `list` and `show` name none
abbrev pub OfCommandLog : (Reading → LogStep → Type 0) → Reading → CaseCommand → Which → Type 0
OfCommandLog is r (command.File wanted) log = OfFilingLog is r wanted log
OfCommandLog is r (command.List filter) log = ⊥
OfCommandLog is r (command.Show label) log = ⊥

-- why a command is halted: a log that it names could not be read, or is too long; its logs were
-- read and are in their grammar, and the keeper's faults rose or were full; or memory ran out
abbrev pub IsHaltCause : Reading → KeeperState → KeeperState → CaseCommand → Halt → Type 0
IsHaltCause r old new the_command (halt.ReadFault log) = OfCommandLog IsReadFault r the_command log
IsHaltCause r old new the_command (halt.TooLong log) = OfCommandLog IsTooLong r the_command log
IsHaltCause r old new the_command halt.KeeperFault =
    ReadsGoodLogs r the_command × RoseOrIsFull old.faults new.faults
IsHaltCause r old new the_command halt.Memory = Unit {0}

-- the status of a halt
abbrev pub halt_status : Halt → CaseStatus
halt_status (halt.ReadFault log) = status.ReadFault
halt_status (halt.TooLong log) = status.TooLong
halt_status halt.KeeperFault = status.KeeperFault
halt_status halt.Memory = status.Memory

-- the line that is written for a halt; none where memory ran out
abbrev pub halt_line : Halt → List ℕ
halt_line (halt.ReadFault log) = read_fault_line log
halt_line (halt.TooLong log) = too_long_line log
halt_line halt.KeeperFault = keeper_fault_line
halt_line halt.Memory = []
