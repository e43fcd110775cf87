-- Two logs, read one after the other: what is known of both, or why it is not.
use Rattle.std.specs.Prelude.{◌≡◌, ◌≤◌, ◌⊎◌, ℕ, List, Option, None, Some, Result, Ok, Err, IsOk, length, MatchResult}
use Rattle.audit_base.specs.declared.terms.Which.{Which}
use Rattle.audit_base.specs.declared.terms.Which.TheVariants.{Orders, Trades}
use Rattle.audit_base.specs.declared.faults.BadPlace.{BadPlace}
use Rattle.audit_base.specs.declared.findings.Finding.{Finding}
use Rattle.audit_base.specs.declared.records.OrderRecord.{OrderRecord}
use Rattle.audit_base.specs.declared.records.TradeRecord.{TradeRecord}
use Rattle.audit_base.specs.declared.orders.Order.{Order}
use Rattle.audit_base.specs.Histories.{order_list, WellFormed}
use Rattle.audit_base.specs.Trades.{deals_of_symbol, trades_finding}
use Rattle.matching_core.specs.declared.deals_draft.ResolvedTrades.{ResolvedTrades}
use Rattle.log_verdict.specs.declared.both_logs.LogsBeforeRule.{LogsBeforeRule}
use Rattle.log_verdict.specs.declared.stops.Stop.{Stop}
use Rattle.log_verdict.specs.declared.stops.Stop.TheVariants as stop
use Rattle.log_verdict.specs.declared.stops.NoRecords.{NoRecords}
use Rattle.log_verdict.specs.declared.stops.NoRecords.TheVariants as norecords
use Rattle.log_verdict.specs.declared.reading.ReadingFault.{ReadingFault}
use Rattle.log_verdict.specs.declared.reading.ReadingFault.TheVariants as unread
use Rattle.record_verdict.specs.declared.questions.Question.{Question}
use Rattle.log_verdict.specs.declared.sources.Source.{Source}
use Rattle.log_verdict.specs.Collecting.{HasCollected}
use Rattle.log_verdict.specs.LogVerdicts.{records_of_order_log, trades_of_trade_log}
use Rattle.log_verdict.specs.Steps.{Reading, IsReadFault, IsTooLong, BeginsWithin, EndsWithin, IsUntouched, step_of, IsReadAs}
use Rattle.record_verdict.specs.declared.scopes.Scope.{Scope}
use Rattle.record_verdict.specs.BeforeRule.{IsBeforeRule}
use Rattle.record_verdict.specs.RecordVerdicts.{IsRecordVerdict}
use Rattle.record_verdict.specs.Scopes.{unadmitted_order_finding}
use Rattle.audit_report.specs.declared.verdicts.Verdict.{Verdict}
use Rattle.audit_report.specs.declared.verdicts.Verdict.TheVariants.{Malformed}
use Rattle.log_source.specs.Sources.{longest_read}

-- Two sources have one limit, which is one that reading may be given.
pub record HaveOneLimit (orders trades : Source) : Type 0 where
  pub same : orders.limit ≡ trades.limit
  pub within : orders.limit ≤ longest_read

-- the trade log was read to its end, and this holds of the records of both logs, or of its first
-- bad place
abbrev pub ReadsTrades : Reading → Source → (Result (List TradeRecord) Finding → Type 0)
    → (BadPlace → Type 0) → Type 0
ReadsTrades r trades of_trades of_bad =
    IsReadAs r Trades trades.name.now
    (λ bytes. MatchResult (trades_of_trade_log trades.form bytes) of_trades of_bad)

-- the order log said this: where it is out of its grammar, the trade log is not started
abbrev pub ReadsAfterOrders : Reading → Source
    → (List OrderRecord → Result (List TradeRecord) Finding → Type 0)
    → (Which → BadPlace → Type 0) → Result (List OrderRecord) BadPlace → Type 0
ReadsAfterOrders r trades of_records of_bad (Err bad) =
    of_bad Orders bad × IsUntouched r Trades
ReadsAfterOrders r trades of_records of_bad (Ok entries) =
    ReadsTrades r trades (of_records entries) (of_bad Trades)

-- the order log was read to its end, and the trade log where that is in its grammar; this holds
-- of the records of both, or of the first bad place
abbrev pub ReadsLogs : Reading → Source → Source
    → (List OrderRecord → Result (List TradeRecord) Finding → Type 0)
    → (Which → BadPlace → Type 0) → Type 0
ReadsLogs r orders trades of_records of_bad =
    IsReadAs r Orders orders.name.now
    (λ bytes. ReadsAfterOrders r trades of_records of_bad (records_of_order_log orders.form bytes))

-- both logs were read, and this is their verdict
abbrev pub ReadsVerdict : Reading → Question → Source → Source → Verdict → Type 0
ReadsVerdict r q orders trades verdict =
    ReadsLogs r orders trades (λ entries paired. IsRecordVerdict q entries paired verdict)
    (λ log bad. verdict ≡ Malformed log bad)

-- the trade log is started only after an order log that was read to its end and is in its grammar
abbrev pub IsAfterGoodOrders : Reading → Source → Type 0
IsAfterGoodOrders r orders =
    IsReadAs r Orders orders.name.now (λ bytes. IsOk (records_of_order_log orders.form bytes))

-- the log of these two that a slot is for
abbrev pub source_of : Source → Source → Which → Source
source_of orders trades Orders = orders
source_of orders trades Trades = trades

-- the log was started in its turn: the order log while the trade log was left alone, or the
-- trade log after an order log that is in its grammar
abbrev pub IsLogInTurn : Reading → Source → Which → Type 0
IsLogInTurn r orders Orders = IsUntouched r Trades
IsLogInTurn r orders Trades = IsAfterGoodOrders r orders

-- A log was started and could not be read.
pub record StopsAtFault (r : Reading) (orders trades : Source) (log : Which) : Type 0 where
  pub in_turn : IsLogInTurn r orders log
  pub fault : IsReadFault r (step_of r log (source_of orders trades log).name.now)

-- A log was started and is too long.
pub record StopsAtLength (r : Reading) (orders trades : Source) (log : Which) : Type 0 where
  pub in_turn : IsLogInTurn r orders log
  pub long : IsTooLong r (step_of r log (source_of orders trades log).name.now)

-- why it is not known what two logs give
abbrev pub IsStopOfTwoLogs : Reading → Source → Source → Stop → Type 0
IsStopOfTwoLogs r orders trades (stop.ReadFault log) = StopsAtFault r orders trades log
IsStopOfTwoLogs r orders trades (stop.TooLong log) = StopsAtLength r orders trades log
IsStopOfTwoLogs r orders trades stop.Memory = Unit {0}

-- why two logs were not read into records, where this one was not
abbrev pub no_records : Which → ReadingFault → NoRecords
no_records log (unread.Bad bad) = norecords.Malformed log bad
no_records log unread.ReadFault = norecords.Stopped (stop.ReadFault log)
no_records log unread.TooLong = norecords.Stopped (stop.TooLong log)
no_records log unread.Memory = norecords.Stopped stop.Memory

-- a log was read to its end in its turn, and this is its first bad place: of the order log, after
-- which the trade log is not started; or of the trade log, after an order log in its grammar
abbrev pub ReadsBadPlace : Reading → Source → Source → Which → BadPlace → Type 0
ReadsBadPlace r orders trades log bad =
    ReadsLogs r orders trades (λ entries paired. ⊥)
    (λ which place. (which ≡ log) × (place ≡ bad))

-- why two logs were not read into records: the first bad place, or why nothing is known of them
abbrev pub IsUnreadOfTwoLogs : Reading → Source → Source → NoRecords → Type 0
IsUnreadOfTwoLogs r orders trades (norecords.Malformed log bad) = ReadsBadPlace r orders trades log bad
IsUnreadOfTwoLogs r orders trades (norecords.Stopped why) = IsStopOfTwoLogs r orders trades why

-- both logs were read, each into records, and what is given is of these; or they were not
abbrev pub GivesOfRecords : {T : Type 0}
    → (List OrderRecord → Result (List TradeRecord) Finding → T → Type 0)
    → Reading → Source → Source → Result T NoRecords → Type 0
GivesOfRecords of_records r orders trades result =
    MatchResult result
    (λ given. ReadsLogs r orders trades (λ entries paired. of_records entries paired given)
    (λ log bad. ⊥))
    (IsUnreadOfTwoLogs r orders trades)

-- the verdict on two logs that were not read into records: the first bad place, or there is none
abbrev pub verdict_without : NoRecords → Result Verdict Stop
verdict_without (norecords.Malformed log bad) = Ok (Malformed log bad)
verdict_without (norecords.Stopped why) = Err why

-- reading stopped at a log that is too long
abbrev pub IsLengthStop : {T : Type 0} → Result T Stop → Type 0
IsLengthStop (Ok verdict) = ⊥
IsLengthStop (Err (stop.ReadFault log)) = ⊥
IsLengthStop (Err (stop.TooLong log)) = Unit {0}
IsLengthStop (Err stop.Memory) = ⊥

-- why nothing is said of one log
abbrev pub IsLogStop : Reading → Which → List ℕ → Stop → Type 0
IsLogStop r log name (stop.ReadFault which) =
    (which ≡ log) × IsReadFault r (step_of r log name)
IsLogStop r log name (stop.TooLong which) = (which ≡ log) × IsTooLong r (step_of r log name)
IsLogStop r log name stop.Memory = Unit {0}

-- why the trade log was not read into records
abbrev pub IsUnreadTrades : Reading → Source → NoRecords → Type 0
IsUnreadTrades r trades (norecords.Malformed log bad) =
    (log ≡ Trades) × IsReadAs r Trades trades.name.now
    (λ bytes. trades_of_trade_log trades.form bytes ≡ Err bad)
IsUnreadTrades r trades (norecords.Stopped why) = IsLogStop r Trades trades.name.now why

-- the trade log was read into records, and what is given is of these; or it was not
abbrev pub GivesOfTrades : {T : Type 0} → (Result (List TradeRecord) Finding → T → Type 0)
    → Reading → Source → Result T NoRecords → Type 0
GivesOfTrades of_trades r trades result =
    MatchResult result
    (λ given. ReadsTrades r trades (λ paired. of_trades paired given) (λ bad. ⊥))
    (IsUnreadTrades r trades)

-- both logs were read to their ends and are in their grammar, whatever their records say; or they
-- were not
abbrev pub ReadsThrough : Reading → Source → Source → Result (Unit {0}) NoRecords → Type 0
ReadsThrough r orders trades result =
    GivesOfRecords (λ entries paired given. Unit {0}) r orders trades result

-- the same of the trade log
abbrev pub ReadsTradesThrough : Reading → Source → Result (Unit {0}) NoRecords → Type 0
ReadsTradesThrough r trades result = GivesOfTrades (λ paired given. Unit {0}) r trades result

-- the verdict on both logs, or why there is none
abbrev pub GivesVerdictOrStop : Reading → Question → Source → Source → Result Verdict Stop
    → Type 0
GivesVerdictOrStop r q orders trades result =
    MatchResult result (ReadsVerdict r q orders trades) (IsStopOfTwoLogs r orders trades)

-- where no log was too long, both slots end within the limit if they began so
abbrev pub StaysWithin : {T : Type 0} → Reading → Result T Stop → Type 0
StaysWithin r result = BeginsWithin r → IsLengthStop result ⊎ EndsWithin r

-- the same of the slot of one log
abbrev pub StaysWithinAt : {T : Type 0} → Reading → Which → Result T Stop → Type 0
StaysWithinAt r log result = IsLengthStop result ⊎ ((r.after log).taken ≤ r.limit)

-- a reading that gave something, or that a log is malformed; or that stopped
abbrev pub read_or_stopped : {T : Type 0} → Result T NoRecords → Result (Option T) Stop
read_or_stopped (Ok given) = Ok (Some given)
read_or_stopped (Err (norecords.Malformed log bad)) = Ok None
read_or_stopped (Err (norecords.Stopped why)) = Err why

-- where no log was too long for a reading, both slots end within the limit if they began so
abbrev pub ReadsWithin : {T : Type 0} → Reading → Result T NoRecords → Type 0
ReadsWithin r result = StaysWithin r (read_or_stopped result)

-- the same of the slot of one log
abbrev pub ReadsWithinAt : {T : Type 0} → Reading → Which → Result T NoRecords → Type 0
ReadsWithinAt r log result = StaysWithinAt r log (read_or_stopped result)

-- The history of these records is well-formed and has these orders, which are admitted.
pub record IsAdmitted (scope : Scope) (entries : List OrderRecord)
    (history : List Order) : Type 0 where
  pub formed : WellFormed scope.symbol entries
  pub orders : history ≡ order_list scope.symbol entries
  pub admits : unadmitted_order_finding scope.admission history ≡ None

-- What the records of two logs give before the rule is looked at, and what was kept of them beside
-- it: a collector of the orders, and one of the trades, or that a report has no partner.
pub record AreLogsBeforeRule {X Y : Type 0} (scope : Scope) (of_orders : X → List OrderRecord → Type 0)
    (of_trades : Y → List TradeRecord → Type 0) (entries : List OrderRecord)
    (paired : Result (List TradeRecord) Finding) (read : LogsBeforeRule X Y) : Type 0 where
  pub before : IsBeforeRule scope entries paired read.given
  pub orders : of_orders read.orders entries
  pub trades : HasCollected of_trades read.trades (Ok paired)

-- What was gathered of these trades: how many they are, their first finding,
-- and, where there is none, their deals.
pub record AreResolvedTrades (scope : Scope) (trades : List TradeRecord)
    (ended : ResolvedTrades) : Type 0 where
  pub count : ended.count ≡ length trades
  pub finding : trades_finding ended.history scope.symbol trades ≡ ended.finding
  pub deals : ended.finding ≡ None
      → ended.deals.items ≡ deals_of_symbol ended.history scope.symbol trades
