-- The records of a symbol of a day, and what they give.
use Rattle.std.specs.Prelude.{◌≡◌, ◌<◌, ◌^◌, ℕ, Bool, List, [], length, map, if◌then◌else◌}
use Rattle.audit_base.specs.Moments.{Moment}
use Rattle.audit_base.specs.declared.records.OrderRecord.{OrderRecord}
use Rattle.audit_base.specs.declared.records.TradeRecord.{TradeRecord}
use Rattle.audit_base.specs.Histories.{history}
use Rattle.audit_base.specs.Trades.{trades_of_symbol}
use Rattle.day_records.specs.DayOrders.{HasHistory, IsEmptyOf}
use Rattle.instruction_history.specs.declared.history_or_flaw.HistoryOrFlaw.{HistoryOrFlaw}
use Rattle.instruction_history.specs.HistoryOrFlaw.{IsHistoryOrFlaw}
use Rattle.day_records.specs.KeptOrders.{KeptEntries}
use Rattle.day_records.specs.KeptTrades.{KeptTradeList, with_trade}
use Rattle.record_verdict.specs.declared.scopes.Admission.{Admission}
use Rattle.day_records.specs.declared.kept_records.KeptRecords.{KeptRecords}
use Rattle.day_records.specs.declared.symbol_during_trades.SymbolDuringTrades.{SymbolDuringTrades}
use Rattle.day_records.specs.SymbolDuringTrades.{IsSymbolDuringTrades}

-- the symbol is kept with its trades among these, with their places in the log
abbrev pub HasSymbolTrades : List TradeRecord → List ℕ → KeptTradeList → Type 0
HasSymbolTrades trades symbol kept =
    kept ≡ record { symbol = symbol; trades = trades_of_symbol symbol trades }

-- the symbol is kept with its history among these order records, and with its trades among these
pub record HasKeptRecords (entries : List OrderRecord) (trades : List TradeRecord) (symbol : List ℕ)
    (kept : KeptRecords) : Type 0 where
  pub orders_are : HasHistory entries symbol kept.orders
  pub trades_are : HasSymbolTrades trades symbol kept.trades

-- the symbol is kept without any trade
abbrev pub HasNoTrades : List ℕ → KeptTradeList → Type 0
HasNoTrades symbol kept = kept ≡ record { symbol = symbol; trades = [] }

-- these orders are kept, and no trade of their symbol
pub record IsBegun (orders : KeptEntries) (kept : KeptRecords) : Type 0 where
  pub orders_are : kept.orders ≡ orders
  pub no_trades : HasNoTrades orders.symbol kept.trades

-- the symbol is kept without any record
pub record IsUnseen (symbol : List ℕ) (kept : KeptRecords) : Type 0 where
  pub no_orders : IsEmptyOf symbol kept.orders
  pub no_trades : HasNoTrades symbol kept.trades

-- one trade more is kept, at its place
pub record KeepsTrade (old new : KeptRecords) (place : ℕ) (trade : TradeRecord) : Type 0 where
  pub orders_are : new.orders ≡ old.orders
  pub trades_are : new.trades ≡ with_trade old.trades place trade

-- What records give.

-- the orders are the history of a symbol among order records that are fewer than 2^32
pub record HasFewOrders (orders : KeptEntries) : Type 0 where
  pub symbol : List ℕ
  pub entries : List OrderRecord
  pub are : HasHistory entries symbol orders
  pub fits_indices : length entries < 2 ^ 32

-- the records are those of a symbol among some, of which the order records are fewer than 2^32
pub record HasFewKeptRecords (kept : KeptRecords) : Type 0 where
  pub symbol : List ℕ
  pub entries : List OrderRecord
  pub trades : List TradeRecord
  pub has : HasKeptRecords entries trades symbol kept
  pub fits_indices : length entries < 2 ^ 32

-- the times of these trades, in their order
abbrev pub times_listed : List (ℕ × TradeRecord) → List Moment
times_listed listed = map (λ e. e.1.time) listed

-- the same where they are asked for
abbrev pub times_if : Bool → List (ℕ × TradeRecord) → List Moment
times_if asked listed = if asked then times_listed listed else []

-- this is known after these records of a history: whatever symbol and order records they are the
-- history of, this is known of it after them
abbrev pub KnowsHistory : List (ℕ × OrderRecord) → HistoryOrFlaw → Type 0
KnowsHistory records known = (symbol : List ℕ) (entries : List OrderRecord)
    → history symbol entries ≡ records → IsHistoryOrFlaw symbol known entries

-- what was known of a symbol before any trade is known after these trades: whatever trades have
-- these as those of the symbol, it is known after them
abbrev pub KnowsTrades : List (ℕ × TradeRecord) → SymbolDuringTrades → SymbolDuringTrades → Type 0
KnowsTrades listed old new =
    (admission : Admission) (entries : List OrderRecord) (symbol : List ℕ)
    → IsSymbolDuringTrades admission entries [] symbol old
    → (trades : List TradeRecord) → trades_of_symbol symbol trades ≡ listed
    → IsSymbolDuringTrades admission entries trades symbol new

-- whatever records of a symbol these are, this is known of it after them
abbrev pub GivesSymbolDuringTrades : Admission → KeptRecords → SymbolDuringTrades → Type 0
GivesSymbolDuringTrades admission kept known =
    (entries : List OrderRecord) (trades : List TradeRecord) (symbol : List ℕ)
    → HasKeptRecords entries trades symbol kept
    → IsSymbolDuringTrades admission entries trades symbol known
