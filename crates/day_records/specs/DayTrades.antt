-- What is known of a day after its order log and some records of its trade log.
use Rattle.std.specs.Prelude.{◌≡◌, ◌<◌, ◌^◌, ℕ, List, Some, length, slice_get}
use Rattle.audit_base.specs.declared.records.OrderRecord.{OrderRecord}
use Rattle.audit_base.specs.declared.records.TradeRecord.{TradeRecord}
use Rattle.day_symbols.specs.Kept.{AreForEach}
use Rattle.day_symbols.specs.Shares.{DayShare, symbols_in}
use Rattle.day_symbols.specs.Symbols.{symbols_of_day}
use Rattle.day_records.specs.KeptOrders.{KeptEntries}
use Rattle.record_verdict.specs.declared.scopes.Admission.{Admission}
use Rattle.day_records.specs.declared.day_trades.DayTrades.{DayTrades}
use Rattle.day_records.specs.declared.day_trades.DayRecords.{DayRecords}
use Rattle.day_records.specs.declared.kept_records.KeptRecords.{KeptRecords}
use Rattle.day_records.specs.KeptRecords.{HasKeptRecords, IsBegun}

-- each of these symbols is kept with its records among these
abbrev pub HaveKeptRecords : List OrderRecord → List TradeRecord → List (List ℕ) → List KeptRecords
    → Type 0
HaveKeptRecords entries trades symbols kept =
    AreForEach (HasKeptRecords entries trades) symbols kept

-- after these order records the day has been handed exactly these records of the trade log: it has
-- the symbols of both logs, and the records of each symbol of the share
pub record IsDayAfterOrders {M : Type 0} (share : DayShare) (admission : Admission)
    (entries : List OrderRecord) (day : DayTrades M) (trades : List TradeRecord) : Type 0 where
  pub shared : day.share ≡ share
  pub admits : day.admission ≡ admission
  pub count : day.count ≡ length trades
  pub symbols_are : day.symbols ≡ symbols_of_day entries trades
  pub records_are : HaveKeptRecords entries trades
      (symbols_in share (symbols_of_day entries trades)) day.kept.items
  pub fits_indices : length entries < 2 ^ 32

-- the day has been handed exactly these records of the trade log, after whatever order records it
-- may have; and there are some that it may have
pub record IsDayTrades {M : Type 0} (share : DayShare) (admission : Admission)
    (may_have : List OrderRecord → Type 0) (day : DayTrades M)
    (trades : List TradeRecord) : Type 0 where
  pub entries : List OrderRecord
  pub has : may_have entries
  pub after_each : (others : List OrderRecord) → may_have others
      → IsDayAfterOrders share admission others day trades

-- the day has these records: these are its symbols, and the records of each of the share
pub record HasTradesOf (share : DayShare) (admission : Admission) (entries : List OrderRecord)
    (ended : DayRecords) (trades : List TradeRecord) : Type 0 where
  pub symbols_are : ended.symbols ≡ symbols_of_day entries trades
  pub records_are : HaveKeptRecords entries trades
      (symbols_in share (symbols_of_day entries trades)) ended.kept.items
  pub count : ended.count ≡ length trades
  pub admits : ended.admission ≡ admission
  pub fits_indices : length entries < 2 ^ 32

-- whatever trades the day has been handed, and whatever order records it may have, it ends with
-- what is known of them
abbrev pub EndsDay : {M : Type 0} → DayShare → Admission → (List OrderRecord → Type 0)
    → DayTrades M → DayRecords → Type 0
EndsDay share admission may_have day ended =
    (entries : List OrderRecord) (trades : List TradeRecord) → may_have entries
    → IsDayTrades share admission may_have day trades
    → HasTradesOf share admission entries ended trades

-- there is one for each symbol with its orders, and it has these and no trades
pub record AreBegun (orders : List KeptEntries) (kept : List KeptRecords) : Type 0 where
  pub same_length : length kept ≡ length orders
  pub each : (i : ℕ) (own : KeptEntries) (one : KeptRecords)
      → slice_get orders i ≡ Some own → slice_get kept i ≡ Some one → IsBegun own one

-- only the records that are kept have changed
pub record KeepsAllButKeptRecords {M : Type 0} (old new : DayTrades M) : Type 0 where
  pub shared : new.share ≡ old.share
  pub admits : new.admission ≡ old.admission
  pub count : new.count ≡ old.count
  pub symbols_are : new.symbols ≡ old.symbols
