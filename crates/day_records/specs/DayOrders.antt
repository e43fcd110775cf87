-- What is known of the order log of a day after some of its records.
use Rattle.std.specs.Prelude.{◌≡◌, ◌<◌, ◌^◌, ℕ, List, [], length, map}
use Rattle.audit_base.specs.declared.records.OrderRecord.{OrderRecord}
use Rattle.audit_base.specs.Histories.{history, symbol_of}
use Rattle.day_symbols.specs.Kept.{AreForEach}
use Rattle.day_symbols.specs.Shares.{DayShare, symbols_in}
use Rattle.day_symbols.specs.Symbols.{distinct_names}
use Rattle.day_records.specs.declared.day_orders.DayOrders.{DayOrders}
use Rattle.day_records.specs.declared.day_orders.DayOrderLog.{DayOrderLog}
use Rattle.day_records.specs.KeptOrders.{KeptEntries}

-- the symbols of order records, in the order in which each appears first
abbrev pub order_symbols : List OrderRecord → List (List ℕ)
order_symbols entries = distinct_names (map symbol_of entries)

-- the symbol is kept with its history among these records: its own, with their places in the log
abbrev pub HasHistory : List OrderRecord → List ℕ → KeptEntries → Type 0
HasHistory entries symbol kept =
    kept ≡ record { symbol = symbol; entries = history symbol entries }

-- each of these symbols is kept with its history among these records
abbrev pub HaveHistories : List (List ℕ) → List KeptEntries → List OrderRecord → Type 0
HaveHistories symbols kept entries = AreForEach (HasHistory entries) symbols kept

-- the day has been handed exactly these records of the order log: it has their symbols, and the
-- history of each symbol of the share
pub record IsDayOrders {D : Type 0} (share : DayShare) (day : DayOrders D)
    (entries : List OrderRecord) : Type 0 where
  pub shared : day.share ≡ share
  pub count : day.count ≡ length entries
  pub symbols_are : day.symbols ≡ order_symbols entries
  pub histories_are : HaveHistories
      (symbols_in share (order_symbols entries)) day.kept.items entries

-- a fact of whatever records the day has been handed
abbrev pub ForEntries : {D : Type 0} → DayShare → DayOrders D → (List OrderRecord → Type 0) → Type 0
ForEntries share day P = (entries : List OrderRecord) → IsDayOrders share day entries → P entries

-- the order log has these records: these are its symbols, and the histories of those of the share
pub record HasOrders (share : DayShare) (ended : DayOrderLog)
    (entries : List OrderRecord) : Type 0 where
  pub symbols_are : ended.symbols ≡ order_symbols entries
  pub histories_are : HaveHistories
      (symbols_in share (order_symbols entries)) ended.kept.items entries
  pub fits_indices : length entries < 2 ^ 32

-- the symbol is kept without any record
abbrev pub IsEmptyOf : List ℕ → KeptEntries → Type 0
IsEmptyOf symbol kept = kept ≡ record { symbol = symbol; entries = [] }

-- only the records that are kept have changed
pub record KeepsAllButHistories {D : Type 0} (old new : DayOrders D) : Type 0 where
  pub shared : new.share ≡ old.share
  pub count : new.count ≡ old.count
  pub symbols_are : new.symbols ≡ old.symbols
