-- Which records of an order log what is kept of a symbol has been handed.
use Rattle.std.specs.Prelude.{◌≡◌, ℕ, Bool, List, length, if◌then◌else◌}
use Rattle.audit_base.specs.declared.records.OrderRecord.{OrderRecord}
use Rattle.day_records.specs.KeptOrders.{KeptEntries, with_entry}
use Rattle.symbol_offences.specs.declared.order_log.OrdersOfSymbol.{OrdersOfSymbol}
use Rattle.symbol_offences.specs.SymbolBeforeRule.{kept_history}

-- exactly these records of the order log were handed on, and those of the symbol are kept where
-- they are quoted
pub record IsOrdersOfSymbol {Q : Type 0} (symbol : List ℕ) (keeps : Bool) (kept : OrdersOfSymbol Q)
    (entries : List OrderRecord) : Type 0 where
  pub named : kept.symbol ≡ symbol
  pub count : kept.count ≡ length entries
  pub keeps_so : kept.keeps_records ≡ keeps
  pub records_are : kept.records ≡ kept_history keeps symbol entries

-- one record more is kept, where records are
abbrev pub with_entry_if : Bool → KeptEntries → ℕ → OrderRecord → KeptEntries
with_entry_if keeps kept place entry = if keeps then with_entry kept place entry else kept
