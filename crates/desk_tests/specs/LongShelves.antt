-- A shelf whose logs have a given length.
use Rattle.std.specs.Prelude.{ℕ, Bool, false, List, Option, None}
use Rattle.audit_base.specs.declared.terms.Which.{Which}
use Rattle.audit_base.specs.declared.terms.Which.TheVariants.{Orders, Trades}
use Rattle.log_source.specs.Sources.{Slot, any_bytes}
use Rattle.desk_tests.specs.declared.long_shelf.LongSlot.{LongSlot}
use Rattle.desk_tests.specs.declared.long_shelf.LongShelf.{LongShelf}

-- the state of one slot: nothing is known of what is left, and no fault is ever counted
abbrev pub long_state : LongSlot → Slot
long_state slot = record {
  started = slot.started;
  left = None;
  taken = slot.taken;
  gave = any_bytes;
  starts = slot.starts;
  faults = 0;
}

-- nothing is known of its logs
abbrev pub long_tells : LongShelf → Bool
long_tells shelf = false

-- no log is known, whatever the slot and the name
abbrev pub long_log_of : LongShelf → Which → List ℕ → Option (List ℕ)
long_log_of shelf which name = None

-- how many bytes the log of each slot has
abbrev pub long_bytes : LongShelf → Which → ℕ
long_bytes shelf Orders = shelf.order_bytes
long_bytes shelf Trades = shelf.trade_bytes

-- the state of each slot
abbrev pub long_slot : LongShelf → Which → Slot
long_slot shelf Orders = long_state shelf.orders
long_slot shelf Trades = long_state shelf.trades
