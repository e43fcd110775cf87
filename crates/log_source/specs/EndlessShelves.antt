-- A shelf that gives one byte without end.
use Rattle.std.specs.Prelude.{ℕ, Bool, true, false, List, Option, None}
use Rattle.audit_base.specs.declared.terms.Which.{Which}
use Rattle.audit_base.specs.declared.terms.Which.TheVariants.{Orders, Trades}
use Rattle.log_source.specs.Sources.{Slot, any_bytes}
use Rattle.log_source.specs.declared.endless_shelf.EndlessSlot.{EndlessSlot}
use Rattle.log_source.specs.declared.endless_shelf.EndlessShelf.{EndlessShelf}

-- the state of one slot: nothing is known of what is left, and no fault is ever counted
abbrev pub endless_state : EndlessSlot → Slot
endless_state slot = record {
  started = slot.started;
  left = None;
  taken = slot.taken;
  gave = any_bytes;
  starts = slot.starts;
  faults = 0;
}

-- the state of a slot that was just started, for this many times
abbrev pub endless_started_slot : ℕ → Slot
endless_started_slot starts =
    record { started = true; left = None; taken = 0; gave = any_bytes; starts = starts; faults = 0 }

-- nothing is known of its logs
abbrev pub endless_tells : EndlessShelf → Bool
endless_tells shelf = false

-- no log is known, whatever the slot and the name
abbrev pub endless_log_of : EndlessShelf → Which → List ℕ → Option (List ℕ)
endless_log_of shelf which name = None

-- the state of each slot
abbrev pub endless_slot : EndlessShelf → Which → Slot
endless_slot shelf Orders = endless_state shelf.orders
endless_slot shelf Trades = endless_state shelf.trades

-- the byte that fills every buffer
abbrev pub endless_byte : EndlessShelf → ℕ
endless_byte shelf = shelf.byte
