-- A shelf in memory that never fails: one log for each slot, under every name.
use Rattle.std.specs.Prelude.{ℕ, Bool, true, List, [], drop, Option, Some, if◌then◌else◌}
use Rattle.audit_base.specs.declared.terms.Which.{Which}
use Rattle.audit_base.specs.declared.terms.Which.TheVariants.{Orders, Trades}
use Rattle.log_source.specs.Sources.{Slot, any_bytes}
use Rattle.log_source.specs.declared.quiet_shelf.QuietSlot.{QuietSlot}
use Rattle.log_source.specs.declared.quiet_shelf.QuietShelf.{QuietShelf}

-- the state of one slot: of a started log the bytes past those given are left,
-- and no fault is ever counted
abbrev pub quiet_state : QuietSlot → Slot
quiet_state slot = record {
  started = slot.started;
  left = Some (if slot.started then drop slot.at slot.log.items else []);
  taken = slot.at;
  gave = any_bytes;
  starts = slot.starts;
  faults = 0;
}

-- the state of a slot whose log was just started, for this many times
abbrev pub quiet_started_slot : List ℕ → ℕ → Slot
quiet_started_slot log starts =
    record { started = true; left = Some log; taken = 0; gave = any_bytes; starts = starts; faults = 0 }

-- the log of a slot
abbrev pub quiet_log : QuietShelf → Which → List ℕ
quiet_log shelf Orders = shelf.orders.log.items
quiet_log shelf Trades = shelf.trades.log.items

-- what it holds is known
abbrev pub quiet_tells : QuietShelf → Bool
quiet_tells shelf = true

-- the log that a slot finds under a name: its own, under every name
abbrev pub quiet_log_of : QuietShelf → Which → List ℕ → Option (List ℕ)
quiet_log_of shelf which name = Some (quiet_log shelf which)

-- the state of each slot
abbrev pub quiet_slot : QuietShelf → Which → Slot
quiet_slot shelf Orders = quiet_state shelf.orders
quiet_slot shelf Trades = quiet_state shelf.trades

-- the greatest number of bytes of one read
abbrev pub quiet_piece : QuietShelf → ℕ
quiet_piece shelf = shelf.piece
