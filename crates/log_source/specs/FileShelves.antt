-- The state of the slots of a shelf over files.
use Rattle.std.specs.Prelude.{ℕ, List, Option, is_some}
use Rattle.std.specs.Option.{option_and_then}
use Rattle.audit_base.specs.declared.terms.Which.{Which}
use Rattle.audit_base.specs.declared.terms.Which.TheVariants.{Orders, Trades}
use Rattle.log_source.specs.Sources.{Slot, any_bytes}
use Rattle.log_source.specs.declared.file_shelf.FileSlot.{FileSlot}

-- The state of one slot: a file that is open is started, and what is left is what is
-- known of the file itself, which is nothing of a file of the system.
abbrev pub file_state : {X : Type 0} → (X → Option (List ℕ)) → FileSlot X → Slot
file_state remaining slot = record {
  started = is_some slot.file;
  left = option_and_then remaining slot.file;
  taken = slot.taken;
  gave = any_bytes;
  starts = slot.starts;
  faults = slot.faults;
}

-- the state of the slot of each log
abbrev pub file_slot : {X : Type 0} → (X → Option (List ℕ)) → FileSlot X → FileSlot X → Which → Slot
file_slot remaining orders trades Orders = file_state remaining orders
file_slot remaining orders trades Trades = file_state remaining trades
