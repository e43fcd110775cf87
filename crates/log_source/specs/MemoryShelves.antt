-- A shelf in memory: its logs and slots, the number of its next call, and which calls fail.
use Rattle.std.specs.Prelude.{◌≡◌, ◌≢◌, ℕ, Bool, true, ◌||◌, List, length, min, Option, is_none}
use Rattle.std.specs.Option.{option_map_or}
use Rattle.audit_base.specs.declared.terms.Which.{Which}
use Rattle.audit_base.specs.declared.terms.Which.TheVariants.{Orders, Trades}
use Rattle.log_source.specs.Calls.{count_after, faults_after, is_failing_number}
use Rattle.log_source.specs.Cursors.{newest_log_bytes, cursor_state}
use Rattle.log_source.specs.Sources.{Slot}
use Rattle.log_source.specs.declared.memory_shelf.MemoryShelf.{MemoryShelf}

-- the bytes of the log that was put last under a name, or nothing
abbrev pub memory_log : MemoryShelf → List ℕ → Option (List ℕ)
memory_log shelf name = newest_log_bytes shelf.logs.items name

-- the state of each slot
abbrev pub memory_slot : MemoryShelf → Which → Slot
memory_slot shelf Orders = cursor_state shelf.logs.items shelf.orders
memory_slot shelf Trades = cursor_state shelf.logs.items shelf.trades

-- what it holds is known
abbrev pub memory_tells : MemoryShelf → Bool
memory_tells shelf = true

-- the log that a slot finds under a name: both slots find the same
abbrev pub memory_log_of : MemoryShelf → Which → List ℕ → Option (List ℕ)
memory_log_of shelf which name = memory_log shelf name

-- how many faults of a slot were counted
abbrev pub memory_faults : MemoryShelf → Which → ℕ
memory_faults shelf which = (memory_slot shelf which).faults

-- how many starts and reads were made, together
abbrev pub calls_made : MemoryShelf → ℕ
calls_made shelf = shelf.calls

-- the numbers of the calls that are to fail
abbrev pub failing_calls : MemoryShelf → List ℕ
failing_calls shelf = shelf.fails.items

-- the greatest number of bytes of one read
abbrev pub piece_size : MemoryShelf → ℕ
piece_size shelf = shelf.piece

-- the next call is to fail
abbrev pub fails_next : MemoryShelf → Bool
fails_next shelf = is_failing_number (count_after (calls_made shelf)) (failing_calls shelf)

-- a start of this name fails next: it is to, or the name is not there
abbrev pub fails_to_start : MemoryShelf → List ℕ → Bool
fails_to_start shelf name = fails_next shelf || is_none (memory_log shelf name)

-- how many bytes the next read into a buffer of this length gives:
-- at most a piece, and what is left
abbrev pub read_size : MemoryShelf → Which → ℕ → ℕ
read_size shelf which room =
    min (piece_size shelf) (min (option_map_or length (memory_slot shelf which).left 0) room)

-- every name has the bytes that it had
abbrev pub KeepsNamedLogs : MemoryShelf → MemoryShelf → Type 0
KeepsNamedLogs old new = (n : List ℕ) → memory_log new n ≡ memory_log old n

-- every name but this one has the bytes that it had
abbrev pub KeepsOtherLogs : MemoryShelf → MemoryShelf → List ℕ → Type 0
KeepsOtherLogs old new name = (n : List ℕ) → n ≢ name → memory_log new n ≡ memory_log old n

-- which calls fail and how much a read gives stay as they are
pub record KeepsShelfSettings (old new : MemoryShelf) : Type 0 where
  pub fails : failing_calls new ≡ failing_calls old
  pub piece : piece_size new ≡ piece_size old

-- where the call was to fail, it is counted as a fault of this slot
abbrev pub CountsSlotFault : MemoryShelf → MemoryShelf → Which → Type 0
CountsSlotFault old new which =
    memory_faults new which ≡ faults_after (fails_next old) (memory_faults old which)

-- one more call was made
pub record CountsCall (old new : MemoryShelf) : Type 0 where
  pub calls : calls_made new ≡ count_after (calls_made old)
  pub rules : KeepsShelfSettings old new
