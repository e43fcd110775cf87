-- A sink in memory: what it holds, its room, and which writes fail.
use Rattle.std.specs.Prelude.{◌≡◌, ℕ, ◌-◌, min, Bool, List, [], length, Some, nat_le, ◌||◌, ◌∷◌}
use Rattle.log_source.specs.Calls.{count_after, faults_after, is_failing_number}
use Rattle.log_source.specs.Sinks.{SinkState}
use Rattle.log_source.specs.declared.memory_sink.MemorySink.{MemorySink}

-- a sink none of whose writes is to fail takes its whole room for sure
abbrev pub sure_room : List ℕ → ℕ → ℕ
sure_room [] room = room
sure_room (_ ∷ _) room = 0

-- the state of the sink: all that was written is known
abbrev pub memory_sink_state : MemorySink → SinkState
memory_sink_state sink = record {
  wrote = Some (sink.bytes.items);
  faults = sink.faults;
  sure = sure_room sink.fails.items sink.room;
}

-- how many bytes the sink can hold
abbrev pub sink_room : MemorySink → ℕ
sink_room sink = sink.room

-- the greatest number of bytes of one write
abbrev pub sink_greatest_write : MemorySink → ℕ
sink_greatest_write sink = sink.most

-- how many writes were made
abbrev pub writes_made : MemorySink → ℕ
writes_made sink = sink.calls

-- the numbers of the writes that are to fail
abbrev pub failing_writes : MemorySink → List ℕ
failing_writes sink = sink.fails.items

-- how many bytes were written
abbrev pub sink_length : MemorySink → ℕ
sink_length sink = length sink.bytes.items

-- the next write fails: its number is listed, or the room is full
abbrev pub write_fails : MemorySink → Bool
write_fails sink =
    is_failing_number (count_after sink.calls) sink.fails.items
    || nat_le sink.room (sink_length sink)

-- how many bytes of a piece of this length the next write takes: at most `most`,
-- and the room that is left
abbrev pub write_size : MemorySink → ℕ → ℕ
write_size sink size = min sink.most (min size (sink.room - sink_length sink))

-- how many faults were counted
abbrev pub sink_faults : MemorySink → ℕ
sink_faults sink = sink.faults

-- where the write was to fail, a fault is counted
abbrev pub CountsWriteFault : MemorySink → MemorySink → Type 0
CountsWriteFault old new = sink_faults new ≡ faults_after (write_fails old) (sink_faults old)

-- one more write was made; the room, the most and the list stay
pub record CountsWrite (old new : MemorySink) : Type 0 where
  pub calls : writes_made new ≡ count_after (writes_made old)
  pub fails : failing_writes new ≡ failing_writes old
  pub room : sink_room new ≡ sink_room old
  pub most : sink_greatest_write new ≡ sink_greatest_write old
