-- A sink over a writer: what it wrote is known where the content of its writer is.
use Rattle.std.specs.Prelude.{ℕ, List, Option}
use Rattle.log_source.specs.Sinks.{SinkState}
use Rattle.log_source.specs.declared.std_sink.StdSink.{StdSink}

-- the state of the sink: what its writer holds, and its faults; no write is sure
abbrev pub std_sink_state : {W : Type 0} → (W → Option (List ℕ)) → StdSink W → SinkState
std_sink_state contents sink =
    record { wrote = contents sink.writer; faults = sink.faults; sure = 0 }
