-- What was written is the front of the bytes, and `rest` is what follows it.
use Rattle.std.proofs.Common.{◌≡◌, ℕ, List, [], ◌++◌, length}
use Rattle.std.specs.Io.KnownBytes.{Appends}
use Rattle.log_source.specs.Sinks.{SinkState, SinkStays}
use Rattle.log_source.proofs.put.put_all.Given as goal

pub record Putting {K : Type 0} (state : K → SinkState) (bytes : List ℕ) (first now : K) (rest : List ℕ) : Type 0 where
  pub stays : SinkStays (state first) (state now)
  pub quiet : (state now).faults ≡ (state first).faults
  pub written : List ℕ
  pub cut : bytes ≡ written ++ rest
  pub appended : Appends (state first).wrote (state now).wrote written
  pub untouched : bytes ≡ [] → now ≡ first

abbrev pub invariant-loop-rest : goal.invariant-loop-rest
invariant-loop-rest g l = Putting g.K.Sink.state l.bytes l.initial.sink l.sink l.rest

abbrev pub decreases-loop-rest : goal.decreases-loop-rest
decreases-loop-rest g l = length l.rest
