-- What a sink holds: its state before and after a write.
use Rattle.std.specs.Prelude.{◌≡◌, ℕ, ◌<◌, ◌≤◌, List, length, take, Option, is_some, IfSome, Result, IfOk, OnOk, OnErr}
use Rattle.std.specs.Io.KnownBytes.{Appends, WriteAppends}
use Rattle.log_source.specs.Sources.{RoseOrIsFull}
use Rattle.log_source.specs.declared.shelf.Failed.{Failed}

-- The state of a sink: the bytes written, where they are known, how many faults were counted,
-- and how many bytes it takes for sure: while fewer than these are written, no write fails.
pub record SinkState : Type 0 where
  pub wrote : Option (List ℕ)
  pub faults : ℕ
  pub sure : ℕ

-- What every call keeps of a sink: whether its bytes are known, and how many it takes
-- for sure. Its faults never fall.
pub record SinkStays (old new : SinkState) : Type 0 where
  pub tells : is_some new.wrote ≡ is_some old.wrote
  pub sure : new.sure ≡ old.sure
  pub later : old.faults ≤ new.faults

-- a call failed: the faults rose, and where the bytes written are known,
-- they are at least as many as the sink takes for sure
pub record HasFailureCause (old new : SinkState) : Type 0 where
  pub rose : RoseOrIsFull old.faults new.faults
  pub reached : IfSome new.wrote (λ bytes. new.sure ≤ length bytes)

-- What a write does: at `Ok n` the first n bytes of the piece, at least one, are written, and no
-- fault is counted; at a failure none is written.
pub record Writes (old new : SinkState) (result : Result ℕ Failed) (piece : List ℕ) : Type 0 where
  pub stays : SinkStays old new
  pub bound : IfOk result (λ n. (1 ≤ n) × (n ≤ length piece))
  pub bytes : WriteAppends old.wrote new.wrote result piece
  pub quiet : OnOk result (new.faults ≡ old.faults)
  pub cause : OnErr result (HasFailureCause old new)

-- a front of the bytes that is not all of them was written
pub record AppendsPart (old new : Option (List ℕ)) (bytes : List ℕ) : Type 0 where
  pub count : ℕ
  pub short : count < length bytes
  pub part : Appends old new (take count bytes)

-- What writing all the bytes does: at `Ok` they are written, and no fault is counted; at a failure
-- a front of them is, not all.
pub record Puts {T : Type 0} (old new : SinkState) (result : Result T Failed) (bytes : List ℕ)
    : Type 0 where
  pub stays : SinkStays old new
  pub whole : OnOk result (Appends old.wrote new.wrote bytes)
  pub quiet : OnOk result (new.faults ≡ old.faults)
  pub part : OnErr result (AppendsPart old.wrote new.wrote bytes)
  pub cause : OnErr result (HasFailureCause old new)
