-- The shelf over files and the sink over an output that a program begins with.
use Rattle.std.specs.Prelude.{◌≡◌, ℕ, Bool, false, List, Option, None}
use Rattle.audit_base.specs.declared.terms.Which.{Which}
use Rattle.log_source.specs.Sinks.{SinkState}
use Rattle.log_source.specs.Sources.{fresh_slot}
use Rattle.log_source.specs.declared.shelf.Shelf.{Ghosts as Shelf}

-- Under each path the shelf has the file that is there, and they are known where the files are.
-- No log is started in it, and no fault counted.
pub record IsFreshOver {S : Type 0} (shelf : Shelf S) (known_files : Bool)
    (file_at : List ℕ → Option (List ℕ)) (fresh : S) : Type 0 where
  pub tells : shelf.tells fresh ≡ known_files
  pub files : (which : Which) (path : List ℕ) → shelf.log_of fresh which path ≡ file_at path
  pub slots : (which : Which) → shelf.slot fresh which ≡ fresh_slot None

-- the state of a sink over an output before it is written to: it holds what the output holds,
-- and no fault is counted
abbrev pub fresh_sink : Option (List ℕ) → SinkState
fresh_sink held = record { wrote = held; faults = 0; sure = 0 }

-- What a run of a program reads and writes: a shelf, and what is known of a sink.
pub record RunEnds (S : Type 0) : Type 0 where
  pub shelf : S
  pub sink : SinkState

-- a shelf that has the file under each path, with nothing started, and a sink that holds what
-- the output holds
abbrev pub BeginsOver : {S : Type 0} → Shelf S → Bool → (List ℕ → Option (List ℕ))
    → Option (List ℕ) → RunEnds S → Type 0
BeginsOver shelf known_files file_at held ends =
    IsFreshOver shelf known_files file_at ends.shelf × (ends.sink ≡ fresh_sink held)

-- such a shelf and such a sink over files and an output of which nothing is known, as those of
-- the runtime
abbrev pub BeginsOverUnknown : {S : Type 0} → Shelf S → RunEnds S → Type 0
BeginsOverUnknown shelf = BeginsOver shelf false (λ path. None) None
