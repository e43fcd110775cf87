-- What a feed stands for after a log was pumped into it.
use Rattle.std.specs.Prelude.{◌≡◌, ℕ, ◌≤◌, true, List, length, IfSome}
use Rattle.std.specs.Io.{StartsWith}
use Rattle.audit_base.specs.declared.terms.Which.{Which}
use Rattle.log_source.specs.Taking.{IsWholeLog}
use Rattle.log_source.specs.declared.feed.Feed as feed
use Rattle.log_source.specs.declared.shelf.Shelf as shelf

-- the bytes are the front of the log that the shelf has under the name,
-- where its logs are known and it has one
abbrev pub IsFront : {F : Type 0} → shelf.Ghosts F → Which → List ℕ → F → List ℕ → Type 0
IsFront shelves which name shelf bytes =
    shelves.tells shelf ≡ true
    → IfSome (shelves.log_of shelf which name) (λ log. StartsWith log bytes)

-- The feed stands for the bytes that were taken, as the slot keeps account of them, no more than
-- the limit, which are the whole log where the logs of the shelf are known.
pub record StandsForWhole {F D : Type 0} (shelves : shelf.Ghosts F) (feeds : feed.Ghosts D)
    (which : Which) (name : List ℕ) (limit : ℕ) (old new : F) (feed : D) : Type 0 where
  pub bytes : List ℕ
  pub stands : feeds.stands_for feed bytes
  pub within : length bytes ≤ limit
  pub count : length bytes ≡ (shelves.slot new which).taken
  pub given : (shelves.slot new which).gave bytes ≡ true
  pub whole : IsWholeLog shelves which name old bytes

-- The feed stands for exactly the bytes that were taken, as the slot keeps account of them, no
-- more than the limit and a front of the log.
pub record StandsForTaken {F D : Type 0} (shelves : shelf.Ghosts F) (feeds : feed.Ghosts D)
    (which : Which) (name : List ℕ) (limit : ℕ) (old new : F) (feed : D) : Type 0 where
  pub bytes : List ℕ
  pub stands : feeds.stands_for feed bytes
  pub within : length bytes ≤ limit
  pub count : length bytes ≡ (shelves.slot new which).taken
  pub given : (shelves.slot new which).gave bytes ≡ true
  pub front : IsFront shelves which name old bytes

-- The feed stands for a front of the log, no longer than the limit.
pub record StandsForFront {F D : Type 0} (shelves : shelf.Ghosts F) (feeds : feed.Ghosts D)
    (which : Which) (name : List ℕ) (limit : ℕ) (old new : F) (feed : D) : Type 0 where
  pub bytes : List ℕ
  pub stands : feeds.stands_for feed bytes
  pub within : length bytes ≤ limit
  pub front : IsFront shelves which name old bytes
