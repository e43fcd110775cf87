-- What taking a whole log leaves of its slot, and why it may fail.
use Rattle.std.specs.Prelude.{◌≡◌, ℕ, ◌<◌, ◌≤◌, ◌⊎◌, ◌↔◌, true, List, length, Some, None, IsSomeAnd, Result, OnOk, IsErrOf}
use Rattle.std.specs.Io.KnownBytes.{IsAtEnd}
use Rattle.audit_base.specs.declared.terms.Which.{Which}
use Rattle.log_source.specs.Calls.{count_after}
use Rattle.log_source.specs.Sources.{RoseOrIsFull}
use Rattle.log_source.specs.declared.shelf.Shelf as shelf
use Rattle.log_source.specs.declared.take.TakeFault.{TakeFault}
use Rattle.log_source.specs.declared.take.TakeFault.TheVariants as take
use Rattle.log_source.specs.declared.shelf.StartFault.{StartFault}
use Rattle.log_source.specs.declared.shelf.StartFault.TheVariants as start

-- the logs of the shelf are known, and it has none of this name for the slot
abbrev pub LacksLog : {F : Type 0} → shelf.Ghosts F → Which → List ℕ → F → Type 0
LacksLog shelves which name shelf =
    (shelves.tells shelf ≡ true) × (shelves.log_of shelf which name ≡ None)

-- where the logs of the shelf are known, it has one of this name that is longer than the limit
abbrev pub HasTooLongLog : {F : Type 0} → shelf.Ghosts F → Which → List ℕ → ℕ → F → Type 0
HasTooLongLog shelves which name limit shelf =
    shelves.tells shelf ≡ true
    → IsSomeAnd (shelves.log_of shelf which name) (λ bytes. limit < length bytes)

-- these are the bytes of the log that the shelf has under the name, where its logs are known
abbrev pub IsWholeLog : {F : Type 0} → shelf.Ghosts F → Which → List ℕ → F → List ℕ → Type 0
IsWholeLog shelves which name shelf bytes =
    shelves.tells shelf ≡ true → shelves.log_of shelf which name ≡ Some bytes

-- What taking a whole log does to its slot. It is started once. After `Ok` the log was read to its
-- end. It is too long exactly where more bytes were taken than the limit. `Fault` comes only where
-- the slot's faults rose, or where the logs of the shelf are known and it has none of this name.
pub record Takes {F T : Type 0} (shelves : shelf.Ghosts F) (which : Which) (name : List ℕ)
    (limit : ℕ) (old new : F) (result : Result T TakeFault) : Type 0 where
  pub once : (shelves.slot new which).starts ≡ count_after (shelves.slot old which).starts
  pub later : (shelves.slot old which).faults ≤ (shelves.slot new which).faults
  pub started : OnOk result ((shelves.slot new which).started ≡ true)
  pub at_end : OnOk result (IsAtEnd (shelves.slot new which).left)
  pub too_long : IsErrOf result take.TooLong ↔ (limit < (shelves.slot new which).taken)
  pub longer : IsErrOf result take.TooLong → HasTooLongLog shelves which name limit old
  pub fault : IsErrOf result take.Fault
      → RoseOrIsFull (shelves.slot old which).faults (shelves.slot new which).faults
      ⊎ LacksLog shelves which name old

-- what a call that takes a whole log answers where the start failed so
abbrev pub take_fault_of_start : StartFault → TakeFault
take_fault_of_start start.Failed = take.Fault
take_fault_of_start start.Memory = take.Memory
