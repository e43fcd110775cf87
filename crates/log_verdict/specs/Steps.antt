-- Which logs a call started, in what order, and what became of each.
use Rattle.std.specs.Prelude.{◌≡◌, ◌<◌, ◌≤◌, ◌⊎◌, ℕ, Bool, true, List, [], ◌∷◌, length, Option, None, Some, IsSomeAnd}
use Rattle.std.specs.Io.KnownBytes.{IsAtEnd}
use Rattle.audit_base.specs.declared.terms.Which.{Which}
use Rattle.audit_base.specs.declared.terms.Which.TheVariants.{Orders, Trades}
use Rattle.log_source.specs.declared.shelf.Shelf.{Ghosts as Shelf}
use Rattle.log_verdict.specs.declared.sources.Source.{Source}
use Rattle.log_source.specs.Calls.{count_after}
use Rattle.log_source.specs.Sources.{Slot, RoseOrIsFull, longest_log, with_account}

-- What a call knows of a shelf: how many bytes a log may have, whether what the shelf has is
-- known, what it has in each slot under a name, and its slots before and after the call.
pub record Reading : Type 0 where
  pub limit : ℕ
  pub tells : Bool
  pub log_of : Which → List ℕ → Option (List ℕ)
  pub before : Which → Slot
  pub after : Which → Slot

-- what a call with this limit knows of a shelf that was `old` and is `new`
abbrev pub reading_within : {S : Type 0} → ℕ → Shelf S → S → S → Reading
reading_within limit shelf old new =
    record {
      limit = limit;
      tells = shelf.tells old;
      log_of = shelf.log_of old;
      before = shelf.slot old;
      after = shelf.slot new;
    }

-- the same of a call that reads a log by what is said of it
abbrev pub reading_by : {S : Type 0} → Source → Shelf S → S → S → Reading
reading_by source shelf old new = reading_within source.limit shelf old new

-- the same of a call whose logs have at most 64 MiB
abbrev pub reading : {S : Type 0} → Shelf S → S → S → Reading
reading shelf old new = reading_within longest_log shelf old new

-- what a call knows of a shelf, with these accounts of the bytes that its slots gave before and
-- after
abbrev pub with_accounts : Reading → (Which → List ℕ → Bool) → (Which → List ℕ → Bool) → Reading
with_accounts r before after = record r {
  before = λ log. with_account (r.before log) (before log);
  after = λ log. with_account (r.after log) (after log);
}

-- This holds of a call by some account of the bytes that its slots gave, such as a hash of them,
-- whatever account the shelf itself keeps.
pub record HoldsBySomeAccount (holds : Reading → Type 0) (r : Reading) : Type 0 where
  pub before : Which → List ℕ → Bool
  pub after : Which → List ℕ → Bool
  pub is : holds (with_accounts r before after)

-- No call changes whether what the shelf has is known, or what it has in a slot under a name.
pub record KeepsShelfLogs {S : Type 0} (shelf : Shelf S) (old new : S) : Type 0 where
  pub tells : shelf.tells new ≡ shelf.tells old
  pub logs : (log : Which) (name : List ℕ)
      → shelf.log_of new log name ≡ shelf.log_of old log name

-- A log that was started: its slot, its name, and what was in the slot before and after.
pub record LogStep : Type 0 where
  pub log : Which
  pub name : List ℕ
  pub before : Slot
  pub after : Slot

-- the step of a call that started one log
abbrev pub step_of : Reading → Which → List ℕ → LogStep
step_of r log name =
    record { log = log; name = name; before = r.before log; after = r.after log }

-- the log was started once
abbrev pub IsStartedOnce : LogStep → Type 0
IsStartedOnce step = step.after.starts ≡ count_after step.before.starts

-- The log was started once and read to its end, and these are its bytes, whatever pieces they
-- came in: the slot keeps account of them. Where it is known what the shelf has, they are what it
-- has under the name.
pub record IsRead (r : Reading) (step : LogStep) (bytes : List ℕ) : Type 0 where
  pub once : IsStartedOnce step
  pub started : step.after.started ≡ true
  pub at_end : IsAtEnd step.after.left
  pub within : length bytes ≤ r.limit
  pub taken : length bytes ≡ step.after.taken
  pub given : step.after.gave bytes ≡ true
  pub known : r.tells ≡ true → r.log_of step.log step.name ≡ Some bytes

-- The log of this name was read to its end, and its bytes say this.
pub record IsReadAs (r : Reading) (log : Which) (name : List ℕ)
    (says : List ℕ → Type 0) : Type 0 where
  pub bytes : List ℕ
  pub read : IsRead r (step_of r log name) bytes
  pub holds : says bytes

-- The log was started once and could not be read: its faults rose,
-- or the shelf knows that it lacks the log.
pub record IsReadFault (r : Reading) (step : LogStep) : Type 0 where
  pub once : IsStartedOnce step
  pub cause : RoseOrIsFull step.before.faults step.after.faults
      ⊎ ((r.tells ≡ true) × (r.log_of step.log step.name ≡ None))

-- The log was started once and is too long: more of it was taken than a log may have, and where
-- it is known what the shelf has, the log has more bytes.
pub record IsTooLong (r : Reading) (step : LogStep) : Type 0 where
  pub once : IsStartedOnce step
  pub taken : r.limit < step.after.taken
  pub longer : r.tells ≡ true
      → IsSomeAnd (r.log_of step.log step.name) (λ bytes. r.limit < length bytes)

-- the slots with this in the place of what is in one of them
abbrev pub with_slot : (Which → Slot) → Which → Slot → Which → Slot
with_slot slots Orders slot Orders = slot
with_slot slots Orders slot Trades = slots Trades
with_slot slots Trades slot Orders = slots Orders
with_slot slots Trades slot Trades = slot

-- A step begins at what is in its slot, and its faults never fall.
pub record BeginsAt (slots : Which → Slot) (step : LogStep) : Type 0 where
  pub at : step.before ≡ slots step.log
  pub later : step.before.faults ≤ step.after.faults

-- the steps, one after another, lead from what was in the slots before to what is there after,
-- and change nothing else
abbrev pub StepsLead : (Which → Slot) → List LogStep → (Which → Slot) → Type 0
StepsLead before [] after = (log : Which) → after log ≡ before log
StepsLead before (step ∷ steps) after =
    BeginsAt before step × StepsLead (with_slot before step.log step.after) steps after

-- no count of faults fell
abbrev pub FaultsNeverFall : Reading → Type 0
FaultsNeverFall r = (log : Which) → (r.before log).faults ≤ (r.after log).faults

-- both slots were within the limit when the call began, as those of a new shelf are
abbrev pub BeginsWithin : Reading → Type 0
BeginsWithin r = (log : Which) → (r.before log).taken ≤ r.limit

-- no more was taken of either log than a log may have
abbrev pub EndsWithin : Reading → Type 0
EndsWithin r = (log : Which) → (r.after log).taken ≤ r.limit

-- nothing was done to the slot
abbrev pub IsUntouched : Reading → Which → Type 0
IsUntouched r log = r.after log ≡ r.before log
