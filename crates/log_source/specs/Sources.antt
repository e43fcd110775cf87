-- What a shelf holds of its two logs: the states before and after a start and a read.
use Rattle.std.specs.Prelude.{◌≡◌, ℕ, ◌+◌, ◌-◌, ◌<◌, ◌≤◌, ◌^◌, ◌⊎◌, Bool, true, false, List, [], ◌++◌, take, Option, None, IsSome, Result, is_ok, OnOk, OnErr, IsErrOf, MatchResult}
use Rattle.std.specs.Io.{ReadsAtMost}
use Rattle.std.specs.Io.KnownBytes.{ReadConsumes}
use Rattle.audit_base.specs.declared.terms.Which.{Which}
use Rattle.audit_base.specs.declared.terms.Which.TheVariants.{Orders, Trades}
pub use Rattle.audit_base.specs.Sizes.{longest_log}
use Rattle.log_source.specs.Calls.{count_after}
use Rattle.log_source.specs.declared.shelf.Failed.{Failed}
use Rattle.log_source.specs.declared.shelf.StartFault.{StartFault}
use Rattle.log_source.specs.declared.shelf.StartFault.TheVariants as start

-- the greatest limit, in bytes, that the reading of a log may be given, 32 GiB
abbrev pub longest_read : ℕ
longest_read = 34359738368

-- the other slot
abbrev pub other_log : Which → Which
other_log Orders = Trades
other_log Trades = Orders

-- The state of one slot of a shelf: whether a log is started, the bytes still to come where
-- they are known, how many bytes reads have given since the start, which bytes these may be as
-- far as the shelf keeps account of them, how many starts were made, and how many faults were
-- counted.
pub record Slot : Type 0 where
  pub started : Bool
  pub left : Option (List ℕ)
  pub taken : ℕ
  pub gave : List ℕ → Bool
  pub starts : ℕ
  pub faults : ℕ

-- no account is kept of the bytes that reads gave: they may be any
abbrev pub any_bytes : List ℕ → Bool
any_bytes bytes = true

-- the slot, with this account of the bytes that its reads gave
abbrev pub with_account : Slot → (List ℕ → Bool) → Slot
with_account slot account = record slot { gave = account }

-- a slot of a new shelf: nothing is started, taken or counted; `left` is what is known of it
abbrev pub fresh_slot : Option (List ℕ) → Slot
fresh_slot left = record {
  started = false;
  left = left;
  taken = 0;
  gave = any_bytes;
  starts = 0;
  faults = 0;
}

-- a count of faults rose, or is the greatest value that it can show
abbrev pub RoseOrIsFull : ℕ → ℕ → Type 0
RoseOrIsFull old new = (old < new) ⊎ (new ≡ 2 ^ 64 - 1)

-- Only this slot may have changed: whether its logs are known, its logs and its other slot stay.
pub record ChangesOneSlot {F : Type 0} (tells : F → Bool)
    (log_of : F → Which → List ℕ → Option (List ℕ)) (slot : F → Which → Slot) (which : Which)
    (old new : F) : Type 0 where
  pub tells_stays : tells new ≡ tells old
  pub logs_stay : (w : Which) (n : List ℕ) → log_of new w n ≡ log_of old w n
  pub other_stays : slot new (other_log which) ≡ slot old (other_log which)

-- What a start does to its slot. `log` is what the shelf has under the name, where that is known.
pub record Starts {T : Type 0} (tells : Bool) (log : Option (List ℕ)) (old new : Slot)
    (result : Result T StartFault) : Type 0 where
  pub fresh : new.taken ≡ 0
  pub given : new.gave [] ≡ true
  pub counted : new.starts ≡ count_after old.starts
  pub later : old.faults ≤ new.faults
  pub started : new.started ≡ is_ok result
  pub known : OnOk result (tells ≡ true → IsSome log × (new.left ≡ log))
  pub cause : IsErrOf result start.Failed → RoseOrIsFull old.faults new.faults
      ⊎ ((tells ≡ true) × (log ≡ None))

-- reads that gave these bytes before a read into `buf` have given them and what it gave after it
abbrev pub GivesMore : Slot → Slot → Result ℕ Failed → List ℕ → List ℕ → Type 0
GivesMore old new result buf bytes =
    old.gave bytes ≡ true
    → MatchResult result (λ n. new.gave (bytes ++ take n buf) ≡ true) (λ _. new.gave bytes ≡ true)

-- What a read into `buf` does to its slot: at `Ok n` the first n bytes of what
-- was left are at the front of `buf`, and n is 0 only where nothing is left.
-- After a failure left and taken stay. A read is no start.
pub record Reads (old new : Slot) (result : Result ℕ Failed) (buf : List ℕ) : Type 0 where
  pub bound : ReadsAtMost result buf
  pub bytes : ReadConsumes old.left new.left result buf
  pub taken : MatchResult result (λ n. new.taken ≡ old.taken + n) (λ _. new.taken ≡ old.taken)
  pub given : (bytes : List ℕ) → GivesMore old new result buf bytes
  pub started : new.started ≡ old.started
  pub starts : new.starts ≡ old.starts
  pub later : old.faults ≤ new.faults
  pub cause : OnErr result (RoseOrIsFull old.faults new.faults)
