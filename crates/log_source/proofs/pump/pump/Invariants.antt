-- The feed stands for what was read, which is what the slot gave since its start.
use Rattle.std.proofs.Common.{◌≡◌, ℕ, ◌-◌, ◌≤◌, true, List, length}
use Rattle.std.specs.Prelude.{IsSome}
use Rattle.std.specs.Io.KnownBytes.{Consumes}
use Rattle.audit_base.specs.declared.terms.Which.{Which}
use Rattle.log_source.specs.Calls.{count_after}
use Rattle.log_source.specs.Sources.{ChangesOneSlot}
use Rattle.log_source.specs.declared.feed.Feed as feed
use Rattle.log_source.specs.declared.shelf.Shelf as shelf
use Rattle.log_source.proofs.pump.pump.Given as goal

pub record Pumping {F D : Type 0} (shelves : shelf.Ghosts F) (feeds : feed.Ghosts D) (which : Which) (name : List ℕ) (limit : ℕ) (first now : F) (feed : D) (taken : ℕ) : Type 0 where
  pub only : ChangesOneSlot shelves.tells shelves.log_of shelves.slot which first now
  pub later : (shelves.slot first which).faults ≤ (shelves.slot now which).faults
  pub once : (shelves.slot now which).starts ≡ count_after (shelves.slot first which).starts
  pub started : (shelves.slot now which).started ≡ true
  pub taken_is : (shelves.slot now which).taken ≡ taken
  pub within : taken ≤ limit
  pub read : List ℕ
  pub stands : feeds.stands_for feed read
  pub count : length read ≡ taken
  pub given : (shelves.slot now which).gave read ≡ true
  pub known : shelves.tells first ≡ true → IsSome (shelves.log_of first which name) × Consumes (shelves.log_of first which name) (shelves.slot now which).left read

abbrev pub invariant-pieces : goal.invariant-pieces
invariant-pieces g l = Pumping g.F.Shelf g.D.Feed l.fn.which l.fn.name l.fn.limit l.fn.shelf l.shelf l.feed l.taken

abbrev pub decreases-pieces : goal.decreases-pieces
decreases-pieces g l = l.fn.limit - l.taken
