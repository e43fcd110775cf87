-- What opens casebooks: what it has under each path, and what opening one does.
use Rattle.std.specs.Prelude.{◌≡◌, ℕ, ◌≤◌, ◌⊎◌, Bool, true, List, Option, None, IsSome, Result, IfOk, IsErrOf}
use Rattle.case_keeper.specs.Keepers.{KeeperState}
use Rattle.case_keeper.specs.declared.case.Case.{Case}
use Rattle.case_keeper.specs.declared.keeper.KeepFault.{KeepFault}
use Rattle.case_keeper.specs.declared.keeper.KeepFault.TheVariants as fault
use Rattle.log_source.specs.Sources.{RoseOrIsFull}

-- What is known of an opener: whether it is known what it has, the cases under each path, where it
-- has such, and how many faults were counted.
pub record OpenerState : Type 0 where
  pub tells : Bool
  pub kept : List ℕ → Option (List Case)
  pub faults : ℕ

-- No call changes whether it is known what the opener has, or what it has under a path; the faults
-- never fall.
pub record KeepsCasebooks (old new : OpenerState) : Type 0 where
  pub tells_stays : new.tells ≡ old.tells
  pub kept_stays : (path : List ℕ) → new.kept path ≡ old.kept path
  pub later : old.faults ≤ new.faults

-- A keeper that was opened counts no fault yet, and where it is known what the opener has, it has
-- the cases under the path.
pub record IsCasebookOpened (opener : OpenerState) (path : List ℕ) (keeper : KeeperState)
    : Type 0 where
  pub fresh : keeper.faults ≡ 0
  pub known : opener.tells ≡ true
      → IsSome (opener.kept path) × (keeper.cases ≡ opener.kept path)

-- an opening failed because the opener's faults rose or their count is at its greatest value, or
-- because it is known that it has no casebook under the path
abbrev pub IsOpeningRefused : OpenerState → OpenerState → List ℕ → Type 0
IsOpeningRefused old new path =
    RoseOrIsFull old.faults new.faults ⊎ ((old.tells ≡ true) × (old.kept path ≡ None))

-- What opening a path does.
pub record OpensCasebook {B : Type 0} (state : B → KeeperState) (old new : OpenerState)
    (path : List ℕ) (result : Result B KeepFault) : Type 0 where
  pub keeps : KeepsCasebooks old new
  pub opened : IfOk result (λ keeper. IsCasebookOpened old path (state keeper))
  pub cause : IsErrOf result fault.Failed → IsOpeningRefused old new path
