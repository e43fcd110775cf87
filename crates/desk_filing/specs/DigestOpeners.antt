-- What opens databases of cases with digests: what is on file under each path, and what opening
-- one does.
use Rattle.std.specs.Prelude.{◌≡◌, ℕ, ◌≤◌, ◌⊎◌, Bool, true, List, [], Option, None, Some, IsSome, Result, IfOk, IsErrOf}
use Rattle.case_keeper.specs.declared.keeper.KeepFault.{KeepFault}
use Rattle.case_keeper.specs.declared.keeper.KeepFault.TheVariants as fault
use Rattle.digest_keeper.specs.DigestKeepers.{DigestKeeperState}
use Rattle.digest_keeper.specs.declared.digested.KeptCase.{KeptCase}
use Rattle.desk_filing.specs.declared.opener.MissingDatabase.{MissingDatabase}
use Rattle.desk_filing.specs.declared.opener.MissingDatabase.TheVariants.{Make, Refuse}
use Rattle.log_source.specs.Sources.{RoseOrIsFull}

-- What is known of an opener: whether it is known what it has, what is on file under each path,
-- where there is a database, and how many faults were counted.
pub record DigestOpenerState : Type 0 where
  pub tells : Bool
  pub kept : List ℕ → Option (List KeptCase)
  pub faults : ℕ

-- No call changes whether it is known what the opener has, or what it has under a path; the
-- faults never fall.
pub record KeepsDatabases (old new : DigestOpenerState) : Type 0 where
  pub tells_stays : new.tells ≡ old.tells
  pub kept_stays : (path : List ℕ) → new.kept path ≡ old.kept path
  pub later : old.faults ≤ new.faults

-- what is on file once a path was opened under which there is this: where there is no database,
-- nothing is on file in the one that is made, if one is to be made
abbrev pub kept_once_opened : MissingDatabase → Option (List KeptCase) → Option (List KeptCase)
kept_once_opened missing (Some kept) = Some kept
kept_once_opened Make None = Some []
kept_once_opened Refuse None = None

-- A keeper that was opened counts no fault yet, and where it is known what the opener has, it has
-- on file what is under the path.
pub record IsDatabaseOpened (opener : DigestOpenerState) (path : List ℕ) (missing : MissingDatabase)
    (keeper : DigestKeeperState) : Type 0 where
  pub fresh : keeper.faults ≡ 0
  pub known : opener.tells ≡ true → IsSome (kept_once_opened missing (opener.kept path))
      × (keeper.kept ≡ kept_once_opened missing (opener.kept path))

-- an opening failed because the opener's faults rose or their count is at its greatest value, or
-- because it is known that there is no database under the path, and none was to be made
abbrev pub IsDatabaseRefused : DigestOpenerState → DigestOpenerState → List ℕ → MissingDatabase
    → Type 0
IsDatabaseRefused old new path missing = RoseOrIsFull old.faults new.faults
    ⊎ ((old.tells ≡ true) × (kept_once_opened missing (old.kept path) ≡ None))

-- What opening a path does.
pub record OpensDatabase {B : Type 0} (state : B → DigestKeeperState)
    (old new : DigestOpenerState) (path : List ℕ) (missing : MissingDatabase)
    (result : Result B KeepFault) : Type 0 where
  pub keeps : KeepsDatabases old new
  pub opened : IfOk result (λ keeper. IsDatabaseOpened old path missing (state keeper))
  pub cause : IsErrOf result fault.Failed → IsDatabaseRefused old new path missing
