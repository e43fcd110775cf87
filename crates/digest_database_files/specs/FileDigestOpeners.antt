-- The opener over files: nothing is known of what is under a path, what it refuses is counted, and
-- what it asks of the system.
use Rattle.std.specs.Prelude.{◌≡◌, ◌∷◌, [], ℕ, Bool, true, false, List, Option, None, Result, Err, MatchBool}
use Rattle.case_keeper.specs.declared.keeper.KeepFault.{KeepFault}
use Rattle.case_keeper.specs.declared.keeper.KeepFault.TheVariants.{Failed}
use Rattle.casebook_program.specs.Databases.{AsksForDatabase, OpensUnderPath}
use Rattle.casebook_program.specs.SystemCalls.{KnownCalls, MakesCalls, LooksFor}
use Rattle.casebook_program.specs.declared.database_files.DatabaseFile.{DatabaseFile}
use Rattle.desk_filing.specs.DigestOpeners.{DigestOpenerState}
use Rattle.desk_filing.specs.declared.opener.MissingDatabase.{MissingDatabase}
use Rattle.desk_filing.specs.declared.opener.MissingDatabase.TheVariants.{Make, Refuse}
use Rattle.log_source.specs.Calls.{faults_after}
use Rattle.digest_database_files.specs.declared.file_opener.FileDigestOpener.{FileDigestOpener}

-- its state: its faults alone are known
abbrev pub digest_file_opener_state : {D : Type 0} → FileDigestOpener D → DigestOpenerState
digest_file_opener_state opener =
    record { tells = false; kept = (λ path. None); faults = opener.faults }

-- its state before it has opened anything
abbrev pub fresh_digest_opener : DigestOpenerState
fresh_digest_opener = record { tells = false; kept = (λ path. None); faults = 0 }

-- the opening was refused, and counted as a fault
abbrev pub RefusesDatabase : {B D : Type 0} → FileDigestOpener D → FileDigestOpener D
    → Result B KeepFault → Type 0
RefusesDatabase old new result =
    (result ≡ Err Failed)
    × ((digest_file_opener_state new).faults
    ≡ faults_after true (digest_file_opener_state old).faults)

-- a database may be opened under a path: always, where one that is not there is to be made; else
-- where the system says that something is there
abbrev pub MayOpen : List ℕ → MissingDatabase → Bool → KnownCalls → KnownCalls → Type 0
MayOpen path Make may old new = (may ≡ true) × (new ≡ old)
MayOpen path Refuse may old new = MakesCalls (LooksFor path may ∷ []) old new

-- The database under a path was asked for where it may be opened; where it may not, nothing more was
-- asked of the system, and so nothing made.
pub record AsksWhereItMay (path : List ℕ) (missing : MissingDatabase) (opened : Bool)
    (old new : KnownCalls) : Type 0 where
  pub may : Bool
  pub mid : KnownCalls
  pub looked : MayOpen path missing may old mid
  pub asked : MatchBool may (AsksForDatabase path opened mid new)
      ((opened ≡ false) × (new ≡ mid))

-- The database under a path was opened, or refused, where it may be opened, and where it was opened
-- it was asked where it is; where it may not, nothing more was asked of the system.
pub record OpensWhereItMay (path : List ℕ) (missing : MissingDatabase) (opened : Bool)
    (place : Option DatabaseFile) (old new : KnownCalls) : Type 0 where
  pub may : Bool
  pub mid : KnownCalls
  pub looked : MayOpen path missing may old mid
  pub asked : MatchBool may (OpensUnderPath path opened place mid new)
      ((opened ≡ false) × (new ≡ mid))
