-- The files of a database: how they are opened, where they are, and when the log is removed.
use Rattle.std.specs.Prelude.{◌≡◌, ◌⊎◌, ◌++◌, ◌∷◌, [], ℕ, Bool, false, ◌==◌, ◌&&◌, List, Option, Some, None, codes, replicate, MatchBool}
use Rattle.std.specs.String.{string_bytes}
use Rattle.casebook_program.specs.SystemCalls.{KnownCalls, MakesCalls, OpensFiles, Resolves, Describes, Removes}
use Rattle.casebook_program.specs.declared.database_files.DatabaseFile.{DatabaseFile}
use Rattle.casebook_program.specs.declared.database_system.FoundFile.{FoundFile}

-- The files of the database under a path, and no others, were opened, or were refused, after as many
-- tries as were refused.
pub record TriesToOpen (path : List ℕ) (opened : Bool) (old new : KnownCalls) : Type 0 where
  pub tries : ℕ
  pub made : MakesCalls (OpensFiles path opened ∷ replicate tries (OpensFiles path false)) old new

-- the path of the log of a database: its own path with `-wal` behind it
abbrev pub path_of_log : List ℕ → List ℕ
path_of_log database = database ++ codes "-wal"

-- the log of the database lies beside it
abbrev pub HasLogBeside : DatabaseFile → Type 0
HasLogBeside place = string_bytes place.log ≡ path_of_log (string_bytes place.database)

-- a file is the database: it has its number on its device
abbrev pub is_database_file : DatabaseFile → Option FoundFile → Bool
is_database_file place None = false
is_database_file place (Some found) =
    found.device == place.device && found.number == place.number

-- a file is plain and has no byte
abbrev pub is_empty_file : Option FoundFile → Bool
is_empty_file None = false
is_empty_file (Some found) = found.is_plain && found.length == 0

-- The database was found: it is the file under the path without links to which a path leads.
pub record FindsDatabase (path : List ℕ) (place : DatabaseFile) (old new : KnownCalls) : Type 0 where
  pub found : FoundFile
  pub made : MakesCalls (Describes (string_bytes place.database) (Some found)
      ∷ Resolves path (Some (string_bytes place.database)) ∷ []) old new
  pub device : place.device ≡ found.device
  pub number : place.number ≡ found.number
  pub log : HasLogBeside place

-- the system was asked what is under a path, where there is one
abbrev pub AsksWhatIsAt : Option (List ℕ) → KnownCalls → KnownCalls → Type 0
AsksWhatIsAt None old new = new ≡ old
AsksWhatIsAt (Some real) old new =
    (found : Option FoundFile) × MakesCalls (Describes real found ∷ []) old new

-- The system was asked where a path leads and, if that is somewhere, what is there.
pub record AsksForPlace (path : List ℕ) (old new : KnownCalls) : Type 0 where
  pub real : Option (List ℕ)
  pub mid : KnownCalls
  pub led : MakesCalls (Resolves path real ∷ []) old mid
  pub told : AsksWhatIsAt real mid new

-- where the database is was asked, and told or not; nothing was changed
abbrev pub FindsPlace : List ℕ → Option DatabaseFile → KnownCalls → KnownCalls → Type 0
FindsPlace path (Some place) old new = FindsDatabase path place old new
FindsPlace path None old new = AsksForPlace path old new

-- The system was asked whether the file under the path of the database is still the database.
pub record LooksAtDatabase (place : DatabaseFile) (is_there : Bool) (old new : KnownCalls)
    : Type 0 where
  pub found : Option FoundFile
  pub made : MakesCalls (Describes (string_bytes place.database) found ∷ []) old new
  pub is : is_there ≡ is_database_file place found

-- The log of the database, and nothing else, was removed where the database is still there, and else
-- nothing was.
pub record RemovesLog (place : DatabaseFile) (old new : KnownCalls) : Type 0 where
  pub is_there : Bool
  pub mid : KnownCalls
  pub looked : LooksAtDatabase place is_there old mid
  pub removed : MatchBool is_there (MakesCalls (Removes (string_bytes place.log) ∷ []) mid new)
      (new ≡ mid)

-- The log of the database was removed where it is a plain file with no byte, and else nothing was.
pub record RemovesEmptyLog (place : DatabaseFile) (old new : KnownCalls) : Type 0 where
  pub found : Option FoundFile
  pub mid : KnownCalls
  pub looked : MakesCalls (Describes (string_bytes place.log) found ∷ []) old mid
  pub removed : MatchBool (is_empty_file found) (RemovesLog place mid new) (new ≡ mid)
