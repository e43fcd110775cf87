-- How a database in files is opened by its path, and how it is closed.
use Rattle.std.specs.Prelude.{◌≡◌, ◌⊎◌, ◌∷◌, [], ℕ, Bool, true, false, not, ◌==◌, ◌&&◌, ◌||◌, List, Option, Some, None, codes, IsTrue, MatchBool}
use Rattle.std.specs.List.{starts_with}
use Rattle.casebook_program.specs.SystemCalls.{KnownCalls, MakesCalls, DrawsNumber, Connects, Closes}
use Rattle.casebook_program.specs.DatabaseFiles.{TriesToOpen, FindsPlace, RemovesLog, RemovesEmptyLog}
use Rattle.casebook_program.specs.declared.database_files.DatabaseFile.{DatabaseFile}
use Rattle.command_words.specs.WordForms.{is_path, word_equals}

-- the two forms by which SQLite names what is no file, or more than a file
abbrev pub is_special_name : List ℕ → Bool
is_special_name path = word_equals path (codes ":memory:") || starts_with ◌==◌ path (codes "file:")

-- a path names a file: it is not read as an option, and is not of these forms
abbrev pub names_file : List ℕ → Bool
names_file path = is_path path && not (is_special_name path)

-- the files under a path that names a file, and no others, were opened or refused; under any other
-- path nothing was asked of the system
abbrev pub AsksForFiles : List ℕ → Bool → KnownCalls → KnownCalls → Type 0
AsksForFiles path opened old new =
    MatchBool (names_file path) (TriesToOpen path opened old new)
    ((opened ≡ false) × (new ≡ old))

-- the log of a database was removed where it is empty, if the database is found
abbrev pub RemovesIfEmpty : Option DatabaseFile → KnownCalls → KnownCalls → Type 0
RemovesIfEmpty None old new = new ≡ old
RemovesIfEmpty (Some place) old new = RemovesEmptyLog place old new

-- The database under a path was looked for, and its log removed where it is empty; nothing else was
-- removed.
pub record RemovesLogBehind (path : List ℕ) (old new : KnownCalls) : Type 0 where
  pub place : Option DatabaseFile
  pub mid : KnownCalls
  pub found : FindsPlace path place old mid
  pub removed : RemovesIfEmpty place mid new

-- The files were refused as no database, and behind that no empty log was left.
pub record RefusesFiles (path : List ℕ) (old new : KnownCalls) : Type 0 where
  pub mid : KnownCalls
  pub refused : MakesCalls (Connects false ∷ DrawsNumber true ∷ []) old mid
  pub left : RemovesLogBehind path mid new

-- how it goes on once the files under a path are open: a connection was made; or there was none, for
-- want of a random number, or since the files were refused
abbrev pub GoesOnToConnect : List ℕ → Bool → KnownCalls → KnownCalls → Type 0
GoesOnToConnect path true old new = MakesCalls (Connects true ∷ DrawsNumber true ∷ []) old new
GoesOnToConnect path false old new =
    MakesCalls (DrawsNumber false ∷ []) old new ⊎ RefusesFiles path old new

-- The files of the database under a path were opened, and a connection to it made, or not.
pub record OpensAndConnects (path : List ℕ) (connected : Bool) (old new : KnownCalls)
    : Type 0 where
  pub named : IsTrue (names_file path)
  pub mid : KnownCalls
  pub opened : TriesToOpen path true old mid
  pub goes_on : GoesOnToConnect path connected mid new

-- what is asked of the system for the database under a path, which it gives, or not: then the files
-- were refused, or no connection was made
abbrev pub AsksForDatabase : List ℕ → Bool → KnownCalls → KnownCalls → Type 0
AsksForDatabase path true old new = OpensAndConnects path true old new
AsksForDatabase path false old new =
    AsksForFiles path false old new ⊎ OpensAndConnects path false old new

-- The database under a path was asked for, and where it was given, where it is.
pub record AsksForDatabaseAndPlace (path : List ℕ) (place : Option DatabaseFile)
    (old new : KnownCalls) : Type 0 where
  pub mid : KnownCalls
  pub asked : AsksForDatabase path true old mid
  pub found : FindsPlace path place mid new

-- what an opener asks of the system for the database under a path
abbrev pub OpensUnderPath : List ℕ → Bool → Option DatabaseFile → KnownCalls → KnownCalls → Type 0
OpensUnderPath path true place old new = AsksForDatabaseAndPlace path place old new
OpensUnderPath path false place old new = AsksForDatabase path false old new

-- the log of a database was removed, where it is known where the database is
abbrev pub RemovesKnownLog : Option DatabaseFile → KnownCalls → KnownCalls → Type 0
RemovesKnownLog None old new = new ≡ old
RemovesKnownLog (Some place) old new = RemovesLog place old new

-- The database was closed, and then its log removed; after a close that failed nothing was removed.
pub record ClosesDatabase (place : Option DatabaseFile) (old new : KnownCalls) : Type 0 where
  pub closed : Bool
  pub mid : KnownCalls
  pub made : MakesCalls (Closes closed ∷ []) old mid
  pub removed : MatchBool closed (RemovesKnownLog place mid new) (new ≡ mid)
