-- The calls that are made of the system for databases in files.
use Rattle.std.specs.Prelude.{◌≡◌, ℕ, Bool, List, ◌++◌, Option}
use Rattle.std.specs.Option.{option_map}
use Rattle.casebook_program.specs.declared.database_system.FoundFile.{FoundFile}

-- a call and how it was answered: whether something is under a path; whether both files of the
-- database under a path were opened, those that were not there having been made; whether a random
-- number was to be had; whether a connection was made to the database in the files that were opened
-- last; to which path without links a path leads; what is under a path itself; that the file under a
-- path is to be removed; and whether the database was closed, so that its file has all of it
pub data SystemCall : Type 0 where
  LooksFor : List ℕ → Bool → SystemCall
  OpensFiles : List ℕ → Bool → SystemCall
  DrawsNumber : Bool → SystemCall
  Connects : Bool → SystemCall
  Resolves : List ℕ → Option (List ℕ) → SystemCall
  Describes : List ℕ → Option FoundFile → SystemCall
  Removes : List ℕ → SystemCall
  Closes : Bool → SystemCall

-- the calls that were made so far, the last of them first, where they are known
abbrev pub KnownCalls : Type 0
KnownCalls = Option (List SystemCall)

-- these calls were made between two moments and no other, the last of them first
abbrev pub MakesCalls : List SystemCall → KnownCalls → KnownCalls → Type 0
MakesCalls made old new = new ≡ option_map (λ before. made ++ before) old
