-- A keeper over a database: its state, and what its calls count.
use Rattle.std.specs.Prelude.{◌≡◌, ℕ, Bool, true, false, None, Result, Ok, Err}
use Rattle.case_keeper.specs.Keepers.{KeeperState}
use Rattle.case_keeper.specs.declared.keeper.KeepFault.{KeepFault}
use Rattle.case_keeper.specs.declared.keeper.KeepFault.TheVariants as fault
use Rattle.log_source.specs.Calls.{faults_after}
use Rattle.sqlite.specs.Held.{Held}
use Rattle.case_sqlite.specs.declared.sql_keeper.SqlKeeper.{SqlKeeper}

-- the state of a keeper whose cases are not known
abbrev pub state_of_faults : ℕ → KeeperState
state_of_faults faults = record { cases = None; faults = faults }

-- its state: its cases are not known
abbrev pub sql_state : {S : Type 0} → SqlKeeper S → KeeperState
sql_state keeper = state_of_faults keeper.faults

-- the connection that it keeps its cases by
abbrev pub connection_of : {S : Type 0} → SqlKeeper S → Held S
connection_of keeper = keeper.connection

-- the answer is a failure, which out of memory is not
abbrev pub is_failed_call : {T : Type 0} → Result T KeepFault → Bool
is_failed_call (Ok _) = false
is_failed_call (Err fault.Failed) = true
is_failed_call (Err fault.Memory) = false

-- one fault more is counted where a call failed, and none otherwise
abbrev pub CountsFailure : {T : Type 0} → KeeperState → KeeperState → Result T KeepFault
    → Type 0
CountsFailure old new result = new.faults ≡ faults_after (is_failed_call result) old.faults

-- no transaction is open after a call before which none was
abbrev pub EndsTransaction : {S : Type 0} → Held S → Held S → Type 0
EndsTransaction old new = old.in_transaction ≡ false → new.in_transaction ≡ false
