-- A keeper of cases with digests over a database: its state, and what its calls count.
use Rattle.std.specs.Prelude.{◌≡◌, ℕ, None, Result}
use Rattle.case_keeper.specs.declared.keeper.KeepFault.{KeepFault}
use Rattle.case_sqlite.specs.SqlKeepers.{is_failed_call}
use Rattle.digest_keeper.specs.DigestKeepers.{DigestKeeperState}
use Rattle.log_source.specs.Calls.{faults_after}
use Rattle.sqlite.specs.Held.{Held}
use Rattle.digest_sqlite.specs.declared.sql_digest_keeper.SqlDigestKeeper.{SqlDigestKeeper}

-- the state of a keeper of which it is not known what is on file
abbrev pub digest_state_of_faults : ℕ → DigestKeeperState
digest_state_of_faults faults = record { kept = None; faults = faults }

-- its state: it is not known what is on file
abbrev pub sql_digest_state : {S : Type 0} → SqlDigestKeeper S → DigestKeeperState
sql_digest_state keeper = digest_state_of_faults keeper.faults

-- the connection that it keeps its cases by
abbrev pub digest_connection_of : {S : Type 0} → SqlDigestKeeper S → Held S
digest_connection_of keeper = keeper.connection

-- one fault more is counted where a call failed, and none otherwise
abbrev pub CountsDigestFailure : {T : Type 0} → DigestKeeperState → DigestKeeperState
    → Result T KeepFault → Type 0
CountsDigestFailure old new result = new.faults ≡ faults_after (is_failed_call result) old.faults
