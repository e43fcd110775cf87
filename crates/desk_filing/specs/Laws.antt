-- That what a command leaves is one; and that what was filed is found to be the same.
use Rattle.std.specs.Prelude.{◌≡◌, ◌⊎◌, ℕ, true, List, Option, None, Some, IsSome}
use Rattle.std.specs.Io.KnownBytes.{Appends}
use Rattle.audit_base.specs.declared.terms.Rule.{Rule}
use Rattle.audit_base.specs.declared.terms.Which.{Which}
use Rattle.case_run.specs.declared.statuses.CaseStatus.{CaseStatus}
use Rattle.case_run.specs.declared.statuses.CaseStatus.TheVariants as status
use Rattle.digest_keeper.specs.DigestKeepers.{DigestKeeperState}
use Rattle.digest_keeper.specs.declared.digested.KeptCase.{KeptCase}
use Rattle.desk_filing.specs.DigestOpeners.{DigestOpenerState, IsDatabaseOpened}
use Rattle.desk_filing.specs.Lines.{comparison_line}
use Rattle.desk_filing.specs.Runs.{FilesRequest, FilingCall}
use Rattle.desk_filing.specs.Turns.{FilingTurn, IsFilingTurn, unfiled_turn}
use Rattle.desk_filing.specs.declared.opener.MissingDatabase.{MissingDatabase}
use Rattle.desk_filing.specs.declared.requests.FilingCommand.TheVariants.{Check, File}
use Rattle.desk_filing.specs.declared.requests.FilingRequest.{FilingRequest}
use Rattle.log_source.specs.Sinks.{SinkState}

-- one turn: over the same logs and from the same cases and digests on file, what is asked leaves
-- one list of cases and digests on file, one text and one status
abbrev pub OneFilingTurn : Type 0
OneFilingTurn = (logs : Which → List ℕ → Option (List ℕ)) (kept : List KeptCase)
    (request : FilingRequest) (a b : FilingTurn) → IsFilingTurn logs kept request a
    → IsFilingTurn logs kept request b → a ≡ b

-- filed, then checked: what `file` leaves on file where it is done, checked against the same logs,
-- is the same, which is answered with 0, and files nothing
abbrev pub FiledIsSame : Type 0
FiledIsSame = (logs : Which → List ℕ → Option (List ℕ)) (kept : List KeptCase)
    (request : FilingRequest) (the_rule : Rule) (symbol : List ℕ) (filed checked : FilingTurn)
    → IsFilingTurn logs kept (record request { command = File the_rule symbol }) filed
    → filed.status ≡ status.Done
    → IsFilingTurn logs filed.kept (record request { command = Check }) checked
    → checked ≡ unfiled_turn filed.kept status.Done (comparison_line request.label None)

-- an opener that has under a path what a keeper had when it was handed back opens there a keeper
-- that has the same
abbrev pub FiledIsFound : Type 0
FiledIsFound = (opener : DigestOpenerState) (path : List ℕ) (missing : MissingDatabase)
    (keeper opened : DigestKeeperState) → opener.tells ≡ true → IsSome keeper.kept
    → opener.kept path ≡ keeper.kept → IsDatabaseOpened opener path missing opened
    → opened.kept ≡ keeper.kept

-- A call comes after another: its shelf has the same logs, and its opener has under the path what
-- the keeper of the other call had when it was handed back. All this is known, and so is what the
-- opener of the other call had.
pub record ComesAfter (first second : FilingCall) (path : List ℕ) : Type 0 where
  pub tells : first.reading.tells ≡ true
  pub still_tells : second.reading.tells ≡ true
  pub same_logs : (log : Which) (name : List ℕ)
      → second.reading.log_of log name ≡ first.reading.log_of log name
  pub opener_tells : first.opener_old.tells ≡ true
  pub opener_still_tells : second.opener_old.tells ≡ true
  pub on_file : (keeper : DigestKeeperState) → first.keeper ≡ Some keeper
      → second.opener_old.kept path ≡ keeper.kept

-- filed by a call, then checked by a call: after a `file` that was done, a `check` of the same logs
-- that is answered with 0 or 1 is answered with 0, and writes that they are the same
abbrev pub FiledCallIsSame : Type 0
FiledCallIsSame = (filing checking : FilingCall) (request : FilingRequest) (the_rule : Rule)
    (symbol : List ℕ) (a b c d : SinkState) (answer : CaseStatus)
    → FilesRequest filing (record request { command = File the_rule symbol }) a b status.Done
    → ComesAfter filing checking request.database
    → FilesRequest checking (record request { command = Check }) c d answer
    → (answer ≡ status.Done) ⊎ (answer ≡ status.Refused)
    → (answer ≡ status.Done) × Appends c.wrote d.wrote (comparison_line request.label None)
