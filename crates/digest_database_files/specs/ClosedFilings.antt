-- What a call answers that files or checks, and closes its database.
use Rattle.std.specs.Prelude.{◌≡◌, ℕ, List, Option, None, Some}
use Rattle.case_run.specs.declared.statuses.CaseStatus.{CaseStatus}
use Rattle.digest_keeper.specs.DigestKeepers.{DigestKeeperState}
use Rattle.desk_filing.specs.DigestOpeners.{DigestOpenerState, KeepsDatabases}
use Rattle.desk_filing.specs.Runs.{FilesAsked}
use Rattle.desk_filing.specs.Words.{filing_request_of}
use Rattle.log_source.specs.Sinks.{SinkState, SinkStays}
use Rattle.log_source.specs.declared.shelf.Shelf.{Ghosts as Shelf}

-- what the call left open was closed; where it opened nothing, nothing was
abbrev pub ClosesDatabaseLeft : {O : Type 0} → (O → O → Type 0) → Option DigestKeeperState → O → O
    → Type 0
ClosesDatabaseLeft closes None left new = new ≡ left
ClosesDatabaseLeft closes (Some keeper) left new = closes left new

-- The answer is that of the top call to what words ask for, which left a keeper that was then closed,
-- or opened none; no call of the opener changed what it has; and the sink is of the same kind as
-- before. `state` is what is known of an opener, and `closes` what a close is.
pub record FilesThenCloses {S O : Type 0} (shelf : Shelf S) (state : O → DigestOpenerState)
    (closes : O → O → Type 0) (old new : S) (opener_old opener_new : O) (words : List (List ℕ))
    (sink_old sink_new : SinkState) (status : CaseStatus) : Type 0 where
  pub left : O
  pub keeper : Option DigestKeeperState
  pub files : FilesAsked shelf old new (filing_request_of words) (state opener_old) (state left)
      keeper sink_old sink_new status
  pub closed : ClosesDatabaseLeft closes keeper left opener_new
  pub stays : state opener_new ≡ state left
  pub opener : KeepsDatabases (state opener_old) (state opener_new)
  pub sink : SinkStays sink_old sink_new
