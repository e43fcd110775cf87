-- What a run of the program answers, whatever words its command line has.
use Rattle.std.specs.Prelude.{◌≡◌, ℕ, Bool, true, false, List, Option, None}
use Rattle.audit_report.specs.Statuses.{status_number}
use Rattle.audit_report.specs.declared.statuses.Status.{Status}
use Rattle.case_run.specs.Statuses.{case_status_number}
use Rattle.case_run.specs.declared.statuses.CaseStatus.{CaseStatus}
use Rattle.desk_program.specs.declared.ends.DeskEnd.{DeskEnd}
use Rattle.desk_program.specs.declared.ends.DeskEnd.TheVariants.{Run, Filed}
use Rattle.desk_run.specs.TopCall.{DeskAnswers}
use Rattle.desk_words.specs.Words.{asks_filing, asks_page, desk_request_of}
use Rattle.digest_database_files.specs.ClosedFilings.{FilesThenCloses}
use Rattle.digest_database_files.specs.FileDigestOpeners.{fresh_digest_opener}
use Rattle.desk_filing.specs.DigestOpeners.{DigestOpenerState}
use Rattle.log_source.specs.Sinks.{SinkState}
use Rattle.log_source.specs.declared.shelf.Shelf.{Ghosts as Shelf}
use Rattle.desk_page.specs.TopCall.{AnswersPageWords}
use Rattle.desk_page.specs.Words.{page_request_of}
use Rattle.rule_drawing.specs.RulePictures.{IsRulePicture}
use Rattle.program_ends.specs.FreshEnds.{IsFreshOver, fresh_sink}

-- the number of the status with which the call ended that was asked
abbrev pub desk_end_number : DeskEnd → ℕ
desk_end_number (Run status) = status_number status
desk_end_number (Filed status) = case_status_number status

-- What a run reads, opens and writes: a shelf, an opener of databases, and what is known of a sink.
pub record DeskEnds (S O : Type 0) : Type 0 where
  pub shelf : S
  pub opener : O
  pub sink : SinkState

-- The run ended as the top call without a database answers what words ask for, and opened none.
pub record EndsAsRun {S O : Type 0} (shelves : Shelf S) (words : List (List ℕ))
    (old new : DeskEnds S O) (end : DeskEnd) : Type 0 where
  pub status : Status
  pub answers : DeskAnswers shelves (desk_request_of words) old.shelf new.shelf old.sink new.sink
      status
  pub ended : end ≡ Run status
  pub unopened : new.opener ≡ old.opener

-- The run ended as the top call of filing answers what words ask for, and its database was closed.
-- `state` is what is known of an opener, and `closes` what a close is.
pub record EndsAsFiling {S O : Type 0} (shelves : Shelf S) (state : O → DigestOpenerState)
    (closes : O → O → Type 0) (words : List (List ℕ)) (old new : DeskEnds S O) (end : DeskEnd)
    : Type 0 where
  pub status : CaseStatus
  pub answers : FilesThenCloses shelves state closes old.shelf new.shelf old.opener new.opener
      words old.sink new.sink status
  pub ended : end ≡ Filed status

-- The run ended as the top call of a page answers what words ask for, with the picture of the rule,
-- and opened no database.
pub record EndsAsPage {S O : Type 0} (shelves : Shelf S) (words : List (List ℕ))
    (old new : DeskEnds S O) (end : DeskEnd) : Type 0 where
  pub status : Status
  pub answers : AnswersPageWords IsRulePicture shelves (page_request_of words)
      old.shelf new.shelf old.sink new.sink status
  pub ended : end ≡ Run status
  pub unopened : new.opener ≡ old.opener

-- where no database is asked for, the call of a page answers `page`, and `run_desk` all other words,
-- and where there is none
abbrev pub EndsWithoutFiling : {S O : Type 0} → Bool → Shelf S → List (List ℕ) → DeskEnds S O
    → DeskEnds S O → DeskEnd → Type 0
EndsWithoutFiling true shelves words old new end = EndsAsPage shelves words old new end
EndsWithoutFiling false shelves words old new end = EndsAsRun shelves words old new end

-- The first word decides which call is asked: that of filing for `file`, `file-all` and `check`, and
-- one without a database for all other words, and where there is none.
pub record DeskAnswersWords {S O : Type 0} (shelves : Shelf S) (state : O → DigestOpenerState)
    (closes : O → O → Type 0) (words : List (List ℕ)) (old new : DeskEnds S O) (end : DeskEnd)
    : Type 0 where
  pub filing : asks_filing words ≡ true → EndsAsFiling shelves state closes words old new end
  pub others : asks_filing words ≡ false
      → EndsWithoutFiling (asks_page words) shelves words old new end

-- a shelf that has the file under each path, with nothing started, this opener, and a sink that holds
-- what the output holds
abbrev pub DeskBegins : {S O : Type 0} → Shelf S → Bool → (List ℕ → Option (List ℕ))
    → Option (List ℕ) → O → DeskEnds S O → Type 0
DeskBegins shelves known_files file_at held opener ends =
    IsFreshOver shelves known_files file_at ends.shelf × (ends.opener ≡ opener)
    × (ends.sink ≡ fresh_sink held)

-- such a shelf and such a sink over files and an output of which nothing is known, as those of the
-- runtime, and an opener that nothing was asked of
abbrev pub DeskBeginsOverUnknown : {S O : Type 0} → Shelf S → (O → DigestOpenerState)
    → DeskEnds S O → Type 0
DeskBeginsOverUnknown shelves state ends =
    IsFreshOver shelves false (λ path. None) ends.shelf
    × (state ends.opener ≡ fresh_digest_opener) × (ends.sink ≡ fresh_sink None)
