-- What a run answers that closes its casebook, and what a run of the program answers, whatever
-- words its command line has.
use Rattle.std.specs.Prelude.{◌≡◌, ℕ, Bool, false, List, Option, None, Some}
use Rattle.case_keeper.specs.Keepers.{KeeperState}
use Rattle.case_run.specs.NamedCasebooks.{RunsWords}
use Rattle.case_run.specs.Openers.{OpenerState}
use Rattle.case_run.specs.declared.statuses.CaseStatus.{CaseStatus}
use Rattle.casebook_program.specs.FileOpeners.{fresh_opener}
use Rattle.log_source.specs.Sinks.{SinkState}
use Rattle.log_source.specs.declared.shelf.Shelf.{Ghosts as Shelf}
use Rattle.program_ends.specs.FreshEnds.{IsFreshOver, fresh_sink}

-- what the commands left open was closed; where they opened nothing, nothing was
abbrev pub ClosesWhatIsOpen : {O : Type 0} → (O → O → Type 0) → Option KeeperState → O → O → Type 0
ClosesWhatIsOpen closes None left new = new ≡ left
ClosesWhatIsOpen closes (Some book) left new = closes left new

-- The answer is that of the commands, which left a casebook that was then closed, or opened none.
-- `state` is what is known of an opener, and `closes` what a close is.
pub record RunsThenCloses {S O : Type 0} (shelf : Shelf S) (state : O → OpenerState)
    (closes : O → O → Type 0) (old new : S) (opener_old opener_new : O) (words : List (List ℕ))
    (sink_old sink_new : SinkState) (status : CaseStatus) : Type 0 where
  pub left : O
  pub book : Option KeeperState
  pub runs : RunsWords shelf old new (state opener_old) (state left) words sink_old sink_new
      book status
  pub closed : ClosesWhatIsOpen closes book left opener_new
  pub stays : state opener_new ≡ state left

-- What a run reads, opens and writes: a shelf, an opener, and what is known of a sink.
pub record CasebookEnds (S O : Type 0) : Type 0 where
  pub shelf : S
  pub opener : O
  pub sink : SinkState

-- the answer is that of the commands that words are, over a casebook that is then closed
abbrev pub CasebookAnswers : {S O : Type 0} → Shelf S → (O → OpenerState) → (O → O → Type 0)
    → List (List ℕ) → CasebookEnds S O → CasebookEnds S O → CaseStatus → Type 0
CasebookAnswers shelf state closes words old new status =
    RunsThenCloses shelf state closes old.shelf new.shelf old.opener new.opener words
    old.sink new.sink status

-- this opener, a shelf that has the file under each path, with nothing started, and a sink that
-- holds what the output holds
abbrev pub CasebookBegins : {S O : Type 0} → Shelf S → Bool → (List ℕ → Option (List ℕ))
    → Option (List ℕ) → O → CasebookEnds S O → Type 0
CasebookBegins shelf known_files file_at held opener ends =
    IsFreshOver shelf known_files file_at ends.shelf × (ends.opener ≡ opener)
    × (ends.sink ≡ fresh_sink held)

-- such a shelf and such a sink over files and an output of which nothing is known, as those of the
-- runtime, and an opener that nothing was asked of
abbrev pub CasebookBeginsOverUnknown : {S O : Type 0} → Shelf S → (O → OpenerState)
    → CasebookEnds S O → Type 0
CasebookBeginsOverUnknown shelf state ends =
    IsFreshOver shelf false (λ path. None) ends.shelf
    × (state ends.opener ≡ fresh_opener) × (ends.sink ≡ fresh_sink None)
