-- What a run over the casebook that its first word names answers, writes and leaves.
use Rattle.std.specs.Prelude.{◌≡◌, ◌⊎◌, ℕ, Option, Some, None, List, [], ◌∷◌}
use Rattle.log_verdict.specs.Steps.{reading}
use Rattle.case_keeper.specs.Keepers.{KeeperState}
use Rattle.log_source.specs.declared.shelf.Shelf.{Ghosts as Shelf}
use Rattle.log_source.specs.Sinks.{SinkState}
use Rattle.case_run.specs.Causes.{StartsNoLog}
use Rattle.case_run.specs.Commands.{commands_of}
use Rattle.case_run.specs.Lines.{keeper_fault_line, casebook_usage_line}
use Rattle.case_run.specs.Openers.{OpenerState, IsCasebookOpened, IsOpeningRefused}
use Rattle.case_run.specs.Runs.{IsCaseRun}
use Rattle.case_run.specs.Writing.{WritesNoLine, WritesOrFails}
use Rattle.case_run.specs.declared.statuses.CaseStatus.{CaseStatus}
use Rattle.case_run.specs.declared.statuses.CaseStatus.TheVariants as status

-- The path was not opened: memory ran out, and nothing was written, or the opening was refused.
pub record NotOpened (opener_old opener_new : OpenerState) (path : List ℕ)
    (sink_old sink_new : SinkState) (answer : CaseStatus) : Type 0 where
  pub writes : WritesNoLine sink_old sink_new answer
      ⊎ (IsOpeningRefused opener_old opener_new path
      × WritesOrFails sink_old sink_new status.KeeperFault keeper_fault_line answer)

-- The path was opened as a casebook, over which the commands of the other words were run.
pub record RunsOpened {S : Type 0} (shelf : Shelf S) (old new : S) (opener : OpenerState)
    (path : List ℕ) (words : List (List ℕ)) (sink_old sink_new : SinkState)
    (keeper_new : KeeperState) (answer : CaseStatus) : Type 0 where
  pub keeper_old : KeeperState
  pub opened : IsCasebookOpened opener path keeper_old
  pub run : IsCaseRun shelf (commands_of words) old new sink_old sink_new
      keeper_old keeper_new answer

-- what a run does after its first word, the path; `keeper` is that of the casebook, where it was
-- opened
abbrev pub RunsPath : {S : Type 0} → Shelf S → S → S → OpenerState → OpenerState → List ℕ
    → List (List ℕ) → SinkState → SinkState → Option KeeperState → CaseStatus → Type 0
RunsPath shelf old new opener_old opener_new path words sink_old sink_new None answer =
    NotOpened opener_old opener_new path sink_old sink_new answer
    × StartsNoLog (reading shelf old new)
RunsPath shelf old new opener_old opener_new path words sink_old sink_new (Some keeper) answer =
    RunsOpened shelf old new opener_old path words sink_old sink_new keeper answer

-- what a run does by its words: with none it opens nothing, and writes the usage line
abbrev pub RunsWords : {S : Type 0} → Shelf S → S → S → OpenerState → OpenerState
    → List (List ℕ) → SinkState → SinkState → Option KeeperState → CaseStatus → Type 0
RunsWords shelf old new opener_old opener_new [] sink_old sink_new keeper answer =
    (keeper ≡ None) × WritesOrFails sink_old sink_new status.Usage casebook_usage_line answer
    × StartsNoLog (reading shelf old new) × (opener_new ≡ opener_old)
RunsWords shelf old new opener_old opener_new (path ∷ words) sink_old sink_new keeper answer =
    RunsPath shelf old new opener_old opener_new path words sink_old sink_new keeper answer
