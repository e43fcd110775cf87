-- What a run of the program answers, whatever words its command line has.
use Rattle.std.specs.Prelude.{ℕ, List}
use Rattle.audit_report.specs.declared.statuses.Status.{Status}
use Rattle.audit_run.specs.TopCall.{AuditorAnswers}
use Rattle.command_words.specs.Words.{request_of}
use Rattle.log_source.specs.declared.shelf.Shelf.{Ghosts as Shelf}
use Rattle.program_ends.specs.FreshEnds.{RunEnds}

-- the answer is that of the top call to what words ask for
abbrev pub AuditorAnswersWords : {S : Type 0} → Shelf S → List (List ℕ)
    → RunEnds S → RunEnds S → Status → Type 0
AuditorAnswersWords shelf words old new status =
    AuditorAnswers shelf (request_of words) old.shelf new.shelf old.sink new.sink status
