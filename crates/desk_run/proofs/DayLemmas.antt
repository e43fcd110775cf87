-- The statuses of the answers of a day, and readings of at most 34,359,738,368 bytes.
use Rattle.std.proofs.Common.{◌≡◌, sym, subst, ℕ, Bool, true, false, List, Result}
use Rattle.std.specs.Prelude.{nat_lt, if◌then◌else◌}
use Rattle.audit_report.specs.declared.statuses.Status.{Status}
use Rattle.audit_report.specs.declared.statuses.Status.TheVariants.{Accepted, Rejected}
use Rattle.command_run.specs.declared.answers.Answer.{Answer}
use Rattle.command_run.specs.Deciding.{DecidesAnswer, IsStatusOfLogs}
use Rattle.day_logs.specs.declared.answers.DayAnswer.{DayAnswer}
use Rattle.day_logs.specs.declared.answers.DayAnswer.TheVariants as answer
use Rattle.day_logs.specs.DayAnswers.{DayMeaning}
use Rattle.day_logs.specs.DayAnswerTexts.{day_answer_status}
use Rattle.desk_words.specs.declared.requests.DeskRequest.{DeskRequest}
use Rattle.log_source.specs.declared.shelf.Shelf.{Ghosts as Shelf}
use Rattle.log_source.specs.Sources.{longest_read}
use Rattle.log_verdict.specs.declared.sources.Source.{Source}
use Rattle.log_verdict.specs.declared.stops.Stop.{Stop}
use Rattle.log_verdict.specs.LogVerdicts.{Log}
use Rattle.log_verdict.specs.Steps.{reading_by, reading_within}
use Rattle.desk_run.specs.Requests.{desk_command_of, IsDayAnswer}
use Rattle.desk_run.specs.TopCall.{desk_reading}

-- a day has a status of an answer to logs
pub day_status : (day : DayAnswer) → IsStatusOfLogs (day_answer_status day)
day_status (answer.Judged judged) = by_rejected (nat_lt 0 judged.counts.rejected)
  where
    by_rejected : (some : Bool) → IsStatusOfLogs (if some then Rejected else Accepted)
    by_rejected true = tt
    by_rejected false = tt
day_status (answer.Unpaired finding) = tt
day_status (answer.Malformed log bad) = tt

pub answer_status : (page : Bool) (meaning : DayMeaning) (question_text : List ℕ) (orders trades : Log) (status : Status) (text : List ℕ) → IsDayAnswer page meaning question_text orders trades status text → IsStatusOfLogs status
answer_status page meaning question_text orders trades status text is = subst IsStatusOfLogs (sym is.answer.status_is) (day_status is.day)

-- what a reading within a limit decides is what one within that number does
pub decides_within : {S : Type 0} (shelf : Shelf S) (old new : S) (source : Source) → source.limit ≡ longest_read → (request : DeskRequest) (result : Result Answer Stop)
    → DecidesAnswer (reading_by source shelf old new) (desk_command_of request) result → DecidesAnswer (desk_reading shelf old new) (desk_command_of request) result
decides_within shelf old new source few request result is = subst (λ (n : ℕ). DecidesAnswer (reading_within n shelf old new) (desk_command_of request) result) few is
